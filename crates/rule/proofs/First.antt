-- The whole-run rule without its bound: the first unit is taken off, and the rest is dealt with by the same rule.
use Prim.Native.Nat.{ℕ, zero, suc, ◌-◌, ◌≤◌}
use mathlib.Core.Path.{◌≡◌, refl, ap}
use mathlib.Core.Bool.{Bool}
use mathlib.Core.List.{List, [], ◌∷◌, ◌++◌}
use native.Mathlib.Omega.{arith}
use lib.Dec.{leb}
use lib.ListN.{length, take, drop, length-drop}
use Rattle.rule.specs.Run.{Item, byte, event, bytes, events, among, past, onward}
use Rattle.rule.specs.Framing.{Needs, whole, lost, seen, Front, ends, drops, stays, Cut, put, puts, broken, after, front, units, units_of}
use Rattle.rule.proofs.Framing.{units_enough}
use Rattle.rule.proofs.Choice.{either}

module _ {E : Type 0} where
  -- the run behind the first unit has at most n items
  abbrev pub AtMost : ℕ → Front E → Type 0
  AtMost n (ends es u r) = length r ≤ n
  AtMost n (drops es u r) = length r ≤ n
  AtMost n (stays es u) = Unit {0}

  past_most : (k : ℕ) (r : List (Item E)) → length (past k r) ≤ length r
  past_most zero r = omega arith
  past_most (suc k) [] = omega arith
  past_most (suc k) (byte t b ∷ r) = omega (arith, past_most k r)
  past_most (suc k) (event e ∷ r) = omega (arith, past_most (suc k) r)

  broken_most : (n : ℕ) (es : List E) (u : List ℕ) (r : List (Item E)) → length r ≤ n → AtMost n (broken es u r)
  broken_most n es u [] h = tt
  broken_most n es u (x ∷ r) h = h

  after_same : (n : ℕ) (f g : List (Item E) → Cut E) → ((q : List (Item E)) → length q ≤ n → f q ≡ g q)
      → (x : Front E) → AtMost n x → after f x ≡ after g x
  after_same n f g h (ends es u r) k = ap (λ (c : Cut E). puts es (put (whole u) c)) (h r k)
  after_same n f g h (drops es u r) k = ap (λ (c : Cut E). puts es (put (lost u) c)) (h r k)
  after_same n f g h (stays es u) k = refl

module _ {E : Type 0} (cuts : ℕ → E → Bool) (need : List ℕ → ℕ) where
  -- the first unit leaves no more than there was
  pub front_most : (u : List ℕ) (t : ℕ) (r : List (Item E)) → AtMost (length r) (front cuts need u t r)
  unfolding front
  front_most u t r =
      let on = onward cuts t r in
      let v = u ++ bytes on in
      let k = need v - length u in
      either (AtMost (length r)) (leb (need v) (length v)) (ends (among k r) (take (need v) v) (past k r)) (broken (events on) v (drop (length on) r))
      (past_most k r) (broken_most (length r) (events on) v (drop (length on) r) (omega (arith, length-drop (length on) r)))

  pub rule_empty : units_of cuts need [] ≡ record { tokens = []; unfinished = [] }
  unfolding units
  rule_empty = refl

  pub rule_event : (e : E) (r : List (Item E)) → units_of cuts need (event e ∷ r) ≡ put (seen e) (units_of cuts need r)
  unfolding units
  rule_event e r = refl

  -- THE RULE'S EQUATION for a run that begins with a byte
  pub rule_first : Needs need → (t b : ℕ) (r : List (Item E)) → units_of cuts need (byte t b ∷ r) ≡ after (units_of cuts need) (front cuts need (b ∷ []) t r)
  unfolding units
  rule_first law t b r =
      after_same (length r) (units cuts need (length r)) (units_of cuts need) (λ q h. units_enough cuts need law q (length r) h)
      (front cuts need (b ∷ []) t r) (front_most (b ∷ []) t r)
