-- The first unit of a run, by the item that comes next: the rule's `front` for a unit begun with u, its last byte at t.
use Prim.Native.Nat.{ℕ, suc, ◌-◌, ◌<◌}
use mathlib.Core.Path.{◌≡◌, refl, ◌∙◌}
use mathlib.Core.Bool.{Bool, true, false, cond}
use mathlib.Core.List.{List, [], ◌∷◌, ◌++◌, append_assoc, append-nil}
use native.Mathlib.Omega.{arith}
use lib.Dec.{leb}
use borrow.Author.Tests.{le-leb, lt-leb}
use lib.ListN.{length, take, drop, length-append}
use lib.Seq.{take-append_seam}
use Rattle.rule.specs.Run.{Item, byte, event, bytes, events, among, past, late, onward}
use Rattle.rule.specs.Framing.{Needs, seen, Front, ends, drops, stays, Cut, put, broken, after, front}

module _ {E : Type 0} where
  -- an event inside the first unit
  abbrev pub inside : E → Front E → Front E
  inside e (ends es u r) = ends (e ∷ es) u r
  inside e (drops es u r) = drops (e ∷ es) u r
  inside e (stays es u) = stays (e ∷ es) u

  pub after_event : (rest : List (Item E) → Cut E) (e : E) (f : Front E) → after rest (inside e f) ≡ put (seen e) (after rest f)
  after_event rest e (ends es u r) = refl
  after_event rest e (drops es u r) = refl
  after_event rest e (stays es u) = refl

  broken_event : (e : E) (es : List E) (u : List ℕ) (r : List (Item E)) → broken (e ∷ es) u r ≡ inside e (broken es u r)
  broken_event e es u [] = refl
  broken_event e es u (x ∷ r) = refl

  choice_event : (b : Bool) (e : E) (es fs : List E) (u v : List ℕ) (q r : List (Item E))
      → cond b (ends (e ∷ es) u q) (broken (e ∷ fs) v r) ≡ inside e (cond b (ends es u q) (broken fs v r))
  choice_event true e es fs u v q r = refl
  choice_event false e es fs u v q r = broken_event e fs v r

module _ {E : Type 0} (cuts : ℕ → E → Bool) (need : List ℕ → ℕ) (law : Needs need) (u : List ℕ) (t : ℕ) where
  -- u is a whole unit: no later byte touches it
  pub front_whole : (r : List (Item E)) → need u ≡ length u → front cuts need u t r ≡ ends [] u r
  unfolding front
  front_whole r e =
      let w = bytes (onward cuts t r) in
      let same : need (u ++ w) ≡ length u = law.settled u w (omega arith) ∙ e in
      let fits : leb (need (u ++ w)) (length (u ++ w)) ≡ true = le-leb (need (u ++ w)) (length (u ++ w)) (omega (arith, length-append u w)) in
      let none : length u - length u ≡ 0 = omega arith in
      rw (fits, same, take-append_seam, none)

  -- the unit is unfinished at u
  module _ (more : length u < need u) where
    pub front_end : front cuts need u t [] ≡ stays [] u
    unfolding front onward
    front_end = rw (append-nil, lt-leb (need u) (length u) more)

    -- a wait that is too long, or an event that cuts
    pub front_late : (s b : ℕ) (r : List (Item E)) → late s t ≡ true → front cuts need u t (byte s b ∷ r) ≡ drops [] u (byte s b ∷ r)
    unfolding front onward
    front_late s b r e = rw (e, append-nil, lt-leb (need u) (length u) more)

    pub front_cut : (x : E) (r : List (Item E)) → cuts t x ≡ true → front cuts need u t (event x ∷ r) ≡ drops [] u (event x ∷ r)
    unfolding front onward
    front_cut x r e = rw (e, append-nil, lt-leb (need u) (length u) more)

    -- a byte in time joins u
    pub front_on : (s b : ℕ) (r : List (Item E)) → late s t ≡ false → front cuts need u t (byte s b ∷ r) ≡ front cuts need (u ++ b ∷ []) s r
    unfolding front onward
    front_on s b r e =
        let w = bytes (onward cuts s r) in
        let far = law.pending u (b ∷ w) more in
        let one : need (u ++ b ∷ w) - length u ≡ suc (need (u ++ b ∷ w) - length (u ++ b ∷ [])) = omega (arith, length-append u (b ∷ [])) in
        rw (e, one, append_assoc)

    pub front_event : (x : E) (r : List (Item E)) → cuts t x ≡ false → front cuts need u t (event x ∷ r) ≡ inside x (front cuts need u t r)
    unfolding front onward
    front_event x r e =
        let on = onward cuts t r in
        let v = u ++ bytes on in
        let far = law.pending u (bytes on) more in
        let k = need v - length u - 1 in
        let one : need v - length u ≡ suc k = omega arith in
        rw (e, one)
        (choice_event (leb (need v) (length v)) x (among (suc k) r) (events on) (take (need v) v) v (past (suc k) r) (drop (length on) r))
