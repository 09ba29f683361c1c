-- A whole unit among the tokens of a run: it is exactly as long as it needs, and its bytes are a part of the run's. Assumes nothing.
use Prim.Native.Nat.{ℕ, zero, suc, ◌+◌, ◌≤◌, ◌<◌}
use mathlib.Core.Path.{◌≡◌, refl, ap, sym, ◌∙◌}
use mathlib.Core.Bool.{Bool, true, false}
use mathlib.Core.List.{List, [], ◌∷◌, ◌++◌, append_assoc}
use native.Mathlib.Omega.{arith}
use lib.Dec.{leb, ltb}
use lib.ListN.{length, get_or, take, drop, length-take, take-append-drop, get_or-eq_default}
use lib.Seq.{length-take-le, get_or-take, get_or-drop, take-append_seam, drop-append_seam}
use borrow.Author.Tests.{leb-true, leb-false, ltb-true, ltb-false}
use Rattle.rule.specs.Run.{Item, byte, event, bytes, events, onward}
use Rattle.rule.specs.Framing.{Needs, Token, whole, lost, seen, Front, ends, drops, stays, Cut, puts, broken, after, front, units, units_of}
use Rattle.rule.specs.Facts.{spent}
use Rattle.rule.proofs.Choice.{either_by}
use Rattle.rule.proofs.Bytes.{spent_append, units_bytes}

-- a part of bytes is of bytes
pub part_bytes : (u : List ℕ) (n j : ℕ) → ((i : ℕ) → get_or u i 0 < 256) → (i : ℕ) → get_or (take n (drop j u)) i 0 < 256
part_bytes u n j b i = by (ltb i n) refl
  where
    by : (c : Bool) → ltb i n ≡ c → get_or (take n (drop j u)) i 0 < 256
    by true p = let h = ltb-true i n p in rw (get_or-take n (drop j u) i 0 h, get_or-drop j u i 0) (b (j + i))
    by false p =
        let h = ltb-false i n p in
        let l : length (take n (drop j u)) ≤ i = simp length-take (omega arith) in
        rw (get_or-eq_default (take n (drop j u)) 0 l) (omega arith)

module _ {E : Type 0} (cuts : ℕ → E → Bool) (need : List ℕ → ℕ) (law : Needs need) where
  -- ---- how long a whole unit is

  -- what w behind u shows to end at u ends there by u alone
  exact : (u w : List ℕ) → need (u ++ w) ≡ length u → need u ≡ length u
  exact u w all = by (leb (need u) (length u)) refl
    where
      by : (b : Bool) → leb (need u) (length u) ≡ b → need u ≡ length u
      by true e = sym (law.settled u w (leb-true (need u) (length u) e)) ∙ all
      by false e = absurd (omega (arith, law.pending u w (leb-false (need u) (length u) e)))

  -- what ends in a front is exactly as long as it needs; and so is each whole unit of the tokens
  abbrev Ends : Front E → Type 0
  Ends (ends es u r) = need u ≡ length u
  Ends (drops es u r) = Unit
  Ends (stays es u) = Unit

  abbrev Each : List (Token E) → Type 0
  Each [] = Unit
  Each (whole u ∷ ks) = (need u ≡ length u) × Each ks
  Each (lost u ∷ ks) = Each ks
  Each (seen e ∷ ks) = Each ks

  broken_ends : (es : List E) (u : List ℕ) (r : List (Item E)) → Ends (broken es u r)
  broken_ends es u [] = tt
  broken_ends es u (x ∷ r) = tt

  front_ends : (u : List ℕ) (t : ℕ) (r : List (Item E)) → Ends (front cuts need u t r)
  unfolding front
  front_ends u t r =
      let on = onward cuts t r in
      let v = u ++ bytes on in
      either_by Ends (leb (need v) (length v)) _ _
      (λ e. exact (take (need v) v) (drop (need v) v) (ap need (take-append-drop (need v) v) ∙ sym (length-take-le (need v) v (leb-true (need v) (length v) e))))
      (λ _. broken_ends (events on) v (drop (length on) r))

  puts_each : (es : List E) (c : Cut E) → Each c.tokens → Each (puts es c).tokens
  puts_each [] c h = h
  puts_each (e ∷ es) c h = puts_each es c h

  after_each : (rest : List (Item E) → Cut E) → ((q : List (Item E)) → Each (rest q).tokens) → (x : Front E) → Ends x → Each (after rest x).tokens
  after_each rest h (ends es u r) k = puts_each es _ (k, h r)
  after_each rest h (drops es u r) k = puts_each es _ (h r)
  after_each rest h (stays es u) k = puts_each es _ tt

  units_each : (n : ℕ) (r : List (Item E)) → Each (units cuts need n r).tokens
  unfolding units
  units_each zero r = tt
  units_each (suc n) [] = tt
  units_each (suc n) (byte t b ∷ r) = after_each (units cuts need n) (units_each n) (front cuts need (b ∷ []) t r) (front_ends (b ∷ []) t r)
  units_each (suc n) (event e ∷ r) = units_each n r

  each_at : (before after : List (Token E)) (u : List ℕ) → Each (before ++ (whole u ∷ after)) → need u ≡ length u
  each_at [] after u h = h.0
  each_at (whole v ∷ ks) after u h = each_at ks after u h.1
  each_at (lost v ∷ ks) after u h = each_at ks after u h
  each_at (seen e ∷ ks) after u h = each_at ks after u h

  module _ (r : List (Item E)) (before after : List (Token E)) (u : List ℕ) (cut : (units_of cuts need r).tokens ≡ before ++ (whole u ∷ after)) where
    -- A WHOLE UNIT IS EXACTLY AS LONG AS IT NEEDS
    pub whole_long : need u ≡ length u
    whole_long = each_at before after u (rw cut at (units_each (length r) r))

    -- ---- its bytes

    -- they stand in the run behind those that the tokens before it took
    pub whole_part : take (length u) (drop (length (spent before)) (bytes r)) ≡ u
    whole_part =
        let rest = spent after ++ (units_of cuts need r).unfinished in
        let all : bytes r ≡ spent before ++ (u ++ rest) =
        units_bytes cuts need law r
        ∙ ap (λ (ks : List (Token E)). spent ks ++ (units_of cuts need r).unfinished) cut
        ∙ rw (spent_append before (whole u ∷ after)) (simp append_assoc) in
        rw (all, drop-append_seam (spent before) (u ++ rest)) (take-append_seam u rest)

    -- so a unit of a run of bytes is of bytes
    pub whole_bytes : ((i : ℕ) → get_or (bytes r) i 0 < 256) → (i : ℕ) → get_or u i 0 < 256
    whole_bytes b = rw whole_part at (part_bytes (bytes r) (length u) (length (spent before)) b)
