-- The laws of `need`: the three that the rule asks, and its cases, as code tests them. Assumes nothing.
use mathlib.Core.Path.{◌≡◌, refl, sym, ap, ◌∙◌}
use mathlib.Core.Bool.{Bool, true, false}
use mathlib.Core.List.{List, [], ◌∷◌, ◌++◌}
use Prim.Native.Nat.{ℕ, ◌≤◌, ◌<◌}
use native.Mathlib.Omega.{arith}
use lib.Dec.{eqb, ltb}
use lib.ListN.{length, get_or, take, length-append, get_or-append}
use lib.Seq.{get_or-take}
use borrow.Author.Tests.{lt-ltb, le-ltb, eq-eqb, ne_eqb, eqb-true, eqb-false, ltb-true, ltb-false}
use Rattle.wire.proofs.Numbers.{le_at_same, le_at_take}
use Rattle.sheet.specs.Lengths.{longest_frame}
use Rattle.rule.specs.Framing.{Needs}
use Rattle.rule.proofs.Choice.{either_by, either}
use Rattle.names.specs.Names.{kind_of, kind_from, kind_at, name_of, span, need}
use Rattle.names.specs.declared.Kind.TheVariants.{Zero}
use Rattle.names.proofs.Lengths.{span_least, span_most}

-- ---- the three cases

-- by kinds, as code looks them up
module _ (u : List ℕ) where
  pub kind_zero : get_or u 0 0 ≡ 0 → kind_at u ≡ Zero
  unfolding kind_from
  kind_zero z = rw (eq-eqb (get_or u 0 0) 0 z)

  pub kind_named : (get_or u 0 0 ≡ 0 → ⊥) → kind_at u ≡ kind_of (name_of u)
  unfolding kind_from
  kind_named some = rw (ne_eqb (get_or u 0 0) 0 some)

-- by lengths
module _ (u : List ℕ) where
  pub need_zero : get_or u 0 0 ≡ 0 → need u ≡ 1
  unfolding need
  need_zero z = rw (eq-eqb (get_or u 0 0) 0 z)

  pub need_name : (get_or u 0 0 ≡ 0 → ⊥) → length u < 4 → need u ≡ 4
  unfolding need
  need_name some h = rw (ne_eqb (get_or u 0 0) 0 some, lt-ltb (length u) 4 h)

  pub need_span : (get_or u 0 0 ≡ 0 → ⊥) → 4 ≤ length u → need u ≡ span (kind_of (name_of u))
  unfolding need
  need_span some h = rw (ne_eqb (get_or u 0 0) 0 some, le-ltb (length u) 4 h)

  -- what holds of each length that a unit can have, of a zero and of a name, holds of need
  need_either : (P : ℕ → Type 0) → (get_or u 0 0 ≡ 0 → P 1) → ((get_or u 0 0 ≡ 0 → ⊥) → P 4) → ((get_or u 0 0 ≡ 0 → ⊥) → (n : ℕ) → P (span (kind_of n))) → P (need u)
  unfolding need
  need_either P zero name long =
      either_by P (eqb (get_or u 0 0) 0) _ _ (λ e. zero (eqb-true (get_or u 0 0) 0 e))
      (λ e. let some = eqb-false (get_or u 0 0) 0 e in either P (ltb (length u) 4) _ _ (name some) (long some (name_of u)))

  pub need_some : 0 < need u
  need_some = need_either (λ (n : ℕ). 0 < n) (λ _. omega arith) (λ _. omega arith) (λ _ n. omega (arith, span_least n))

  pub need_most : need u ≤ longest_frame
  need_most = need_either (λ (n : ℕ). n ≤ longest_frame) (λ _. omega arith) (λ _. omega arith) (λ _ n. span_most (kind_of n))

  -- a unit that is not a zero has its name
  pub need_four : (get_or u 0 0 ≡ 0 → ⊥) → 4 ≤ need u
  need_four some = need_either (λ (n : ℕ). 4 ≤ n) (λ z. absurd (some z)) (λ _. omega arith) (λ _ n. span_least n)

  some_long : (get_or u 0 0 ≡ 0 → ⊥) → 0 < length u
  some_long = by u
    where
      by : (v : List ℕ) → (get_or v 0 0 ≡ 0 → ⊥) → 0 < length v
      by [] some = absurd (some refl)
      by (a ∷ v) some = omega arith

  -- ---- a unit in front of u, as its kind tells its length: it is not whole yet, or whole

  pub kind_short : 0 < length u → length u < span (kind_at u) → length u < need u
  kind_short h k = by (eqb (get_or u 0 0) 0) refl (ltb (length u) 4) refl
    where
      by : (b : Bool) → eqb (get_or u 0 0) 0 ≡ b → (s : Bool) → ltb (length u) 4 ≡ s → length u < need u
      by true e s l = let one : span (kind_at u) ≡ 1 = ap span (kind_zero u (eqb-true (get_or u 0 0) 0 e)) in absurd (omega arith)
      by false e true l = omega (arith, need_name (eqb-false (get_or u 0 0) 0 e) (ltb-true (length u) 4 l), ltb-true (length u) 4 l)
      by false e false l =
          let some = eqb-false (get_or u 0 0) 0 e in
          omega (arith, need_span some (ltb-false (length u) 4 l), ap span (kind_named u some))

  pub kind_fits : span (kind_at u) ≤ length u → span (kind_at u) ≡ need u
  kind_fits h = by (eqb (get_or u 0 0) 0) refl
    where
      by : (b : Bool) → eqb (get_or u 0 0) 0 ≡ b → span (kind_at u) ≡ need u
      by true e = let z = eqb-true (get_or u 0 0) 0 e in ap span (kind_zero u z) ∙ sym (need_zero z)
      by false e =
          let some = eqb-false (get_or u 0 0) 0 e in
          let is = ap span (kind_named u some) in
          is ∙ sym (need_span some (omega (arith, is, span_least (name_of u))))

  -- a unit that is whole has the length that its kind tells
  pub need_kind : need u ≤ length u → need u ≡ span (kind_at u)
  need_kind h = by (eqb (get_or u 0 0) 0) refl
    where
      by : (b : Bool) → eqb (get_or u 0 0) 0 ≡ b → need u ≡ span (kind_at u)
      by true e = let z = eqb-true (get_or u 0 0) 0 e in need_zero z ∙ sym (ap span (kind_zero u z))
      by false e =
          let some = eqb-false (get_or u 0 0) 0 e in
          need_span some (omega (arith, need_four some)) ∙ sym (ap span (kind_named u some))

  -- its bytes alone say the same
  pub kind_front : kind_at (take (span (kind_at u)) u) ≡ kind_at u
  kind_front = by (eqb (get_or u 0 0) 0) refl
    where
      by : (b : Bool) → eqb (get_or u 0 0) 0 ≡ b → kind_at (take (span (kind_at u)) u) ≡ kind_at u
      by true e =
          let z = eqb-true (get_or u 0 0) 0 e in
          let is = kind_zero u z in
          let one : span (kind_at u) ≡ 1 = ap span is in
          kind_zero (take (span (kind_at u)) u) (get_or-take (span (kind_at u)) u 0 0 (omega arith) ∙ z) ∙ sym is
      by false e =
          let some = eqb-false (get_or u 0 0) 0 e in
          let is = kind_named u some in
          let four : 4 ≤ span (kind_at u) = omega (arith, ap span is, span_least (name_of u)) in
          kind_named (take (span (kind_at u)) u) (λ z. some (sym (get_or-take (span (kind_at u)) u 0 0 (omega arith)) ∙ z))
          ∙ ap kind_of (le_at_take 4 0 (span (kind_at u)) u four) ∙ sym is

-- ---- bytes behind u leave what u tells

module _ (u w : List ℕ) where
  pub first_append : 0 < length u → get_or (u ++ w) 0 0 ≡ get_or u 0 0
  first_append h = get_or-append u w 0 0 h

  pub name_append : 4 ≤ length u → name_of (u ++ w) ≡ name_of u
  name_append h = le_at_same 4 0 (u ++ w) u (λ i a b. get_or-append u w 0 i (omega arith))

  -- from the name on, need is settled
  pub need_append : 4 ≤ length u → need (u ++ w) ≡ need u
  unfolding need
  need_append h =
      rw (first_append (omega arith), name_append h, le-ltb (length (u ++ w)) 4 (rw length-append (omega arith)), le-ltb (length u) 4 h)

  settled : need u ≤ length u → need (u ++ w) ≡ need u
  settled h = by (eqb (get_or u 0 0) 0) refl
    where
      by : (b : Bool) → eqb (get_or u 0 0) 0 ≡ b → need (u ++ w) ≡ need u
      by true e =
          let z = eqb-true (get_or u 0 0) 0 e in
          need_zero (u ++ w) (first_append (omega (arith, need_some u)) ∙ z) ∙ sym (need_zero u z)
      by false e = need_append (omega (arith, need_four u (eqb-false (get_or u 0 0) 0 e)))

  pending : length u < need u → length u < need (u ++ w)
  pending h = by (eqb (get_or u 0 0) 0) refl (ltb (length u) 4) refl
    where
      by : (b : Bool) → eqb (get_or u 0 0) 0 ≡ b → (s : Bool) → ltb (length u) 4 ≡ s → length u < need (u ++ w)
      by true e s k = omega (arith, need_zero u (eqb-true (get_or u 0 0) 0 e), need_some (u ++ w))
      by false e true k =
          let some = eqb-false (get_or u 0 0) 0 e in
          omega (arith, need_four (u ++ w) (λ z. some (sym (first_append (some_long u some)) ∙ z)), ltb-true (length u) 4 k)
      by false e false k = rw (need_append (ltb-false (length u) 4 k)) h

-- a beginning goes on being one as long as it is shorter than it told
pub need_more : (u w : List ℕ) → (get_or u 0 0 ≡ 0 → ⊥) → length (u ++ w) < need u → length (u ++ w) < need (u ++ w)
need_more u w some h = by (ltb (length u) 4) refl
  where
    by : (s : Bool) → ltb (length u) 4 ≡ s → length (u ++ w) < need (u ++ w)
    by true k =
        let four = need_name u some (ltb-true (length u) 4 k) in
        let some_both : get_or (u ++ w) 0 0 ≡ 0 → ⊥ = λ z. some (sym (first_append u w (some_long u some)) ∙ z) in
        omega (arith, four, need_name (u ++ w) some_both (omega (arith, four)))
    by false k = rw (need_append u w (ltb-false (length u) 4 k)) h

-- THE THREE LAWS
pub need_law : Needs need
need_law = record { starts = need_some []; settled = settled; pending = pending }
