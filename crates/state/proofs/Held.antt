-- What the first n of the bytes held tell: how long the unit is that they begin, if they begin one. Assumes nothing.
use mathlib.Core.Path.{◌≡◌, refl, sym, ap, ◌∙◌}
use mathlib.Core.Bool.{Bool, true, false, cond}
use mathlib.Core.List.{List}
use Prim.Native.Nat.{ℕ, zero, suc, ◌≤◌, ◌<◌}
use native.Mathlib.Omega.{arith}
use lib.ListN.{length, get_or, take, length-take}
use lib.Seq.{get_or-take, length-take-le}
use borrow.Author.Tests.{lt-ltb, le-ltb, ltb-true}
use Rattle.wire.proofs.Numbers.{le_at_take}
use Rattle.sheet.specs.Lengths.{longest_frame}
use Rattle.rule.specs.Framing.{begun}
use Rattle.names.specs.Names.{kind_at, kind_of, span as spans, need}
use Rattle.names.proofs.Need.{kind_named, need_zero, need_name, need_span, need_some, need_most}
use Rattle.std.specs.Prelude.{Some, None, ltb}
use Rattle.std.specs.Bool.{then_some}
use Rattle.state.specs.Sound.{wanted_by, wanting}

-- a length that the code tells only where it is past the n bytes
pub wanting_told : (n span : ℕ) → then_some (ltb n span) span ≡ wanting (cond (ltb n span) span 0)
wanting_told n span = by (ltb n span) refl
  where
    some : (k : ℕ) → n < k → Some k ≡ wanting k
    some zero h = absurd (omega arith)
    some (suc k) h = refl

    by : (y : Bool) → ltb n span ≡ y → then_some y span ≡ wanting (cond y span 0)
    by true e = some span (ltb-true n span e)
    by false e = refl

-- what the code found says that it is some, or none
pub wanting_found : (n k : ℕ) → Some k ≡ wanting n → (k ≡ n) × (n ≡ 0 → ⊥)
wanting_found zero k e = absurd (cc)
wanting_found (suc n) k e = (cc, λ z. omega arith)

pub wanting_none : (n : ℕ) → None ≡ wanting n → n ≡ 0
wanting_none zero e = refl
wanting_none (suc n) e = absurd (cc)

module _ (held : List ℕ) (n : ℕ) (full : length held ≡ longest_frame) where
  abbrev u : List ℕ
  u = take n held

  -- they begin a unit, or none
  begins_unit : length u < need u → wanted_by u ≡ need u
  unfolding begun
  begins_unit h = rw (lt-ltb (length u) (need u) h)

  begins_none : need u ≤ length u → wanted_by u ≡ 0
  unfolding begun
  begins_none h = rw (le-ltb (length u) (need u) h)

  pub wanted_none : n ≡ 0 → wanted_by u ≡ 1
  wanted_none e =
      let none : get_or u 0 0 ≡ 0 = rw e in
      begins_unit (rw (length-take n held) (omega (arith, need_some u))) ∙ need_zero u none

  pub wanted_past : longest_frame < n → wanted_by u ≡ 0
  wanted_past h = begins_none (rw (length-take n held) (omega (arith, need_most u)))

  module _ (some : n ≡ 0 → ⊥) (fits : n ≤ longest_frame) where
    long : length u ≡ n
    long = length-take-le n held (omega arith)

    first : get_or u 0 0 ≡ get_or held 0 0
    first = get_or-take n held 0 0 (omega (arith, some))

    pub wanted_zero : get_or held 0 0 ≡ 0 → wanted_by u ≡ 0
    wanted_zero z = begins_none (omega (arith, long, some, need_zero u (first ∙ z)))

    module _ (named : get_or held 0 0 ≡ 0 → ⊥) where
      begins : get_or u 0 0 ≡ 0 → ⊥
      begins z = named (sym first ∙ z)

      pub wanted_name : n < 4 → wanted_by u ≡ 4
      wanted_name h = let is = need_name u begins (omega (arith, long)) in begins_unit (omega (arith, long, is)) ∙ is

      module _ (h : 4 ≤ n) (span : ℕ) (is : span ≡ spans (kind_at held)) where
        need_is : need u ≡ span
        need_is =
            need_span u begins (omega (arith, long)) ∙ ap (λ (j : ℕ). spans (kind_of j)) (le_at_take 4 0 n held h) ∙ sym (ap spans (kind_named held named)) ∙ sym is

        pub wanted_span : wanted_by u ≡ cond (ltb n span) span 0
        unfolding begun
        wanted_span = rw (long, need_is)
