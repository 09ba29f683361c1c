-- Laws of tests in their sequence. Assumes nothing.
use mathlib.Core.Path.{◌≡◌, refl, sym, subst, ap, ◌∙◌}
use mathlib.Core.Bool.{Bool, true, false, cond, ◌&&◌, ◌||◌}
use mathlib.Core.List.{List, [], ◌∷◌}
use Prim.Native.Nat.{ℕ, zero, suc, ◌+◌, ◌≤◌, ◌<◌}
use native.Mathlib.Nat.{lt_irrefl}
use native.Mathlib.Numerals.{add-one}
use native.Mathlib.Omega.{arith}
use lib.Dec.{T}
use lib.ListN.{length, get_or, drop, drop_of_length-le}
use lib.Seq.{drop-cons}
use borrow.Author.Tests.{eq-eqb, ne_eqb}
use Rattle.std.specs.Prelude.{Option, None, Some}
use Rattle.std.specs.List.{AllWithin, HoldsAt}
use Rattle.std.specs.Option.{MatchOption, option_map}
use Rattle.ranges.specs.Tests.{first_false, found, ruled, ruled_found}

-- ---- two tests in a row

pub and_true : (a : Bool) → a ≡ (a && true)
and_true true = refl
and_true false = refl

pub or_no : (a b : Bool) → a ≡ false → b ≡ (a || b)
or_no true b e = absurd (subst T e tt)
or_no false b e = refl

-- ---- 0 for none, as an Option

pub found_none : {n : ℕ} → n ≡ 0 → found n ≡ None
found_none e = ap found e

pub found_some : (n : ℕ) → 0 < n → found n ≡ Some n
found_some zero h = absurd (lt_irrefl 0 h)
found_some (suc n) h = refl

pub some_found : (n k : ℕ) → found n ≡ Some k → n ≡ k
some_found zero k h = cc
some_found (suc n) k h = cc

-- ---- the first test that failed

none_at : (n : ℕ) (ts : List Bool) → AllWithin (λ t. t ≡ true) ts 0 (length ts) → first_false n ts ≡ 0
unfolding first_false
none_at n [] h = refl
none_at n (true ∷ ts) h = none_at (n + 1) ts (λ k d l u. h (suc k) d (omega arith) (omega arith))
none_at n (false ∷ ts) h = cc (h 0 true (omega arith) (omega arith))

first_at : (n : ℕ) (ts : List Bool) (i : ℕ) → i < length ts → HoldsAt (λ t. t ≡ false) ts i → AllWithin (λ t. t ≡ true) ts 0 i → first_false n ts ≡ n + i
unfolding first_false
first_at n [] i h at before = absurd (omega arith)
first_at n (true ∷ ts) zero h at before = cc (at true)
first_at n (true ∷ ts) (suc i) h at before = omega (arith, first_at (n + 1) ts i (omega arith) at (λ k d l u. before (suc k) d (omega arith) (omega arith)))
first_at n (false ∷ ts) zero h at before = omega arith
first_at n (false ∷ ts) (suc i) h at before = cc (before 0 true (omega arith) (omega arith))

-- as `position` finds it, from 0 on
abbrev pub FirstOf : List Bool → Option ℕ → Type 0
FirstOf ts r = MatchOption r (AllWithin (λ t. t ≡ true) ts 0 (length ts)) (λ i. (i < length ts) × HoldsAt (λ t. t ≡ false) ts i × AllWithin (λ t. t ≡ true) ts 0 i)

pub first_found : (ts : List Bool) (r : Option ℕ) → FirstOf ts r → option_map (λ k. k + 1) r ≡ found (first_false 1 ts)
first_found ts None h = rw (none_at 1 ts h)
first_found ts (Some i) (h, at, before) = rw (first_at 1 ts i h at before) (sym (found_some (i + 1) (omega arith)) ∙ ap found (omega arith))

-- every test passed
abbrev pub All : List Bool → Type 0
All [] = Unit
All (t ∷ ts) = (t ≡ true) × All ts

pub all_of : (n : ℕ) (ts : List Bool) → 0 < n → first_false n ts ≡ 0 → All ts
unfolding first_false
all_of n [] h e = tt
all_of n (true ∷ ts) h e = (refl, all_of (n + 1) ts (omega arith) e)
all_of n (false ∷ ts) h e = absurd (lt_irrefl 0 (subst (λ (k : ℕ). 0 < k) e h))

-- ---- a rule behind the tests

-- where one failed, it is what is refused, whatever the rule says
pub test_first : (bad : ℕ) (kept : Bool) → (bad ≡ 0 → ⊥) → ruled bad kept ≡ bad
test_first bad true h = refl
test_first bad false h = rw (ne_eqb bad 0 h)

-- where none failed, the rule decides
pub rule_last : (bad : ℕ) (kept : Bool) → bad ≡ 0 → ruled bad kept ≡ cond kept 0 99
rule_last bad true h = h
rule_last bad false h = rw (eq-eqb bad 0 h)

-- so the code's rule is the promise's
pub ruled_is : (bad : ℕ) (kept : Bool) → ruled_found (found bad) kept ≡ found (ruled bad kept)
ruled_is zero true = refl
ruled_is zero false = refl
ruled_is (suc bad) true = refl
ruled_is (suc bad) false = rw (ne_eqb (suc bad) 0 (λ e. absurd (omega arith)))
