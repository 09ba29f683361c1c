-- Laws of runs of fields: the elements of an array have one test. Assumes nothing.
use mathlib.Core.Path.{◌≡◌, sym, ap, ◌∙◌}
use mathlib.Core.Bool.{Bool, true, ◌&&◌}
use mathlib.Core.List.{List}
use Prim.Native.Nat.{ℕ, zero, suc, ◌+◌, ◌≤◌, ◌<◌}
use native.Mathlib.Nat.{add-zero}
use native.Mathlib.Numerals.{add-one}
use native.Mathlib.Omega.{arith}
use lib.Dec.{eqb}
use lib.ListN.{length, get_or, drop, replicate, drop_of_length-le}
use lib.Seq.{drop-cons}
use Rattle.ranges.specs.Tests.{first_false}
use Rattle.ranges.proofs.Tests.{and_true}
use Rattle.sheet.specs.Sheet.{Field}
use Rattle.sheet.specs.Rows.{verdicts}
use Rattle.sheet.proofs.Sections.{all_then, and_assoc, first_none}

-- test k of n like fields, on the numbers from place j on
pub run_tested : (n : ℕ) (f : Field) (j : ℕ) (ns : List ℕ) (k : ℕ) (d : Bool) → k < n
    → get_or (verdicts (replicate n f) j ns) k d ≡ f.test (get_or ns (j + k) 0)
run_tested zero f j ns k d h = absurd (omega arith)
run_tested (suc n) f j ns zero d h = rw add-zero
run_tested (suc n) f j ns (suc k) d h =
    let e : j + 1 + k ≡ j + suc k = omega arith in
    run_tested n f (j + 1) ns k d (omega arith) ∙ ap (λ (i : ℕ). f.test (get_or ns i 0)) e

-- ---- tests gathered one by one: those before k in one bool

abbrev pub Gathered : List Bool → Bool → ℕ → Type 0
Gathered ts all k = (all && all_then (drop k ts) true) ≡ all_then ts true

module _ (ts : List Bool) (all : Bool) (k : ℕ) where
  pub gather_step : (b d : Bool) → k < length ts → b ≡ get_or ts k d → Gathered ts all k → Gathered ts (all && b) (k + 1)
  gather_step b d h e i =
      rw (e, add-one k)
      (and_assoc all (get_or ts k d) (all_then (drop (suc k) ts) true) ∙ sym (ap (λ (x : List Bool). all && all_then x true) (drop-cons ts k d h)) ∙ i)

  pub gather_end : length ts ≤ k → Gathered ts all k → all ≡ eqb (first_false 1 ts) 0
  gather_end h i =
      and_true all ∙ sym (ap (λ (x : List Bool). all && all_then x true) (drop_of_length-le ts h)) ∙ i
      ∙ sym (first_none 0 ts true) ∙ sym (and_true (eqb (first_false 1 ts) 0))
