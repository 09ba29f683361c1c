-- What a set's checks come to, in their sequence, whatever the set: once for every command that is checked as a set is. Assumes nothing.
use mathlib.Core.Path.{◌≡◌, sym, ap, ◌∙◌, subst}
use mathlib.Core.Bool.{true, false}
use mathlib.Core.List.{List}
use Prim.Native.Nat.{ℕ, ◌-◌}
use native.Mathlib.Omega.{arith}
use lib.Dec.{eqb}
use lib.ListN.{length, take, drop}
use borrow.Author.Tests.{eq-eqb, ne_eqb, eqb-true}
use Rattle.std.specs.Prelude.{Option, Some, None}
use Rattle.ranges.specs.Tests.{found}
use Rattle.ranges.proofs.Tests.{found_none, some_found}
use Rattle.frame.specs.Frame.{data_in, intact}
use Rattle.rule.specs.Rule.{Said}
use Rattle.rule.proofs.Choice.{either_by, either}
use Rattle.orders.specs.declared.Order.{Order}
use Rattle.unit.specs.Unit.{checked, damaged, out_of_range, Outcome, outcome_at, Judges}
use Rattle.unit.specs.declared.Memory.{Memory}
use Rattle.unit.specs.declared.Judged.{Judged}

-- an answer that is another's
pub answered_as : {a : Said Order Memory} {before after : List ℕ} {d e : Outcome} → d ≡ e → Judges a before e after → Judges a before d after
answered_as p j = record { result = p ∙ j.result; reply = j.reply }

-- one outcome is of one answer
pub judged_as : {t u : List ℕ} {d e : Judged} → outcome_at t d ≡ outcome_at u e → d ≡ e
judged_as p = λ i. record { order = (p i).order; slate = record { notes = (p i).memory.notes; position = (p i).memory.position } }

-- the part of a unit that the code hands on is its data section
pub section_is : (u : List ℕ) → take (length u - 2 - 4) (drop 4 u) ≡ data_in u
section_is u = let n : length u - 2 - 4 ≡ length u - 6 = omega arith in ap (λ (j : ℕ). take j (drop 4 u)) n

module _ (m : Memory) (u : List ℕ) (k bad : ℕ) (done : Said Order Memory) where
  pub checked_damaged : intact u ≡ false → checked m u k bad done ≡ damaged m
  unfolding checked
  checked_damaged e = rw e

  pub checked_refused : intact u ≡ true → (bad ≡ 0 → ⊥) → checked m u k bad done ≡ out_of_range m k bad
  unfolding checked
  checked_refused e h = rw (e, ne_eqb bad 0 h)

  pub checked_done : intact u ≡ true → bad ≡ 0 → checked m u k bad done ≡ done
  unfolding checked
  checked_done e h = rw (e, eq-eqb bad 0 h)

  -- its CRC is wrong, a field is out of its range, or all is well
  pub checked_cases : (P : Said Order Memory → Type 0) → P (damaged m) → P (out_of_range m k bad) → (bad ≡ 0 → P done) → P (checked m u k bad done)
  unfolding checked
  checked_cases P wrong out good = either P (intact u) _ _ (either_by P (eqb bad 0) _ _ (λ e. good (eqb-true bad 0 e)) (λ _. out)) wrong

  -- the code's refusals
  module _ {before after : List ℕ} {d : Outcome} where
    pub says_damaged : intact u ≡ false → Judges (damaged m) before d after → Judges (checked m u k bad done) before d after
    says_damaged e j = subst (λ (a : Said Order Memory). Judges a before d after) (sym (checked_damaged e)) j

    -- o is what the tests found
    pub says_refused : (o : Option ℕ) (n : ℕ) → o ≡ found bad → o ≡ Some n → intact u ≡ true → Judges (out_of_range m k n) before d after → Judges (checked m u k bad done) before d after
    says_refused o n f is e j =
        let some : found bad ≡ Some n = sym f ∙ is in
        let none_then : bad ≡ 0 → None ≡ Some n = λ z. sym (found_none z) ∙ some in
        subst (λ (a : Said Order Memory). Judges a before d after)
        (ap (out_of_range m k) (sym (some_found bad n some)) ∙ sym (checked_refused e (λ z. let e = none_then z in cc)))
        j
