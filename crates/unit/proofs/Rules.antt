-- 02, P6: "the two rules come after all ranges, recorded as field 99", of a set of any block. Assumes nothing.
use mathlib.Core.Path.{◌≡◌, sym, ap, ◌∙◌}
use mathlib.Core.Bool.{true, false}
use mathlib.Core.List.{List}
use Prim.Native.Nat.{ℕ}
use native.Mathlib.Omega.{arith}
use Rattle.ranges.proofs.Tests.{test_first, rule_last}
use Rattle.frame.specs.Frame.{data_in, intact}
use Rattle.sheet.specs.Rows.{row_at, numbers_in, first_out}
use Rattle.sheet.specs.Sections.{bad_in}
use Rattle.rule.specs.Framing.{whole}
use Rattle.names.specs.Names.{kind_at, name_of}
use Rattle.names.specs.declared.Kind.TheVariants.{Set}
use Rattle.unit.specs.Unit.{out_of_range, stored, puts, does, act}
use Rattle.unit.specs.declared.Memory.{Memory}
use Rattle.unit.proofs.Replies.{act_kind}
use Rattle.unit.proofs.Sets.{checked_refused}

module _ (m : Memory) (u : List ℕ) (k : ℕ) (set : kind_at u ≡ Set k) (undamaged : intact u ≡ true) where
  abbrev ns : List ℕ
  ns = numbers_in (row_at k) (data_in u)

  refused_for : (bad : ℕ) → bad_in (row_at k) (data_in u) ≡ bad → (bad ≡ 0 → ⊥) → act m (whole u) ≡ out_of_range m k bad
  unfolding does puts
  refused_for bad is some =
      act_kind m u (Set k) set
      ∙ checked_refused m u k (bad_in (row_at k) (data_in u)) (stored m (name_of u) k (data_in u)) undamaged (λ z. some (sym is ∙ z)) ∙ ap (out_of_range m k) is

  -- a field out of its range is what is recorded, whether the rule is kept or not
  pub range_first : (first_out (row_at k) ns ≡ 0 → ⊥) → act m (whole u) ≡ out_of_range m k (first_out (row_at k) ns)
  unfolding bad_in
  range_first out = refused_for (first_out (row_at k) ns) (test_first (first_out (row_at k) ns) ((row_at k).rule ns) out) out

  -- where every field is in its range, a broken rule is recorded as field 99
  pub rule_behind : first_out (row_at k) ns ≡ 0 → (row_at k).rule ns ≡ false → act m (whole u) ≡ out_of_range m k 99
  unfolding bad_in
  rule_behind none broken = refused_for 99 (rule_last (first_out (row_at k) ns) ((row_at k).rule ns) none ∙ rw broken) (λ z. omega arith)
