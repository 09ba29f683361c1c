-- `ctl::Ctl::is_sound` meets its contract: the speeds' tests together, then test by test. Assumes nothing.
use mathlib.Core.Path.{sym, ◌∙◌}
use mathlib.Core.Bool.{◌&&◌, not}
use lib.Dec.{eqb}
use lib.ListN.{take}
use Rattle.ranges.specs.Tests.{only_bits, signed_within}
use Rattle.sheet.specs.Sheet.{ctl_row}
use Rattle.sheet.specs.Rows.{verdicts, numbers_in}
use Rattle.sheet.proofs.Sections.{first_none, sound_tests, kept, tested, zeroed, zeroed_last}
use Rattle.ctl.proofs.CtlBlock.is_sound.Goals as goal

pub returns : goal.returns
returns c =
    let d = c.args.part.now in
    let others =
    tested (only_bits 0x0F) _ _ _ _ _ (c.number.ensures ∙ c.read.ensures) c.has_only_bits.ensures
    (tested (signed_within 255) _ _ _ _ _ (c.number-2.ensures ∙ c.read-2.ensures) c.is_signed_within.ensures
    (kept _ _ _ _ (c.not_both_zero.ensures ∙ (λ i. not (eqb ((c.number-3.ensures ∙ c.read-3.ensures) i) 0 && eqb ((c.number-4.ensures ∙ c.read-4.ensures) i) 0)))
    (zeroed 8 1 78 d _ _ c.read-5.ensures
    (zeroed_last 1 86 d _ c.read-6.ensures)))) in
    (λ i. c.speeds_within.ensures i && others i) ∙ first_none 0 (verdicts (take 10 ctl_row.fields) 0 (numbers_in ctl_row d)) _ ∙ sym (sound_tests ctl_row d)
