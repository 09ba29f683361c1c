-- `brk::Brk::is_sound` meets its contract: test by test. Assumes nothing.
use mathlib.Core.Path.{sym, ◌∙◌}
use Rattle.ranges.specs.Tests.{only_bits}
use Rattle.sheet.specs.Sheet.{brk_row}
use Rattle.sheet.proofs.Sections.{sound_tests, tested, zeroed, zeroed_last}
use Rattle.brk.proofs.BrkBlock.is_sound.Goals as goal

pub returns : goal.returns
returns c =
    let d = c.args.part.now in
    (tested (only_bits 3) _ _ _ _ _ (c.number.ensures ∙ c.read.ensures) c.has_only_bits.ensures
    (zeroed 8 2 9 d _ _ c.read-2.ensures
    (zeroed_last 2 17 d _ c.read-3.ensures)))
    ∙ sym (sound_tests brk_row d)
