-- `pwr::Pwr::is_sound` meets its contract: test by test. Assumes nothing.
use mathlib.Core.Path.{sym, ◌∙◌}
use Rattle.ranges.specs.Tests.{only_bits, within}
use Rattle.sheet.specs.Sheet.{pwr_row}
use Rattle.sheet.proofs.Sections.{sound_tests, tested, zeroed, zeroed_last}
use Rattle.pwr.proofs.PwrBlock.is_sound.Goals as goal

pub returns : goal.returns
returns c =
    let d = c.args.part.now in
    (tested (within 0 100) _ _ _ _ _ (c.number.ensures ∙ c.read.ensures) c.is_within.ensures
    (tested (only_bits 7) _ _ _ _ _ (c.number-2.ensures ∙ c.read-2.ensures) c.has_only_bits.ensures
    (zeroed 4 2 8 d _ _ c.read-3.ensures
    (zeroed_last 2 12 d _ c.read-4.ensures))))
    ∙ sym (sound_tests pwr_row d)
