-- `eng::Eng::is_sound` meets its contract: test by test. Assumes nothing.
use mathlib.Core.Path.{sym, ◌∙◌}
use Rattle.ranges.specs.Tests.{only_bits, within}
use Rattle.sheet.specs.Sheet.{eng_row}
use Rattle.sheet.proofs.Sections.{sound_tests, tested, zeroed, zeroed_last}
use Rattle.eng.proofs.EngBlock.is_sound.Goals as goal

pub returns : goal.returns
returns c =
    let d = c.args.part.now in
    (tested (within 15 8000) _ _ _ _ _ (c.number.ensures ∙ c.read.ensures) c.is_within.ensures
    (tested (within 1 100000) _ _ _ _ _ (c.number-2.ensures ∙ c.read-2.ensures) c.is_within-2.ensures
    (tested (only_bits 255) _ _ _ _ _ (c.number-3.ensures ∙ c.read-3.ensures) c.has_only_bits.ensures
    (tested (within 1 9) _ _ _ _ _ (c.number-4.ensures ∙ c.read-4.ensures) c.is_within-3.ensures
    (tested (within 1 65535) _ _ _ _ _ (c.number-5.ensures ∙ c.read-5.ensures) c.is_within-4.ensures
    (zeroed 8 4 16 d _ _ c.read-6.ensures
    (zeroed_last 4 24 d _ c.read-7.ensures)))))))
    ∙ sym (sound_tests eng_row d)
