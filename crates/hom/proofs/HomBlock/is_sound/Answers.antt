-- `hom::Hom::is_sound` meets its contract: test by test. Assumes nothing.
use mathlib.Core.Path.{sym, ◌∙◌}
use Rattle.ranges.specs.Tests.{only_bits, signed_within, within}
use Rattle.sheet.specs.Sheet.{hom_row}
use Rattle.sheet.proofs.Sections.{sound_tests, tested, zeroed, zeroed_last}
use Rattle.hom.proofs.HomBlock.is_sound.Goals as goal

pub returns : goal.returns
returns c =
    let d = c.args.part.now in
    (tested (within 0 100000) _ _ _ _ _ (c.number.ensures ∙ c.read.ensures) c.is_within.ensures
    (tested (within 0 100000) _ _ _ _ _ (c.number-2.ensures ∙ c.read-2.ensures) c.is_within-2.ensures
    (tested (signed_within 255) _ _ _ _ _ (c.number-3.ensures ∙ c.read-3.ensures) c.is_signed_within.ensures
    (tested (only_bits 511) _ _ _ _ _ (c.number-4.ensures ∙ c.read-4.ensures) c.has_only_bits.ensures
    (zeroed 8 1 18 d _ _ c.read-5.ensures
    (zeroed_last 1 26 d _ c.read-6.ensures))))))
    ∙ sym (sound_tests hom_row d)
