-- `eds::Eds::is_sound` meets its contract: test by test. Assumes nothing.
use mathlib.Core.Path.{sym, ◌∙◌}
use Rattle.ranges.specs.Tests.{only_bits, signed_within}
use Rattle.sheet.specs.Sheet.{eds_row}
use Rattle.sheet.proofs.Sections.{sound_tests, tested, zeroed, zeroed_last}
use Rattle.eds.proofs.EdsBlock.is_sound.Goals as goal

pub returns : goal.returns
returns c =
    let d = c.args.part.now in
    (tested (only_bits 15) _ _ _ _ _ (c.number.ensures ∙ c.read.ensures) c.has_only_bits.ensures
    (tested (only_bits 7) _ _ _ _ _ (c.number-2.ensures ∙ c.read-2.ensures) c.has_only_bits-2.ensures
    (tested (signed_within 255) _ _ _ _ _ (c.number-3.ensures ∙ c.read-3.ensures) c.is_signed_within.ensures
    (tested (signed_within 255) _ _ _ _ _ (c.number-4.ensures ∙ c.read-4.ensures) c.is_signed_within-2.ensures
    (zeroed 4 2 14 d _ _ c.read-5.ensures
    (zeroed_last 2 18 d _ c.read-6.ensures))))))
    ∙ sym (sound_tests eds_row d)
