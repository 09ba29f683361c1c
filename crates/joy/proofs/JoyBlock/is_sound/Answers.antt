-- `joy::Joy::is_sound` meets its contract: test by test. Assumes nothing.
use mathlib.Core.Path.{sym, ◌∙◌}
use mathlib.Core.Bool.{◌&&◌}
use lib.Dec.{leb}
use Rattle.ranges.specs.Tests.{within, only_bits}
use Rattle.sheet.specs.Sheet.{joy_row}
use Rattle.sheet.proofs.Sections.{sound_tests, kept, tested, zeroed, zeroed_last}
use Rattle.joy.proofs.JoyBlock.is_sound.Goals as goal

pub returns : goal.returns
returns c =
    let d = c.args.part.now in
    let high = c.number-high.ensures ∙ c.read-3.ensures in
    let centre = c.number-centre.ensures ∙ c.read-2.ensures in
    let low = c.number-low.ensures ∙ c.read.ensures in
    (tested (within 0 10000) _ _ _ _ _ low c.is_within.ensures
    (tested (within 0 10000) _ _ _ _ _ centre c.is_within-2.ensures
    (tested (within 0 10000) _ _ _ _ _ high c.is_within-3.ensures
    (tested (only_bits 1) _ _ _ _ _ (c.number.ensures ∙ c.read-4.ensures) c.has_only_bits.ensures
    (kept _ _ _ _ (c.in_sequence.ensures ∙ (λ i. leb (low i) (centre i) && leb (centre i) (high i)))
    (zeroed 4 3 9 d _ _ c.read-5.ensures
    (zeroed 2 1 13 d _ _ c.read-6.ensures
    (zeroed_last 1 15 d _ c.read-7.ensures))))))))
    ∙ sym (sound_tests joy_row d)
