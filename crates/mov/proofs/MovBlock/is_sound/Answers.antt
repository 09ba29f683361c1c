-- `mov::Mov::is_sound` meets its contract: test by test. Assumes nothing.
use mathlib.Core.Path.{sym, ◌∙◌}
use Rattle.ranges.specs.Tests.{within}
use Rattle.sheet.specs.Sheet.{mov_row}
use Rattle.sheet.proofs.Sections.{sound_tests, tested, zeroed, zeroed_last}
use Rattle.mov.proofs.MovBlock.is_sound.Goals as goal

pub returns : goal.returns
returns c =
    let d = c.args.part.now in
    (tested (within 0 100000) _ _ _ _ _ (c.number.ensures ∙ c.read.ensures) c.is_within.ensures
    (tested (within 1 65535) _ _ _ _ _ (c.number-2.ensures ∙ c.read-2.ensures) c.is_within-2.ensures
    (tested (within 1 65535) _ _ _ _ _ (c.number-3.ensures ∙ c.read-3.ensures) c.is_within-3.ensures
    (tested (within 0 100000) _ _ _ _ _ (c.number-4.ensures ∙ c.read-4.ensures) c.is_within-4.ensures
    (zeroed 8 2 14 d _ _ c.read-5.ensures
    (zeroed_last 2 22 d _ c.read-6.ensures))))))
    ∙ sym (sound_tests mov_row d)
