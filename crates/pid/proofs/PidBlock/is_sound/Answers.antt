-- `pid::Pid::is_sound` meets its contract: test by test. Assumes nothing.
use mathlib.Core.Path.{sym, ◌∙◌}
use Rattle.ranges.specs.Tests.{finite}
use Rattle.sheet.specs.Sheet.{pid_row}
use Rattle.sheet.proofs.Sections.{sound_tests, tested, zeroed, zeroed_last}
use Rattle.pid.proofs.PidBlock.is_sound.Goals as goal

pub returns : goal.returns
returns c =
    let d = c.args.part.now in
    (tested finite _ _ _ _ _ (c.number.ensures ∙ c.read.ensures) c.is_finite.ensures
    (tested finite _ _ _ _ _ (c.number-2.ensures ∙ c.read-2.ensures) c.is_finite-2.ensures
    (tested finite _ _ _ _ _ (c.number-3.ensures ∙ c.read-3.ensures) c.is_finite-3.ensures
    (zeroed 8 16 18 d _ _ c.read-4.ensures
    (zeroed 8 8 26 d _ _ c.read-5.ensures
    (zeroed_last 8 34 d _ c.read-6.ensures))))))
    ∙ sym (sound_tests pid_row d)
