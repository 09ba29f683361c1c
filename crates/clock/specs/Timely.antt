-- Reports of the time that drop nothing, in a run (sheet 02, P3).
use Rattle.std.specs.Prelude.{◌≡◌, false, List, [], ◌∷◌}
use Rattle.rule.specs.Run.{Item, byte, event}
use Rattle.rule.specs.Rule.{State}
use Rattle.rule.specs.Step.{step}
use Rattle.unit.specs.Unit.{Event, clock, position}
use Rattle.unit.specs.Protocol.{protocol}
use Rattle.unit.specs.declared.Memory.{Memory}
use Rattle.clock.specs.Clock.{overdue}

-- no report of the time in the run is overdue where it comes: the wait does not exceed 400, or nothing is unfinished
abbrev pub NoneOverdue : State Memory → List (Item Event) → Type 0
NoneOverdue s [] = Unit {0}
NoneOverdue s (byte t b ∷ r) = NoneOverdue (step protocol s (byte t b)).next r
NoneOverdue s (event (clock now) ∷ r) = (overdue s now ≡ false) × NoneOverdue s r
NoneOverdue s (event (position p) ∷ r) = NoneOverdue (step protocol s (event (position p))).next r

-- the run without its reports of the time
abbrev pub without_clock : List (Item Event) → List (Item Event)
without_clock [] = []
without_clock (byte t b ∷ r) = byte t b ∷ without_clock r
without_clock (event (clock now) ∷ r) = without_clock r
without_clock (event (position p) ∷ r) = event (position p) ∷ without_clock r
