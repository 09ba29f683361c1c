-- A report of the position (02, P5) is the rule's event: what it does to a state. Assumes nothing.
use mathlib.Core.Path.{◌≡◌, refl}
use Rattle.position.specs.declared.Position.{Position}
use Rattle.rule.specs.Run.{event}
use Rattle.rule.specs.Rule.{State, quiet, state_at}
use Rattle.rule.specs.Step.{step}
use Rattle.rule.proofs.Steps.{event_step}
use Rattle.unit.specs.Unit.{position, stands, act}
use Rattle.unit.specs.Protocol.{protocol}
use Rattle.unit.specs.declared.Memory.{Memory}

-- the position is stored, without a word; what is unfinished and the last stamp stay
pub position_step : (s : State Memory) (p : Position)
    → step protocol s (event (position p)) ≡ quiet (state_at (stands s.memory p) s.line.unfinished s.line.last)
unfolding act
position_step s p = event_step protocol s (position p) refl
