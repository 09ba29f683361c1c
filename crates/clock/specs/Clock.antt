-- What a report of the time does to a state. In quotation marks: sheet 02, P3.
use Rattle.std.specs.Prelude.{ℕ, Bool, false, cond, [], length, nat_lt}
use Rattle.rule.specs.Rule.{State, state_at}
use Rattle.unit.specs.Unit.{clock}
use Rattle.unit.specs.Protocol.{cut_by}
use Rattle.unit.specs.declared.Memory.{Memory}

-- "If something is unfinished and the wait since the last byte exceeds 400,
abbrev pub overdue : State Memory → ℕ → Bool
overdue s now = cond (nat_lt 0 (length s.line.unfinished)) (cut_by s.line.last (clock now)) false

-- it is dropped; the last stamp stays."
abbrev pub dropped : State Memory → State Memory
dropped s = state_at s.memory [] s.line.last

-- and else nothing changes
abbrev pub clocked : State Memory → ℕ → State Memory
clocked s now = cond (overdue s now) (dropped s) s
