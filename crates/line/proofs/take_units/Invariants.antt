-- The invariant is Turns', the measure what is left of the line. Assumes nothing.
use Rattle.std.proofs.Common.{[], ◌-◌, length}
use Rattle.rule.specs.Calls.{accept}
use Rattle.rule.specs.Rule.{state_at}
use Rattle.unit.specs.Unit.{memory_at}
use Rattle.unit.specs.Protocol.{protocol}
use Rattle.line.proofs.Turns.{Inv}
use Rattle.line.proofs.take_units.Given as goal

abbrev pub invariant-loop-i : goal.invariant-loop-i
invariant-loop-i l =
    Inv (accept protocol (state_at (memory_at l.fn.table l.fn.slate) [] l.stamp) l.stamp (length l.fn.reply) l.line) l.stamp l.line l.fn.reply l.reply (memory_at l.table l.cur) l.i l.w

abbrev pub decreases-loop-i : goal.decreases-loop-i
decreases-loop-i l = length l.line - l.i
