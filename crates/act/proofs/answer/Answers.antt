-- `act::answer` meets its contract: kind by kind. Assumes nothing.
use Rattle.std.proofs.Common.{refl, ap, ◌∙◌}
use Rattle.wire.specs.Numbers.{le_bytes}
use Rattle.orders.specs.declared.Order.TheVariants.{Nothing}
use Rattle.unit.specs.Unit.{does, outcome_at}
use Rattle.unit.specs.declared.Slate.{Slate}
use Rattle.unit.proofs.Sets.{answered_as}
use Rattle.act.proofs.answer.Goals as goal

pub returns-in-Clears : goal.returns-in-Clears
unfolding does
returns-in-Clears c = rw c.in-Clears.is (c.answer_zero.ensures c.args.table.now)
