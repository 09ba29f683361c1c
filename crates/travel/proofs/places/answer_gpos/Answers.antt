-- `travel::places::answer_gpos` meets its contract. Assumes nothing.
use Rattle.std.proofs.Common.{refl, ap}
use Rattle.unit.specs.Unit.{memory_at, outcome_at}
use Rattle.unit.proofs.Sets.{answered_as}
use Rattle.unit.proofs.Gets.{says_found}
use Rattle.travel.proofs.places.answer_gpos.Goals as goal

pub returns : goal.returns
returns c table =
    answered_as (ap (outcome_at table) c.quiet.ensures) (says_found (memory_at table c.args.slate) _ _ refl c.encode.ensures c.args.name _ _ c.put.ensures)
