-- `act::answer_get` meets its contract. Assumes nothing.
use Rattle.std.proofs.Common.{refl, sym, ap, arith, ◌≤◌, ◌-◌, length}
use lib.Seq.{length-take-le}
use Rattle.names.proofs.Lengths.{get_total}
use Rattle.unit.specs.Unit.{memory_at, outcome_at}
use Rattle.unit.proofs.Sets.{answered_as}
use Rattle.unit.proofs.Gets.{section_room, says_got}
use Rattle.act.proofs.answer_get.Goals.{After-total_of-n}
use Rattle.act.proofs.answer_get.Goals as goal

-- the total looked up fits the section that was laid
room : (c : After-total_of-n) → c.total_of-n.result - 6 ≤ length c.get.new.out
room c = section_room (memory_at c.args.table.now c.args.slate) c.args.k _ c.total_of-n.ensures.get _ _ refl c.get.ensures

pub slice_bounds-put-end : goal.slice_bounds-put-end
slice_bounds-put-end c = sym (length-take-le _ _ (room (goal.at.slice_bounds-put-end c).After-total_of-n))

pub returns : goal.returns
returns c =
    answered_as (ap (outcome_at c.args.table.now) c.quiet.ensures)
    (says_got (memory_at c.args.table.now c.args.slate) c.args.k _ c.total_of-n.ensures.get _ _ refl c.get.ensures c.args.name _ _ c.put.ensures)
