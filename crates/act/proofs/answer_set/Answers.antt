-- `act::answer_set` meets its contract: the CRC first, then the fields. Assumes nothing.
use Rattle.unit.specs.Unit.{puts}
use Rattle.unit.proofs.Sets.{says_damaged, says_refused}
use Rattle.act.proofs.answer_set.Goals as goal

pub returns-in_default : goal.returns-in_default
unfolding puts
returns-in_default c = says_damaged _ c.args.unit.now c.args.k _ _ c.in_default.ensures (c.refuse_crc.ensures c.args.table.now)

pub returns-in-Some-bad_in : goal.returns-in-Some-bad_in
unfolding puts
returns-in-Some-bad_in c =
    says_refused _ c.args.unit.now c.args.k _ _ _ _ (cc c.in-Some.ensures.1) c.in-Some-bad_in.is c.in-Some.ensures.0
    (c.refuse_field.ensures c.args.table.now)
