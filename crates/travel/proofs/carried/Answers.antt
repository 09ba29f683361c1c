-- `travel::carried` meets its contract: the CRC first, then the fields. Assumes nothing.
use Rattle.unit.proofs.Sets.{says_damaged, says_refused}
use Rattle.travel.proofs.carried.Goals as goal

pub returns-in_default : goal.returns-in_default
returns-in_default g c done table = says_damaged _ c.args.unit.now c.args.block _ _ c.in_default.ensures (c.refuse_crc.ensures table)

pub returns-in-Some-first_bad : goal.returns-in-Some-first_bad
returns-in-Some-first_bad g c done table =
    says_refused _ c.args.unit.now c.args.block _ _ _ _ (cc (c.in-Some.ensures.1)) c.in-Some-first_bad.is c.in-Some.ensures.0
    (c.refuse_field.ensures table)
