-- `head` of the trait: the constants are the sheet's. Assumes nothing.
use Rattle.std.proofs.Common.{rules}
use Rattle.sheet.proofs.Block.head.Goals as goal

pub returns : goal.returns
returns g c = let l = g.met.Self.Block in search rules
