-- The fields of the block's spot, and zeros behind them. Assumes nothing.
use Rattle.table.proofs.Spots.{put_of}
use Rattle.table.proofs.put.Goals as goal

pub returns : goal.returns
returns c =
    put_of c.args.number _ c.spot_of-spot.ensures c.args.table.now c.args.section.now _ _ _ c.told-table c.min-n.ensures c.copy.ensures
    (c.fill.ensures.after (λ y e. e))
