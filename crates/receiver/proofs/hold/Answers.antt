-- The piece is laid behind the bytes held, and zeros behind it. Assumes nothing.
use Rattle.std.proofs.Common.{refl}
use Rattle.state.proofs.Padded.{padded_behind}
use Rattle.receiver.proofs.hold.Goals as goal

pub returns : goal.returns
returns c = padded_behind c.args.held.now c.args.piece.now _ _ c.args.had _ refl c.told-held c.requires c.join.ensures (c.fill.ensures.after (λ y e. e))
