-- The piece ends no unit, and all is held. Assumes nothing.
use Rattle.std.proofs.Common.{◌<◌, take, refl, sym, ◌∙◌, arith}
use Rattle.names.specs.Names.{need}
use Rattle.state.specs.Parts.{board_at}
use Rattle.receiver.proofs.Line as line
use Rattle.receiver.proofs.run.Goals as goal

pub hold-requires : goal.hold-requires
hold-requires c =
    let a = c.args in
    let b = board_at a.table.now a.held.now a.rest in
    let begun : b.count < need (take b.count b.held) = omega (arith, c.requires.0, c.requires.1) in
    line.still_fits b a.stamp _ begun c.joined-had.ensures c.told-held a.piece.now a.wants c.requires.1 (sym c.is_open.ensures ∙ c.if-is_open.true)

pub returns-then-is_open : goal.returns-then-is_open
returns-then-is_open c =
    let a = c.args in
    let b = board_at a.table.now a.held.now a.rest in
    let begun : b.count < need (take b.count b.held) = omega (arith, c.requires.0, c.requires.1) in
    let still = line.still b a.stamp _ begun c.joined-had.ensures c.told-held a.piece.now a.wants c.requires.1 (sym c.is_open.ensures ∙ c.if-is_open.true) in
    line.stays_open b a.stamp _ begun c.joined-had.ensures c.told-held a.piece.now a.reply.now _ _ c.hold.ensures refl still
