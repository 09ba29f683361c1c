-- The piece is the line, or the line is laid out and the call on it is the call on the piece. Assumes nothing.
use Rattle.std.proofs.Common.{sym, length-take-le, arith}
use Rattle.state.specs.Parts.{board_at}
use Rattle.state.specs.Call.{call_at}
use Rattle.receiver.proofs.Line as line
use Rattle.receiver.proofs.run_line.Goals as goal

pub returns-then-had-eq0 : goal.returns-then-had-eq0
returns-then-had-eq0 c =
    let b = board_at c.args.table.now c.args.held.now c.args.rest in
    line.on_piece b c.args.stamp _ c.requires.0 c.requires.2 c.if-had-eq0.true _ _ _ _ c.take_units.ensures

pub overflow_add-end : goal.overflow_add-end
overflow_add-end c =
    let b = board_at c.args.table.now c.args.held.now c.args.rest in
    let l = line.laid b c.args.stamp c.args.had c.requires.0 c.requires.2 c.told-held c.args.piece.now _ _ c.copy.ensures c.copy-2.ensures c.requires.1 in
    omega (arith, l.fits)

pub slice_bounds-line-end : goal.slice_bounds-line-end
slice_bounds-line-end c =
    let b = board_at c.args.table.now c.args.held.now c.args.rest in
    let l = line.laid b c.args.stamp c.args.had c.requires.0 c.requires.2 c.told-held c.args.piece.now _ _ c.copy.ensures c.copy-2.ensures c.requires.1 in
    l.room

pub slice_bounds-take_units-end : goal.slice_bounds-take_units-end
slice_bounds-take_units-end c =
    let b = board_at c.args.table.now c.args.held.now c.args.rest in
    let l = line.laid b c.args.stamp c.args.had c.requires.0 c.requires.2 c.told-held c.args.piece.now _ _ c.copy.ensures c.copy-2.ensures c.requires.1 in
    sym (length-take-le _ _ l.room)

pub overflow_sub-done : goal.overflow_sub-done
overflow_sub-done c =
    let b = board_at c.args.table.now c.args.held.now c.args.rest in
    let l = line.laid b c.args.stamp c.args.had c.requires.0 c.requires.2 c.told-held c.args.piece.now _ _ c.copy.ensures c.copy-2.ensures c.requires.1 in
    line.had_taken b c.args.stamp _ c.requires.0 c.requires.2 c.told-held _ _ _ _ l.exact (call_at _ _ c.take_units-done.result) c.take_units-done.ensures

pub returns : goal.returns
returns c =
    let b = board_at c.args.table.now c.args.held.now c.args.rest in
    let l = line.laid b c.args.stamp c.args.had c.requires.0 c.requires.2 c.told-held c.args.piece.now _ _ c.copy.ensures c.copy-2.ensures c.requires.1 in
    line.less_had b c.args.stamp _ c.requires.0 c.requires.2 c.told-held _ _ _ _ l.exact (call_at _ _ c.take_units-done.result) c.take_units-done.ensures
