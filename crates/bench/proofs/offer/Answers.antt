-- What a turn's call does, by `turn`; what is printed only grows. Assumes nothing.
use Rattle.std.proofs.Common.{arith, rules}
use Rattle.streams.proofs.Growth.{grows_trans}
use Rattle.bench.proofs.Rest.{turn}
use Rattle.bench.proofs.offer.Goals as goal

pub returns-in_err-call-clause-out : goal.returns-in_err-call-clause-out
returns-in_err-call-clause-out g c = grows_trans c.loop-call.invariant.1 c.call_once.ensures.out

pub overflow_add-ran : goal.overflow_add-ran
overflow_add-ran g c =
    let t = turn c.args.stamp c.args.piece.now c.loop-call.rest.now c.requires.2 c.loop-call.invariant.0 c.in_ok-call.ensures.ok in
    omega (arith, t.room)

pub slice_bounds-rest-count : goal.slice_bounds-rest-count
slice_bounds-rest-count g c =
    (turn c.args.stamp c.args.piece.now c.loop-call.rest.now c.requires.2 c.loop-call.invariant.0 c.in_ok-call.ensures.ok).fits

pub slice_bounds-rest-start : goal.slice_bounds-rest-start
slice_bounds-rest-start g c =
    (turn c.args.stamp c.args.piece.now c.loop-call.rest.now c.requires.2 c.loop-call.invariant.0 c.in_ok-call.ensures.ok).fits

pub returns-then-is_empty-clause-ok : goal.returns-then-is_empty-clause-ok
returns-then-is_empty-clause-ok g c =
    (turn c.args.stamp c.args.piece.now c.loop-call.rest.now c.requires.2 c.loop-call.invariant.0 c.in_ok-call.ensures.ok).last (search rules)

pub returns-then-is_empty-clause-out : goal.returns-then-is_empty-clause-out
returns-then-is_empty-clause-out g c = grows_trans c.loop-call.invariant.1 c.in_ok-call.ensures.out

pub loop-call-smaller : goal.loop-call-smaller
loop-call-smaller g c =
    (turn c.args.stamp c.args.piece.now c.loop-call.rest.now c.requires.2 c.loop-call.invariant.0 c.in_ok-call.ensures.ok).less (search rules)

pub loop-call-preserved : goal.loop-call-preserved
loop-call-preserved g c =
    let t = turn c.args.stamp c.args.piece.now c.loop-call.rest.now c.requires.2 c.loop-call.invariant.0 c.in_ok-call.ensures.ok in
    (t.next (search rules), grows_trans c.loop-call.invariant.1 c.in_ok-call.ensures.out)
