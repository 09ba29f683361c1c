-- Each turn of the loop is a law of Turns. Assumes nothing.
use Rattle.std.proofs.Common.{◌+◌, ◌-◌, length, length-take, drop, sym, ◌∙◌, arith}
use Rattle.line.proofs.Turns as turns
use Rattle.line.proofs.take_units.Goals as goal

pub loop-i-init : goal.loop-i-init
loop-i-init c = turns.starts _ _ _ _

pub over-requires : goal.over-requires
over-requires c =
    let it = turns.looks c.args.line.now c.loop-i.i _ _ _ c.read.ensures c.of-kind.ensures c.span-n.ensures in
    omega (arith, turns.most it, length-take (length c.args.line.now - c.loop-i.i) (drop c.loop-i.i c.args.line.now))

pub returns-then-line-i : goal.returns-then-line-i
returns-then-line-i c =
    let it = turns.looks _ _ _ _ _ c.read.ensures c.of-kind.ensures c.span-n.ensures in
    turns.unfinished _ _ _ _ _ _ _ _ c.loop-i.invariant c.loop-i-test.true _ _ it _ c.if-line-i.true (c.over.ensures _)

pub overflow_sub-e : goal.overflow_sub-e
overflow_sub-e c =
    let it = turns.looks c.args.line.now c.loop-i.i _ _ _ c.read.ensures c.of-kind.ensures c.span-n.ensures in
    omega (arith, turns.some it)

pub slice_bounds-over-count-then-reply-w : goal.slice_bounds-over-count-then-reply-w
slice_bounds-over-count-then-reply-w c =
    let it = turns.looks c.args.line.now c.loop-i.i _ _ _ c.read.ensures c.of-kind.ensures c.span-n.ensures in
    omega (arith, turns.some it)

pub slice_bounds-over-start-then-reply-w : goal.slice_bounds-over-start-then-reply-w
slice_bounds-over-start-then-reply-w c =
    let it = turns.looks c.args.line.now c.loop-i.i _ _ _ c.read.ensures c.of-kind.ensures c.span-n.ensures in
    omega (arith, turns.some it)

pub overflow_sub-e-then-reply-w : goal.overflow_sub-e-then-reply-w
overflow_sub-e-then-reply-w c =
    let it = turns.looks c.args.line.now c.loop-i.i _ _ _ c.read.ensures c.of-kind.ensures c.span-n.ensures in
    omega (arith, turns.some it)

pub over-requires-then-reply-w : goal.over-requires-then-reply-w
over-requires-then-reply-w c =
    let it = turns.looks c.args.line.now c.loop-i.i _ _ _ c.read.ensures c.of-kind.ensures c.span-n.ensures in
    omega (arith, turns.most it, length-take (c.loop-i.i + c.span-n.result - 1 - c.loop-i.i) (drop c.loop-i.i c.args.line.now))

pub returns-then-reply-w : goal.returns-then-reply-w
returns-then-reply-w c =
    let it = turns.looks _ _ _ _ _ c.read.ensures c.of-kind.ensures c.span-n.ensures in
    turns.full _ _ _ _ _ _ _ _ c.loop-i.invariant c.loop-i-test.true _ _ it c.if-line-i.false _ c.replied-due.ensures _
    c.if-reply-w.true (c.over-then-reply-w.ensures _)

pub returns-then-ne : goal.returns-then-ne
returns-then-ne c =
    let it = turns.looks _ _ _ _ _ c.read.ensures c.of-kind.ensures c.span-n.ensures in
    turns.gives _ _ _ _ _ _ _ _ c.loop-i.invariant c.loop-i-test.true _ _ it c.if-line-i.false _ c.replied-due.ensures
    c.if-reply-w.false _ _ c.answer-judged.ensures (turns.tells _ ∙ rw (sym c.ne.ensures ∙ c.if-ne.true)) _ (c.over-then-ne.ensures _)

pub loop-i-smaller : goal.loop-i-smaller
loop-i-smaller c =
    let it = turns.looks c.args.line.now c.loop-i.i _ _ _ c.read.ensures c.of-kind.ensures c.span-n.ensures in
    omega (arith, turns.some it)

pub loop-i-preserved : goal.loop-i-preserved
loop-i-preserved c =
    let it = turns.looks _ _ _ _ _ c.read.ensures c.of-kind.ensures c.span-n.ensures in
    turns.goes _ _ _ _ _ _ _ _ c.loop-i.invariant c.loop-i-test.true _ _ it c.if-line-i.false _ c.replied-due.ensures
    c.if-reply-w.false _ _ c.answer-judged.ensures (turns.tells _ ∙ rw (sym c.ne.ensures ∙ c.if-ne.false))

pub returns : goal.returns
returns c = turns.ends _ _ _ _ _ _ _ _ c.loop-i.invariant _ c.loop-i-test.false (c.over-2.ensures _)
