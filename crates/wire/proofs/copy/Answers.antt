-- `wire::copy` meets its contract: a byte more at its place; what is past the end is not stored. Assumes nothing.
use Rattle.std.proofs.Common.{◌∙◌, ◌+◌, refl, sym, arith}
use Rattle.wire.proofs.Stores.{copy_end}
use Rattle.wire.proofs.Runs.{fill_start, fill_step}
use Rattle.wire.proofs.copy.Goals as goal

pub loop-k-init : goal.loop-k-init
loop-k-init c = fill_start c.args.out.now c.args.at c.args.part.now

pub loop-k-preserved : goal.loop-k-preserved
loop-k-preserved c =
    let a = c.args in
    let l = c.loop-k in
    fill_step a.out.now a.at a.part.now l.out l.k (a.at + l.k) _ 0 refl (omega (arith, c.loop-k-test.true, c.min-n.ensures)) refl l.invariant

pub returns : goal.returns
returns c =
    let l = c.loop-k in
    let a = c.args in
    let long = l.invariant.1 in
    sym (copy_end l.out a.part.now a.at l.k (omega (arith, long, c.if-out-at.false)) (omega (arith, long, c.loop-k-test.false, c.min-n.ensures))) ∙ l.invariant.0
