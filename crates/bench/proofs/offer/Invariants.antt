-- Each turn passes what its call took, and takes a byte if another turn comes.
use Rattle.std.proofs.Common.{length}
use Rattle.streams.specs.Streams.{Grows}
use Rattle.state.specs.State.{state_of}
use Rattle.bench.proofs.Rest.{Partly}
use Rattle.bench.proofs.offer.Given as goal

abbrev pub invariant-loop-call : goal.invariant-loop-call
invariant-loop-call g l =
    Partly (state_of l.initial.ran.board) l.stamp l.piece l.rest l.ran.board l.ran.calls
    × Grows (g.W.Write.contents l.initial.out) (g.W.Write.contents l.out)

abbrev pub decreases-loop-call : goal.decreases-loop-call
decreases-loop-call g l = length l.rest
