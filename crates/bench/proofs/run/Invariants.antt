-- Each turn but the last passes a record.
use Rattle.std.proofs.Common.{length}
use Rattle.streams.specs.Streams.{Grows}
use Rattle.bench.proofs.Traces.{SoFar}
use Rattle.bench.proofs.run.Given as goal

abbrev pub invariant-loop-rest : goal.invariant-loop-rest
invariant-loop-rest g l =
    SoFar l.bytes l.rest l.ran.board l.ran.calls × Grows (g.W.Write.contents l.initial.out) (g.W.Write.contents l.out)

abbrev pub decreases-loop-rest : goal.decreases-loop-rest
decreases-loop-rest g l = length l.rest
