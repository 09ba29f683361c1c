-- The part is filled in as far as k.
use Rattle.wire.proofs.Runs.{Filling}
use Rattle.wire.proofs.copy.Given as goal

abbrev pub invariant-loop-k : goal.invariant-loop-k
invariant-loop-k l = Filling l.initial.out l.at l.part l.out l.k
