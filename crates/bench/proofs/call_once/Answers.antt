-- A sound board refuses no such piece. Assumes nothing.
use Rattle.std.proofs.Common.{arith}
use Rattle.bench.proofs.Answers.{not_refused}
use Rattle.bench.proofs.call_once.Goals as goal

pub unwrap-call-requires : goal.unwrap-call-requires
unwrap-call-requires g c = not_refused _ _ _ _ _ _ c.receive.ensures c.requires.0 c.requires.1 (omega arith)
