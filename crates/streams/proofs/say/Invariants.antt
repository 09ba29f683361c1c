-- The bytes written so far are the text's beginning, and the rest is what stands behind them; each turn writes one at least.
use Rattle.std.proofs.Common.{◌≡◌, length, take, drop, ◌-◌}
use Rattle.std.specs.Io.KnownBytes.{Appends}
use Rattle.streams.proofs.say.Given as goal

abbrev pub invariant-loop-rest : goal.invariant-loop-rest
invariant-loop-rest g l =
    let done = length l.text - length l.rest in
    (l.rest ≡ drop done l.text) × Appends (g.W.Write.contents l.initial.out) (g.W.Write.contents l.out) (take done l.text)

abbrev pub decreases-loop-rest : goal.decreases-loop-rest
decreases-loop-rest g l = length l.rest
