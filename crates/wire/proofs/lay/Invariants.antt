use Rattle.std.proofs.Common.{◌≡◌, ◌≤◌, length, drop}
use Rattle.std.proofs.lemmas.List.Edits.{sets}
use Rattle.wire.specs.Layout.{laid}
use Rattle.wire.proofs.lay.Given as goal

-- the numbers from k on, laid at `at`, make what all of them make at the front
abbrev pub invariant-loop-k : goal.invariant-loop-k
invariant-loop-k l =
    (sets l.out l.at (laid (drop l.k l.ws) (drop l.k l.vs)) ≡ sets l.initial.out 0 (laid l.ws l.vs)) × (l.at ≤ length l.initial.out)
