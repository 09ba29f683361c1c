use Rattle.std.proofs.Common.{◌≡◌, ◌-◌}
use Rattle.std.proofs.lemmas.List.Edits.{sets}
use Rattle.wire.specs.Numbers.{le_bytes}
use Rattle.wire.proofs.put.Given as goal

-- the bytes that are left, stored from the place on, make what all of them make
abbrev pub invariant-loop-place : goal.invariant-loop-place
invariant-loop-place l =
    sets l.place-items l.place-index (le_bytes (l.place-index-end - l.place-index) l.x) ≡ sets l.initial.place-items 0 (le_bytes l.place-index-end l.v)
