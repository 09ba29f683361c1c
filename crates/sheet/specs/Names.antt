-- 01: "A command is a 4-byte identifier, sent in letter order." Its number has the first letter in the low byte.
use Rattle.std.specs.Prelude.{ℕ, ◌+◌, ◌*◌}
use Prim.Native.Char.{code}
use Prim.Native.String.{String, [], ◌∷◌}

abbrev pub named : String → ℕ
named [] = 0
named (c ∷ s) = code c + 256 * named s
