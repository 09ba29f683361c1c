-- Numbers one behind the other, each in its width in bytes: how 01's table lays the fields of a data section.
use Rattle.std.specs.Prelude.{List, [], ◌∷◌, ◌++◌, ℕ, ◌+◌, get_or, drop}
use Rattle.wire.specs.Numbers.{le_at, le_bytes}

-- the numbers of these widths that s has from place p on
abbrev pub numbers : List ℕ → ℕ → List ℕ → List ℕ
numbers [] p s = []
numbers (w ∷ ws) p s = le_at w p s ∷ numbers ws (p + w) s

-- the bytes of these numbers in these widths; a width without a number is zeros
unfoldable pub laid : List ℕ → List ℕ → List ℕ
laid [] vs = []
laid (w ∷ ws) vs = le_bytes w (get_or vs 0 0) ++ laid ws (drop 1 vs)

-- the bytes that these widths take
abbrev pub sum : List ℕ → ℕ
sum [] = 0
sum (w ∷ ws) = w + sum ws
