-- 01: "Numbers are little endian": low byte first, over width and place.
use Rattle.std.specs.Prelude.{List, [], ◌∷◌, ℕ, zero, suc, ◌+◌, ◌*◌, ◌/◌, ◌%◌, get_or}

-- the number that the w bytes of s from place p on stand for; past the end stand zeros
unfoldable pub le_at : ℕ → ℕ → List ℕ → ℕ
le_at zero p s = 0
le_at (suc w) p s = get_or s p 0 + 256 * le_at w (p + 1) s

-- the w bytes of the number v
unfoldable pub le_bytes : ℕ → ℕ → List ℕ
le_bytes zero v = []
le_bytes (suc w) v = v % 256 ∷ le_bytes w (v / 256)
