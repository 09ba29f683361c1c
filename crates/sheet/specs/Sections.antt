-- A data section as bytes: as a board keeps it, and when it is sound.
use Rattle.std.specs.Prelude.{Bool, true, ◌&&◌, List, [], ◌∷◌, ◌++◌, ℕ, zero, suc, ◌+◌, eqb, get_or, replicate}
use Rattle.wire.specs.Layout.{sum}
use Rattle.sheet.specs.Sheet.{Row}
use Rattle.sheet.specs.Rows.{widths, numbers_in, first_bad}

-- n bytes from place p on; past the end stand zeros
abbrev pub bytes_at : ℕ → ℕ → List ℕ → List ℕ
bytes_at zero p s = []
bytes_at (suc n) p s = get_or s p 0 ∷ bytes_at n (p + 1) s

-- "Reserved bytes of a set are ignored": what is kept of a data section, the bytes of its fields and zeros behind them
abbrev pub filled : Row → List ℕ → List ℕ
filled r d = bytes_at (sum (widths r)) 0 d ++ replicate r.reserved 0

-- the number, from 1, of the first field of a data section out of its range, or 0
unfoldable pub bad_in : Row → List ℕ → ℕ
bad_in r d = first_bad r (numbers_in r d)

abbrev pub all_zero : List ℕ → Bool
all_zero [] = true
all_zero (b ∷ bs) = eqb b 0 && all_zero bs

-- "every field lies in its range, the floats are finite", and (02, P10) "reserved bytes zero in a sound state"
unfoldable pub sound_in : Row → List ℕ → Bool
sound_in r d = eqb (bad_in r d) 0 && all_zero (bytes_at r.reserved (sum (widths r)) d)
