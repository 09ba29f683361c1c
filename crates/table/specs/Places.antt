-- A table of any rows: their data sections one behind the other, in the sequence of the rows. "the blocks in number order .., each as its get sends it
-- without name and CRC" (02, P10). A block that joins is a row more.
use Rattle.std.specs.Prelude.{Bool, true, cond, ◌&&◌, List, [], ◌∷◌, ◌++◌, ℕ, ◌+◌, eqb}
use Rattle.wire.specs.Layout.{sum}
use Rattle.sheet.specs.Sheet.{Row}
use Rattle.sheet.specs.Rows.{size_of, row_in, widths, data_of, fresh}
use Rattle.sheet.specs.Sections.{bytes_at, filled, sound_in}
use Rattle.table.specs.declared.Spot.{Spot}

-- how long it is
abbrev pub whole_of : List Row → ℕ
whole_of [] = 0
whole_of (r ∷ rs) = size_of r + whole_of rs

-- where the section of block k stands: behind those of the rows before it
abbrev pub place_in : List Row → ℕ → ℕ
place_in [] k = 0
place_in (r ∷ rs) k = cond (eqb k r.number) 0 (size_of r + place_in rs k)

abbrev pub spot_in : List Row → ℕ → Spot
spot_in rs k = record { place = place_in rs k; fields = sum (widths (row_in rs k)); reserved = (row_in rs k).reserved }

-- the section of block k
unfoldable pub section_in : List Row → List ℕ → ℕ → List ℕ
section_in rs t k = bytes_at (size_of (row_in rs k)) (place_in rs k) t

-- the table with a data section put into block k: section by section, that of block k anew, the others as they stand from place p on
abbrev pub put_from : List Row → ℕ → List ℕ → ℕ → List ℕ → List ℕ
put_from [] p t k d = []
put_from (r ∷ rs) p t k d = cond (eqb k r.number) (filled r d) (bytes_at (size_of r) p t) ++ put_from rs (p + size_of r) t k d

unfoldable pub put_in : List Row → List ℕ → ℕ → List ℕ → List ℕ
put_in rs t k d = put_from rs 0 t k d

-- every section is sound
abbrev pub good_from : List Row → ℕ → List ℕ → Bool
good_from [] p t = true
good_from (r ∷ rs) p t = sound_in r (bytes_at (size_of r) p t) && good_from rs (p + size_of r) t

unfoldable pub good_in : List Row → List ℕ → Bool
good_in rs t = good_from rs 0 t

-- "On a fresh board every field is 0, or the smallest allowed value"
unfoldable pub fresh_in : List Row → List ℕ
fresh_in [] = []
fresh_in (r ∷ rs) = data_of r (fresh r) ++ fresh_in rs
