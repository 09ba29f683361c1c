-- The board's table, by block number: that of the sheet's rows.
use Rattle.std.specs.Prelude.{Bool, true, ◌&&◌, List, ◌≡◌, ℕ, eqb, length}
use Rattle.sheet.specs.Sheet.{sheet}
use Rattle.sheet.specs.Rows.{row_at, numbers_in}
use Rattle.sheet.specs.Sections.{sound_in}
use Rattle.table.specs.declared.Table.{Table}
use Rattle.table.specs.Places.{whole_of, section_in, put_in, good_in, fresh_in}

-- the data section of block k, as its get sends it
abbrev pub data_at : Table → ℕ → List ℕ
data_at t k = section_in sheet t.bytes k

-- the numbers of its fields, in a table of whatever length
abbrev pub numbers_of : List ℕ → ℕ → List ℕ
numbers_of t k = numbers_in (row_at k) (section_in sheet t k)

abbrev pub numbers_at : Table → ℕ → List ℕ
numbers_at t k = numbers_of t.bytes k

-- "all fields are stored": the table with a data section put into block k
abbrev pub put_at : Table → ℕ → List ℕ → Table
put_at t k d = record { bytes = put_in sheet t.bytes k d }

-- it is as long as its sections, and each of them is sound
abbrev pub Good : Table → Type 0
Good t = (length t.bytes ≡ whole_of sheet) × ((k : ℕ) → sound_in (row_at k) (data_at t k) ≡ true)

-- the same as a test
abbrev pub all_good : Table → Bool
all_good t = eqb (length t.bytes) (whole_of sheet) && good_in sheet t.bytes

abbrev pub fresh_table : Table
fresh_table = record { bytes = fresh_in sheet }
