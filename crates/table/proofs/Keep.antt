-- The board's table: what was put into a block is got back, the other blocks keep what they hold, and it stays sound. Assumes nothing.
use mathlib.Core.Path.{◌≡◌, refl, ap, ◌∙◌}
use mathlib.Core.Bool.{Bool, true, false, cond}
use mathlib.Core.List.{List, [], ◌∷◌, ◌++◌, map}
use Prim.Native.Nat.{ℕ, ◌-◌, ◌≤◌, ◌<◌}
use native.Mathlib.Omega.{arith}
use lib.Dec.{eqb}
use lib.ListN.{length, get_or}
use borrow.Author.Tests.{eqb-true, eq-eqb}
use Rattle.wire.specs.Numbers.{le_bytes, le_at}
use Rattle.wire.specs.Layout.{sum, laid}
use Rattle.ranges.specs.Tests.{within, signed_within, finite, only_bits, first_false}
use Rattle.sheet.specs.Sheet.{Row, sheet}
use Rattle.sheet.specs.Rows.{size_of, row_at, widths, total, numbers_in, data_of, canonical, least}
use Rattle.sheet.specs.Sections.{filled, bad_in, sound_in}
use Rattle.sheet.proofs.Laws.{sent_again}
use Rattle.sheet.proofs.Sections.{both, bytes_low, filled_read, filled_canonical, sound_canonical}
use Rattle.table.specs.declared.Table.{Table}
use Rattle.table.specs.Places.{whole_of, place_in, section_in, good_in, fresh_in}
use Rattle.table.specs.Table.{data_at, numbers_at, put_at, Good, all_good, fresh_table}
use Rattle.table.proofs.Laws as laws
use Rattle.table.proofs.Good as good

pub sheet_once : laws.Once sheet
sheet_once = (refl, (refl, (refl, (refl, (refl, (refl, (refl, (refl, (refl, tt)))))))))

-- where the sections stand, and how long all of them are
pub places_are : map (λ (r : Row). place_in sheet r.number) sheet ≡ 0 ∷ 24 ∷ 52 ∷ 66 ∷ 86 ∷ 113 ∷ 132 ∷ 174 ∷ 261 ∷ []
places_are = refl

pub whole_is : whole_of sheet ≡ 277
whole_is = refl

-- ---- data sections

-- a data section is the frame without name and CRC
pub data_length : (t : Table) (k : ℕ) → length (data_at t k) ≡ total (row_at k) - 6
data_length t k = let l = laws.section_length sheet t.bytes k in omega arith

pub data_low : (t : Table) → ((i : ℕ) → get_or t.bytes i 0 < 256) → (k i : ℕ) → get_or (data_at t k) i 0 < 256
unfolding section_in
data_low t low k i = bytes_low (size_of (row_at k)) (place_in sheet k) t.bytes low i

-- of a sound table of bytes, a get sends the numbers of the fields, zeros in the reserved part
pub data_sent : (t : Table) → Good t → ((i : ℕ) → get_or t.bytes i 0 < 256) → (k : ℕ) → data_of (row_at k) (numbers_at t k) ≡ data_at t k
data_sent t g low k =
    let n = laws.section_length sheet t.bytes k in
    sent_again (row_at k) (data_at t k) (data_low t low k) (omega arith) ∙ sound_canonical (row_at k) (data_at t k) n (g.1 k)

-- "the blocks in number order .., each as its get sends it" (02, P10): the data sections of the rows' blocks, in their sequence
abbrev pub joined : List Row → Table → List ℕ
joined [] t = []
joined (r ∷ rs) t = data_at t r.number ++ joined rs t

-- THE TABLE IS THESE
pub table_joined : (t : Table) → length t.bytes ≡ whole_of sheet → joined sheet t ≡ t.bytes
unfolding section_in
table_joined t l = laws.sections_from_lem sheet 0 t.bytes (omega arith)

-- ---- a get after a set

-- of the same block: the data that came, zeros in the reserved part
pub get_same : (t : Table) (k : ℕ) (d : List ℕ) → sum (widths (row_at k)) ≤ length d → data_at (put_at t k d) k ≡ canonical (row_at k) d
get_same t k d l = laws.get_same sheet t.bytes k d ∙ filled_canonical (row_at k) d l

-- and so the numbers that came
pub put_same : (t : Table) (k : ℕ) (d : List ℕ) → numbers_at (put_at t k d) k ≡ numbers_in (row_at k) d
put_same t k d = ap (numbers_in (row_at k)) (laws.get_same sheet t.bytes k d) ∙ filled_read (row_at k) d

-- of another block: what it was
pub get_other : (t : Table) (j k : ℕ) (d : List ℕ) → (j ≡ k → ⊥) → data_at (put_at t k d) j ≡ data_at t j
get_other t j k d ne = laws.get_other sheet t.bytes j k d ne

-- of any block, its numbers
pub numbers_put : (t : Table) (k : ℕ) (d : List ℕ) (j : ℕ) → numbers_at (put_at t k d) j ≡ cond (eqb k j) (numbers_in (row_at j) d) (numbers_at t j)
numbers_put t k d j = ap (numbers_in (row_at j)) (laws.section_put sheet t.bytes k d j) ∙ by (eqb k j)
  where
    by : (b : Bool) → numbers_in (row_at j) (cond b (filled (row_at j) d) (data_at t j)) ≡ cond b (numbers_in (row_at j) d) (numbers_at t j)
    by true = filled_read (row_at j) d
    by false = refl

-- ---- soundness

pub all_good_lem : (t : Table) → all_good t ≡ true → Good t
all_good_lem t h =
    let b = both (eqb (length t.bytes) (whole_of sheet)) (good_in sheet t.bytes) h in
    (eqb-true (length t.bytes) (whole_of sheet) b.0, good.good_at sheet t.bytes b.1)

pub good_all : (t : Table) → Good t → all_good t ≡ true
good_all t g = rw (eq-eqb (length t.bytes) (whole_of sheet) g.0) (good.all_good_lem sheet t.bytes sheet_once g.1)

pub good_put : (t : Table) (k : ℕ) (d : List ℕ) → bad_in (row_at k) d ≡ 0 → Good t → Good (put_at t k d)
good_put t k d z g = (laws.put_length sheet t.bytes k d, good.put_sound sheet t.bytes k d z g.1)

fresh_good : good_in sheet (fresh_in sheet) ≡ true
unfolding good_in fresh_in sound_in bad_in laid le_bytes le_at least within signed_within finite only_bits first_false
fresh_good = refl

fresh_length : length (fresh_in sheet) ≡ whole_of sheet
unfolding fresh_in laid le_bytes
fresh_length = refl

pub good_fresh : Good fresh_table
good_fresh = (fresh_length, good.good_at sheet (fresh_in sheet) fresh_good)
