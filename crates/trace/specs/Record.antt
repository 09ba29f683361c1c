-- The record at the front of a part of a trace. 01, "The bench program": "before each record the two-byte mark 4C 4B; then stamp (4 bytes),
-- count (1 byte, 0 to 250), that many bytes".
use Rattle.std.specs.Prelude.{Bool, cond, not, ◌&&◌, List, ◌∷◌, ◌++◌, ℕ, ◌+◌, eqb, ltb, length, get_or, Result, Ok, Err}
use Rattle.wire.specs.Numbers.{le_at, le_bytes}
use Rattle.trace.specs.declared.Head.{Head}
use Rattle.trace.specs.declared.NoRecord.{NoRecord}
use Rattle.trace.specs.declared.NoRecord.TheVariants.{More, Bad}

-- "count (1 byte, 0 to 250)"
abbrev pub longest_record : ℕ
longest_record = 250

-- another byte than b stands at place k
unfoldable pub wrong_at : ℕ → ℕ → List ℕ → Bool
wrong_at k b s = ltb k (length s) && not (eqb (get_or s k 0) b)

-- the head behind the mark; past the end stand zeros
abbrev pub head_of : List ℕ → Head
head_of s = record { stamp = le_at 4 2 s; count = le_at 1 6 s }

-- "A wrong mark, a count over 250" is bad as soon as it is seen; a record that the part cuts may still come
unfoldable pub reading : List ℕ → Result Head NoRecord
reading s =
    cond (wrong_at 0 0x4c s) (Err Bad)
    (cond (wrong_at 1 0x4b s) (Err Bad)
    (cond (ltb longest_record (head_of s).count) (Err Bad)
    (cond (ltb (length s) (7 + (head_of s).count)) (Err More)
    (Ok (head_of s)))))

-- a record as it is written
unfoldable pub record_of : ℕ → List ℕ → List ℕ
record_of stamp bytes = 0x4c ∷ 0x4b ∷ (le_bytes 4 stamp ++ length bytes ∷ bytes)
