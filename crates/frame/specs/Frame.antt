-- A data section in its frame. In quotation marks: sheet 01, "The board and its wire".
use Rattle.std.specs.Prelude.{Bool, false, cond, List, ◌++◌, ℕ, ◌-◌, eqb, ltb, length, take, drop}
use Rattle.crc.specs.Crc.{crc_of}
use Rattle.wire.specs.Numbers.{le_at, le_bytes}

-- "A command is a 4-byte identifier"; "A set carries data and a 2-byte CRC", and so does a get's answer
abbrev pub framed : ℕ → List ℕ → List ℕ
framed name d = le_bytes 4 name ++ (d ++ le_bytes 2 (crc_of d))

-- "It covers the data section only, which starts after the fourth byte of the frame and stops before the CRC."
abbrev pub data_in : List ℕ → List ℕ
data_in u = take (length u - 6) (drop 4 u)

-- the CRC stands in the last two bytes, low byte first
abbrev pub crc_in : List ℕ → ℕ
crc_in u = le_at 2 (length u - 2) u

unfoldable pub intact : List ℕ → Bool
intact u = cond (ltb (length u) 6) false (eqb (crc_of (data_in u)) (crc_in u))
