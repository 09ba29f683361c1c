-- Laws of the checksum. Assumes nothing.
use mathlib.Core.Path.{◌≡◌, refl}
use mathlib.Core.Bool.{Bool, true, false, cond}
use mathlib.Core.List.{List, [], ◌∷◌, ◌++◌}
use Prim.Native.Nat.{ℕ, zero, suc, ◌+◌, ◌/◌, ◌%◌, ◌^◌, ◌≤◌, ◌<◌}
use native.Mathlib.Numerals.{add-one}
use native.Mathlib.Omega.{arith}
use lib.Bits.{bit_xor, xor_lt}
use lib.Dec.{eqb}
use lib.ListN.{length, drop, get_or, drop_of_length-le}
use lib.Seq.{drop-cons}
use Rattle.crc.specs.Crc.{crc_bit, crc_bits, crc_byte, crc_from, crc_of}

-- two parts one after the other give what the joined part gives
pub crc_append : (r : ℕ) (a b : List ℕ) → crc_from r (a ++ b) ≡ crc_from (crc_from r a) b
unfolding crc_from
crc_append r [] b = refl
crc_append r (x ∷ a) b = crc_append (crc_byte r x) a b

-- a loop over a part: one byte more, and none left
pub crc_more : (r : ℕ) (l : List ℕ) (i : ℕ) → i < length l → crc_from (crc_byte r (get_or l i 0)) (drop (i + 1) l) ≡ crc_from r (drop i l)
unfolding crc_from
crc_more r l i h = rw (add-one, drop-cons l i 0)

pub crc_ended : (r : ℕ) (l : List ℕ) (i : ℕ) → length l ≤ i → crc_from r (drop i l) ≡ r
unfolding crc_from
crc_ended r l i h = rw drop_of_length-le

-- ---- a register has 16 bits

bit_lt : (r : ℕ) → r < 2 ^ 16 → crc_bit r < 2 ^ 16
unfolding crc_bit
bit_lt r h = by (eqb (r % 2) 1)
  where
    by : (b : Bool) → cond b (bit_xor (r / 2) 0xA001) (r / 2) < 2 ^ 16
    by true = xor_lt 16 (r / 2) 0xA001 (omega arith) (omega arith)
    by false = omega arith

bits_lt : (n r : ℕ) → r < 2 ^ 16 → crc_bits n r < 2 ^ 16
unfolding crc_bits
bits_lt zero r h = h
bits_lt (suc n) r h = bit_lt (crc_bits n r) (bits_lt n r h)

pub byte_lt : (r b : ℕ) → r < 2 ^ 16 → b < 256 → crc_byte r b < 2 ^ 16
unfolding crc_byte
byte_lt r b h low = bits_lt 8 (bit_xor r b) (xor_lt 16 r b h (omega arith))

from_lt : (bs : List ℕ) (r : ℕ) → r < 2 ^ 16 → ((i : ℕ) → get_or bs i 0 < 256) → crc_from r bs < 2 ^ 16
unfolding crc_from
from_lt [] r h low = h
from_lt (b ∷ bs) r h low = from_lt bs (crc_byte r b) (byte_lt r b h (low 0)) (λ i. low (suc i))

pub crc_lt : (bs : List ℕ) → ((i : ℕ) → get_or bs i 0 < 256) → crc_of bs < 2 ^ 16
crc_lt bs low = from_lt bs 0xFFFF (omega arith) low
