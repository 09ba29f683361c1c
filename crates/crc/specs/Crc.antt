-- 01: "CRC: register starts at 0xFFFF; each byte is XORed in, then eight times: shift right by one, and if the bit shifted out was 1,
-- XOR 0xA001."
use Rattle.std.specs.Prelude.{cond, List, [], ◌∷◌, ℕ, zero, suc, ◌/◌, ◌%◌, eqb}
use Rattle.std.specs.Int.Bits.{bit_xor}

-- "shift right by one, and if the bit shifted out was 1, XOR 0xA001"
unfoldable pub crc_bit : ℕ → ℕ
crc_bit r = cond (eqb (r % 2) 1) (bit_xor (r / 2) 0xA001) (r / 2)

-- that, n times
unfoldable pub crc_bits : ℕ → ℕ → ℕ
crc_bits zero r = r
crc_bits (suc n) r = crc_bit (crc_bits n r)

-- "each byte is XORed in, then eight times"
unfoldable pub crc_byte : ℕ → ℕ → ℕ
crc_byte r b = crc_bits 8 (bit_xor r b)

-- the bytes, one after the other, from the register r on
unfoldable pub crc_from : ℕ → List ℕ → ℕ
crc_from r [] = r
crc_from r (b ∷ bs) = crc_from (crc_byte r b) bs

-- "register starts at 0xFFFF"
abbrev pub crc_of : List ℕ → ℕ
crc_of bs = crc_from 0xFFFF bs
