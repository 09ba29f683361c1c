-- 02, P4, of every register and every byte: the eight steps at once. Behind what Parity computes, in a file of its own, so that a wrong constant
-- there is refused for what it computes. Assumes nothing.
use mathlib.Core.Path.{◌≡◌, sym, ap, ◌∙◌}
use Prim.Native.Nat.{ℕ, ◌/◌, ◌%◌, ◌<◌}
use native.Mathlib.Omega.{arith}
use lib.Bits.{bit_xor}
use lib.Dec.{eqb→eq}
use Rattle.crc.specs.Crc.{crc_bits, crc_byte}
use Rattle.crc.proofs.Parity.{at_once, at_once_over, byte_over, agrees, computed, each}

-- for every register and every byte
pub byte_at_once : (r b : ℕ) → b < 256 → at_once (r / 256) (bit_xor r b % 256) ≡ crc_byte r b
byte_at_once r b h =
    let x = bit_xor r b % 256 in
    let same : crc_bits 8 x ≡ at_once 0 x = eqb→eq _ _ (each agrees 256 computed x (omega arith)) in
    at_once_over (r / 256) x ∙ ap (bit_xor (r / 256)) (sym same) ∙ sym (byte_over r b h)
