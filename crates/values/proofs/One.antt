-- Each public function's promise leaves one answer. Assumes nothing.
use lib.IntN.{ℤ}
use mathlib.Core.Path.{◌≡◌, sym, ◌∙◌}
use Rattle.promise.specs.Promise.{Leaves}
use Rattle.values.proofs.I16Bits.of_bits.Reads as i16-of
use Rattle.values.proofs.I32Bits.of_bits.Reads as i32-of
use Rattle.values.proofs.I64Bits.of_bits.Reads as i64-of
use Rattle.values.proofs.I16Bits.bits.Reads as u16-of
use Rattle.values.proofs.I32Bits.bits.Reads as u32-of
use Rattle.values.proofs.I64Bits.bits.Reads as u64-of
use Rattle.values.proofs.F32Bits.of_bits.Reads as f32-of
use Rattle.values.proofs.F32Bits.bits.Reads as bits-of
use Rattle.std.specs.contracts.prelude.I64FromI16.TheImpl as from16
use Rattle.std.specs.contracts.prelude.I64FromI32.TheImpl as from32

pub i16_of_one : Leaves i16-of.Post (λ κs r s. r)
i16_of_one κs a r r' s s' p q = p ∙ sym q

pub i32_of_one : Leaves i32-of.Post (λ κs r s. r)
i32_of_one κs a r r' s s' p q = p ∙ sym q

pub i64_of_one : Leaves i64-of.Post (λ κs r s. r)
i64_of_one κs a r r' s s' p q = p ∙ sym q

pub u16_of_one : Leaves u16-of.Post (λ κs r s. r)
u16_of_one κs a r r' s s' p q = p ∙ sym q

pub u32_of_one : Leaves u32-of.Post (λ κs r s. r)
u32_of_one κs a r r' s s' p q = p ∙ sym q

pub u64_of_one : Leaves u64-of.Post (λ κs r s. r)
u64_of_one κs a r r' s s' p q = p ∙ sym q

pub f32_of_one : Leaves f32-of.Post (λ κs r s. r)
f32_of_one κs a r r' s s' p q = p ∙ sym q

pub bits_of_one : Leaves bits-of.Post (λ κs r s. r)
bits_of_one κs a r r' s s' p q = p ∙ sym q

-- a narrower number at 64 bits is std's `i64::from`, by what it says that it gives
pub wide16_one : (z r r' : ℤ) → from16.ghosts.from_gives z r → from16.ghosts.from_gives z r' → r ≡ r'
wide16_one z r r' p q = p ∙ sym q

pub wide32_one : (z r r' : ℤ) → from32.ghosts.from_gives z r → from32.ghosts.from_gives z r' → r ≡ r'
wide32_one z r r' p q = p ∙ sym q
