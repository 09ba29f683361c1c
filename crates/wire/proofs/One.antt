-- Each public function's promise leaves one answer. Assumes nothing.
use mathlib.Core.Path.{sym, ◌∙◌}
use Rattle.promise.specs.Promise.{Leaves}
use Rattle.wire.proofs.U8Number.read.Reads as u8-at
use Rattle.wire.proofs.U16Number.read.Reads as u16-at
use Rattle.wire.proofs.U32Number.read.Reads as u32-at
use Rattle.wire.proofs.U64Number.read.Reads as u64-at
use Rattle.wire.proofs.I16Number.read.Reads as i16-at
use Rattle.wire.proofs.I32Number.read.Reads as i32-at
use Rattle.wire.proofs.I64Number.read.Reads as i64-at
use Rattle.wire.proofs.F32Number.read.Reads as f32-at
use Rattle.wire.proofs.U8Number.number.Reads as u8-number
use Rattle.wire.proofs.U16Number.number.Reads as u16-number
use Rattle.wire.proofs.U32Number.number.Reads as u32-number
use Rattle.wire.proofs.U64Number.number.Reads as u64-number
use Rattle.wire.proofs.I16Number.number.Reads as i16-number
use Rattle.wire.proofs.I32Number.number.Reads as i32-number
use Rattle.wire.proofs.I64Number.number.Reads as i64-number
use Rattle.wire.proofs.F32Number.number.Reads as f32-number
use Rattle.wire.proofs.put.Reads as put
use Rattle.wire.proofs.lay.Reads as lay
use Rattle.wire.proofs.copy.Reads as copy

pub u8_at_one : Leaves u8-at.Post (λ κs r s. r)
u8_at_one κs a r r' s s' p q = p ∙ sym q

pub u16_at_one : Leaves u16-at.Post (λ κs r s. r)
u16_at_one κs a r r' s s' p q = p ∙ sym q

pub u32_at_one : Leaves u32-at.Post (λ κs r s. r)
u32_at_one κs a r r' s s' p q = p ∙ sym q

pub u64_at_one : Leaves u64-at.Post (λ κs r s. r)
u64_at_one κs a r r' s s' p q = p ∙ sym q

pub i16_at_one : Leaves i16-at.Post (λ κs r s. r)
i16_at_one κs a r r' s s' p q = p ∙ sym q

pub i32_at_one : Leaves i32-at.Post (λ κs r s. r)
i32_at_one κs a r r' s s' p q = p ∙ sym q

pub i64_at_one : Leaves i64-at.Post (λ κs r s. r)
i64_at_one κs a r r' s s' p q = p ∙ sym q

pub f32_at_one : Leaves f32-at.Post (λ κs r s. r)
f32_at_one κs a r r' s s' p q = p ∙ sym q

pub u8_number_one : Leaves u8-number.Post (λ κs r s. r)
u8_number_one κs a r r' s s' p q = p ∙ sym q

pub u16_number_one : Leaves u16-number.Post (λ κs r s. r)
u16_number_one κs a r r' s s' p q = p ∙ sym q

pub u32_number_one : Leaves u32-number.Post (λ κs r s. r)
u32_number_one κs a r r' s s' p q = p ∙ sym q

pub u64_number_one : Leaves u64-number.Post (λ κs r s. r)
u64_number_one κs a r r' s s' p q = p ∙ sym q

pub i16_number_one : Leaves i16-number.Post (λ κs r s. r)
i16_number_one κs a r r' s s' p q = p ∙ sym q

pub i32_number_one : Leaves i32-number.Post (λ κs r s. r)
i32_number_one κs a r r' s s' p q = p ∙ sym q

pub i64_number_one : Leaves i64-number.Post (λ κs r s. r)
i64_number_one κs a r r' s s' p q = p ∙ sym q

pub f32_number_one : Leaves f32-number.Post (λ κs r s. r)
f32_number_one κs a r r' s s' p q = p ∙ sym q

pub put_one : Leaves put.Post (λ κs r s. s.0.now)
put_one κs a r r' s s' p q = p ∙ sym q

pub lay_one : Leaves lay.Post (λ κs r s. s.0.now)
lay_one κs a r r' s s' p q = p ∙ sym q

pub copy_one : Leaves copy.Post (λ κs r s. s.0.now)
copy_one κs a r r' s s' p q = p ∙ sym q
