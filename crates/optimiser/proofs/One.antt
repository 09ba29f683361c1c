-- Each public function's promise leaves one answer. Assumes nothing.
use mathlib.Core.Path.{sym, ◌∙◌}
use Rattle.promise.specs.Promise.{Leaves}
use Rattle.optimiser.proofs.rivertosku_write_get_1.Reads as rivertosku-write-get
use Rattle.optimiser.proofs.rivertosku_write_set_1.Reads as rivertosku-write-set
use Rattle.optimiser.proofs.rivertosku_write_order_1.Reads as rivertosku-write-order
use Rattle.optimiser.proofs.rivertosku_read_1.Reads as rivertosku-read

-- of a writer: the answer, and every byte of the lent buffer

pub rivertosku_write_get_one : Leaves rivertosku-write-get.Post (λ κs r s. r)
rivertosku_write_get_one κs a r r' s s' p q = p.answer ∙ sym q.answer

pub rivertosku_write_get_bytes_one : Leaves rivertosku-write-get.Post (λ κs r s. s.1.0.now)
rivertosku_write_get_bytes_one κs a r r' s s' p q = p.buffer ∙ sym q.buffer

pub rivertosku_write_set_one : Leaves rivertosku-write-set.Post (λ κs r s. r)
rivertosku_write_set_one κs a r r' s s' p q = p.answer ∙ sym q.answer

pub rivertosku_write_set_bytes_one : Leaves rivertosku-write-set.Post (λ κs r s. s.1.1.0.now)
rivertosku_write_set_bytes_one κs a r r' s s' p q = p.buffer ∙ sym q.buffer

pub rivertosku_write_order_one : Leaves rivertosku-write-order.Post (λ κs r s. r)
rivertosku_write_order_one κs a r r' s s' p q = p.answer ∙ sym q.answer

pub rivertosku_write_order_bytes_one : Leaves rivertosku-write-order.Post (λ κs r s. s.1.0.now)
rivertosku_write_order_bytes_one κs a r r' s s' p q = p.buffer ∙ sym q.buffer

-- ---- reading

pub rivertosku_read_one : Leaves rivertosku-read.Post (λ κs r s. r)
rivertosku_read_one κs a r r' s s' p q = p ∙ sym q
