-- Each public function's promise leaves one answer: the count and every byte of the buffer. Assumes nothing.
use mathlib.Core.Path.{sym, ◌∙◌}
use Rattle.promise.specs.Promise.{Leaves}
use Rattle.lines.proofs.write_order.Reads as write-order
use Rattle.lines.proofs.write_line.Reads as write-line
use Rattle.lines.proofs.write_bad.Reads as write-bad
use Rattle.lines.proofs.write_end.Reads as write-end

pub write_order_one : Leaves write-order.Post (λ κs r s. r)
write_order_one κs a r r' s s' p q = p.behind ∙ sym q.behind

pub write_order_bytes_one : Leaves write-order.Post (λ κs r s. s.0.now)
write_order_bytes_one κs a r r' s s' p q = p.bytes ∙ sym q.bytes

pub write_line_one : Leaves write-line.Post (λ κs r s. r)
write_line_one κs a r r' s s' p q = p.behind ∙ sym q.behind

pub write_line_bytes_one : Leaves write-line.Post (λ κs r s. s.0.now)
write_line_bytes_one κs a r r' s s' p q = p.bytes ∙ sym q.bytes

pub write_bad_one : Leaves write-bad.Post (λ κs r s. r)
write_bad_one κs a r r' s s' p q = p.behind ∙ sym q.behind

pub write_bad_bytes_one : Leaves write-bad.Post (λ κs r s. s.0.now)
write_bad_bytes_one κs a r r' s s' p q = p.bytes ∙ sym q.bytes

pub write_end_one : Leaves write-end.Post (λ κs r s. r)
write_end_one κs a r r' s s' p q = p.behind ∙ sym q.behind

pub write_end_bytes_one : Leaves write-end.Post (λ κs r s. s.0.now)
write_end_bytes_one κs a r r' s s' p q = p.bytes ∙ sym q.bytes
