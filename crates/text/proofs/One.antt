-- Each public function's promise leaves one answer: the place behind the text and every byte of the buffer. Assumes nothing.
use mathlib.Core.Path.{sym, ◌∙◌}
use Rattle.promise.specs.Promise.{Leaves}
use Rattle.text.proofs.write_byte.Reads as write_byte
use Rattle.text.proofs.write_text.Reads as write-text
use Rattle.text.proofs.write_decimal.Reads as write-decimal
use Rattle.text.proofs.write_number.Reads as write-number
use Rattle.text.proofs.write_signed.Reads as write-signed
use Rattle.text.proofs.write_hex.Reads as write-hex
use Rattle.text.proofs.write_reply.Reads as write-reply

pub write_byte_one : Leaves write_byte.Post (λ κs r s. r)
write_byte_one κs a r r' s s' p q = p.behind ∙ sym q.behind

pub write_byte_bytes_one : Leaves write_byte.Post (λ κs r s. s.0.now)
write_byte_bytes_one κs a r r' s s' p q = p.bytes ∙ sym q.bytes

pub write_text_one : Leaves write-text.Post (λ κs r s. r)
write_text_one κs a r r' s s' p q = p.behind ∙ sym q.behind

pub write_text_bytes_one : Leaves write-text.Post (λ κs r s. s.0.now)
write_text_bytes_one κs a r r' s s' p q = p.bytes ∙ sym q.bytes

pub write_decimal_one : Leaves write-decimal.Post (λ κs r s. r)
write_decimal_one κs a r r' s s' p q = p.behind ∙ sym q.behind

pub write_decimal_bytes_one : Leaves write-decimal.Post (λ κs r s. s.0.now)
write_decimal_bytes_one κs a r r' s s' p q = p.bytes ∙ sym q.bytes

pub write_number_one : Leaves write-number.Post (λ κs r s. r)
write_number_one κs a r r' s s' p q = p.behind ∙ sym q.behind

pub write_number_bytes_one : Leaves write-number.Post (λ κs r s. s.0.now)
write_number_bytes_one κs a r r' s s' p q = p.bytes ∙ sym q.bytes

pub write_signed_one : Leaves write-signed.Post (λ κs r s. r)
write_signed_one κs a r r' s s' p q = p.behind ∙ sym q.behind

pub write_signed_bytes_one : Leaves write-signed.Post (λ κs r s. s.0.now)
write_signed_bytes_one κs a r r' s s' p q = p.bytes ∙ sym q.bytes

pub write_hex_one : Leaves write-hex.Post (λ κs r s. r)
write_hex_one κs a r r' s s' p q = p.behind ∙ sym q.behind

pub write_hex_bytes_one : Leaves write-hex.Post (λ κs r s. s.0.now)
write_hex_bytes_one κs a r r' s s' p q = p.bytes ∙ sym q.bytes

pub write_reply_one : Leaves write-reply.Post (λ κs r s. r)
write_reply_one κs a r r' s s' p q = p.behind ∙ sym q.behind

pub write_reply_bytes_one : Leaves write-reply.Post (λ κs r s. s.0.now)
write_reply_bytes_one κs a r r' s s' p q = p.bytes ∙ sym q.bytes
