-- Each public function's promise leaves one answer. Assumes nothing.
use mathlib.Core.Path.{sym, ◌∙◌}
use Rattle.promise.specs.Promise.{Leaves}
use Rattle.pwr.proofs.PwrBlock.head.Reads as head
use Rattle.pwr.proofs.PwrSection.decode.Reads as decode
use Rattle.pwr.proofs.Pwr.numbers.Reads as numbers
use Rattle.pwr.proofs.PwrBlock.encode.Reads as encode
use Rattle.pwr.proofs.PwrSection.first_bad.Reads as first-bad
use Rattle.pwr.proofs.PwrBlock.is_sound.Reads as is-sound
use Rattle.pwr.proofs.PwrBlock.fresh.Reads as fresh

pub head_one : Leaves head.Post (λ κs r s. r)
head_one κs a r r' s s' p q = p ∙ sym q

pub decode_one : Leaves decode.Post (λ κs r s. r)
decode_one κs a r r' s s' p q = p ∙ sym q

pub numbers_one : Leaves numbers.Post (λ κs r s. r)
numbers_one κs a r r' s s' p q = p ∙ sym q

pub encode_one : Leaves encode.Post (λ κs r s. s.1.0.now)
encode_one κs a r r' s s' p q = p ∙ sym q

pub first_bad_one : Leaves first-bad.Post (λ κs r s. r)
first_bad_one κs a r r' s s' p q = p ∙ sym q

pub is_sound_one : Leaves is-sound.Post (λ κs r s. r)
is_sound_one κs a r r' s s' p q = p ∙ sym q

pub fresh_one : Leaves fresh.Post (λ κs r s. r)
fresh_one κs a r r' s s' p q = p ∙ sym q
