-- Each public function's promise leaves one answer. Assumes nothing.
use mathlib.Core.Path.{sym, ◌∙◌}
use Rattle.promise.specs.Promise.{Leaves}
use Rattle.fields.proofs.Fields.block.Reads as block
use Rattle.fields.proofs.Fields.first_bad.Reads as first-bad
use Rattle.fields.proofs.Fields.encode.Reads as encode
use Rattle.fields.proofs.Fields.decode.Reads as decode

pub block_of_one : Leaves block.Post (λ κs r s. r)
block_of_one κs a r r' s s' p q = p ∙ sym q

pub first_bad_one : Leaves first-bad.Post (λ κs r s. r)
first_bad_one κs a r r' s s' p q = p ∙ sym q

pub encode_one : Leaves encode.Post (λ κs r s. s.1.0.now)
encode_one κs a r r' s s' p q = p ∙ sym q

pub decode_one : Leaves decode.Post (λ κs r s. r)
decode_one κs a r r' s s' p q = p ∙ sym q
