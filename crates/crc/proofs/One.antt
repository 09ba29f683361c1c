-- Each public function's promise leaves one answer. Assumes nothing.
use mathlib.Core.Path.{sym, ◌∙◌}
use Rattle.promise.specs.Promise.{Leaves}
use Rattle.crc.proofs.crc_from.Reads as crc-from
use Rattle.crc.proofs.crc.Reads as crc

pub crc_from_one : Leaves crc-from.Post (λ κs r s. r)
crc_from_one κs a r r' s s' p q = p ∙ sym q

pub crc_one : Leaves crc.Post (λ κs r s. r)
crc_one κs a r r' s s' p q = p ∙ sym q
