-- The public function's promise leaves one answer. Assumes nothing.
use mathlib.Core.Path.{sym, ◌∙◌}
use Rattle.promise.specs.Promise.{Leaves}
use Rattle.trace.proofs.read_record.Reads as read-record

pub read_record_one : Leaves read-record.Post (λ κs r s. r)
read_record_one κs a r r' s s' p q = p ∙ sym q
