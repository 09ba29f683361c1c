-- Each public function's promise leaves one answer. Assumes nothing.
use mathlib.Core.Path.{sym, ◌∙◌}
use Rattle.promise.specs.Promise.{Leaves}
use Rattle.blocks.proofs.Blocks.fields_at.Reads as fields_at
use Rattle.blocks.proofs.Blocks.fresh.Reads as fresh
use Rattle.blocks.proofs.Blocks.with_fields.Reads as with-fields

pub fields_at_one : Leaves fields_at.Post (λ κs r s. r)
fields_at_one κs a r r' s s' p q = p ∙ sym q

pub fresh_one : Leaves fresh.Post (λ κs r s. r)
fresh_one κs a r r' s s' p q = p ∙ sym q

pub with_fields_one : Leaves with-fields.Post (λ κs r s. r)
with_fields_one κs a r r' s s' p q = p ∙ sym q
