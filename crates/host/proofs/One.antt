-- Each public function's promise leaves one answer. Assumes nothing.
use mathlib.Core.Path.{sym, ◌∙◌}
use Rattle.promise.specs.Promise.{Leaves}
use Rattle.host.proofs.Block.head.Reads as Block-head
use Rattle.host.proofs.U8FromBlock.from.Reads as U8FromBlock-from
use Rattle.host.proofs.Block.at.Reads as Block-at
use Rattle.host.proofs.Block.set_named.Reads as Block-set_named
use Rattle.host.proofs.Block.get_named.Reads as Block-get_named
use Rattle.host.proofs.Order.name.Reads as Order-name
use Rattle.host.proofs.U8FromOrder.from.Reads as U8FromOrder-from
use Rattle.host.proofs.Order.at.Reads as Order-at
use Rattle.host.proofs.Order.named.Reads as Order-named

pub head_of_one : Leaves Block-head.Post (λ κs r s. r)
head_of_one κs a r r' s s' p q = p ∙ sym q

pub block_number_one : Leaves U8FromBlock-from.Post (λ κs r s. r)
block_number_one κs a r r' s s' p q = p ∙ sym q

pub block_at_one : Leaves Block-at.Post (λ κs r s. r)
block_at_one κs a r r' s s' p q = p ∙ sym q

pub set_named_one : Leaves Block-set_named.Post (λ κs r s. r)
set_named_one κs a r r' s s' p q = p ∙ sym q

pub get_named_one : Leaves Block-get_named.Post (λ κs r s. r)
get_named_one κs a r r' s s' p q = p ∙ sym q

pub order_name_one : Leaves Order-name.Post (λ κs r s. r)
order_name_one κs a r r' s s' p q = p ∙ sym q

pub order_number_one : Leaves U8FromOrder-from.Post (λ κs r s. r)
order_number_one κs a r r' s s' p q = p ∙ sym q

pub order_at_one : Leaves Order-at.Post (λ κs r s. r)
order_at_one κs a r r' s s' p q = p ∙ sym q

pub order_named_one : Leaves Order-named.Post (λ κs r s. r)
order_named_one κs a r r' s s' p q = p ∙ sym q
