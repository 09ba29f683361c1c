-- Each public function's promise leaves one answer. Assumes nothing.
use mathlib.Core.Path.{sym, ◌∙◌}
use Rattle.promise.specs.Promise.{Leaves}
use Rattle.orders.proofs.Order.at.Reads as order-at
use Rattle.orders.proofs.Order.number.Reads as order-number
use Rattle.orders.proofs.Order.steps.Reads as order-steps
use Rattle.orders.proofs.Order.microsteps.Reads as order-microsteps

pub order_at_one : Leaves order-at.Post (λ κs r s. r)
order_at_one κs a r r' s s' p q = p ∙ sym q

pub order_number_one : Leaves order-number.Post (λ κs r s. r)
order_number_one κs a r r' s s' p q = p ∙ sym q

pub order_steps_one : Leaves order-steps.Post (λ κs r s. r)
order_steps_one κs a r r' s s' p q = p ∙ sym q

pub order_microsteps_one : Leaves order-microsteps.Post (λ κs r s. r)
order_microsteps_one κs a r r' s s' p q = p ∙ sym q
