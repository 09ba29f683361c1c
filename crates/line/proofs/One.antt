-- The public function's promise leaves one answer. Assumes nothing.
use mathlib.Core.Path.{sym, ap, ◌∙◌}
use Rattle.promise.specs.Promise.{Leaves}
use Rattle.state.specs.Call.{Call}
use Rattle.state.proofs.Refused.{done_as}
use Rattle.line.proofs.take_units.Reads as take-units

-- the answer, and every byte of the lent arrays and of the lent buffer
pub take_units_one : Leaves take-units.Post (λ κs r s. r)
take_units_one κs a r r' s s' p q = done_as (p.result ∙ sym q.result)

pub take_units_table_one : Leaves take-units.Post (λ κs r s. s.0.now)
take_units_table_one κs a r r' s s' p q = ap (λ (c : Call). c.board.memory.settings.bytes) (p.result ∙ sym q.result)

pub take_units_held_one : Leaves take-units.Post (λ κs r s. s.1.0.now)
take_units_held_one κs a r r' s s' p q = ap (λ (c : Call). c.board.held) (p.result ∙ sym q.result)

pub take_units_bytes_one : Leaves take-units.Post (λ κs r s. s.1.1.1.1.1.0.now)
take_units_bytes_one κs a r r' s s' p q = p.reply ∙ sym q.reply
