-- The promise of `receive_lent` leaves one answer; of `receive` the rest stands with the demands. Assumes nothing.
use mathlib.Core.Path.{sym, ap, ◌∙◌}
use Rattle.promise.specs.Promise.{Leaves}
use Rattle.state.specs.Call.{Call}
use Rattle.state.proofs.Refused.{call_as, lent_as, lent_table, lent_held}
use Rattle.receiver.proofs.receive_lent.Reads as receive-lent
use Rattle.receiver.proofs.receive.Reads as receive

-- the answer, and every byte of the lent arrays and of the lent buffer
pub receive_lent_one : Leaves receive-lent.Post (λ κs r s. r)
receive_lent_one κs a r r' s s' p q = lent_as s.0.now s'.0.now s.1.0.now s'.1.0.now a.1.1.0 r r' (p.result ∙ sym q.result)

pub receive_lent_table_one : Leaves receive-lent.Post (λ κs r s. s.0.now)
receive_lent_table_one κs a r r' s s' p q =
    sym (lent_table s.0.now s.1.0.now a.1.1.0 r) ∙ ap (λ (c : Call). c.board.memory.settings.bytes) (p.result ∙ sym q.result) ∙ lent_table s'.0.now s'.1.0.now a.1.1.0 r'

pub receive_lent_held_one : Leaves receive-lent.Post (λ κs r s. s.1.0.now)
receive_lent_held_one κs a r r' s s' p q =
    sym (lent_held s.0.now s.1.0.now a.1.1.0 r) ∙ ap (λ (c : Call). c.board.held) (p.result ∙ sym q.result) ∙ lent_held s'.0.now s'.1.0.now a.1.1.0 r'

pub receive_lent_bytes_one : Leaves receive-lent.Post (λ κs r s. s.1.1.1.1.1.0.now)
receive_lent_bytes_one κs a r r' s s' p q = p.reply ∙ sym q.reply

pub receive_answer_one : Leaves receive.Post (λ κs r s. r)
receive_answer_one κs a r r' s s' p q = call_as a.0 r r' (p.result ∙ sym q.result)
