-- The public function's promise leaves one answer. Assumes nothing.
use mathlib.Core.Path.{sym, ap, ◌∙◌}
use Rattle.promise.specs.Promise.{Leaves}
use Rattle.unit.specs.Unit.{Outcome}
use Rattle.unit.proofs.Sets.{judged_as}
use Rattle.act.proofs.answer.Reads as answer

-- the answer, and every byte of the lent table and of the lent buffer
pub answer_one : Leaves answer.Post (λ κs r s. r)
answer_one κs a r r' s s' p q = judged_as (p.result ∙ sym q.result)

pub answer_table_one : Leaves answer.Post (λ κs r s. s.0.now)
answer_table_one κs a r r' s s' p q = ap (λ (o : Outcome). o.memory.settings.bytes) (p.result ∙ sym q.result)

pub answer_bytes_one : Leaves answer.Post (λ κs r s. s.1.1.1.1.0.now)
answer_bytes_one κs a r r' s s' p q = p.reply ∙ sym q.reply
