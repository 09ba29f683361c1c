-- Each public function's promise leaves one answer. Assumes nothing.
use mathlib.Core.Path.{ap, sym, ◌∙◌}
use Rattle.promise.specs.Promise.{Leaves}
use Rattle.board.specs.Answer.{Left}
use Rattle.board.proofs.rivertosku_fresh_4.Reads as rivertosku-fresh
use Rattle.board.proofs.rivertosku_receive_4.Reads as rivertosku-receive
use Rattle.board.proofs.rivertosku_report_clock_4.Reads as rivertosku-report-clock
use Rattle.board.proofs.rivertosku_report_position_4.Reads as rivertosku-report-position
use Rattle.board.proofs.rivertosku_judge_4.Reads as rivertosku-judge
use Rattle.board.proofs.rivertosku_hand_out_4.Reads as rivertosku-hand-out
use Rattle.board.proofs.rivertosku_take_back_4.Reads as rivertosku-take-back

pub rivertosku_fresh_one : Leaves rivertosku-fresh.Post (λ κs r s. r)
rivertosku_fresh_one κs a r r' s s' p q = p ∙ sym q

-- the answer, and every byte of the lent arrays and of the lent buffer
pub rivertosku_receive_one : Leaves rivertosku-receive.Post (λ κs r s. r)
rivertosku_receive_one κs a r r' s s' p q = ap (λ (x : Left). x.answer) (p.result ∙ sym q.result)

pub rivertosku_receive_table_one : Leaves rivertosku-receive.Post (λ κs r s. s.0.now)
rivertosku_receive_table_one κs a r r' s s' p q = ap (λ (x : Left). x.board.memory.settings.bytes) (p.result ∙ sym q.result)

pub rivertosku_receive_held_one : Leaves rivertosku-receive.Post (λ κs r s. s.1.0.now)
rivertosku_receive_held_one κs a r r' s s' p q = ap (λ (x : Left). x.board.held) (p.result ∙ sym q.result)

pub rivertosku_receive_bytes_one : Leaves rivertosku-receive.Post (λ κs r s. s.1.1.1.1.1.0.now)
rivertosku_receive_bytes_one κs a r r' s s' p q = p.reply ∙ sym q.reply

pub rivertosku_report_clock_one : Leaves rivertosku-report-clock.Post (λ κs r s. r)
rivertosku_report_clock_one κs a r r' s s' p q = p ∙ sym q

pub rivertosku_report_position_one : Leaves rivertosku-report-position.Post (λ κs r s. r)
rivertosku_report_position_one κs a r r' s s' p q = p ∙ sym q

pub rivertosku_judge_one : Leaves rivertosku-judge.Post (λ κs r s. r)
rivertosku_judge_one κs a r r' s s' p q = p ∙ sym q

pub rivertosku_hand_out_one : Leaves rivertosku-hand-out.Post (λ κs r s. r)
rivertosku_hand_out_one κs a r r' s s' p q = p.0 ∙ sym q.0

pub rivertosku_hand_out_bytes_one : Leaves rivertosku-hand-out.Post (λ κs r s. s.1.0.now)
rivertosku_hand_out_bytes_one κs a r r' s s' p q = p.1 ∙ sym q.1

pub rivertosku_take_back_one : Leaves rivertosku-take-back.Post (λ κs r s. r)
rivertosku_take_back_one κs a r r' s s' p q = p ∙ sym q
