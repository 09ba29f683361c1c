-- Each public function's promise leaves one answer. Assumes nothing.
use mathlib.Core.Path.{sym, ◌∙◌}
use mathlib.Core.List.{[]}
use Rattle.promise.specs.Promise.{Leaves}
use Rattle.unit.proofs.Sets.{judged_as}
use Rattle.travel.proofs.moves.answer_move.Reads as answer-move
use Rattle.travel.proofs.places.answer_spos.Reads as answer-spos
use Rattle.travel.proofs.places.answer_gpos.Reads as answer-gpos
use Rattle.travel.proofs.places.answer_zero.Reads as answer-zero

pub answer_move_one : Leaves answer-move.Post (λ κs r s. r)
answer_move_one κs a r r' s s' p q = judged_as ((p []).result ∙ sym (q []).result)

pub answer_move_bytes_one : Leaves answer-move.Post (λ κs r s. s.1.1.1.0.now)
answer_move_bytes_one κs a r r' s s' p q = (p []).reply ∙ sym (q []).reply

pub answer_spos_one : Leaves answer-spos.Post (λ κs r s. r)
answer_spos_one κs a r r' s s' p q = judged_as ((p []).result ∙ sym (q []).result)

pub answer_spos_bytes_one : Leaves answer-spos.Post (λ κs r s. s.1.1.0.now)
answer_spos_bytes_one κs a r r' s s' p q = (p []).reply ∙ sym (q []).reply

pub answer_gpos_one : Leaves answer-gpos.Post (λ κs r s. r)
answer_gpos_one κs a r r' s s' p q = judged_as ((p []).result ∙ sym (q []).result)

pub answer_gpos_bytes_one : Leaves answer-gpos.Post (λ κs r s. s.1.1.0.now)
answer_gpos_bytes_one κs a r r' s s' p q = (p []).reply ∙ sym (q []).reply

pub answer_zero_one : Leaves answer-zero.Post (λ κs r s. r)
answer_zero_one κs a r r' s s' p q = judged_as ((p []).result ∙ sym (q []).result)

pub answer_zero_bytes_one : Leaves answer-zero.Post (λ κs r s. s.1.1.0.now)
answer_zero_bytes_one κs a r r' s s' p q = (p []).reply ∙ sym (q []).reply
