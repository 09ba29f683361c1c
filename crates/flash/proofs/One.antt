-- Each public function's promise leaves one answer. Assumes nothing.
use mathlib.Core.Path.{sym, ◌∙◌}
use Rattle.promise.specs.Promise.{Leaves}
use Rattle.unit.specs.Protocol.{fresh_state}
use Rattle.state.specs.State.{board_of}
use Rattle.state.proofs.Refused.{given_as, report_as}
use Rattle.flash.proofs.hand_out.Reads as hand-out
use Rattle.flash.proofs.take_back.Reads as take_back

pub hand_out_one : Leaves hand-out.Post (λ κs r s. r)
hand_out_one κs a r r' s s' p q = given_as r r' (p.0 ∙ sym q.0)

pub hand_out_bytes_one : Leaves hand-out.Post (λ κs r s. s.1.0.now)
hand_out_bytes_one κs a r r' s s' p q = p.1 ∙ sym q.1

pub take_back_one : Leaves take_back.Post (λ κs r s. r)
take_back_one κs a r r' s s' p q = report_as (board_of fresh_state) r r' (p ∙ sym q)
