-- Each public function's promise leaves one answer. Assumes nothing.
use mathlib.Core.Path.{sym, ◌∙◌}
use Rattle.promise.specs.Promise.{Leaves}
use Rattle.state.proofs.Refused.{verdict_as}
use Rattle.state.proofs.U8FromRefusal.from.Reads as number
use Rattle.state.proofs.number_in.Reads as number-in
use Rattle.state.proofs.Board.rest.Reads as rest_of
use Rattle.state.proofs.Board.joined.Reads as joined
use Rattle.state.proofs.judge_parts.Reads as judge-parts
use Rattle.state.proofs.Board.judge.Reads as judge
use Rattle.state.proofs.Board.idle.Reads as idle
use Rattle.state.proofs.Board.fresh.Reads as fresh

pub number_one : Leaves number.Post (λ κs r s. r)
number_one κs a r r' s s' p q = p ∙ sym q

pub rest_of_one : Leaves rest_of.Post (λ κs r s. r)
rest_of_one κs a r r' s s' p q = p ∙ sym q

pub joined_one : Leaves joined.Post (λ κs r s. r)
joined_one κs a r r' s s' p q = p ∙ sym q

pub judge_parts_one : Leaves judge-parts.Post (λ κs r s. r)
judge_parts_one κs a r r' s s' p q = verdict_as r r' (p ∙ sym q)

pub judge_one : Leaves judge.Post (λ κs r s. r)
judge_one κs a r r' s s' p q = verdict_as r r' (p ∙ sym q)

pub idle_one : Leaves idle.Post (λ κs r s. r)
idle_one κs a r r' s s' p q = p ∙ sym q

pub fresh_one : Leaves fresh.Post (λ κs r s. r)
fresh_one κs a r r' s s' p q = p ∙ sym q

-- T, with what the function's bounds say of it
module _ (T : _) (T-laws : _) where
  pub number_in_one : Leaves (number-in.Post T T-laws) (λ κs r s. r)
  number_in_one κs a r r' s s' p q = p ∙ sym q
