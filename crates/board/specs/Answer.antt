-- What a call leaves for C and Rust: `receive_lent`'s own answer, with the order's number and values.
use Rattle.std.specs.Prelude.{List, ℕ, length}
use Rattle.rule.specs.Calls.{call}
use Rattle.orders.specs.Orders.{order_number, order_travel}
use Rattle.unit.specs.Protocol.{protocol}
use Rattle.state.specs.State.{state_of}
use Rattle.state.specs.Parts.{board_at, rest_of}
use Rattle.state.specs.Sound.{refusal_of}
use Rattle.state.specs.Returned.{Returned}
use Rattle.state.specs.declared.Board.{Board}
use Rattle.state.specs.Call.{Call}
use Rattle.receiver.specs.Receive.{answer}
use Rattle.board.specs.declared.Answer.{Answer}

-- the flat answer, and the board that the lent arrays then make with its rest
pub record Left : Type 0 where
  pub answer : Answer
  pub board : Board

abbrev pub left_in : List ℕ → List ℕ → Answer → Left
left_in table held r = record { answer = r; board = board_at table held r.rest }

abbrev pub flat : Call → Left
flat c =
    let travel = order_travel c.order in
    record {
      answer =
          record {
            number = c.number;
            order = order_number c.order;
            steps = travel.steps;
            microsteps = travel.microsteps;
            taken = c.taken;
            written = c.written;
            rest = rest_of c.board;
          };
      board = c.board;
    }

-- THE PROMISE of a call on the board b, with the reply buffer before and after
abbrev pub Answered : Board → ℕ → List ℕ → List ℕ → Left → List ℕ → Type 0
Answered b stamp piece before left after = Returned (λ c. flat (answer b c)) (call protocol (refusal_of b) (state_of b) stamp (length before) piece) before left after
