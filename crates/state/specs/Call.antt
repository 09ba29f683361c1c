-- What a call answers. In quotation marks: sheet 01, "One call".
use Rattle.std.specs.Prelude.{List, ℕ, Result, Ok, Err}
use Rattle.orders.specs.declared.Order.{Order}
use Rattle.orders.specs.declared.Order.TheVariants.{Nothing}
use Rattle.state.specs.declared.Board.{Board}
use Rattle.state.specs.declared.Rest.{Rest}
use Rattle.state.specs.declared.Done.{Done}
use Rattle.state.specs.declared.Refusal.{Refusal}
use Rattle.state.specs.Refused.{number_of}
use Rattle.state.specs.Parts.{board_at}

-- "It answers a number, the bytes taken, the reply bytes written, the order and the next state"
pub record Call : Type 0 where
  pub number : ℕ
  pub taken : ℕ
  pub written : ℕ
  pub order : Order
  pub board : Board

-- a call that is refused, on the board b: "0, 0, 0" and "unchanged"
abbrev pub refused_call : Board → Refusal → Call
refused_call b e = record { number = number_of e; taken = 0; written = 0; order = Nothing; board = b }

-- what the code answers to a call on the board b
abbrev pub call_in : Board → Result (Done Board) Refusal → Call
call_in b (Ok d) = record { number = 0; taken = d.taken; written = d.written; order = d.order; board = d.board }
call_in b (Err e) = refused_call b e

-- where the arrays are lent: an accepted call, and any call on that rest, with the arrays as it left them
abbrev pub call_at : List ℕ → List ℕ → Done Rest → Call
call_at table held d = record { number = 0; taken = d.taken; written = d.written; order = d.order; board = board_at table held d.board }

abbrev pub call_lent : List ℕ → List ℕ → Rest → Result (Done Rest) Refusal → Call
call_lent table held rest (Ok d) = call_at table held d
call_lent table held rest (Err e) = refused_call (board_at table held rest) e
