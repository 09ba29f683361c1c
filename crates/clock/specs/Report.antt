-- What a report of the time promises. In quotation marks: sheet 02, P3.
use Rattle.std.specs.Prelude.{ℕ, cond, ◌==◌}
use Rattle.state.specs.State.{state_of, board_of}
use Rattle.state.specs.Sound.{refusal_of}
use Rattle.state.specs.declared.Board.{Board}
use Rattle.clock.specs.Clock.{overdue, dropped}
use Rattle.state.specs.declared.Report.{Report}

-- what is overdue is dropped, and a board that drops nothing stays as it is, spare bytes too
abbrev pub clocked_board : Board → ℕ → Board
clocked_board b now = cond (overdue (state_of b) now) (board_of (dropped (state_of b))) b

-- THE PROMISE: the number and the next board. "Refusals: 3 as in 01."
abbrev pub reported : Board → ℕ → Report
reported b now = record { number = refusal_of b; board = cond (refusal_of b == 0) (clocked_board b now) b }
