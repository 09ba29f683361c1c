-- What a report of the position promises. In quotation marks: sheet 02, P5.
use Rattle.std.specs.Prelude.{cond, ℕ, eqb}
use Rattle.position.specs.Position.{sound_position}
use Rattle.position.specs.declared.Position.{Position}
use Rattle.unit.specs.Unit.{stands}
use Rattle.state.specs.Sound.{refusal_of}
use Rattle.state.specs.declared.Board.{Board}
use Rattle.state.specs.declared.Report.{Report}

-- the board with this position, and nothing else changed: unfinished bytes, spare bytes and last stamp stay
abbrev pub placed_board : Board → Position → Board
placed_board b p = record { memory = stands b.memory p; held = b.held; count = b.count; stamp = b.stamp }

-- "a report answers 3 as in 01, then 5 where its microsteps are outside -255..255,
abbrev pub position_refusal : Board → Position → ℕ
position_refusal b p = cond (eqb (refusal_of b) 0) (cond (sound_position p) 0 5) (refusal_of b)

-- the state unchanged": THE PROMISE, the number and the next board
abbrev pub reported : Board → Position → Report
reported b p = record { number = position_refusal b p; board = cond (eqb (position_refusal b p) 0) (placed_board b p) b }
