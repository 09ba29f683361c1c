-- What the code's board stands for, the rule's state; and back.
use Rattle.std.specs.Prelude.{List, ◌++◌, ℕ, ◌-◌, length, take, replicate}
use Rattle.rule.specs.Rule.{State}
use Rattle.sheet.specs.Lengths.{longest_frame}
use Rattle.unit.specs.declared.Memory.{Memory}
use Rattle.state.specs.declared.Board.{Board}

-- the bytes held, and zeros behind them
unfoldable pub padded : List ℕ → List ℕ
padded u = u ++ replicate (longest_frame - length u) 0

abbrev pub state_of : Board → State Memory
state_of b = record { memory = b.memory; line = record { unfinished = take b.count b.held; last = b.stamp } }

abbrev pub board_of : State Memory → Board
board_of s =
    record {
      memory = s.memory;
      held = padded s.line.unfinished;
      count = length s.line.unfinished;
      stamp = s.line.last;
    }
