-- A board in parts: its two arrays, which a caller lends, and the rest, which goes by value.
use Rattle.std.specs.Prelude.{List, ℕ}
use Rattle.state.specs.declared.Board.{Board}
use Rattle.state.specs.declared.Rest.{Rest}

abbrev pub board_at : List ℕ → List ℕ → Rest → Board
board_at table held rest =
    record {
      memory = record { settings = record { bytes = table }; notes = rest.notes; position = rest.position };
      held = held;
      count = rest.count;
      stamp = rest.stamp;
    }

abbrev pub rest_of : Board → Rest
rest_of b = record { notes = b.memory.notes; position = b.memory.position; count = b.count; stamp = b.stamp }
