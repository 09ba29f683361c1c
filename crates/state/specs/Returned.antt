-- What a function returns that runs the rule's call. In quotation marks: sheet 01, "One call".
use Rattle.std.specs.Prelude.{List, ◌++◌, ◌≡◌, ℕ, length, drop}
use Rattle.rule.specs.Calls.{Called}
use Rattle.orders.specs.declared.Order.{Order}
use Rattle.unit.specs.Unit.{order_of}
use Rattle.unit.specs.declared.Memory.{Memory}
use Rattle.state.specs.declared.Board.{Board}
use Rattle.state.specs.Call.{Call}

-- "It answers a number, the bytes taken, the reply bytes written, the order and the next state": those of the rule's call c, and the board b
abbrev pub call_of : Called Order Memory → Board → Call
call_of c b = record { number = c.number; taken = c.taken; written = length c.said.reply; order = order_of c.said.orders; board = b }

-- the result r is `of c`, where c is the rule's call; and each byte of the reply buffer: "Each reply is written straight behind the one before it in
-- the same buffer, and every byte past the written part keeps its value."
pub record Returned {R : Type 0} (of : Called Order Memory → R) (c : Called Order Memory) (before : List ℕ) (r : R) (after : List ℕ) : Type 0 where
  pub result : r ≡ of c
  pub reply : after ≡ c.said.reply ++ drop (length c.said.reply) before
