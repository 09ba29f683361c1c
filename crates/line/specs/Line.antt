-- What a line's units come to: the rule's call from its front, with the board that it leaves.
use Rattle.std.specs.Prelude.{List, ℕ}
use Rattle.rule.specs.Rule.{state_at}
use Rattle.rule.specs.Calls.{Called}
use Rattle.orders.specs.declared.Order.{Order}
use Rattle.unit.specs.declared.Memory.{Memory}
use Rattle.state.specs.State.{board_of}
use Rattle.state.specs.Returned.{call_of}
use Rattle.state.specs.Call.{Call}

-- the answer of the rule's call c
abbrev pub ran : Called Order Memory → Call
ran c = call_of c (board_of c.said.next)

-- the answer that keeps a memory and an order, with the bytes u held at the stamp t
abbrev pub holding : Memory → Order → ℕ → List ℕ → ℕ → ℕ → Call
holding m o t u taken written = record { number = 0; taken = taken; written = written; order = o; board = board_of (state_at m u t) }
