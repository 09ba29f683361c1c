-- What one call answers, by the rule's own call.
use Rattle.std.specs.Prelude.{cond, List, ℕ, eqb, length}
use Rattle.rule.specs.Calls.{Called, accept, call}
use Rattle.rule.specs.Ready.{ready}
use Rattle.orders.specs.declared.Order.{Order}
use Rattle.unit.specs.Protocol.{protocol}
use Rattle.unit.specs.declared.Memory.{Memory}
use Rattle.state.specs.State.{state_of, board_of}
use Rattle.state.specs.Sound.{refusal_of}
use Rattle.state.specs.Returned.{call_of, Returned}
use Rattle.state.specs.declared.Board.{Board}
use Rattle.state.specs.Call.{Call}
use Rattle.line.specs.Line.{ran}

-- the answer of the rule's call c on the board b: a call that took nothing leaves the board as it is, spare bytes too
abbrev pub answer : Board → Called Order Memory → Call
answer b c = call_of c (cond (eqb c.taken 0) b (board_of c.said.next))

-- THE PROMISE of a call on the board b, with the reply buffer before and after
abbrev pub Receives : Board → ℕ → List ℕ → List ℕ → Call → List ℕ → Type 0
Receives b stamp piece before r after = Returned (answer b) (call protocol (refusal_of b) (state_of b) stamp (length before) piece) before r after

-- the same of an accepted call, whose first byte finds the state ready
abbrev pub Runs : Board → ℕ → List ℕ → List ℕ → Call → List ℕ → Type 0
Runs b stamp piece before r after = Returned ran (accept protocol (ready protocol (state_of b) stamp) stamp (length before) piece) before r after
