-- The words of the demands of a run: what is offered in any cutting, and what is said. In quotation marks: sheet 02, P3.
use Rattle.std.specs.Prelude.{ℕ, ◌≡◌, true, cond, List, [], ◌∷◌, ◌++◌, eqb, length, take, drop}
use Rattle.rule.specs.Run.{Item, event, at}
use Rattle.rule.specs.Framing.{Token, units_of}
use Rattle.rule.specs.Rule.{Said, quiet, then, State, deal}
use Rattle.orders.specs.Orders.{given}
use Rattle.orders.specs.declared.Order.{Order}
use Rattle.unit.specs.Unit.{Event}
use Rattle.unit.specs.Protocol.{protocol}
use Rattle.unit.specs.declared.Memory.{Memory}
use Rattle.state.specs.State.{state_of, board_of}
use Rattle.state.specs.Sound.{sound_board}
use Rattle.state.specs.declared.Board.{Board}
use Rattle.state.specs.Call.{Call}
use Rattle.demands.specs.Calls.{Answers}
use Rattle.demands.specs.Reports.{Tells}

-- what an answer says: the bytes written in the buffer, its order, and the next board
abbrev pub said_by : Call → List ℕ → Said Order Board
said_by r after = record { reply = take r.written after; orders = given r.order; next = r.board }

-- what was said, with what the board at the end stands for
abbrev pub in_state : Said Order Board → Said Order (State Memory)
in_state x = record { reply = x.reply; orders = x.orders; next = state_of x.next }

-- what the rule says, with the code's board, whose spare bytes are zero
abbrev pub on_board : Said Order (State Memory) → Said Order Board
on_board w = record { reply = w.reply; orders = w.orders; next = board_of w.next }

-- the event of a report with this number: a refused one is no event
abbrev pub heard : ℕ → Event → List (Item Event)
heard number e = cond (eqb number 0) (event e ∷ []) []

-- what a board holds unfinished, at its last stamp, and behind it the run
abbrev pub started : Board → List (Item Event) → List (Item Event)
started b run = at b.stamp (take b.count b.held) ++ run

-- where the rule begins that is asked for the run: with nothing unfinished on the board, at the run itself; on any sound board, at what it holds
pub data From (b : Board) (run : List (Item Event)) : List (Item Event) → Type 0 where
  idle : b.count ≡ 0 → From b run run
  sound : sound_board b ≡ true → From b run (started b run)

-- what the rule finds in a run, in sequence: units, what a wait dropped, and events
abbrev pub tokens_of : List (Item Event) → List (Token Event)
tokens_of run = (units_of protocol.cuts protocol.need run).tokens

-- the memory behind these tokens
abbrev pub memory_behind : Memory → List (Token Event) → Memory
memory_behind m before = (deal protocol m before).next

-- the four bytes of the replies that stand behind those of these tokens: there the next unit's echo or refusal is heard
abbrev pub word_behind : Memory → List (Token Event) → List ℕ → List ℕ
word_behind m before reply = take 4 (drop (length (deal protocol m before).reply) reply)

-- ONE STEP OF A MAIN LOOP at the board b: what it adds to the run, what is said, and the next board. Each answer is whatever its contract allows
pub data Step : Board → List (Item Event) → Said Order Board → Type 0 where
  -- a call takes bytes that share a stamp: all of its piece, some, or none where it is empty or refused
  called : {b : Board} {t : ℕ} {p before after : List ℕ} {r : Call} → Answers b t p before r after → Step b (at t (take r.taken p)) (said_by r after)
  -- "The main loop may report the time at any moment, as an event of its own.": a report of whatever kind
  told : {b next : Board} {e : Event} {number : ℕ} → Tells b e number next → Step b (heard number e) (quiet next)

-- A RUN OFFERED in some cutting by steps of one kind, from the board b to its end, and what was said. What a call leaves of its piece is offered
-- later, as the run has it: at once, or behind reports
pub data OfferedBy {O : Type 0} (S : Board → List (Item Event) → Said O Board → Type 0) : Board → List (Item Event) → Said O Board → Type 0 where
  done : (b : Board) → OfferedBy S b [] (quiet b)
  next : (b : Board) (items rest run : List (Item Event)) (y x : Said O Board) → S b items y → OfferedBy S y.next rest x → run ≡ items ++ rest
      → OfferedBy S b run (then y x)

-- by calls of `receive` and reports
abbrev pub Offered : Board → List (Item Event) → Said Order Board → Type 0
Offered = OfferedBy Step
