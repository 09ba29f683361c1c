-- The board's functions as C and Rust link them: what their contracts allow, and a run offered by them.
use Rattle.std.specs.Prelude.{ℕ, ◌≡◌, cond, List, [], ◌∷◌, map, eqb, take}
use Rattle.rule.specs.Run.{Item, at}
use Rattle.rule.specs.Rule.{Said, quiet}
use Rattle.orders.specs.Orders.{order_number, order_travel}
use Rattle.orders.specs.declared.Order.{Order}
use Rattle.position.specs.declared.Travel.{Travel}
use Rattle.position.specs.declared.Position.{Position}
use Rattle.unit.specs.Unit.{Event, clock, position}
use Rattle.state.specs.Parts.{board_at}
use Rattle.state.specs.declared.Board.{Board}
use Rattle.state.specs.declared.Report.{Report}
use Rattle.demands.specs.Runs.{heard, OfferedBy}
use Rattle.board.specs.Answer.{Left, left_in}
use Rattle.board.proofs.rivertosku_fresh_4.Reads as fresh
use Rattle.board.proofs.rivertosku_receive_4.Reads as receive
use Rattle.board.proofs.rivertosku_report_clock_4.Reads as report-clock
use Rattle.board.proofs.rivertosku_report_position_4.Reads as report-position
use Rattle.board.proofs.rivertosku_hand_out_4.Reads as hand-out
use Rattle.board.proofs.rivertosku_take_back_4.Reads as take_back

-- THE CONTRACT OF RIVERTOSKU_FRESH allows the board b
pub data Starts (b : Board) : Type 0 where
  allowed : (κs : _) (a : _) (s : _) → fresh.Post κs a b s → Starts b

-- THE CONTRACT OF RIVERTOSKU_RECEIVE allows what r says, the answer and the board that the lent arrays make at exit, with the reply buffer `after`, to a
-- call on the board b, its arrays lent and its rest by value, at the stamp t, with the piece p and the reply buffer `before` at entry
pub data Receives (b : Board) (t : ℕ) (p before : List ℕ) (r : Left) (after : List ℕ) : Type 0 where
  allowed : (κs : _) (a : _) (answer : _) (s : _) → receive.Post κs a answer s
      → board_at a.0.now a.1.0.now a.1.1.0 ≡ b → a.1.1.1.0.now ≡ p → a.1.1.1.1.0 ≡ t → a.1.1.1.1.1.0.now ≡ before
      → left_in s.0.now s.1.0.now answer ≡ r → s.1.1.1.1.1.0.now ≡ after
      → Receives b t p before r after

-- THE CONTRACT OF RIVERTOSKU_REPORT_CLOCK allows the answer r to the time `now`, reported to the board b
pub data Hears (b : Board) (now : ℕ) (r : Report) : Type 0 where
  allowed : (κs : _) (a : _) (s : _) → report-clock.Post κs a r s → a.0 ≡ b → a.1.0 ≡ now → Hears b now r

-- THE CONTRACT OF RIVERTOSKU_REPORT_POSITION allows the answer r to the position p, reported to the board b
pub data Locates (b : Board) (p : Position) (r : Report) : Type 0 where
  allowed : (κs : _) (a : _) (s : _) → report-position.Post κs a r s → a.0 ≡ b → a.1.0 ≡ p → Locates b p r

-- THE CONTRACT OF RIVERTOSKU_HAND_OUT allows the number n, with the lent bytes `before` at entry and `after` at exit, to the board b
pub data HandsOut (b : Board) (before : List ℕ) (n : ℕ) (after : List ℕ) : Type 0 where
  allowed : (κs : _) (a : _) (s : _) → hand-out.Post κs a n s → a.0 ≡ b → a.1.0.now ≡ before → s.1.0.now ≡ after → HandsOut b before n after

-- THE CONTRACT OF RIVERTOSKU_TAKE_BACK allows the answer r to these bytes
pub data TakesBack (bytes : List ℕ) (r : Report) : Type 0 where
  allowed : (κs : _) (a : _) (s : _) → take_back.Post κs a r s → a.0.now ≡ bytes → TakesBack bytes r

-- a report of what an event says, by the export for that kind of report
pub data Tells (b : Board) : Event → ℕ → Board → Type 0 where
  time : {now : ℕ} {r : Report} → Hears b now r → Tells b (clock now) r.number r.board
  place : {p : Position} {r : Report} → Locates b p r → Tells b (position p) r.number r.board

-- an order as C and Rust see it: its number, and the steps and microsteps that it carries
abbrev pub OrderSeen : Type 0
OrderSeen = ℕ × Travel

abbrev pub order_seen : Order → OrderSeen
order_seen o = (order_number o, order_travel o)

-- what a call says: the bytes written in the buffer, its order by number and values, and the next board
abbrev pub said_by : Left → List ℕ → Said OrderSeen Board
said_by r after =
    let x = r.answer in
    record { reply = take x.written after; orders = cond (eqb x.order 0) [] ((x.order, record { steps = x.steps; microsteps = x.microsteps }) ∷ []); next = r.board }

-- what is said, with the orders by their numbers and values
abbrev pub numbered : Said Order Board → Said OrderSeen Board
numbered x = record { reply = x.reply; orders = map order_seen x.orders; next = x.next }

-- one step of a main loop of C or Rust
pub data Step : Board → List (Item Event) → Said OrderSeen Board → Type 0 where
  called : {b : Board} {t : ℕ} {p before after : List ℕ} {r : Left} → Receives b t p before r after → Step b (at t (take r.answer.taken p)) (said_by r after)
  told : {b next : Board} {e : Event} {number : ℕ} → Tells b e number next → Step b (heard number e) (quiet next)

-- a run offered by such steps in any cutting
abbrev pub Offered : Board → List (Item Event) → Said OrderSeen Board → Type 0
Offered = OfferedBy Step
