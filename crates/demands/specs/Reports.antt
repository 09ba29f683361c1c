-- The words of the demands of one report.
use Rattle.std.specs.Prelude.{Result, ℕ, ◌≡◌}
use Rattle.position.specs.declared.Position.{Position}
use Rattle.unit.specs.Unit.{Event, clock, position}
use Rattle.state.specs.declared.Board.{Board}
use Rattle.state.specs.declared.Report.{Report}
use Rattle.state.specs.declared.Refusal.{Refusal}
use Rattle.state.specs.Refused.{report_in}
use Rattle.clock.proofs.report_time.Reads as report-time
use Rattle.drive.proofs.report_position.Reads as report-position

-- THE CONTRACT OF REPORT_TIME allows the answer r to the time `now`, reported to the board b
pub data Reports (b : Board) (now : ℕ) (r : Report) : Type 0 where
  allowed : (κs : _) (a : _) (x : Result Board Refusal) (s : _) → report-time.Post κs a x s → a.0 ≡ b → a.1.0 ≡ now → report_in b x ≡ r → Reports b now r

-- THE CONTRACT OF REPORT_POSITION allows the answer r to the position p, reported to the board b
pub data Locates (b : Board) (p : Position) (r : Report) : Type 0 where
  allowed : (κs : _) (a : _) (x : Result Board Refusal) (s : _) → report-position.Post κs a x s → a.0 ≡ b → a.1.0 ≡ p → report_in b x ≡ r → Locates b p r

-- A REPORT of what an event says, told to the board b: the number and the next board are what the contract of that kind of report allows
pub data Tells (b : Board) : Event → ℕ → Board → Type 0 where
  time : {now : ℕ} {r : Report} → Reports b now r → Tells b (clock now) r.number r.board
  place : {p : Position} {r : Report} → Locates b p r → Tells b (position p) r.number r.board
