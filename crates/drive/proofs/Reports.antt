-- What a report of the position does to a board, number by number, and to the state that it stands for. In quotation marks: sheet 02, P5.
-- Assumes nothing.
use mathlib.Core.Path.{◌≡◌, refl}
use mathlib.Core.Bool.{Bool, true, false}
use Rattle.std.specs.Prelude.{Result, Ok, Err}
use borrow.Author.Tests.{eq-eqb, ne_eqb}
use Rattle.rule.specs.Rule.{State, state_at}
use Rattle.position.specs.Position.{sound_position}
use Rattle.position.specs.declared.Position.{Position}
use Rattle.unit.specs.Unit.{stands}
use Rattle.unit.specs.declared.Memory.{Memory}
use Rattle.state.specs.State.{state_of, board_of}
use Rattle.state.specs.Sound.{sound_board, refusal_of}
use Rattle.state.specs.Refused.{report_in}
use Rattle.state.specs.declared.Refusal.{Refusal}
use Rattle.state.specs.declared.Refusal.TheVariants.{Unsound, Range}
use Rattle.state.specs.declared.Board.{Board}
use Rattle.drive.specs.Report.{placed_board, reported}

module _ (b : Board) (p : Position) where
  -- "a report answers 3 as in 01,
  pub report_refused : (refusal_of b ≡ 0 → ⊥) → reported b p ≡ record { number = refusal_of b; board = b }
  report_refused h = rw (ne_eqb (refusal_of b) 0 h, ne_eqb (refusal_of b) 0 h)

  module _ (sound : refusal_of b ≡ 0) where
    -- then 5 where its microsteps are outside -255..255, the state unchanged."
    pub report_outside : sound_position p ≡ false → reported b p ≡ record { number = 5; board = b }
    report_outside e = rw (eq-eqb (refusal_of b) 0 sound, e)

    pub report_placed : sound_position p ≡ true → reported b p ≡ record { number = 0; board = placed_board b p }
    report_placed e = rw (eq-eqb (refusal_of b) 0 sound, e)

-- and it is some answer of the code's
pub report_given : (b : Board) (p : Position) → (x : Result Board Refusal) × (report_in b x ≡ reported b p)
report_given b p = by (sound_board b) (sound_position p) refl refl
  where
    by : (y z : Bool) → sound_board b ≡ y → sound_position p ≡ z → (x : Result Board Refusal) × (report_in b x ≡ reported b p)
    by true true e f = (Ok (placed_board b p), rw (e, f))
    by true false e f = (Err Range, rw (e, f))
    by false z e f = (Err Unsound, rw e)

-- the next board stands for the state with this position: what is unfinished and the last stamp stay
pub placed_state : (b : Board) (p : Position) → let s = state_of b in state_of (placed_board b p) ≡ state_at (stands s.memory p) s.line.unfinished s.line.last
placed_state b p = refl

pub placed_board_lem : (s : State Memory) (p : Position) → placed_board (board_of s) p ≡ board_of (state_at (stands s.memory p) s.line.unfinished s.line.last)
placed_board_lem s p = refl
