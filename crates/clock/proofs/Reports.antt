-- What a report of the time does to a board, case by case, and that it is the rule's event. In quotation marks: sheet 02, P3. Assumes nothing.
use Rattle.std.proofs.Common.{◌≡◌, ℕ, ◌<◌, ◌≤◌, Bool, true, false, cond, ltb, length, take, refl, ap, ◌∙◌, arith, length-take, le-ltb, lt-ltb, eq-eqb, ne_eqb}
use Rattle.std.specs.Prelude.{Result, Ok, Err}
use Rattle.sheet.specs.Lengths.{longest_frame}
use Rattle.rule.specs.Run.{late}
use Rattle.rule.specs.Rule.{State}
use Rattle.rule.proofs.Choice.{either}
use Rattle.unit.specs.declared.Memory.{Memory}
use Rattle.state.specs.State.{state_of, board_of}
use Rattle.state.specs.Sound.{sound_board, refusal_of}
use Rattle.state.specs.Refused.{report_in}
use Rattle.state.specs.declared.Refusal.{Refusal}
use Rattle.state.specs.declared.Refusal.TheVariants.{Unsound}
use Rattle.state.specs.declared.Board.{Board}
use Rattle.state.proofs.Boards.{state_board}
use Rattle.clock.specs.Clock.{overdue, dropped, clocked}
use Rattle.clock.specs.Report.{clocked_board, reported}

module _ (b : Board) (now : ℕ) where
  -- "Refusals: 3 as in 01."
  pub report_refused : (refusal_of b ≡ 0 → ⊥) → reported b now ≡ record { number = refusal_of b; board = b }
  report_refused h = rw (ne_eqb (refusal_of b) 0 h)

  pub report_heard : refusal_of b ≡ 0 → reported b now ≡ record { number = 0; board = clocked_board b now }
  report_heard h = rw (eq-eqb (refusal_of b) 0 h, h)

  -- and it is some answer of the code's
  pub report_given : (x : Result Board Refusal) × (report_in b x ≡ reported b now)
  report_given = by (sound_board b) refl
    where
      by : (y : Bool) → sound_board b ≡ y → (x : Result Board Refusal) × (report_in b x ≡ reported b now)
      by true e = (Ok (clocked_board b now), rw e)
      by false e = (Err Unsound, rw e)

  -- with nothing unfinished, or a wait of at most 400, nothing changes
  pub idle_stays : b.count ≤ 0 → clocked_board b now ≡ b
  idle_stays h = rw (le-ltb 0 (length (take b.count b.held)) (omega (arith, length-take b.count b.held)))

  pub early_stays : late now b.stamp ≡ false → clocked_board b now ≡ b
  early_stays e = rw (e, either (λ (y : Bool). y ≡ false) (ltb 0 (length (take b.count b.held))) false false refl refl)

  -- "If something is unfinished and the wait since the last byte exceeds 400, it is dropped"
  pub overdue_drops : 0 < b.count → length b.held ≡ longest_frame → late now b.stamp ≡ true → clocked_board b now ≡ board_of (dropped (state_of b))
  overdue_drops some f e = rw (lt-ltb 0 (length (take b.count b.held)) (omega (arith, length-take b.count b.held)), e)

-- ---- a board and the state it stands for

-- the next board stands for what the report leaves, whatever the board's spare bytes
pub clocked_state : (b : Board) (now : ℕ) → state_of (clocked_board b now) ≡ clocked (state_of b) now
clocked_state b now = by (overdue (state_of b) now) refl
  where
    by : (y : Bool) → overdue (state_of b) now ≡ y → state_of (clocked_board b now) ≡ clocked (state_of b) now
    by true e = rw e (state_board (dropped (state_of b)))
    by false e = rw e

-- and with zeros for spare bytes, it has zeros for spare bytes
pub clocked_board_lem : (s : State Memory) (now : ℕ) → clocked_board (board_of s) now ≡ board_of (clocked s now)
clocked_board_lem s now =
    ap (λ (y : State Memory). cond (overdue y now) (board_of (dropped y)) (board_of s)) (state_board s) ∙ by (overdue s now) refl
  where
    by : (y : Bool) → overdue s now ≡ y → cond (overdue s now) (board_of (dropped s)) (board_of s) ≡ board_of (clocked s now)
    by true e = rw e
    by false e = rw e
