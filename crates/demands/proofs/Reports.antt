-- The demands of one report of the time, over what the contract of `report_time` itself says. In quotation marks: sheet 02, P3. Assumes nothing.
use Prim.Native.Nat.{ℕ}
use mathlib.Core.Path.{◌≡◌, refl, ap, sym, ◌∙◌}
use mathlib.Core.Bool.{true, cond}
use lib.Dec.{eqb}
use Rattle.rule.proofs.Choice.{either}
use Rattle.unit.specs.Protocol.{sound_state}
use Rattle.state.specs.State.{state_of}
use Rattle.state.specs.Sound.{sound_board, refusal_of}
use Rattle.state.specs.declared.Board.{Board}
use Rattle.state.proofs.Boards.{refusal_none}
use Rattle.clock.specs.Clock.{overdue}
use Rattle.clock.specs.Report.{clocked_board, reported}
use Rattle.state.specs.declared.Report.{Report}
use Rattle.clock.proofs.Clock.{clock_sound}
use Rattle.clock.proofs.Reports.{report_refused as kept-board, report_heard, report_given, clocked_state}
use Rattle.demands.specs.Reports.{Reports, allowed}

pub report_promise : {b : Board} {now : ℕ} {r : Report} → Reports b now r → r ≡ reported b now
report_promise (allowed κs a x s got e f g) = rw (← g, ← e, ← f) got

pub report_one : {b : Board} {now : ℕ} {r r' : Report} → Reports b now r → Reports b now r' → r ≡ r'
report_one x y = report_promise x ∙ sym (report_promise y)

-- 02, P3: and every board state and time
pub report_some : (b : Board) (now : ℕ) → Reports b now (reported b now)
report_some b now = let given = report_given b now in allowed tt (b, (now, tt)) given.0 (b, (now, tt)) given.1 refl refl given.1

module _ {b : Board} {now : ℕ} {r : Report} (got : Reports b now r) where
  -- the number 0, or 3 where the state is not sound: "Refusals: 3 as in 01."
  pub report_numbered : r.number ≡ cond (sound_board b) 0 3
  report_numbered = ap (λ (y : Report). y.number) (report_promise got)

  -- and the state is unchanged
  pub report_refused : (r.number ≡ 0 → ⊥) → r.board ≡ b
  report_refused other = ap (λ (y : Report). y.board) (report_promise got ∙ kept-board b now (λ z. other (report_numbered ∙ z)))

  -- "If something is unfinished and the wait since the last byte exceeds 400, it is dropped", and else nothing changes
  pub report_accepted : r.number ≡ 0 → r.board ≡ clocked_board b now
  report_accepted zero = ap (λ (y : Report). y.board) (report_promise got ∙ report_heard b now (sym report_numbered ∙ zero))

  -- "the last stamp stays", dropped or not
  pub report_stamp : r.board.stamp ≡ b.stamp
  report_stamp =
      ap (λ (y : Report). y.board.stamp) (report_promise got)
      ∙ either (λ (y : Board). y.stamp ≡ b.stamp) (eqb (refusal_of b) 0) _ _ (either (λ (y : Board). y.stamp ≡ b.stamp) (overdue (state_of b) now) _ _ refl refl) refl

  -- a report keeps a sound state sound
  pub report_keeps_sound : sound_board b ≡ true → sound_board r.board ≡ true
  report_keeps_sound h =
      ap (λ (y : Report). sound_board y.board) (report_promise got ∙ report_heard b now (refusal_none b h)) ∙ ap sound_state (clocked_state b now)
      ∙ clock_sound (state_of b) now h
