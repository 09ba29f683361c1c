-- The demands of one report of the position, over what the contract of `report_position` itself says. In quotation marks: sheet 02, P5. Assumes nothing.
use mathlib.Core.Path.{◌≡◌, refl, ap, sym, ◌∙◌}
use mathlib.Core.Bool.{Bool, true, false, cond}
use native.Mathlib.Omega.{arith}
use lib.Dec.{eqb}
use borrow.Author.Tests.{eq-eqb, ne_eqb}
use Rattle.rule.specs.Rule.{state_at}
use Rattle.rule.proofs.Choice.{either}
use Rattle.position.specs.Position.{sound_position}
use Rattle.position.specs.declared.Position.{Position}
use Rattle.unit.specs.Unit.{stands}
use Rattle.unit.proofs.Sound.{sound_memory_lem, sound_from, is_begun}
use Rattle.state.specs.State.{state_of}
use Rattle.state.specs.Sound.{sound_board}
use Rattle.state.specs.declared.Board.{Board}
use Rattle.state.specs.declared.Report.{Report}
use Rattle.drive.specs.Report.{placed_board, position_refusal, reported}
use Rattle.drive.proofs.Reports.{report_given}
use Rattle.demands.specs.Reports.{Locates, allowed}

pub place_promise : {b : Board} {p : Position} {r : Report} → Locates b p r → r ≡ reported b p
place_promise (allowed κs a x s got e f g) = rw (← g, ← e, ← f) got

pub place_one : {b : Board} {p : Position} {r r' : Report} → Locates b p r → Locates b p r' → r ≡ r'
place_one x y = place_promise x ∙ sym (place_promise y)

-- every board state and position gets an answer
pub place_some : (b : Board) (p : Position) → Locates b p (reported b p)
place_some b p = let given = report_given b p in allowed tt (b, (p, tt)) given.0 (b, (p, tt)) given.1 refl refl given.1

module _ {b : Board} {p : Position} {r : Report} (got : Locates b p r) where
  -- "a report answers 3 as in 01, then 5 where its microsteps are outside -255..255"
  pub place_numbered : r.number ≡ cond (sound_board b) (cond (sound_position p) 0 5) 3
  place_numbered = ap (λ (y : Report). y.number) (place_promise got) ∙ by (sound_board b) refl
    where
      by : (y : Bool) → sound_board b ≡ y → position_refusal b p ≡ cond y (cond (sound_position p) 0 5) 3
      by true e = rw e
      by false e = rw e

  -- "the state unchanged"
  pub place_refused : (r.number ≡ 0 → ⊥) → r.board ≡ b
  place_refused other =
      let n = ap (λ (y : Report). y.number) (place_promise got) in
      ap (λ (y : Report). y.board) (place_promise got) ∙ rw (ne_eqb (position_refusal b p) 0 (λ z. other (n ∙ z)))

  -- else the position is the one reported, and nothing else changes
  pub place_accepted : r.number ≡ 0 → r.board ≡ placed_board b p
  place_accepted zero =
      let n = ap (λ (y : Report). y.number) (place_promise got) in
      ap (λ (y : Report). y.board) (place_promise got) ∙ rw (eq-eqb (position_refusal b p) 0 (sym n ∙ zero))

  -- the last stamp and what is unfinished stay, heard or refused
  pub place_stamp : r.board.stamp ≡ b.stamp
  place_stamp = ap (λ (y : Report). y.board.stamp) (place_promise got) ∙ either (λ (y : Board). y.stamp ≡ b.stamp) (eqb (position_refusal b p) 0) _ _ refl refl

  pub place_line : (state_of r.board).line ≡ (state_of b).line
  place_line =
      ap (λ (y : Report). (state_of y.board).line) (place_promise got)
      ∙ either (λ (y : Board). (state_of y).line ≡ (state_of b).line) (eqb (position_refusal b p) 0) _ _ refl refl

  -- a report keeps a sound state sound
  pub place_keeps_sound : sound_board b ≡ true → sound_board r.board ≡ true
  place_keeps_sound h = by (sound_position p) refl
    where
      by : (y : Bool) → sound_position p ≡ y → sound_board r.board ≡ true
      by true e =
          let m = sound_memory_lem (state_of b) h in
          let s = sound_from (state_at (stands b.memory p) (state_of b).line.unfinished b.stamp) (is_begun (state_of b) h)
          (record { flags = m.flags; position = e; good = m.good }) in
          ap sound_board (place_accepted (place_numbered ∙ rw (h, e))) ∙ s
      by false e = ap sound_board (place_refused (λ z. let five : 5 ≡ 0 = sym (place_numbered ∙ rw (h, e)) ∙ z in absurd (omega arith))) ∙ h
