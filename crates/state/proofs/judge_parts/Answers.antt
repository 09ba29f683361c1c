-- 01's list, test by test. Assumes nothing.
use Rattle.std.proofs.Common.{◌≡◌, ℕ, None, take, sym, ap, ◌∙◌}
use Rattle.state.specs.Parts.{board_at}
use Rattle.state.specs.Sound.{wanted_by, wanting}
use Rattle.state.proofs.Boards.{judged_unbegun, judged_fields, judged_sound, verdict_full}
use Rattle.state.proofs.Held.{wanting_found, wanting_none}
use Rattle.state.proofs.judge_parts.Goals as goal
use Rattle.state.proofs.judge_parts.Goals.{in_default-via-in-None-1, in_default-via-in-Some+else-is_sound}

pub returns : goal.returns
returns c =
    let a = c.args in
    let found = wanting_found _ _ (rw c.in-Ok.ensures.1.same at c.in-Some.ensures) in
    ap (λ (n : ℕ). record { number = 0; wants = n }) found.0
    ∙ sym (verdict_full a.table.now a.held.now a.rest c.in-Ok.ensures.1.long
    ∙ judged_sound (board_at a.table.now a.held.now a.rest) found.1 (sym c.is_sound.ensures ∙ c.if-is_sound.true))

pub returns-2 : goal.returns-2
returns-2 c =
    let a = c.args in
    let b = board_at a.table.now a.held.now a.rest in
    let full = verdict_full a.table.now a.held.now a.rest c.in-Ok.ensures.1.long in
    elim c.in_default.branch [
      | in_default-via-in-None-1 w ↦
          let none : None ≡ wanting (wanted_by (take a.rest.count c.in-Ok.held.now)) = cc in
          sym (full ∙ judged_unbegun b (wanting_none _ (rw c.in-Ok.ensures.1.same at none)))
      | in_default-via-in-Some+else-is_sound w ↦
          let found = wanting_found _ _ (rw c.in-Ok.ensures.1.same at w.in-Some.ensures) in
          sym (full ∙ judged_fields b found.1 (sym w.is_sound.ensures ∙ w.if-is_sound.false))
    ]
