-- The refusals in their sequence, then the call on the line. Assumes nothing.
use Rattle.std.proofs.Common.{◌≢◌, length, ap, sym, ◌∙◌, eqb-true, arith}
use Rattle.std.proofs.lemmas.Bool.{eqb-false}
use Rattle.std.proofs.lemmas.Result.{err_from_is_err_and}
use Rattle.state.specs.Parts.{board_at}
use Rattle.state.specs.Sound.{Verdict}
use Rattle.state.proofs.Boards.{sound_count, refusal_sound, wants_sound, verdict_full}
use Rattle.state.proofs.Refused.{judged_ok, judged_err}
use Rattle.receiver.proofs.Calls.{too_long, too_little_room, unsound, empty, ran_call}
use Rattle.receiver.proofs.receive_lent.Goals as goal

pub returns-then-piece-gt-PIECE : goal.returns-then-piece-gt-PIECE
returns-then-piece-gt-PIECE c = too_long _ _ _ _ (omega arith)

pub returns-then-reply-lt-FRAME : goal.returns-then-reply-lt-FRAME
returns-then-reply-lt-FRAME c = too_little_room _ _ _ _ (omega arith) (omega arith)

pub returns-in_err-wants : goal.returns-in_err-wants
returns-in_err-wants c =
    let a = c.args in
    let e = c.in_err-wants.field-0.0 in
    let p = err_from_is_err_and c.from_residual.result c.from_residual.ensures.1 in
    let is = judged_err (board_at a.table.now a.held.now a.rest) e (c.in_err-wants.ensures ∙ verdict_full a.table.now a.held.now a.rest c.told-held) in
    rw (p.1, p.2) (unsound _ _ _ _ (omega arith) (omega arith) e is)

pub returns-then-is_empty : goal.returns-then-is_empty
returns-then-is_empty c =
    let a = c.args in
    let sound = judged_ok (board_at a.table.now a.held.now a.rest) _ (c.in_ok-wants.ensures ∙ verdict_full a.table.now a.held.now a.rest c.told-held) in
    empty _ _ _ _ (omega arith) sound (eqb-true _ 0 (sym c.is_empty.ensures ∙ c.if-is_empty.true))

pub run-requires : goal.run-requires
run-requires c =
    let a = c.args in
    let b = board_at a.table.now a.held.now a.rest in
    let verdict = c.in_ok-wants.ensures ∙ verdict_full a.table.now a.held.now a.rest c.told-held in
    let good = refusal_sound b (judged_ok b _ verdict) in
    let wants = ap (λ (v : Verdict). v.wants) verdict ∙ wants_sound b good in
    let some : length a.piece.now ≢ 0 = eqb-false _ 0 (sym c.is_empty.ensures ∙ c.if-is_empty.false) in
    (omega (arith, wants, sound_count b good c.told-held), wants, omega arith, omega arith)

pub returns : goal.returns
returns c =
    let a = c.args in
    let b = board_at a.table.now a.held.now a.rest in
    let sound = judged_ok b _ (c.in_ok-wants.ensures ∙ verdict_full a.table.now a.held.now a.rest c.told-held) in
    let some : length a.piece.now ≢ 0 = eqb-false _ 0 (sym c.is_empty.ensures ∙ c.if-is_empty.false) in
    ran_call b a.stamp a.piece.now a.reply.now _ _ (omega arith) (omega arith) sound (omega arith) c.run.ensures
