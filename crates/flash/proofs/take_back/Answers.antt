-- 1, then 3, then the board: a fresh one with these settings. Assumes nothing.
use Rattle.std.proofs.Common.{◌≡◌, ℕ, List, sym, ap, ◌∙◌}
use Rattle.std.proofs.lemmas.Result.{err_from_is_err_and}
use Rattle.unit.specs.Protocol.{fresh_state}
use Rattle.state.specs.State.{board_of}
use Rattle.state.specs.Sound.{refusal_of}
use Rattle.state.specs.declared.Board.{Board}
use Rattle.state.proofs.Refused.{number_some, judged_ok, judged_err}
use Rattle.flash.specs.Flash.{with_settings}
use Rattle.flash.proofs.Cases.{back_length, back_refused, back_passed}
use Rattle.flash.proofs.take_back.Goals as goal

-- the board that was judged is the fresh one with these settings, if they are as long as a table
judged : (fresh : Board) (copy stored : List ℕ) → fresh ≡ board_of fresh_state → copy ≡ stored
    → with_settings fresh (record { bytes = copy }) ≡ with_settings (board_of fresh_state) (record { bytes = stored })
judged fresh copy stored e f = λ i. with_settings (e i) (record { bytes = f i })

pub returns-in_default : goal.returns-in_default
returns-in_default c = sym (back_length c.args.bytes.now c.in_default.ensures.1)

pub returns-in_err-judge : goal.returns-in_err-judge
returns-in_err-judge c =
    let t = c.args.bytes.now in
    let is = judged _ _ t c.fresh-fresh.ensures c.in-Ok.ensures.1.same in
    let e = c.in_err-judge.field-0.0 in
    let p = err_from_is_err_and c.from_residual.result c.from_residual.ensures.1 in
    rw (p.1, p.2) (back_refused t c.in-Ok.ensures.1.long _ (judged_err _ e c.in_err-judge.ensures ∙ ap refusal_of is) (number_some e))

pub returns : goal.returns
returns c =
    let t = c.args.bytes.now in
    let is = judged _ _ t c.fresh-fresh.ensures c.in-Ok.ensures.1.same in
    ap (λ (b : Board). record { number = 0; board = b }) is
    ∙ back_passed t c.in-Ok.ensures.1.long (sym (ap refusal_of is) ∙ judged_ok _ _ c.in_ok-judge.ensures)
