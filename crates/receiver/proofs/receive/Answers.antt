-- The board is its parts, before and after. Assumes nothing.
use Rattle.std.proofs.lemmas.Result.{err_from_is_err_and}
use Rattle.receiver.proofs.Calls.{together, refused_whole}
use Rattle.receiver.proofs.receive.Goals as goal

pub returns : goal.returns
returns c = together _ _ _ _ _ _ _ _ c.rest.ensures _ _ c.joined.ensures c.in_ok-done.ensures

pub returns-in_err-done : goal.returns-in_err-done
returns-in_err-done c =
    let p = err_from_is_err_and c.from_residual.result c.from_residual.ensures.1 in
    rw (p.1, p.2) (refused_whole _ _ _ _ _ _ _ _ c.rest.ensures _ c.in_err-done.ensures)
