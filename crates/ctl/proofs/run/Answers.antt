-- `ctl::run` meets its contract: element by element. Assumes nothing.
use mathlib.Core.Path.{sym, ap, ◌∙◌}
use mathlib.Core.List.{map}
use Prim.Native.Nat.{ℕ, ◌+◌, ◌*◌}
use lib.ListN.{replicate, length-replicate}
use borrow.Author.Rules.{rules}
use Rattle.std.proofs.lemmas.List.{length-map}
use Rattle.std.proofs.lemmas.List.FromFn.{fill_by_all}
use Rattle.std.proofs.Math.ListN.{get_or-map}
use Rattle.wire.specs.Numbers.{le_at}
use Rattle.wire.specs.Layout.{numbers}
use Rattle.wire.proofs.Laid.{length_numbers}
use Rattle.wire.proofs.Runs.{run_at}
use Rattle.wire.proofs.Made.{made}
use Rattle.ctl.proofs.run.Goals as goal

pub returns : goal.returns
returns g c =
    let t = g.T.Number in
    let s = c.args.part.now in
    let w = t.WIDTH in
    let n = g.row.N in
    let ns = numbers (replicate n w) c.args.at s in
    let read = λ (k : ℕ). t.stands_for (le_at w (c.args.at + w * k) s) in
    made _ _ read (λ i y q k. (search rules, search rules)) _ n (t.stands_for 0) c.from_fn.ensures.items
    ∙ sym (fill_by_all read (map t.stands_for ns) n (t.stands_for 0) (length-map ns t.stands_for ∙ length_numbers (replicate n w) c.args.at s ∙ length-replicate n w)
    (λ k h. get_or-map t.stands_for ns k 0 ∙ ap t.stands_for (run_at n w c.args.at s k h)))
