-- `wire::bytes_at` meets its contract where not all bytes are there: each is the one at its place, or 0. Assumes nothing.
use Rattle.std.proofs.Common.{rules, ◌∙◌, ℕ, ◌-◌, length, take, drop, arith}
use lib.ListN.{get_or}
use Rattle.wire.proofs.Made.{made_each}
use Rattle.wire.proofs.Numbers.{le_at_same, le_at_rest}
use Rattle.wire.proofs.bytes_at.Goals as goal

pub returns-in-None : goal.returns-in-None
returns-in-None g c =
    let s = c.args.s.now in
    let n = c.min.result in
    let rest = take (length s - n) (drop n s) in
    let each = made_each _ _ (λ (k : ℕ). get_or rest k 0) (λ i y q k. (search rules, search rules)) c.from_fn.result g.row.N c.from_fn.ensures.items in
    le_at_same g.row.N 0 c.from_fn.result rest (λ i a b. each i 0 (omega (arith, b))) ∙ le_at_rest g.row.N c.args.at n s c.min.ensures
