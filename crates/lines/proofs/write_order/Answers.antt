-- `lines::write_order` meets its contract: the order carries a travel, or not. Assumes nothing.
use Rattle.std.proofs.Common.{◌≡◌, rules}
use Rattle.orders.specs.Orders.{order_number}
use Rattle.text.proofs.Texts.{then}
use Rattle.lines.proofs.Lines.{shown_bare, shown_travel}
use Rattle.lines.proofs.write_order.Goals as goal

pub returns : goal.returns
returns c =
    let number : c.from.result ≡ order_number c.args.order = search rules in
    rw (shown_bare c.args.order (search (rules, c.in_default)) (search (rules, c.in_default))) (rw number at c.write_decimal-last.ensures)

pub returns-in-Move : goal.returns-in-Move
returns-in-Move c =
    let number : c.from.result ≡ order_number c.args.order = search rules in
    rw (shown_travel c.args.order c.in-Move.travel (search rules)) (then (rw number at c.write_decimal-last.ensures) c.write_travel.ensures)
