-- `lines::write_line` meets its contract: its parts stand one behind the other. Assumes nothing.
use Rattle.lines.specs.Lines.{line_of}
use Rattle.text.proofs.Texts.{then}
use Rattle.lines.proofs.write_line.Goals as goal

pub returns : goal.returns
unfolding line_of
returns c =
    then (rw c.from.ensures at c.write_number-a.ensures)
    (then c.write_number-b.ensures
    (then c.write_order-c.ensures
    (then c.write_byte-d.ensures
    (then c.write_reply-e.ensures c.write_byte.ensures))))
