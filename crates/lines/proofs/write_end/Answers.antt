-- `lines::write_end` meets its contract. Assumes nothing.
use Rattle.lines.specs.Lines.{end_of}
use Rattle.text.proofs.Texts.{then}
use Rattle.lines.proofs.write_end.Goals as goal

pub returns : goal.returns
unfolding end_of
returns c =
    then c.write_text-a.ensures
    (then c.write_decimal-b.ensures
    (then c.write_text-c.ensures c.write_number.ensures))
