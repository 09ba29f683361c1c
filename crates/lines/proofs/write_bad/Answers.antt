-- `lines::write_bad` meets its contract. Assumes nothing.
use Rattle.lines.specs.Lines.{bad_of}
use Rattle.text.proofs.Texts.{then}
use Rattle.lines.proofs.write_bad.Goals as goal

pub returns : goal.returns
unfolding bad_of
returns c = then c.write_text-a.ensures c.write_number.ensures
