-- The byte stands behind the number. Assumes nothing.
use Rattle.text.proofs.Texts.{then}
use Rattle.text.proofs.write_number.Goals as goal

pub returns : goal.returns
returns c = then c.write_decimal-last.ensures c.write_byte.ensures
