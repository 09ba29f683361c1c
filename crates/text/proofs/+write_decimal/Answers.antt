-- `text::write_decimal` meets its contract: the digits of n / 10, and the last one behind them. Assumes nothing.
use Rattle.std.proofs.Common.{arith}
use Rattle.text.proofs.Texts.{then, decimal_digit, decimal_last}
use Rattle.text.proofs.+write_decimal.Goals as goal

pub returns-then-n-lt10 : goal.returns-then-n-lt10
returns-then-n-lt10 t c = rw (decimal_digit c.args.n c.if-n-lt10.true) c.write_byte.ensures

pub returns : goal.returns
returns t c = rw (decimal_last c.args.n c.if-n-lt10.false (omega arith)) (then c.write_decimal-last.ensures c.write_byte-2.ensures)
