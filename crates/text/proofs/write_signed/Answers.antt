-- A sign where the number is negative, and its magnitude. Assumes nothing.
use Rattle.std.proofs.Common.{◌≡◌, rules, nat_abs}
use Rattle.text.proofs.Texts.{then, signed_negative, signed_other}
use Rattle.text.proofs.write_signed.Goals as goal

pub returns-then-z-ge0 : goal.returns-then-z-ge0
returns-then-z-ge0 c =
    let magnitude : c.unsigned_abs.result ≡ nat_abs c.args.z = search rules in
    rw (signed_other c.args.z (search rules)) (rw magnitude at c.write_decimal.ensures)

pub returns : goal.returns
returns c =
    let magnitude : c.unsigned_abs-2.result ≡ nat_abs c.args.z = search rules in
    rw (signed_negative c.args.z (search rules)) (then c.write_byte-first.ensures (rw magnitude at c.write_decimal-2.ensures))
