-- Past the end nothing is written; else two digits more a byte. Assumes nothing.
use Rattle.std.proofs.Common.{rules, sym, arith}
use Rattle.wire.proofs.Stores.{sets_past}
use Rattle.text.specs.Texts.{hex}
use Rattle.text.proofs.Texts.{then, begun, hex_next}
use Rattle.text.proofs.write_hex.Goals as goal

pub returns-then-out-at : goal.returns-then-out-at
returns-then-out-at c = record { bytes = sym (sets_past (hex c.args.part.now) c.args.out.now c.args.at c.if-out-at.true); behind = omega arith }

pub loop-b-init : goal.loop-b-init
unfolding hex
loop-b-init c = begun _ _ _ (search rules)

pub loop-b-preserved : goal.loop-b-preserved
loop-b-preserved c =
    let high = rw c.digit.ensures at c.write_byte-p.ensures in
    let low = rw c.digit-in-loop-b.ensures at c.write_byte-p-in-loop-b.ensures in
    rw (← hex_next c.args.part.now c.loop-b.b-index c.loop-b-test.true) (then (then c.loop-b.invariant high) low)
