-- The digits of the bytes so far are written.
use Rattle.std.proofs.Common.{take}
use Rattle.text.specs.Texts.{hex, Written}
use Rattle.text.proofs.write_hex.Given as goal

abbrev pub invariant-loop-b : goal.invariant-loop-b
invariant-loop-b l = Written l.initial.out l.at (hex (take l.b-index l.part)) l.p l.out
