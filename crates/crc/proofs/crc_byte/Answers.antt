-- `crc::crc_byte` meets its contract: it does the eight steps at once. Assumes nothing.
use Rattle.std.proofs.Common.{arith}
use borrow.Author.Rules.{rules}
use Rattle.std.proofs.lemmas.Grind.{common_steps}
use Rattle.crc.proofs.Parity.{marked, at_once}
use Rattle.crc.proofs.AtOnce.{byte_at_once}
use Rattle.crc.proofs.crc_byte.Goals as goal

pub returns : goal.returns
unfolding marked at_once
returns c = grind (arith, common_steps, byte_at_once c.args.register c.args.byte (search rules))
