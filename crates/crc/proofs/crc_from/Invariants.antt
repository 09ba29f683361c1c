-- What c gives with the bytes that are left is what the register gives with all.
use Rattle.std.proofs.Common.{◌≡◌, ◌<◌, ◌^◌, drop}
use Rattle.crc.specs.Crc.{crc_from}
use Rattle.crc.proofs.crc_from.Given as goal

abbrev pub invariant-loop-byte : goal.invariant-loop-byte
invariant-loop-byte l = record { rest : crc_from l.c (drop l.byte-index l.part) ≡ crc_from l.register l.part; low : l.c < 2 ^ 16 }
