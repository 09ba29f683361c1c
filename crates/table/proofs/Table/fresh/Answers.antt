-- The fresh table: both are computed. Assumes nothing.
use Rattle.std.proofs.Common.{refl}
use Rattle.wire.specs.Numbers.{le_bytes}
use Rattle.wire.specs.Layout.{laid}
use Rattle.ranges.specs.Tests.{within, signed_within, finite, only_bits}
use Rattle.sheet.specs.Rows.{least}
use Rattle.table.specs.Places.{fresh_in}
use Rattle.table.proofs.Table.fresh.Goals as goal

pub returns : goal.returns
unfolding fresh_in laid le_bytes least within signed_within finite only_bits
returns c = refl
