-- What is left is laid at the front, and zeros behind it. Assumes nothing.
use Rattle.std.proofs.Common.{length, arith}
use Rattle.state.proofs.Padded.{padded_behind}
use Rattle.unit.specs.Unit.{memory_at}
use Rattle.line.proofs.over.Goals as goal

pub returns : goal.returns
returns c table =
    let a = c.args in
    let held = padded_behind a.held.now a.left.now _ _ 0 (length a.left.now) (omega arith) c.told-held c.requires c.copy.ensures (c.fill.ensures.after (λ y e. e)) in
    λ k.
    record {
      number = 0;
      taken = a.taken;
      written = a.written;
      order = a.order;
      board = record { memory = memory_at table a.slate; held = held k; count = length a.left.now; stamp = a.stamp };
    }
