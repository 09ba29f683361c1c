-- The words in which it is said what a board makes of a run in true time. In quotation marks: the demands by number.
use Rattle.std.specs.Prelude.{◌≡◌, List}
use Rattle.rule.specs.Run.{last_stamp}
use Rattle.rule.specs.Framing.{Cut, units_of}
use Rattle.rule.specs.Rule.{Said, with_line, deal}
use Rattle.rule.specs.TrueTime.{Entry, stamped, WholeClose, TrueDrops}
use Rattle.orders.specs.declared.Order.{Order}
use Rattle.unit.specs.Unit.{Event, clock}
use Rattle.unit.specs.Protocol.{protocol}
use Rattle.state.specs.declared.Board.{Board}
use Rattle.demands.specs.Runs.{in_state}

-- what the rule finds in a run of bytes, reports of the time, and events that drop nothing, as is each report of the position
abbrev pub found : List (Entry protocol.cuts) → Cut Event
found run = units_of protocol.cuts protocol.need (stamped clock run)

-- WHAT A BOARD MADE OF A RUN IN TRUE TIME: it said what the run's units say, demand 3's "the replies joined, the orders in sequence", and kept what is
-- unfinished; no unit was completed after a wait of more than 400 ms of true time, and a beginning was dropped exactly where there was such a wait
pub record OnTime (b : Board) (run : List (Entry protocol.cuts)) (x : Said Order Board) : Type 0 where
  pub said : in_state x
      ≡ with_line (record { unfinished = (found run).unfinished; last = last_stamp b.stamp (stamped clock run) }) (deal protocol b.memory (found run).tokens)
  pub wholes : WholeClose clock protocol.cuts protocol.need run
  pub drops : TrueDrops clock protocol.cuts protocol.need run
