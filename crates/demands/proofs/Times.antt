-- A run in true time, offered in calls and reports to a board with nothing unfinished, or to any sound one. Assumes nothing.
use Prim.Native.Nat.{ℕ}
use mathlib.Core.Path.{◌≡◌, ap, ◌∙◌}
use mathlib.Core.List.{List}
use lib.ListN.{take}
use Rattle.rule.specs.Run.{Item}
use Rattle.rule.specs.Framing.{Token, Cut}
use Rattle.rule.specs.Rule.{Said, State, whole_run}
use Rattle.rule.specs.TrueTime.{Entry, stamped, Watched, Waited}
use Rattle.orders.specs.declared.Order.{Order}
use Rattle.unit.specs.Unit.{Event, clock}
use Rattle.unit.specs.Protocol.{protocol}
use Rattle.unit.specs.declared.Memory.{Memory}
use Rattle.state.specs.declared.Board.{Board}
use Rattle.clock.proofs.Clock.{in_true_time, dropped_in_true_time}
use Rattle.demands.specs.Runs.{From, Offered}
use Rattle.demands.specs.Times.{OnTime}
use Rattle.demands.proofs.Runs.{any_cutting}

-- what the board holds unfinished stands in front of the run, at true times that show its last stamp
module _ {b : Board} (run : List (Entry protocol.cuts)) where
  -- in any cutting, if the main loop does its part
  pub on_time : {items : List (Item Event)} → From b items (stamped clock run) → Watched clock protocol.cuts protocol.need run
      → {x : Said Order Board} → Offered b items x → OnTime b run x
  unfolding whole_run
  on_time from w h = record { said = any_cutting h from; wholes = in_true_time run w; drops = dropped_in_true_time run w }

  -- what was dropped is what the board held when the run had come to that place, in any cutting
  pub held_there : (ks : List (Token Event)) (u : List ℕ) (there : Waited clock protocol.cuts protocol.need run ks u)
      → {items : List (Item Event)} → From b items (stamped clock there.before) → {y : Said Order Board}
      → Offered b items y → take y.next.count y.next.held ≡ u
  unfolding whole_run
  held_there ks u there from h =
      ap (λ (z : Said Order (State Memory)). z.next.line.unfinished) (any_cutting h from) ∙ ap (λ (c : Cut Event). c.unfinished) there.held
