-- This protocol, as the rule and a call take it. In quotation marks, where nothing else is said: sheet 01, "One call".
use Rattle.std.specs.Prelude.{Bool, true, false, cond, [], ℕ, leb}
use Rattle.position.specs.Position.{sound_position}
use Rattle.table.specs.Table.{all_good}
use Rattle.rule.specs.Run.{late}
use Rattle.rule.specs.Framing.{begun}
use Rattle.rule.specs.Rule.{State, Protocol}
use Rattle.sheet.specs.Lengths.{longest_frame, longest_piece}
use Rattle.names.specs.Names.{need}
use Rattle.orders.specs.declared.Order.{Order}
use Rattle.unit.specs.Unit.{Event, clock, position, act, fresh_memory}
use Rattle.unit.specs.declared.Memory.{Memory}

-- 02, P3: "If something is unfinished and the wait since the last byte exceeds 400, it is dropped": the last byte at that stamp. A report of the
-- position drops nothing
abbrev pub cut_by : ℕ → Event → Bool
cut_by last (clock now) = late now last
cut_by last (position p) = false

-- "every field lies in its range, the floats are finite, and the flags are at most 7"; "the position's microsteps lie in -255..255" (02, P5)
unfoldable pub sound_memory : Memory → Bool
sound_memory m = cond (leb m.notes.flags 7) (cond (sound_position m.position) (all_good m.settings) false) false

-- "a report answers 3 as in 01, then 5 where its microsteps are outside -255..255" (02, P5): such a report is no event. A report of the time always is
abbrev pub sound_event : Event → Bool
sound_event (clock now) = true
sound_event (position p) = sound_position p

-- "A state is sound when its unfinished bytes are none or a true beginning of one unit (first byte not zero; from four bytes on, the name of a set,
-- and fewer bytes than its block's total), every field lies in its range, .."
unfoldable pub sound_state : State Memory → Bool
sound_state s = cond (begun need s.line.unfinished) (sound_memory s.memory) false

abbrev pub protocol : Protocol Event Order Memory
protocol = record { cuts = cut_by; need = need; act = act; longest_piece = longest_piece; least_room = longest_frame }

-- 01, "Blocks": "nothing is unfinished, the last stamp is 0"
abbrev pub fresh_state : State Memory
fresh_state = record { memory = fresh_memory; line = record { unfinished = []; last = 0 } }
