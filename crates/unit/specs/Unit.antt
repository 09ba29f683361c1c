-- What one whole unit does to the memory. What a unit is and how long, names says; Protocol hands both to the rule, which knows no protocol.
use Rattle.std.specs.Prelude.{cond, List, [], ◌∷◌, ◌≡◌, ℕ, eqb}
use Rattle.std.specs.Int.Bits.{bit_or}
use Rattle.std.proofs.lemmas.List.Edits.{sets}
use Rattle.wire.specs.Numbers.{le_bytes}
use Rattle.frame.specs.Frame.{framed, data_in, intact}
use Rattle.sheet.specs.Names.{named}
use Rattle.sheet.specs.Sheet.{move_row, spos_row, gpos_row}
use Rattle.sheet.specs.Rows.{row_at, numbers_in, data_of, first_bad}
use Rattle.sheet.specs.Sections.{bad_in}
use Rattle.position.specs.Position.{travel_of, travel_numbers, spos_of, spos_numbers, position_numbers, fresh_position, cleared, placed}
use Rattle.position.specs.declared.Travel.{Travel}
use Rattle.position.specs.declared.Position.{Position}
use Rattle.table.specs.Table.{data_at, put_at, fresh_table}
use Rattle.rule.specs.Framing.{Token, whole, lost, seen}
use Rattle.rule.specs.Rule.{Said, quiet}
use Rattle.names.specs.Names.{kind_at, name_of}
use Rattle.orders.specs.declared.Order.{Order}
use Rattle.orders.specs.declared.Order.TheVariants.{Nothing, Move, Movr}
use Rattle.names.specs.declared.Kind.{Kind}
use Rattle.names.specs.declared.Kind.TheVariants.{Zero, Set, Get, Gives, Moves, Places, Finds, Clears, Unknown}
use Rattle.unit.specs.declared.Memory.{Memory}
use Rattle.unit.specs.declared.Slate.{Slate}
use Rattle.unit.specs.declared.Judged.{Judged}

-- "Flags are clear, .. the last refused field is block 0 field 0."; "the position, 0 when fresh" (02, P5)
abbrev pub fresh_memory : Memory
fresh_memory = record { settings = fresh_table; notes = record { flags = 0; block = 0; field = 0 }; position = fresh_position }

-- what comes in besides bytes: "The main loop may report the time at any moment, as an event of its own." (02, P3); "The drive reports its position in
-- a call of its own, which joins demand 3's run as an event" (02, P5)
pub data Event : Type 0 where
  clock : ℕ → Event
  position : Position → Event

-- the memory with this position
abbrev pub stands : Memory → Position → Memory
stands m p = record { settings = m.settings; notes = m.notes; position = p }

-- what an event leaves: a report of the time stores nothing, a report of the position the position
abbrev pub told : Memory → Event → Memory
told m (clock now) = m
told m (position p) = stands m p

-- ---- the answers

abbrev pub flag : ℕ → Memory → Memory
flag bit m =
    record {
      settings = m.settings;
      notes = record { flags = bit_or m.notes.flags bit; block = m.notes.block; field = m.notes.field };
      position = m.position;
    }

-- "Unknown identifier: .. Reply errc, flag bit 1 (command error)."
abbrev pub unknown : Memory → Said Order Memory
unknown m = record { reply = le_bytes 4 (named "errc"); orders = []; next = flag 1 m }

-- "Get: reply the get name, data, CRC."
unfoldable pub gets : Memory → ℕ → ℕ → Said Order Memory
gets m name k = record { reply = framed name (data_at m.settings k); orders = []; next = m }

-- "Order: reply the identifier, give the order."
abbrev pub gives : Memory → ℕ → Order → Said Order Memory
gives m name o = record { reply = le_bytes 4 name; orders = o ∷ []; next = m }

-- ---- sets

-- "Wrong CRC: reply errd, flag bit 2 (data error)."
abbrev pub damaged : Memory → Said Order Memory
damaged m = record { reply = le_bytes 4 (named "errd"); orders = []; next = flag 2 m }

-- "First field out of range: reply errv, flag bit 4 (value error), and the last refused field becomes this block and field."
abbrev pub out_of_range : Memory → ℕ → ℕ → Said Order Memory
out_of_range m k bad =
    record {
      reply = le_bytes 4 (named "errv");
      orders = [];
      next = record { settings = m.settings; notes = record { flags = bit_or m.notes.flags 4; block = k; field = bad }; position = m.position };
    }

-- "Checks stand in this sequence: CRC, then fields in numbered order": what a set u of block k comes to, `bad` its first field out of range or 0, `done`
-- what it says where all is well
unfoldable pub checked : Memory → List ℕ → ℕ → ℕ → Said Order Memory → Said Order Memory
checked m u k bad done = cond (intact u) (cond (eqb bad 0) done (out_of_range m k bad)) (damaged m)

-- "Otherwise all fields are stored and the set name is the reply."
abbrev pub stored : Memory → ℕ → ℕ → List ℕ → Said Order Memory
stored m name k d =
    record { reply = le_bytes 4 name; orders = []; next = record { settings = put_at m.settings k d; notes = m.notes; position = m.position } }

-- a set of a block that the board keeps
unfoldable pub puts : Memory → ℕ → List ℕ → Said Order Memory
puts m k u = checked m u k (bad_in (row_at k) (data_in u)) (stored m (name_of u) k (data_in u))

-- ---- positions and travel; in quotation marks: 02, P5

-- "Orders 8 and 9 carry their steps and microsteps"
abbrev pub move_order : ℕ → Travel → Order
move_order k t = cond (eqb k move_row.number) (Move t) (Movr t)

-- "All three are read and checked as sets are, ..; move and movr store nothing." (of bytes the tested numbers are those that came: position, Codec)
unfoldable pub moves : Memory → ℕ → List ℕ → Said Order Memory
moves m k u =
    let t = travel_of (numbers_in move_row (data_in u)) in
    checked m u k (first_bad move_row (travel_numbers t)) (gives m (name_of u) (move_order k t))

-- an accepted spos is echoed, as a set is, and gives no order
unfoldable pub places : Memory → List ℕ → Said Order Memory
places m u =
    let s = spos_of (numbers_in spos_row (data_in u)) in
    checked m u spos_row.number (first_bad spos_row (spos_numbers s))
    (record { reply = le_bytes 4 (name_of u); orders = []; next = stands m (placed s m.position) })

-- "gpos, which sends the position as it then stands"
unfoldable pub finds : Memory → ℕ → Said Order Memory
finds m name = record { reply = framed name (data_of gpos_row (position_numbers m.position)); orders = []; next = m }

-- "zero is four bytes, echoed, and stops no call."; "zero gives no order."
abbrev pub clears : Memory → ℕ → Said Order Memory
clears m name = record { reply = le_bytes 4 name; orders = []; next = stands m (cleared m.position) }

-- ---- by the unit's kind

-- "A first byte of zero is a unit by itself. Reply: one zero byte."
abbrev pub zeroed : Memory → Said Order Memory
zeroed m = record { reply = 0 ∷ []; orders = []; next = m }

unfoldable pub does : Memory → List ℕ → Kind → Said Order Memory
does m u Zero = zeroed m
does m u (Set k) = puts m k u
does m u (Get k) = gets m (name_of u) k
does m u (Gives o) = gives m (name_of u) o
does m u (Moves k) = moves m k u
does m u Places = places m u
does m u Finds = finds m (name_of u)
does m u Clears = clears m (name_of u)
does m u Unknown = unknown m

-- WHAT BECOMES OF A TOKEN: a unit is answered; "A wait .. drops the unit's bytes so far, without reply or flag", and a report says nothing
unfoldable pub act : Memory → Token Event → Said Order Memory
act m (whole u) = does m u (kind_at u)
act m (lost u) = quiet m
act m (seen e) = quiet (told m e)

-- ---- the code's answer

-- the order of a unit or a call, of which there is one at most
abbrev pub order_of : List Order → Order
order_of [] = Nothing
order_of (o ∷ os) = o

-- what the code leaves of a unit: the memory is the lent table, which it changes in place, and the slate
pub record Outcome : Type 0 where
  pub order : Order
  pub memory : Memory

abbrev pub memory_at : List ℕ → Slate → Memory
memory_at table s = record { settings = record { bytes = table }; notes = s.notes; position = s.position }

abbrev pub outcome_at : List ℕ → Judged → Outcome
outcome_at table d = record { order = d.order; memory = memory_at table d.slate }

abbrev pub flag_slate : ℕ → Slate → Slate
flag_slate bit s = record { notes = record { flags = bit_or s.notes.flags bit; block = s.notes.block; field = s.notes.field }; position = s.position }

-- order, memory and each byte of the lent buffer are those of a
pub record Judges (a : Said Order Memory) (before : List ℕ) (o : Outcome) (after : List ℕ) : Type 0 where
  pub result : o ≡ record { order = order_of a.orders; memory = a.next }
  pub reply : after ≡ sets before 0 a.reply

-- the same of an answer that leaves the table alone, whatever it holds
abbrev pub JudgesAny : (Memory → Said Order Memory) → Slate → List ℕ → Judged → List ℕ → Type 0
JudgesAny says s before d after = (table : List ℕ) → Judges (says (memory_at table s)) before (outcome_at table d) after
