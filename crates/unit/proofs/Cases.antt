-- The starred cases of sheet 01 hold, all thirteen under one statement about the definitions; and those of a standstill (02, P3) and of travel (02, P5).
-- Assumes nothing.
use mathlib.Core.Path.{◌≡◌, refl}
use mathlib.Core.List.{List, ◌∷◌}
use Prim.Native.Nat.{ℕ}
use Rattle.crc.specs.Crc.{crc_bit, crc_bits, crc_byte, crc_from}
use Rattle.wire.specs.Numbers.{le_at, le_bytes}
use Rattle.wire.specs.Layout.{laid}
use Rattle.ranges.specs.Tests.{within, signed_within, only_bits, first_false}
use Rattle.frame.specs.Frame.{intact}
use Rattle.sheet.specs.Rows.{least}
use Rattle.sheet.specs.Sections.{bad_in}
use Rattle.table.specs.Places.{section_in, put_in, fresh_in}
use Rattle.position.specs.declared.Position.{Position}
use Rattle.rule.specs.Run.{Item, wait, late, onward, last_stamp}
use Rattle.rule.specs.Framing.{front, units}
use Rattle.rule.specs.Rule.{deal, whole_run}
use Rattle.keyed.specs.Keyed.{value_in}
use Rattle.names.specs.Names.{position_kind, kind_of, kind_from, need}
use Rattle.unit.specs.Unit.{Event, fresh_memory, gets, checked, puts, moves, places, finds, does, act}
use Rattle.unit.specs.Protocol.{protocol}
use Rattle.orders.specs.declared.Order.{Order}
use Rattle.unit.specs.Cases.{Case, travel, Each, none, row, cases, reports, travels}

pub starred : Each cases
unfolding crc_bit crc_bits crc_byte crc_from le_at le_bytes laid within only_bits first_false least bad_in section_in put_in fresh_in value_in position_kind kind_of kind_from need intact gets
    checked puts does act wait late onward last_stamp front units deal whole_run
starred =
    row refl (row refl (row refl (row refl (row refl
    (row refl (row refl (row refl (row refl (row refl (row refl (row refl (row refl none))))))))))))

pub reports_hold : Each reports
unfolding crc_bit crc_bits crc_byte crc_from le_at le_bytes laid within only_bits first_false least bad_in section_in put_in fresh_in value_in position_kind kind_of kind_from need intact gets
    checked puts does act wait late onward last_stamp front units deal whole_run
reports_hold = row refl (row refl (row refl (row refl (row refl (row refl (row refl (row refl none)))))))

-- a row of travel: its reply, its orders, and where it ends
journey : {run : List (Item Event)} {reply : List ℕ} {orders : List Order} {p : Position} {cs : List Case} → let a = whole_run protocol fresh_memory 0 run in
    a.reply ≡ reply → a.orders ≡ orders → a.next.memory.position ≡ p → Each cs → Each (travel run reply orders p ∷ cs)
journey {run} {reply} {orders} {p} e f g rest = row {c = travel run reply orders p} (e, f, g) rest

pub travels_hold : Each travels
unfolding crc_bit crc_bits crc_byte crc_from le_at le_bytes laid within signed_within only_bits first_false value_in position_kind kind_of kind_from need intact checked moves places finds
    does act wait late onward last_stamp front units deal whole_run
travels_hold =
    journey refl refl refl (journey refl refl refl (journey refl refl refl (journey refl refl refl (journey refl refl refl (journey refl refl refl
    (journey refl refl refl (journey refl refl refl (journey refl refl refl (journey refl refl refl (journey refl refl refl none))))))))))
