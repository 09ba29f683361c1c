-- Block joy's own maps, there and back (sheet, `Codec`). Assumes nothing.
use mathlib.Core.Path.{◌≡◌, refl}
use mathlib.Core.List.{List}
use Prim.Native.Nat.{ℕ}
use Rattle.wire.proofs.Laid.{Room, room_listed, room_at}
use Rattle.sheet.specs.Sheet.{joy_row}
use Rattle.sheet.specs.Rows.{widths, values}
use Rattle.sheet.proofs.Codec.{Codec, always}
use Rattle.joy.specs.declared.Joy.{Joy}
use Rattle.joy.specs.Joy.{joy_of, joy_numbers, JoyHeld}

joy_held : (ns : List ℕ) → Room (widths joy_row) ns → JoyHeld (joy_of ns)
joy_held ns h =
    record {
      joyLowEnd = room_at (widths joy_row) ns 0 h;
      joyCenter = room_at (widths joy_row) ns 1 h;
      joyHighEnd = room_at (widths joy_row) ns 2 h;
      expFactor = room_at (widths joy_row) ns 3 h;
      deadZone = room_at (widths joy_row) ns 4 h;
      joyFlags = room_at (widths joy_row) ns 5 h;
    }

pub joy_codec : Codec joy_row Joy joy_of joy_numbers JoyHeld
joy_codec =
    always joy_row Joy joy_of joy_numbers JoyHeld (room_listed (widths joy_row))
    (λ b h. (h.joyLowEnd, (h.joyCenter, (h.joyHighEnd, (h.expFactor, (h.deadZone, (h.joyFlags, tt)))))))
    (λ b h. refl)
    joy_held

-- each field holds its number as its row says, unsigned, signed or float
pub joy_values : (ns : List ℕ) → let b = joy_of ns in values joy_row.fields 0 ns ≡ (b.joyLowEnd, (b.joyCenter, (b.joyHighEnd, (b.expFactor, (b.deadZone, (b.joyFlags, tt))))))
joy_values ns = refl
