-- Block mov's own maps, there and back (sheet, `Codec`). Assumes nothing.
use mathlib.Core.Path.{◌≡◌, refl}
use mathlib.Core.List.{List}
use Prim.Native.Nat.{ℕ}
use Rattle.wire.proofs.Laid.{Room, room_listed, room_at}
use Rattle.sheet.specs.Sheet.{mov_row}
use Rattle.sheet.specs.Rows.{widths, values}
use Rattle.sheet.proofs.Codec.{Codec, always}
use Rattle.mov.specs.declared.Mov.{Mov}
use Rattle.mov.specs.Mov.{mov_of, mov_numbers, MovHeld}

mov_held : (ns : List ℕ) → Room (widths mov_row) ns → MovHeld (mov_of ns)
mov_held ns h =
    record {
      speed = room_at (widths mov_row) ns 0 h;
      uSpeed = room_at (widths mov_row) ns 1 h;
      accel = room_at (widths mov_row) ns 2 h;
      decel = room_at (widths mov_row) ns 3 h;
      antiplaySpeed = room_at (widths mov_row) ns 4 h;
      uAntiplaySpeed = room_at (widths mov_row) ns 5 h;
    }

pub mov_codec : Codec mov_row Mov mov_of mov_numbers MovHeld
mov_codec =
    always mov_row Mov mov_of mov_numbers MovHeld (room_listed (widths mov_row))
    (λ b h. (h.speed, (h.uSpeed, (h.accel, (h.decel, (h.antiplaySpeed, (h.uAntiplaySpeed, tt)))))))
    (λ b h. refl)
    mov_held

-- each field holds its number as its row says, unsigned, signed or float
pub mov_values : (ns : List ℕ) → let b = mov_of ns in values mov_row.fields 0 ns ≡ (b.speed, (b.uSpeed, (b.accel, (b.decel, (b.antiplaySpeed, (b.uAntiplaySpeed, tt))))))
mov_values ns = refl
