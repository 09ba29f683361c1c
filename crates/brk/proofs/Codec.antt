-- Block brk's own maps, there and back (sheet, `Codec`). Assumes nothing.
use mathlib.Core.Path.{◌≡◌, refl}
use mathlib.Core.List.{List}
use Prim.Native.Nat.{ℕ}
use Rattle.wire.proofs.Laid.{Room, room_listed, room_at}
use Rattle.sheet.specs.Sheet.{brk_row}
use Rattle.sheet.specs.Rows.{widths, values}
use Rattle.sheet.proofs.Codec.{Codec, always}
use Rattle.brk.specs.declared.Brk.{Brk}
use Rattle.brk.specs.Brk.{brk_of, brk_numbers, BrkHeld}

brk_held : (ns : List ℕ) → Room (widths brk_row) ns → BrkHeld (brk_of ns)
brk_held ns h =
    record {
      t1 = room_at (widths brk_row) ns 0 h;
      t2 = room_at (widths brk_row) ns 1 h;
      t3 = room_at (widths brk_row) ns 2 h;
      t4 = room_at (widths brk_row) ns 3 h;
      brakeFlags = room_at (widths brk_row) ns 4 h;
    }

pub brk_codec : Codec brk_row Brk brk_of brk_numbers BrkHeld
brk_codec =
    always brk_row Brk brk_of brk_numbers BrkHeld (room_listed (widths brk_row))
    (λ b h. (h.t1, (h.t2, (h.t3, (h.t4, (h.brakeFlags, tt))))))
    (λ b h. refl)
    brk_held

-- each field holds its number as its row says, unsigned, signed or float
pub brk_values : (ns : List ℕ) → let b = brk_of ns in values brk_row.fields 0 ns ≡ (b.t1, (b.t2, (b.t3, (b.t4, (b.brakeFlags, tt)))))
brk_values ns = refl
