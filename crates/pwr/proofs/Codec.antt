-- Block pwr's own maps, there and back (sheet, `Codec`). Assumes nothing.
use mathlib.Core.Path.{◌≡◌, refl}
use mathlib.Core.List.{List}
use Prim.Native.Nat.{ℕ}
use Rattle.wire.proofs.Laid.{Room, room_listed, room_at}
use Rattle.sheet.specs.Sheet.{pwr_row}
use Rattle.sheet.specs.Rows.{widths, values}
use Rattle.sheet.proofs.Codec.{Codec, always}
use Rattle.pwr.specs.declared.Pwr.{Pwr}
use Rattle.pwr.specs.Pwr.{pwr_of, pwr_numbers, PwrHeld}

pwr_held : (ns : List ℕ) → Room (widths pwr_row) ns → PwrHeld (pwr_of ns)
pwr_held ns h =
    record {
      holdCurrent = room_at (widths pwr_row) ns 0 h;
      currReductDelay = room_at (widths pwr_row) ns 1 h;
      powerOffDelay = room_at (widths pwr_row) ns 2 h;
      currentSetTime = room_at (widths pwr_row) ns 3 h;
      powerFlags = room_at (widths pwr_row) ns 4 h;
    }

pub pwr_codec : Codec pwr_row Pwr pwr_of pwr_numbers PwrHeld
pwr_codec =
    always pwr_row Pwr pwr_of pwr_numbers PwrHeld (room_listed (widths pwr_row))
    (λ b h. (h.holdCurrent, (h.currReductDelay, (h.powerOffDelay, (h.currentSetTime, (h.powerFlags, tt))))))
    (λ b h. refl)
    pwr_held

-- each field holds its number as its row says, unsigned, signed or float
pub pwr_values : (ns : List ℕ) → let b = pwr_of ns in values pwr_row.fields 0 ns ≡ (b.holdCurrent, (b.currReductDelay, (b.powerOffDelay, (b.currentSetTime, (b.powerFlags, tt)))))
pwr_values ns = refl
