-- Block eng's own maps, there and back (sheet, `Codec`). Assumes nothing.
use mathlib.Core.Path.{◌≡◌, refl}
use mathlib.Core.List.{List}
use Prim.Native.Nat.{ℕ}
use mir.Syntax.{w16}
use mir.ValLaws.{of_z_fits, to_z-of_z}
use Rattle.wire.proofs.Laid.{Room, room_listed, room_at}
use Rattle.sheet.specs.Sheet.{eng_row}
use Rattle.sheet.specs.Rows.{widths, values}
use Rattle.sheet.proofs.Codec.{Codec, always, signed_back, signed_held}
use Rattle.eng.specs.declared.Eng.{Eng}
use Rattle.eng.specs.Eng.{eng_of, eng_numbers, EngHeld}

eng_back : (ns : List ℕ) → Room (widths eng_row) ns → eng_numbers (eng_of ns) ≡ ns
eng_back ns h = rw (signed_back w16 (widths eng_row) ns 5 refl h) (room_listed (widths eng_row) ns h)

eng_held : (ns : List ℕ) → Room (widths eng_row) ns → EngHeld (eng_of ns)
eng_held ns h =
    record {
      nomVoltage = room_at (widths eng_row) ns 0 h;
      nomCurrent = room_at (widths eng_row) ns 1 h;
      nomSpeed = room_at (widths eng_row) ns 2 h;
      uNomSpeed = room_at (widths eng_row) ns 3 h;
      engineFlags = room_at (widths eng_row) ns 4 h;
      antiplay = signed_held w16 (widths eng_row) ns 5 refl h;
      microstepMode = room_at (widths eng_row) ns 6 h;
      stepsPerRev = room_at (widths eng_row) ns 7 h;
    }

pub eng_codec : Codec eng_row Eng eng_of eng_numbers EngHeld
eng_codec =
    always eng_row Eng eng_of eng_numbers EngHeld eng_back
    (λ b h. (h.nomVoltage, (h.nomCurrent, (h.nomSpeed, (h.uNomSpeed, (h.engineFlags, ((of_z_fits w16 b.antiplay h.antiplay).fits, (h.microstepMode, (h.stepsPerRev, tt)))))))))
    (λ b h. rw (to_z-of_z w16 b.antiplay h.antiplay))
    eng_held

-- each field holds its number as its row says, unsigned, signed or float
pub eng_values : (ns : List ℕ) → let b = eng_of ns in values eng_row.fields 0 ns ≡ (b.nomVoltage, (b.nomCurrent, (b.nomSpeed, (b.uNomSpeed, (b.engineFlags, (b.antiplay, (b.microstepMode, (b.stepsPerRev, tt))))))))
eng_values ns = refl
