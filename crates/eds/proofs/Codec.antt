-- Block eds's own maps, there and back (sheet, `Codec`). Assumes nothing.
use mathlib.Core.Path.{◌≡◌, refl}
use mathlib.Core.List.{List}
use Prim.Native.Nat.{ℕ}
use mir.Syntax.{w16, w32}
use mir.ValLaws.{of_z_fits, to_z-of_z}
use Rattle.wire.proofs.Laid.{Room, room_listed, room_at}
use Rattle.sheet.specs.Sheet.{eds_row}
use Rattle.sheet.specs.Rows.{widths, values}
use Rattle.sheet.proofs.Codec.{Codec, always, signed_back, signed_held}
use Rattle.eds.specs.declared.Eds.{Eds}
use Rattle.eds.specs.Eds.{eds_of, eds_numbers, EdsHeld}

eds_back : (ns : List ℕ) → Room (widths eds_row) ns → eds_numbers (eds_of ns) ≡ ns
eds_back ns h = rw (signed_back w32 (widths eds_row) ns 2 refl h, signed_back w16 (widths eds_row) ns 3 refl h, signed_back w32 (widths eds_row) ns 4 refl h, signed_back w16 (widths eds_row) ns 5 refl h) (room_listed (widths eds_row) ns h)

eds_held : (ns : List ℕ) → Room (widths eds_row) ns → EdsHeld (eds_of ns)
eds_held ns h =
    record {
      borderFlags = room_at (widths eds_row) ns 0 h;
      enderFlags = room_at (widths eds_row) ns 1 h;
      leftBorder = signed_held w32 (widths eds_row) ns 2 refl h;
      uLeftBorder = signed_held w16 (widths eds_row) ns 3 refl h;
      rightBorder = signed_held w32 (widths eds_row) ns 4 refl h;
      uRightBorder = signed_held w16 (widths eds_row) ns 5 refl h;
    }

pub eds_codec : Codec eds_row Eds eds_of eds_numbers EdsHeld
eds_codec =
    always eds_row Eds eds_of eds_numbers EdsHeld eds_back
    (λ b h. (h.borderFlags, (h.enderFlags, ((of_z_fits w32 b.leftBorder h.leftBorder).fits, ((of_z_fits w16 b.uLeftBorder h.uLeftBorder).fits, ((of_z_fits w32 b.rightBorder h.rightBorder).fits, ((of_z_fits w16 b.uRightBorder h.uRightBorder).fits, tt)))))))
    (λ b h. rw (to_z-of_z w32 b.leftBorder h.leftBorder, to_z-of_z w16 b.uLeftBorder h.uLeftBorder, to_z-of_z w32 b.rightBorder h.rightBorder, to_z-of_z w16 b.uRightBorder h.uRightBorder))
    eds_held

-- each field holds its number as its row says, unsigned, signed or float
pub eds_values : (ns : List ℕ) → let b = eds_of ns in values eds_row.fields 0 ns ≡ (b.borderFlags, (b.enderFlags, (b.leftBorder, (b.uLeftBorder, (b.rightBorder, (b.uRightBorder, tt))))))
eds_values ns = refl
