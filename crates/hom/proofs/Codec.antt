-- Block hom's own maps, there and back (sheet, `Codec`). Assumes nothing.
use mathlib.Core.Path.{◌≡◌, refl}
use mathlib.Core.List.{List}
use Prim.Native.Nat.{ℕ}
use mir.Syntax.{w16, w32}
use mir.ValLaws.{of_z_fits, to_z-of_z}
use Rattle.wire.proofs.Laid.{Room, room_listed, room_at}
use Rattle.sheet.specs.Sheet.{hom_row}
use Rattle.sheet.specs.Rows.{widths, values}
use Rattle.sheet.proofs.Codec.{Codec, always, signed_back, signed_held}
use Rattle.hom.specs.declared.Hom.{Hom}
use Rattle.hom.specs.Hom.{hom_of, hom_numbers, HomHeld}

hom_back : (ns : List ℕ) → Room (widths hom_row) ns → hom_numbers (hom_of ns) ≡ ns
hom_back ns h = rw (signed_back w32 (widths hom_row) ns 4 refl h, signed_back w16 (widths hom_row) ns 5 refl h) (room_listed (widths hom_row) ns h)

hom_held : (ns : List ℕ) → Room (widths hom_row) ns → HomHeld (hom_of ns)
hom_held ns h =
    record {
      fastHome = room_at (widths hom_row) ns 0 h;
      uFastHome = room_at (widths hom_row) ns 1 h;
      slowHome = room_at (widths hom_row) ns 2 h;
      uSlowHome = room_at (widths hom_row) ns 3 h;
      homeDelta = signed_held w32 (widths hom_row) ns 4 refl h;
      uHomeDelta = signed_held w16 (widths hom_row) ns 5 refl h;
      homeFlags = room_at (widths hom_row) ns 6 h;
    }

pub hom_codec : Codec hom_row Hom hom_of hom_numbers HomHeld
hom_codec =
    always hom_row Hom hom_of hom_numbers HomHeld hom_back
    (λ b h. (h.fastHome, (h.uFastHome, (h.slowHome, (h.uSlowHome, ((of_z_fits w32 b.homeDelta h.homeDelta).fits, ((of_z_fits w16 b.uHomeDelta h.uHomeDelta).fits, (h.homeFlags, tt))))))))
    (λ b h. rw (to_z-of_z w32 b.homeDelta h.homeDelta, to_z-of_z w16 b.uHomeDelta h.uHomeDelta))
    hom_held

-- each field holds its number as its row says, unsigned, signed or float
pub hom_values : (ns : List ℕ) → let b = hom_of ns in values hom_row.fields 0 ns ≡ (b.fastHome, (b.uFastHome, (b.slowHome, (b.uSlowHome, (b.homeDelta, (b.uHomeDelta, (b.homeFlags, tt)))))))
hom_values ns = refl
