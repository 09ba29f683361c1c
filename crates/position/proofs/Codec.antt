-- The maps of travel and positions, there and back (sheet, `Codec`). Assumes nothing.
use mathlib.Core.Path.{◌≡◌, refl}
use mathlib.Core.List.{List, [], ◌∷◌, ◌++◌}
use Prim.Native.Nat.{ℕ}
use mir.Syntax.{w16, w32, w64}
use mir.ValLaws.{of_z_fits, to_z-of_z}
use Rattle.wire.proofs.Laid.{Room, room_listed, room_at}
use Rattle.sheet.specs.Sheet.{move_row, movr_row, spos_row, gpos_row}
use Rattle.sheet.specs.Rows.{widths, values}
use Rattle.sheet.proofs.Codec.{Codec, always, signed_back, signed_held}
use Rattle.position.specs.declared.Travel.{Travel}
use Rattle.position.specs.declared.Position.{Position}
use Rattle.position.specs.declared.Spos.{Spos}
use Rattle.position.specs.Position.{travel_of, travel_numbers, TravelHeld, position_of, position_numbers, PositionHeld, spos_of, spos_numbers, SposHeld}

-- ---- move and movr: two numbers of one section

travel_back : (ns : List ℕ) → Room (widths move_row) ns → travel_numbers (travel_of ns) ≡ ns
travel_back ns h = rw (signed_back w32 (widths move_row) ns 0 refl h, signed_back w16 (widths move_row) ns 1 refl h) (room_listed (widths move_row) ns h)

travel_room : (t : Travel) → TravelHeld t → Room (widths move_row) (travel_numbers t)
travel_room t h = ((of_z_fits w32 t.steps.0 h.steps).fits, ((of_z_fits w16 t.microsteps.0 h.microsteps).fits, tt))

travel_forth : (t : Travel) → TravelHeld t → travel_of (travel_numbers t) ≡ t
travel_forth t h = rw (to_z-of_z w32 t.steps.0 h.steps, to_z-of_z w16 t.microsteps.0 h.microsteps)

travel_held : (ns : List ℕ) → Room (widths move_row) ns → TravelHeld (travel_of ns)
travel_held ns h = record { steps = signed_held w32 (widths move_row) ns 0 refl h; microsteps = signed_held w16 (widths move_row) ns 1 refl h }

pub travel_codec : Codec move_row Travel travel_of travel_numbers TravelHeld
travel_codec = always move_row Travel travel_of travel_numbers TravelHeld travel_back travel_room travel_forth travel_held

pub movr_codec : Codec movr_row Travel travel_of travel_numbers TravelHeld
movr_codec = always movr_row Travel travel_of travel_numbers TravelHeld travel_back travel_room travel_forth travel_held

-- ---- a position stands in front, whatever fields follow it

module _ (ws : List ℕ) where
  front_held : (ns : List ℕ) → Room (4 ∷ 2 ∷ 8 ∷ ws) ns → PositionHeld (position_of ns)
  front_held ns h =
      record {
        steps = signed_held w32 (4 ∷ 2 ∷ 8 ∷ ws) ns 0 refl h;
        microsteps = signed_held w16 (4 ∷ 2 ∷ 8 ∷ ws) ns 1 refl h;
        count = signed_held w64 (4 ∷ 2 ∷ 8 ∷ ws) ns 2 refl h;
      }

  front_room : (p : Position) (ns : List ℕ) → PositionHeld p → Room ws ns → Room (4 ∷ 2 ∷ 8 ∷ ws) (position_numbers p ++ ns)
  front_room p ns h r =
      ((of_z_fits w32 p.steps.0 h.steps).fits, ((of_z_fits w16 p.microsteps.0 h.microsteps).fits, ((of_z_fits w64 p.count.0 h.count).fits, r)))

position_forth : (p : Position) → PositionHeld p → position_of (position_numbers p) ≡ p
position_forth p h = rw (to_z-of_z w32 p.steps.0 h.steps, to_z-of_z w16 p.microsteps.0 h.microsteps, to_z-of_z w64 p.count.0 h.count)

position_back : (ns : List ℕ) → Room (widths gpos_row) ns → position_numbers (position_of ns) ≡ ns
position_back ns h = rw (signed_back w32 (widths gpos_row) ns 0 refl h, signed_back w16 (widths gpos_row) ns 1 refl h, signed_back w64 (widths gpos_row) ns 2 refl h) (room_listed (widths gpos_row) ns h)

pub position_codec : Codec gpos_row Position position_of position_numbers PositionHeld
position_codec = always gpos_row Position position_of position_numbers PositionHeld position_back (λ p h. front_room [] p [] h tt) position_forth (front_held [])

spos_back : (ns : List ℕ) → Room (widths spos_row) ns → spos_numbers (spos_of ns) ≡ ns
spos_back ns h = rw (signed_back w32 (widths spos_row) ns 0 refl h, signed_back w16 (widths spos_row) ns 1 refl h, signed_back w64 (widths spos_row) ns 2 refl h) (room_listed (widths spos_row) ns h)

pub spos_codec : Codec spos_row Spos spos_of spos_numbers SposHeld
spos_codec =
    always spos_row Spos spos_of spos_numbers SposHeld spos_back
    (λ s h. front_room (1 ∷ []) s.position (s.flags ∷ []) h.position (h.flags, tt))
    (λ s h i. record { position = position_forth s.position h.position i; flags = s.flags })
    (λ ns h. record { position = front_held (1 ∷ []) ns h; flags = room_at (widths spos_row) ns 3 h })

-- ---- each field holds its number as its row says, unsigned, signed or float

pub travel_values : (ns : List ℕ) → let t = travel_of ns in values move_row.fields 0 ns ≡ (t.steps.0, (t.microsteps.0, tt))
travel_values ns = refl

pub position_values : (ns : List ℕ) → let p = position_of ns in values gpos_row.fields 0 ns ≡ (p.steps.0, (p.microsteps.0, (p.count.0, tt)))
position_values ns = refl

pub spos_values : (ns : List ℕ) → let s = spos_of ns in values spos_row.fields 0 ns ≡ (s.position.steps.0, (s.position.microsteps.0, (s.position.count.0, (s.flags, tt))))
spos_values ns = refl
