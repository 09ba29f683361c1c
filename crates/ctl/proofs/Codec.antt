-- Block ctl's own maps, there and back (sheet, `Codec`). Assumes nothing.
use mathlib.Core.Path.{◌≡◌, refl, ap, ◌∙◌, subst}
use mathlib.Core.List.{List, [], ◌∷◌, ◌++◌, append_assoc}
use Prim.Native.Nat.{ℕ, ◌+◌, ◌<◌}
use native.Mathlib.Omega.{arith}
use lib.ListN.{length, get_or, take, drop, replicate, length-append}
use lib.Seq.{take_at, drop_at, get_or-append-add, get_or-take, get_or-drop}
use mir.Syntax.{w16, w32}
use mir.Val.{to_z, of_z}
use mir.ValLaws.{of_z_fits, to_z-of_z}
use Rattle.wire.proofs.Laid.{Room, room_listed, room_at}
use Rattle.wire.proofs.Runs.{room_run, run_room, room_join, room_parts}
use Rattle.sheet.specs.Sheet.{ctl_row}
use Rattle.sheet.specs.Rows.{widths, values}
use Rattle.sheet.proofs.Codec.{Codec, always, signed_back, signed_held}
use Rattle.ctl.specs.declared.Ctl.{Ctl}
use Rattle.ctl.specs.Ctl.{ctl_of, ctl_numbers, CtlHeld}

ctl_back : (ns : List ℕ) → Room (widths ctl_row) ns → ctl_numbers (ctl_of ns) ≡ ns
ctl_back ns h =
    rw (signed_back w32 (widths ctl_row) ns 31 refl h, signed_back w16 (widths ctl_row) ns 32 refl h)
    (subst (λ (ms : List ℕ). (take 10 ms ++ take 10 (drop 10 ms) ++ take 9 (drop 20 ms) ++ get_or ms 29 0 ∷ get_or ms 30 0 ∷ get_or ms 31 0 ∷ get_or ms 32 0 ∷ []) ≡ ms)
    (room_listed (widths ctl_row) ns h) refl)

ctl_held : (ns : List ℕ) → Room (widths ctl_row) ns → CtlHeld (ctl_of ns)
ctl_held ns h =
    let ws = widths ctl_row in
    let first = room_parts (take 10 ws) (drop 10 ws) ns h in
    record {
      maxSpeed = run_room 10 4 (take 10 ns) first.0;
      uMaxSpeed = run_room 10 1 (take 10 (drop 10 ns)) (room_parts (take 10 (drop 10 ws)) (drop 20 ws) (drop 10 ns) first.1).0;
      timeout = run_room 9 2 (take 9 (drop 20 ns)) (room_parts (take 9 (drop 20 ws)) (drop 29 ws) (drop 20 ns) (room_parts (take 20 ws) (drop 20 ws) ns h).1).0;
      maxClickTime = room_at ws ns 29 h;
      flags = room_at ws ns 30 h;
      deltaPosition = signed_held w32 ws ns 31 refl h;
      uDeltaPosition = signed_held w16 ws ns 32 refl h;
    }

ctl_room : (b : Ctl) → CtlHeld b → Room (widths ctl_row) (ctl_numbers b)
ctl_room b h =
    room_join (replicate 10 4 ++ replicate 10 1 ++ replicate 9 2) (2 ∷ 2 ∷ 4 ∷ 2 ∷ []) (b.maxSpeed ++ b.uMaxSpeed ++ b.timeout) _
    (room_join (replicate 10 4 ++ replicate 10 1) (replicate 9 2) (b.maxSpeed ++ b.uMaxSpeed) b.timeout
    (room_join (replicate 10 4) (replicate 10 1) b.maxSpeed b.uMaxSpeed (room_run 10 4 b.maxSpeed h.maxSpeed) (room_run 10 1 b.uMaxSpeed h.uMaxSpeed))
    (room_run 9 2 b.timeout h.timeout))
    (h.maxClickTime, (h.flags, ((of_z_fits w32 b.deltaPosition h.deltaPosition).fits, ((of_z_fits w16 b.uDeltaPosition h.uDeltaPosition).fits, tt))))

-- the arrays come back, and the others behind them
module _ (b : Ctl) (h : CtlHeld b) where
  abbrev others : List ℕ
  others = b.maxClickTime ∷ b.flags ∷ of_z w32 b.deltaPosition ∷ of_z w16 b.uDeltaPosition ∷ []

  two : length (b.maxSpeed ++ b.uMaxSpeed) ≡ 20
  two = omega (arith, length-append b.maxSpeed b.uMaxSpeed, h.maxSpeed.0, h.uMaxSpeed.0)

  three : length (b.maxSpeed ++ b.uMaxSpeed ++ b.timeout) ≡ 29
  three = omega (arith, length-append (b.maxSpeed ++ b.uMaxSpeed) b.timeout, two, h.timeout.0)

  first_array : take 10 (ctl_numbers b) ≡ b.maxSpeed
  first_array = simp append_assoc (take_at b.maxSpeed (b.uMaxSpeed ++ (b.timeout ++ others)) 10 h.maxSpeed.0)

  second_array : take 10 (drop 10 (ctl_numbers b)) ≡ b.uMaxSpeed
  second_array =
      let r = b.timeout ++ others in
      simp append_assoc (ap (take 10) (drop_at b.maxSpeed (b.uMaxSpeed ++ r) 10 h.maxSpeed.0) ∙ take_at b.uMaxSpeed r 10 h.uMaxSpeed.0)

  third_array : take 9 (drop 20 (ctl_numbers b)) ≡ b.timeout
  third_array =
      ap (λ (x : List ℕ). take 9 (drop 20 x)) (append_assoc (b.maxSpeed ++ b.uMaxSpeed) b.timeout others)
      ∙ ap (take 9) (drop_at (b.maxSpeed ++ b.uMaxSpeed) (b.timeout ++ others) 20 two)
      ∙ take_at b.timeout others 9 h.timeout.0

  behind_arrays : (k : ℕ) → get_or (ctl_numbers b) (29 + k) 0 ≡ get_or others k 0
  behind_arrays k = subst (λ (p : ℕ). get_or (ctl_numbers b) (p + k) 0 ≡ get_or others k 0) three (get_or-append-add (b.maxSpeed ++ b.uMaxSpeed ++ b.timeout) others k 0)

  ctl_forth : ctl_of (ctl_numbers b) ≡ b
  ctl_forth = λ i. record {
    maxSpeed = first_array i;
    uMaxSpeed = second_array i;
    timeout = third_array i;
    maxClickTime = behind_arrays 0 i;
    flags = behind_arrays 1 i;
    deltaPosition = (ap (to_z w32) (behind_arrays 2) ∙ to_z-of_z w32 b.deltaPosition h.deltaPosition) i;
    uDeltaPosition = (ap (to_z w16) (behind_arrays 3) ∙ to_z-of_z w16 b.uDeltaPosition h.uDeltaPosition) i;
  }

pub ctl_codec : Codec ctl_row Ctl ctl_of ctl_numbers CtlHeld
ctl_codec = always ctl_row Ctl ctl_of ctl_numbers CtlHeld ctl_back ctl_room ctl_forth ctl_held

-- each element of an array is the number at its own place, and each other field holds its number as its row says, unsigned or signed
pub ctl_values : (ns : List ℕ) → let b = ctl_of ns in
    ((i : ℕ) → i < 10 → get_or b.maxSpeed i 0 ≡ get_or ns i 0)
    × ((i : ℕ) → i < 10 → get_or b.uMaxSpeed i 0 ≡ get_or ns (10 + i) 0)
    × ((i : ℕ) → i < 9 → get_or b.timeout i 0 ≡ get_or ns (20 + i) 0)
    × (values (drop 29 ctl_row.fields) 29 ns ≡ (b.maxClickTime, (b.flags, (b.deltaPosition, (b.uDeltaPosition, tt)))))
ctl_values ns = (
  λ i h. get_or-take 10 ns i 0 h,
  λ i h. get_or-take 10 (drop 10 ns) i 0 h ∙ get_or-drop 10 ns i 0,
  λ i h. get_or-take 9 (drop 20 ns) i 0 h ∙ get_or-drop 20 ns i 0,
  refl,
)
