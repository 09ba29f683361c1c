-- Positions and travel: what the numbers of their sections stand for, and what changes a position. In quotation marks: sheet 02, P5.
use Rattle.std.specs.Prelude.{Bool, cond, List, [], ◌∷◌, ℕ, ◌^◌, ◌<◌, eqb, pos, get_or}
use Rattle.std.specs.Int.{w16, w32, w64}
use Rattle.std.proofs.Common.{SFits, to_z, of_z}
use Rattle.ranges.specs.Tests.{bit}
use Rattle.sheet.specs.Sheet.{gpos_row}
use Rattle.sheet.specs.Rows.{first_bad}
use Rattle.position.specs.declared.Steps.{Steps}
use Rattle.position.specs.declared.Microsteps.{Microsteps}
use Rattle.position.specs.declared.Count.{Count}
use Rattle.position.specs.declared.Travel.{Travel}
use Rattle.position.specs.declared.Position.{Position}
use Rattle.position.specs.declared.Spos.{Spos}

-- "Whole steps, microsteps and encoder counts stay three separate quantities.": each by its number
abbrev steps_of : ℕ → Steps
steps_of n = record { 0 = to_z w32 n }

abbrev microsteps_of : ℕ → Microsteps
microsteps_of n = record { 0 = to_z w16 n }

abbrev count_of : ℕ → Count
count_of n = record { 0 = to_z w64 n }

-- ---- what sections carry, by their numbers, and their numbers again

abbrev pub travel_of : List ℕ → Travel
travel_of ns = record { steps = steps_of (get_or ns 0 0); microsteps = microsteps_of (get_or ns 1 0) }

abbrev pub travel_numbers : Travel → List ℕ
travel_numbers t = of_z w32 t.steps.0 ∷ of_z w16 t.microsteps.0 ∷ []

abbrev pub position_of : List ℕ → Position
position_of ns = record { steps = steps_of (get_or ns 0 0); microsteps = microsteps_of (get_or ns 1 0); count = count_of (get_or ns 2 0) }

abbrev pub position_numbers : Position → List ℕ
position_numbers p = of_z w32 p.steps.0 ∷ of_z w16 p.microsteps.0 ∷ of_z w64 p.count.0 ∷ []

abbrev pub spos_of : List ℕ → Spos
spos_of ns = record { position = position_of ns; flags = get_or ns 3 0 }

abbrev pub spos_numbers : Spos → List ℕ
spos_numbers s =
    of_z w32 s.position.steps.0 ∷ of_z w16 s.position.microsteps.0 ∷ of_z w64 s.position.count.0 ∷ s.flags ∷ []

-- what the types of their fields say of them
pub record TravelHeld (t : Travel) : Type 0 where
  pub steps : SFits w32 t.steps.0
  pub microsteps : SFits w16 t.microsteps.0

pub record PositionHeld (p : Position) : Type 0 where
  pub steps : SFits w32 p.steps.0
  pub microsteps : SFits w16 p.microsteps.0
  pub count : SFits w64 p.count.0

pub record SposHeld (s : Spos) : Type 0 where
  pub position : PositionHeld s.position
  pub flags : s.flags < 2 ^ 8

-- ---- a board's position

-- "the position, 0 when fresh"
abbrev pub fresh_position : Position
fresh_position = position_of []

-- "In a sound state the position's microsteps lie in -255..255.": as the row of gpos has them
abbrev pub sound_position : Position → Bool
sound_position p = eqb (first_bad gpos_row (position_numbers p)) 0

-- "zero clears steps and microsteps and, by our rule, keeps the count."
abbrev pub cleared : Position → Position
cleared p = record { steps = record { 0 = pos 0 }; microsteps = record { 0 = pos 0 }; count = p.count }

-- "In spos's flags 0x01 leaves steps and microsteps,
abbrev pub leaves_travel : Spos → Bool
leaves_travel s = eqb (bit s.flags 0) 1

-- 0x02 leaves the encoder count": in the position p that it meets
abbrev pub leaves_count : Spos → Bool
leaves_count s = eqb (bit s.flags 1) 1

abbrev pub placed : Spos → Position → Position
placed s p =
    record {
      steps = cond (leaves_travel s) p.steps s.position.steps;
      microsteps = cond (leaves_travel s) p.microsteps s.position.microsteps;
      count = cond (leaves_count s) p.count s.position.count;
    }
