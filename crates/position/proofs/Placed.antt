-- Laws of a board's position: each change leaves it sound, and spos leaves what its flags say. Assumes nothing.
use mathlib.Core.Path.{◌≡◌, refl, sym, ap, ◌∙◌}
use mathlib.Core.Bool.{Bool, true, false, cond}
use mathlib.Core.List.{[], ◌∷◌}
use native.Mathlib.Omega.{arith}
use lib.Dec.{eqb}
use mir.Syntax.{w16}
use mir.Val.{of_z}
use Rattle.ranges.specs.Tests.{signed_within, first_false}
use Rattle.ranges.proofs.Tests.{all_of}
use Rattle.sheet.specs.Sheet.{spos_row}
use Rattle.sheet.specs.Rows.{verdicts, first_bad}
use Rattle.position.specs.declared.Microsteps.{Microsteps}
use Rattle.position.specs.declared.Position.{Position}
use Rattle.position.specs.declared.Spos.{Spos}
use Rattle.position.specs.Position.{spos_numbers, fresh_position, sound_position, cleared, leaves_travel, leaves_count, placed}

-- ---- sound: only the microsteps are looked at

abbrev pub in_range : Microsteps → Bool
in_range m = signed_within 255 (of_z w16 m.0)

second_of : (b : Bool) → eqb (first_false 1 (true ∷ b ∷ true ∷ [])) 0 ≡ b
unfolding first_false
second_of true = refl
second_of false = refl

pub sound_is : (p : Position) → sound_position p ≡ in_range p.microsteps
sound_is p = second_of (in_range p.microsteps)

pub fresh_sound : sound_position fresh_position ≡ true
unfolding signed_within first_false
fresh_sound = refl

pub cleared_sound : (p : Position) → sound_position (cleared p) ≡ true
unfolding signed_within first_false
cleared_sound p = refl

either : (b : Bool) (old new : Microsteps) → in_range old ≡ true → in_range new ≡ true → in_range (cond b old new) ≡ true
either true old new e f = e
either false old new e f = f

pub placed_sound : (s : Spos) (p : Position) → first_bad spos_row (spos_numbers s) ≡ 0 → sound_position p ≡ true → sound_position (placed s p) ≡ true
placed_sound s p good sound =
    let all = all_of 1 (verdicts spos_row.fields 0 (spos_numbers s)) (omega arith) good in
    sound_is (placed s p) ∙ either (leaves_travel s) p.microsteps s.position.microsteps (sym (sound_is p) ∙ sound) all.1.0

-- ---- what spos leaves

module _ (s : Spos) (p : Position) where
  pub leaves_travel_lem : leaves_travel s ≡ true → ((placed s p).steps ≡ p.steps) × ((placed s p).microsteps ≡ p.microsteps)
  leaves_travel_lem e = (ap (λ b. cond b p.steps s.position.steps) e, ap (λ b. cond b p.microsteps s.position.microsteps) e)

  pub leaves_count_lem : leaves_count s ≡ true → (placed s p).count ≡ p.count
  leaves_count_lem e = ap (λ b. cond b p.count s.position.count) e

  pub leaves_all : leaves_travel s ≡ true → leaves_count s ≡ true → placed s p ≡ p
  leaves_all e f = λ i. record { steps = (leaves_travel_lem e).0 i; microsteps = (leaves_travel_lem e).1 i; count = leaves_count_lem f i }
