-- Block 2, eng: the record that numbers stand for, a record's numbers, and what its fields' types say.
use Rattle.std.specs.Prelude.{List, [], ◌∷◌, ℕ, ◌^◌, ◌<◌, get_or}
use Rattle.std.specs.Int.{w16}
use Rattle.std.proofs.Common.{SFits, to_z, of_z}
use Rattle.eng.specs.declared.Eng.{Eng}

abbrev pub eng_of : List ℕ → Eng
eng_of ns =
    record {
      nomVoltage = get_or ns 0 0;
      nomCurrent = get_or ns 1 0;
      nomSpeed = get_or ns 2 0;
      uNomSpeed = get_or ns 3 0;
      engineFlags = get_or ns 4 0;
      antiplay = to_z w16 (get_or ns 5 0);
      microstepMode = get_or ns 6 0;
      stepsPerRev = get_or ns 7 0;
    }

abbrev pub eng_numbers : Eng → List ℕ
eng_numbers b = b.nomVoltage ∷ b.nomCurrent ∷ b.nomSpeed ∷ b.uNomSpeed ∷ b.engineFlags ∷ of_z w16 b.antiplay ∷ b.microstepMode ∷ b.stepsPerRev ∷ []

-- what the types of its fields say of a block
pub record EngHeld (b : Eng) : Type 0 where
  pub nomVoltage : b.nomVoltage < 2 ^ 16
  pub nomCurrent : b.nomCurrent < 2 ^ 16
  pub nomSpeed : b.nomSpeed < 2 ^ 32
  pub uNomSpeed : b.uNomSpeed < 2 ^ 8
  pub engineFlags : b.engineFlags < 2 ^ 16
  pub antiplay : SFits w16 b.antiplay
  pub microstepMode : b.microstepMode < 2 ^ 8
  pub stepsPerRev : b.stepsPerRev < 2 ^ 16
