-- Block 12, joy: the record that numbers stand for, a record's numbers, and what its fields' types say.
use Rattle.std.specs.Prelude.{List, [], ◌∷◌, ℕ, ◌^◌, ◌<◌, get_or}
use Rattle.joy.specs.declared.Joy.{Joy}

abbrev pub joy_of : List ℕ → Joy
joy_of ns =
    record {
      joyLowEnd = get_or ns 0 0;
      joyCenter = get_or ns 1 0;
      joyHighEnd = get_or ns 2 0;
      expFactor = get_or ns 3 0;
      deadZone = get_or ns 4 0;
      joyFlags = get_or ns 5 0;
    }

abbrev pub joy_numbers : Joy → List ℕ
joy_numbers b = b.joyLowEnd ∷ b.joyCenter ∷ b.joyHighEnd ∷ b.expFactor ∷ b.deadZone ∷ b.joyFlags ∷ []

-- what the types of its fields say of a block
pub record JoyHeld (b : Joy) : Type 0 where
  pub joyLowEnd : b.joyLowEnd < 2 ^ 16
  pub joyCenter : b.joyCenter < 2 ^ 16
  pub joyHighEnd : b.joyHighEnd < 2 ^ 16
  pub expFactor : b.expFactor < 2 ^ 8
  pub deadZone : b.deadZone < 2 ^ 8
  pub joyFlags : b.joyFlags < 2 ^ 8
