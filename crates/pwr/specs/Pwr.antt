-- Block 3, pwr: the record that numbers stand for, a record's numbers, and what its fields' types say.
use Rattle.std.specs.Prelude.{List, [], ◌∷◌, ℕ, ◌^◌, ◌<◌, get_or}
use Rattle.pwr.specs.declared.Pwr.{Pwr}

abbrev pub pwr_of : List ℕ → Pwr
pwr_of ns =
    record {
      holdCurrent = get_or ns 0 0;
      currReductDelay = get_or ns 1 0;
      powerOffDelay = get_or ns 2 0;
      currentSetTime = get_or ns 3 0;
      powerFlags = get_or ns 4 0;
    }

abbrev pub pwr_numbers : Pwr → List ℕ
pwr_numbers b = b.holdCurrent ∷ b.currReductDelay ∷ b.powerOffDelay ∷ b.currentSetTime ∷ b.powerFlags ∷ []

-- what the types of its fields say of a block
pub record PwrHeld (b : Pwr) : Type 0 where
  pub holdCurrent : b.holdCurrent < 2 ^ 8
  pub currReductDelay : b.currReductDelay < 2 ^ 16
  pub powerOffDelay : b.powerOffDelay < 2 ^ 16
  pub currentSetTime : b.currentSetTime < 2 ^ 16
  pub powerFlags : b.powerFlags < 2 ^ 8
