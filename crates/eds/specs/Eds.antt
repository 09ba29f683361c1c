-- Block 4, eds: the record that numbers stand for, a record's numbers, and what its fields' types say.
use Rattle.std.specs.Prelude.{List, [], ◌∷◌, ℕ, ◌^◌, ◌<◌, get_or}
use Rattle.std.specs.Int.{w16, w32}
use Rattle.std.proofs.Common.{SFits, to_z, of_z}
use Rattle.eds.specs.declared.Eds.{Eds}

abbrev pub eds_of : List ℕ → Eds
eds_of ns =
    record {
      borderFlags = get_or ns 0 0;
      enderFlags = get_or ns 1 0;
      leftBorder = to_z w32 (get_or ns 2 0);
      uLeftBorder = to_z w16 (get_or ns 3 0);
      rightBorder = to_z w32 (get_or ns 4 0);
      uRightBorder = to_z w16 (get_or ns 5 0);
    }

abbrev pub eds_numbers : Eds → List ℕ
eds_numbers b = b.borderFlags ∷ b.enderFlags ∷ of_z w32 b.leftBorder ∷ of_z w16 b.uLeftBorder ∷ of_z w32 b.rightBorder ∷ of_z w16 b.uRightBorder ∷ []

-- what the types of its fields say of a block
pub record EdsHeld (b : Eds) : Type 0 where
  pub borderFlags : b.borderFlags < 2 ^ 8
  pub enderFlags : b.enderFlags < 2 ^ 8
  pub leftBorder : SFits w32 b.leftBorder
  pub uLeftBorder : SFits w16 b.uLeftBorder
  pub rightBorder : SFits w32 b.rightBorder
  pub uRightBorder : SFits w16 b.uRightBorder
