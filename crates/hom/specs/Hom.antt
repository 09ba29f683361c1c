-- Block 5, hom: the record that numbers stand for, a record's numbers, and what its fields' types say.
use Rattle.std.specs.Prelude.{List, [], ◌∷◌, ℕ, ◌^◌, ◌<◌, get_or}
use Rattle.std.specs.Int.{w16, w32}
use Rattle.std.proofs.Common.{SFits, to_z, of_z}
use Rattle.hom.specs.declared.Hom.{Hom}

abbrev pub hom_of : List ℕ → Hom
hom_of ns =
    record {
      fastHome = get_or ns 0 0;
      uFastHome = get_or ns 1 0;
      slowHome = get_or ns 2 0;
      uSlowHome = get_or ns 3 0;
      homeDelta = to_z w32 (get_or ns 4 0);
      uHomeDelta = to_z w16 (get_or ns 5 0);
      homeFlags = get_or ns 6 0;
    }

abbrev pub hom_numbers : Hom → List ℕ
hom_numbers b = b.fastHome ∷ b.uFastHome ∷ b.slowHome ∷ b.uSlowHome ∷ of_z w32 b.homeDelta ∷ of_z w16 b.uHomeDelta ∷ b.homeFlags ∷ []

-- what the types of its fields say of a block
pub record HomHeld (b : Hom) : Type 0 where
  pub fastHome : b.fastHome < 2 ^ 32
  pub uFastHome : b.uFastHome < 2 ^ 8
  pub slowHome : b.slowHome < 2 ^ 32
  pub uSlowHome : b.uSlowHome < 2 ^ 8
  pub homeDelta : SFits w32 b.homeDelta
  pub uHomeDelta : SFits w16 b.uHomeDelta
  pub homeFlags : b.homeFlags < 2 ^ 16
