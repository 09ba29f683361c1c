-- Block 6, brk: the record that numbers stand for, a record's numbers, and what its fields' types say.
use Rattle.std.specs.Prelude.{List, [], ◌∷◌, ℕ, ◌^◌, ◌<◌, get_or}
use Rattle.brk.specs.declared.Brk.{Brk}

abbrev pub brk_of : List ℕ → Brk
brk_of ns =
    record {
      t1 = get_or ns 0 0;
      t2 = get_or ns 1 0;
      t3 = get_or ns 2 0;
      t4 = get_or ns 3 0;
      brakeFlags = get_or ns 4 0;
    }

abbrev pub brk_numbers : Brk → List ℕ
brk_numbers b = b.t1 ∷ b.t2 ∷ b.t3 ∷ b.t4 ∷ b.brakeFlags ∷ []

-- what the types of its fields say of a block
pub record BrkHeld (b : Brk) : Type 0 where
  pub t1 : b.t1 < 2 ^ 16
  pub t2 : b.t2 < 2 ^ 16
  pub t3 : b.t3 < 2 ^ 16
  pub t4 : b.t4 < 2 ^ 16
  pub brakeFlags : b.brakeFlags < 2 ^ 8
