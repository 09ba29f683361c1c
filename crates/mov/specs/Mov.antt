-- Block 1, mov: the record that numbers stand for, a record's numbers, and what its fields' types say.
use Rattle.std.specs.Prelude.{List, [], ◌∷◌, ℕ, ◌^◌, ◌<◌, get_or}
use Rattle.mov.specs.declared.Mov.{Mov}

abbrev pub mov_of : List ℕ → Mov
mov_of ns =
    record {
      speed = get_or ns 0 0;
      uSpeed = get_or ns 1 0;
      accel = get_or ns 2 0;
      decel = get_or ns 3 0;
      antiplaySpeed = get_or ns 4 0;
      uAntiplaySpeed = get_or ns 5 0;
    }

abbrev pub mov_numbers : Mov → List ℕ
mov_numbers b = b.speed ∷ b.uSpeed ∷ b.accel ∷ b.decel ∷ b.antiplaySpeed ∷ b.uAntiplaySpeed ∷ []

-- what the types of its fields say of a block
pub record MovHeld (b : Mov) : Type 0 where
  pub speed : b.speed < 2 ^ 32
  pub uSpeed : b.uSpeed < 2 ^ 8
  pub accel : b.accel < 2 ^ 16
  pub decel : b.decel < 2 ^ 16
  pub antiplaySpeed : b.antiplaySpeed < 2 ^ 32
  pub uAntiplaySpeed : b.uAntiplaySpeed < 2 ^ 8
