-- Block 11, ctl: the record that numbers stand for, a record's numbers, and what its fields' types say.
use Rattle.std.specs.Prelude.{◌≡◌, List, [], ◌∷◌, ◌++◌, ℕ, ◌^◌, ◌<◌, length, get_or, take, drop}
use Rattle.std.specs.Int.{w16, w32}
use Rattle.std.proofs.Common.{SFits, to_z, of_z}
use Rattle.ctl.specs.declared.Ctl.{Ctl}

-- an array is a run of numbers: "array elements count as fields one by one"
abbrev pub ctl_of : List ℕ → Ctl
ctl_of ns =
    record {
      maxSpeed = take 10 ns;
      uMaxSpeed = take 10 (drop 10 ns);
      timeout = take 9 (drop 20 ns);
      maxClickTime = get_or ns 29 0;
      flags = get_or ns 30 0;
      deltaPosition = to_z w32 (get_or ns 31 0);
      uDeltaPosition = to_z w16 (get_or ns 32 0);
    }

abbrev pub ctl_numbers : Ctl → List ℕ
ctl_numbers b = b.maxSpeed ++ b.uMaxSpeed ++ b.timeout ++ b.maxClickTime ∷ b.flags ∷ of_z w32 b.deltaPosition ∷ of_z w16 b.uDeltaPosition ∷ []

-- what the type of an array says: so many elements, each of so many bits
abbrev pub ArrayOf : ℕ → ℕ → List ℕ → Type 0
ArrayOf n bits xs = (length xs ≡ n) × ((i : ℕ) → get_or xs i 0 < 2 ^ bits)

-- what the types of its fields say of a block
pub record CtlHeld (b : Ctl) : Type 0 where
  pub maxSpeed : ArrayOf 10 32 b.maxSpeed
  pub uMaxSpeed : ArrayOf 10 8 b.uMaxSpeed
  pub timeout : ArrayOf 9 16 b.timeout
  pub maxClickTime : b.maxClickTime < 2 ^ 16
  pub flags : b.flags < 2 ^ 16
  pub deltaPosition : SFits w32 b.deltaPosition
  pub uDeltaPosition : SFits w16 b.uDeltaPosition
