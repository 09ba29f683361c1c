-- Block 7, pid: the record that numbers stand for, a record's numbers, and what its fields' types say.
use Rattle.std.specs.Prelude.{List, [], ◌∷◌, ℕ, ◌^◌, ◌<◌, T, get_or}
use Rattle.std.specs.Float.{binary32}
use Rattle.std.specs.Float.Ieee.{fits, of_bits, to_bits}
use Rattle.pid.specs.declared.Pid.{Pid}

abbrev pub pid_of : List ℕ → Pid
pid_of ns =
    record {
      kpU = get_or ns 0 0;
      kiU = get_or ns 1 0;
      kdU = get_or ns 2 0;
      kpf = of_bits binary32 (get_or ns 3 0);
      kif = of_bits binary32 (get_or ns 4 0);
      kdf = of_bits binary32 (get_or ns 5 0);
    }

abbrev pub pid_numbers : Pid → List ℕ
pid_numbers b = b.kpU ∷ b.kiU ∷ b.kdU ∷ to_bits binary32 b.kpf ∷ to_bits binary32 b.kif ∷ to_bits binary32 b.kdf ∷ []

-- what the types of its fields say of a block
pub record PidHeld (b : Pid) : Type 0 where
  pub kpU : b.kpU < 2 ^ 16
  pub kiU : b.kiU < 2 ^ 16
  pub kdU : b.kdU < 2 ^ 16
  pub kpf : T (fits binary32 b.kpf)
  pub kif : T (fits binary32 b.kif)
  pub kdf : T (fits binary32 b.kdf)
