-- Block pid's own maps, there and back (sheet, `Codec`). Assumes nothing.
use mathlib.Core.Path.{◌≡◌, refl}
use mathlib.Core.List.{List}
use Prim.Native.Nat.{ℕ}
use lib.Dec.{lit<}
use lib.ListN.{get_or}
use lib.Ieee.{binary32}
use lib.Ieee.Bits.{of_bits-to_bits, of_bits-fits, to_bits-lt}
use Rattle.wire.proofs.Laid.{Room, room_listed, room_at}
use Rattle.ranges.proofs.Tests.{all_of}
use Rattle.values.proofs.Values.{bits_back, bits_judged}
use Rattle.sheet.specs.Sheet.{pid_row}
use Rattle.sheet.specs.Rows.{widths, values, first_bad, verdicts}
use Rattle.sheet.proofs.Codec.{Codec}
use Rattle.pid.specs.declared.Pid.{Pid}
use Rattle.pid.specs.Pid.{pid_of, pid_numbers, PidHeld}

pid_back : (ns : List ℕ) → Room (widths pid_row) ns → first_bad pid_row ns ≡ 0 → pid_numbers (pid_of ns) ≡ ns
pid_back ns h e =
    let a = all_of 1 (verdicts pid_row.fields 0 ns) (lit< tt) e in
    rw (bits_back (get_or ns 3 0) (room_at (widths pid_row) ns 3 h) a.1.1.1.0, bits_back (get_or ns 4 0) (room_at (widths pid_row) ns 4 h) a.1.1.1.1.0, bits_back (get_or ns 5 0) (room_at (widths pid_row) ns 5 h) a.1.1.1.1.1.0)
    (room_listed (widths pid_row) ns h)

pid_judged : (ns : List ℕ) → Room (widths pid_row) ns → first_bad pid_row (pid_numbers (pid_of ns)) ≡ first_bad pid_row ns
pid_judged ns h =
    rw (bits_judged (get_or ns 3 0) (room_at (widths pid_row) ns 3 h), bits_judged (get_or ns 4 0) (room_at (widths pid_row) ns 4 h), bits_judged (get_or ns 5 0) (room_at (widths pid_row) ns 5 h))

pid_held : (ns : List ℕ) → Room (widths pid_row) ns → PidHeld (pid_of ns)
pid_held ns h =
    record {
      kpU = room_at (widths pid_row) ns 0 h;
      kiU = room_at (widths pid_row) ns 1 h;
      kdU = room_at (widths pid_row) ns 2 h;
      kpf = of_bits-fits binary32 (get_or ns 3 0);
      kif = of_bits-fits binary32 (get_or ns 4 0);
      kdf = of_bits-fits binary32 (get_or ns 5 0);
    }

pub pid_codec : Codec pid_row Pid pid_of pid_numbers PidHeld
pid_codec =
    record {
      back = pid_back;
      judged = pid_judged;
      room = λ b h. (h.kpU, (h.kiU, (h.kdU, (to_bits-lt binary32 b.kpf h.kpf, (to_bits-lt binary32 b.kif h.kif, (to_bits-lt binary32 b.kdf h.kdf, tt))))));
      forth = λ b h. rw (of_bits-to_bits binary32 b.kpf h.kpf, of_bits-to_bits binary32 b.kif h.kif, of_bits-to_bits binary32 b.kdf h.kdf);
      held = pid_held;
    }

-- each field holds its number as its row says, unsigned, signed or float
pub pid_values : (ns : List ℕ) → let b = pid_of ns in values pid_row.fields 0 ns ≡ (b.kpU, (b.kiU, (b.kdU, (b.kpf, (b.kif, (b.kdf, tt))))))
pid_values ns = refl
