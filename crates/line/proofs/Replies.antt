-- A reply `out`, written from w on into the lent rest of a buffer. Assumes nothing.
use mathlib.Core.Path.{◌≡◌, ap, ◌∙◌}
use mathlib.Core.List.{List, ◌++◌}
use Prim.Native.Nat.{ℕ, ◌+◌, ◌-◌, ◌≤◌}
use native.Mathlib.Nat.{add-zero}
use native.Mathlib.Omega.{arith}
use lib.ListN.{length, take, drop, length-append}
use lib.Seq.{sets, sets-eq, length-sets, length-take-le, take_at, drop_at}
use borrow.Rule.Slice.PartMut.{mid_of, put_mid}
use Rattle.wire.proofs.Stores.{sets_rest}

pub record Written (l back out : List ℕ) (w : ℕ) : Type 0 where
  pub front : take (w + length out) back ≡ take w l ++ out
  pub past : drop (w + length out) back ≡ drop (w + length out) l
  pub long : length back ≡ length l

module _ (l out : List ℕ) (w : ℕ) (fits : w + length out ≤ length l) where
  front_long : length (take w l ++ out) ≡ w + length out
  front_long = rw (length-append, length-take-le w l (omega arith))

  pub written_at : Written l (sets l w out) out w
  written_at =
      let e = sets-eq out l w fits in
      record {
        front = rw e (take_at (take w l ++ out) (drop (w + length out) l) (w + length out) front_long);
        past = rw e (drop_at (take w l ++ out) (drop (w + length out) l) (w + length out) front_long);
        long = length-sets l w out;
      }

-- what was stored in the lent rest came back
pub lent_back : (l ys out : List ℕ) (w : ℕ) → ys ≡ sets (mid_of w (length l - w) l) 0 out → put_mid w (length l - w) l ys ≡ sets l w out
lent_back l ys out w e = ap (put_mid w (length l - w) l) e ∙ sets_rest out l w 0 ∙ ap (λ (k : ℕ). sets l k out) (add-zero w)
