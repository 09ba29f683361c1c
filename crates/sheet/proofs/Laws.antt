-- Laws of data sections and of fresh values, once over a row. Assumes nothing.
use mathlib.Core.Path.{◌≡◌, refl, sym, ap, ◌∙◌}
use mathlib.Core.Bool.{Bool, true, false, cond}
use mathlib.Core.List.{List, [], ◌∷◌, ◌++◌, append_assoc}
use Prim.Native.Nat.{ℕ, zero, suc, ◌+◌, ◌-◌, ◌≤◌, ◌<◌}
use native.Mathlib.Nat.{lt_irrefl, lt_of_le_of_lt}
use native.Mathlib.Omega.{arith}
use borrow.Author.Tests.{eqb-true, eqb-false}
use lib.Dec.{eqb}
use lib.ListN.{length, get_or, take, replicate}
use lib.Seq.{sets, length-sets}
use Rattle.wire.specs.Layout.{sum}
use Rattle.wire.proofs.Stores.{front_stored}
use Rattle.wire.proofs.Laid.{Room, numbers_laid, laid_numbers, laid_then_zeros, length_laid, length_numbers, numbers_room, numbers_take, room_length}
use Rattle.sheet.specs.Sheet.{Row}
use Rattle.sheet.specs.Rows.{widths, total, numbers_in, data_of, canonical, least, least_from}

-- ---- data sections

sum_last : (ws : List ℕ) (k : ℕ) → sum (ws ++ k ∷ []) ≡ sum ws + k
sum_last [] k = omega arith
sum_last (w ∷ ws) k = omega (arith, sum_last ws k)

module _ (r : Row) where
  -- the data section is the frame without name and CRC
  pub data_length : (ns : List ℕ) → length (data_of r ns) ≡ total r - 6
  data_length ns = omega (arith, length_laid (widths r ++ r.reserved ∷ []) ns, sum_last (widths r) r.reserved)

  -- a data section made of numbers holds these numbers, whatever stands behind it
  pub read_back : (ns rest : List ℕ) → Room (widths r) ns → numbers_in r (data_of r ns ++ rest) ≡ ns
  read_back ns rest h =
      rw (laid_then_zeros (widths r) r.reserved ns (room_length (widths r) ns h), append_assoc)
      (numbers_laid (widths r) ns (replicate r.reserved 0 ++ rest) h)

  -- numbers that were read are sent as the very bytes, and zeros in the reserved part
  pub sent_again : (d : List ℕ) → ((i : ℕ) → get_or d i 0 < 256) → sum (widths r) ≤ length d → data_of r (numbers_in r d) ≡ canonical r d
  sent_again d b l =
      let j : 0 + sum (widths r) ≤ length d = omega arith in
      rw (laid_then_zeros (widths r) r.reserved (numbers_in r d) (length_numbers (widths r) 0 d), laid_numbers (widths r) 0 d b j)

  -- reserved bytes are not looked at
  pub reserved_ignored : (d : List ℕ) (n : ℕ) → sum (widths r) ≤ n → numbers_in r (take n d) ≡ numbers_in r d
  reserved_ignored d n h = numbers_take (widths r) 0 n d (omega arith)

  pub numbers_fit : (d : List ℕ) → ((i : ℕ) → get_or d i 0 < 256) → Room (widths r) (numbers_in r d)
  numbers_fit d b = numbers_room (widths r) 0 d b

  -- laid out aside, in a buffer that its frame fits, it stands in front
  module _ (d : List ℕ) (long : length d ≡ total r - 6) (n : ℕ) (is : n ≡ total r) (zs aside : List ℕ) (room : total r ≤ length zs) (laid : aside ≡ sets zs 0 d) where
    pub aside_fits : n - 6 ≤ length aside
    aside_fits = omega (arith, ap length laid ∙ length-sets zs 0 d)

    pub aside_front : take (n - 6) aside ≡ d
    aside_front = ap (take (n - 6)) laid ∙ front_stored zs d (n - 6) (long ∙ ap (λ (k : ℕ). k - 6) (sym is)) (omega arith)

-- ---- the number of a fresh field is the smallest that its test takes

step : (n m : ℕ) → n ≤ m → (n ≡ m → ⊥) → n + 1 ≤ m
step n m l ne = omega arith

least_turn : (n m rest : ℕ) (t : ℕ → Bool) → n ≤ m → (n + 1 ≤ m → m < rest → t m ≡ false) → m < cond (t n) n rest → t m ≡ false
least_turn n m rest t l f h = go (t n) refl h
  where
    here : (e : Bool) → t n ≡ false → eqb n m ≡ e → m < rest → t m ≡ false
    here true p q k = ap t (sym (eqb-true n m q)) ∙ p
    here false p q k = f (step n m l (eqb-false n m q)) k

    go : (b : Bool) → t n ≡ b → m < cond b n rest → t m ≡ false
    go true p k = absurd (lt_irrefl n (lt_of_le_of_lt l k))
    go false p k = here (eqb n m) p refl k

least_from_lem : (fuel n : ℕ) (t : ℕ → Bool) (m : ℕ) → n ≤ m → m < least_from fuel n t → t m ≡ false
least_from_lem zero n t m l h = absurd (lt_irrefl n (lt_of_le_of_lt l h))
least_from_lem (suc fuel) n t m l h = least_turn n m (least_from fuel (n + 1) t) t l (λ i k. least_from_lem fuel (n + 1) t m i k) h

pub least_is : (t : ℕ → Bool) (m : ℕ) → m < least t → t m ≡ false
unfolding least
least_is t m h = least_from_lem 256 0 t m (omega arith) h
