-- Places of rows: within the table, and two blocks share no byte. Assumes nothing.
use mathlib.Core.Path.{◌≡◌, refl, sym, ◌∙◌}
use mathlib.Core.Bool.{Bool, true, false, cond}
use mathlib.Core.Logic.{◌⊎◌, inl, inr}
use mathlib.Core.List.{List, [], ◌∷◌}
use Prim.Native.Nat.{ℕ, ◌+◌, ◌≤◌}
use native.Mathlib.Omega.{arith}
use lib.Dec.{eqb}
use borrow.Author.Tests.{eqb-true}
use Rattle.sheet.specs.Sheet.{Row}
use Rattle.sheet.specs.Rows.{size_of, row_in}
use Rattle.table.specs.Places.{whole_of, place_in}

fits_step : (b : Bool) (r q : Row) (p n : ℕ) → p + size_of q ≤ n → cond b 0 (size_of r + p) + size_of (cond b r q) ≤ size_of r + n
fits_step true r q p n h = omega arith
fits_step false r q p n h = omega arith

pub place_fits : (rs : List Row) (k : ℕ) → place_in rs k + size_of (row_in rs k) ≤ whole_of rs
place_fits [] k = omega arith
place_fits (r ∷ rs) k = fits_step (eqb k r.number) r (row_in rs k) (place_in rs k) (whole_of rs) (place_fits rs k)

-- n bytes from p on, and m from q on
abbrev pub Apart : ℕ → ℕ → ℕ → ℕ → Type 0
Apart p n q m = (p + n ≤ q) ⊎ (q + m ≤ p)

shifted : (a p n q m : ℕ) → Apart p n q m → Apart (a + p) n (a + q) m
shifted a p n q m (inl h) = inl (omega arith)
shifted a p n q m (inr h) = inr (omega arith)

apart_step : (j k : ℕ) (r : Row) (rs : List Row) → (j ≡ k → ⊥) → Apart (place_in rs j) (size_of (row_in rs j)) (place_in rs k) (size_of (row_in rs k))
    → Apart (place_in (r ∷ rs) j) (size_of (row_in (r ∷ rs) j)) (place_in (r ∷ rs) k) (size_of (row_in (r ∷ rs) k))
apart_step j k r rs ne h = go (eqb j r.number) (eqb k r.number) refl refl
  where
    go : (a b : Bool) → eqb j r.number ≡ a → eqb k r.number ≡ b
        → Apart (cond a 0 (size_of r + place_in rs j)) (size_of (cond a r (row_in rs j))) (cond b 0 (size_of r + place_in rs k)) (size_of (cond b r (row_in rs k)))
    go true true e f = absurd (ne (eqb-true j r.number e ∙ sym (eqb-true k r.number f)))
    go true false e f = inl (omega arith)
    go false true e f = inr (omega arith)
    go false false e f = shifted (size_of r) (place_in rs j) (size_of (row_in rs j)) (place_in rs k) (size_of (row_in rs k)) h

-- TWO BLOCKS SHARE NO BYTE
pub apart : (rs : List Row) (j k : ℕ) → (j ≡ k → ⊥) → Apart (place_in rs j) (size_of (row_in rs j)) (place_in rs k) (size_of (row_in rs k))
apart [] j k ne = inl (omega arith)
apart (r ∷ rs) j k ne = apart_step j k r rs ne (apart rs j k ne)
