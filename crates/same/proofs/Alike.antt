-- Laws of the comparison of bytes, over plain variables. Assumes nothing.
use mathlib.Core.Path.{◌≡◌, refl, sym, ap, subst}
use mathlib.Core.Bool.{Bool, true, ◌&&◌}
use mathlib.Core.List.{List, [], ◌∷◌}
use Prim.Native.Nat.{ℕ}
use lib.Dec.{T, eqb}
use borrow.Author.Tests.{eq-eqb, eqb-true}
use lib.Pointwise.{pointwise}
use Rattle.std.specs.Prelude.{nat_eq}
use Rattle.sheet.proofs.Sections.{both}
use Rattle.same.specs.Same.{same_bytes}

-- what it means
pub bytes_self : (u : List ℕ) → same_bytes u u ≡ true
unfolding same_bytes
bytes_self [] = refl
bytes_self (x ∷ xs) = rw (eq-eqb x x refl) (bytes_self xs)

pub bytes_are : (u w : List ℕ) → same_bytes u w ≡ true → u ≡ w
unfolding same_bytes
bytes_are [] [] h = refl
bytes_are [] (y ∷ ys) h = absurd (subst T (sym h) tt)
bytes_are (x ∷ xs) [] h = absurd (subst T (sym h) tt)
bytes_are (x ∷ xs) (y ∷ ys) h =
    let p = both (eqb x y) (same_bytes xs ys) h in
    rw (eqb-true x y p.0, bytes_are xs ys p.1)

-- and it is the library's
pub same_is : (u w : List ℕ) → pointwise nat_eq u w ≡ same_bytes u w
unfolding same_bytes
same_is [] [] = refl
same_is [] (y ∷ ys) = refl
same_is (x ∷ xs) [] = refl
same_is (x ∷ xs) (y ∷ ys) = ap (λ (b : Bool). eqb x y && b) (same_is xs ys)
