-- Signed numbers by their bits, over the width, and floats by their patterns. Assumes nothing.
use mathlib.Core.Path.{◌≡◌, refl, sym, ap, ◌∙◌, subst}
use mathlib.Core.Bool.{Bool, true, false, not, ◌&&◌, ◌||◌, cond}
use Prim.Native.Nat.{ℕ, zero, suc, ◌+◌, ◌-◌, ◌/◌, ◌%◌, ◌^◌, ◌≤◌, ◌<◌}
use native.Mathlib.Nat.{lt_irrefl, lt_of_le_of_lt}
use native.Mathlib.Omega.{arith}
use lib.Dec.{T, ltb, leb, eqb, lit<}
use lib.IntN.{ℤ, pos, negsuc}
use lib.Signed.{le_z, mag}
use lib.Ieee.{Float, nan, inf, fin, binary32, is_nan, nan_bits, of_bits, to_bits, of_fields, odd}
use lib.Ieee.Bits.{nan_bits_is, nan_bits_above, to_bits-of_bits}
use borrow.Author.Tests.{lt-leb, leb-true, leb-false, lt-ltb, le-ltb, ltb-true, ltb-false}
use mir.Syntax.{Width, w16, w64}
use mir.Val.{SFits, to_z, of_z, sel, hbits}
use mir.Facts.{sfits_widen}
use mir.ValLaws.{to_z-of_z}
use Rattle.ranges.specs.Tests.{signed_within, finite}
use Rattle.ranges.proofs.Tests.{and_true, or_no}

-- what the machine reads back of a signed number that fits is the number
pub back : (w : Width) (z : ℤ) → mag z < 2 ^ hbits w → to_z w (of_z w z) ≡ z
back w z h = to_z-of_z w z (record { sfits = h })

-- ---- floats

pub is_nan_lem : (x : Float) → is_nan x ≡ true → x ≡ nan
unfolding is_nan
is_nan_lem nan e = refl
is_nan_lem (inf s) e = absurd (subst T (sym e) tt)
is_nan_lem (fin s m d) e = absurd (subst T (sym e) tt)

pub pattern_no_nan : (n : ℕ) → n % 2147483648 ≤ 2139095040 → T (not (nan_bits binary32 n))
pattern_no_nan n h = subst (λ (b : Bool). T (not b)) (sym (nan_bits_above binary32 n ∙ le-ltb 2139095040 (n % 2147483648) h)) tt

pub pattern_nan : (n : ℕ) → 2139095040 < n % 2147483648 → of_bits binary32 n ≡ nan
pattern_nan n h = is_nan_lem (of_bits binary32 n) (sym (nan_bits_is binary32 n) ∙ nan_bits_above binary32 n ∙ lt-ltb 2139095040 (n % 2147483648) h)

-- the NaN's pattern
pub nan_bits_lem : to_bits binary32 nan ≡ 2143289344
unfolding to_bits
nan_bits_lem = refl

-- ---- finite is: the exponent's bits are not all ones

-- which floats are numbers: no infinity and no NaN
abbrev pub is_number : Float → Bool
is_number nan = false
is_number (inf s) = false
is_number (fin s m e) = true

digits_number : (s : Bool) (t k l : ℕ) → is_number (odd 24 s t k l) ≡ true
unfolding odd
digits_number s zero k l = refl
digits_number s (suc t) k l = refl

ones_not : (b z s : Bool) (x : Float) → is_number x ≡ true → is_number (cond b (cond z (inf s) nan) x) ≡ not b
ones_not true true s x e = refl
ones_not true false s x e = refl
ones_not false z s x e = e

fields_number : (s : Bool) (x t : ℕ) → is_number (of_fields binary32 s x t) ≡ not (eqb x 255)
unfolding of_fields
fields_number s zero t = digits_number s t 0 149
fields_number s (suc x) t = ones_not (eqb (suc x) 255) (eqb t 0) s (odd 24 s (8388608 + t) x 149) (digits_number s (8388608 + t) x 149)

-- the sheet's test on the number is: the float is no infinity and no NaN
pub finite_is : (n : ℕ) → is_number (of_bits binary32 n) ≡ finite n
unfolding of_bits finite
finite_is n = fields_number (leb 2147483648 n) (n % 2147483648 / 8388608) (n % 8388608)

-- ---- there and back

number_no_nan : (x : Float) → is_number x ≡ true → T (not (is_nan x))
unfolding is_nan
number_no_nan nan e = absurd (subst T (sym e) tt)
number_no_nan (inf s) e = tt
number_no_nan (fin s m d) e = tt

-- the very bits, of a number that is finite
pub bits_back : (n : ℕ) → n < 2 ^ 32 → finite n ≡ true → to_bits binary32 (of_bits binary32 n) ≡ n
bits_back n h e = to_bits-of_bits binary32 n h (number_no_nan (of_bits binary32 n) (finite_is n ∙ e))

-- minus zero keeps its sign
pub minus_zero : to_bits binary32 (of_bits binary32 2147483648) ≡ 2147483648
unfolding finite
minus_zero = bits_back 2147483648 (lit< tt) refl

-- a float that was read is sent as a pattern of the same float, a NaN too
same_go : (n : ℕ) (x : Float) → x ≡ of_bits binary32 n → n < 2 ^ 32 → of_bits binary32 (to_bits binary32 x) ≡ x
unfolding is_nan
same_go n nan e h = ap (of_bits binary32) nan_bits_lem ∙ pattern_nan 2143289344 (omega arith)
same_go n (inf s) e h = ap (of_bits binary32) (ap (to_bits binary32) e ∙ to_bits-of_bits binary32 n h (subst (λ (x : Float). T (not (is_nan x))) e tt)) ∙ sym e
same_go n (fin s m d) e h = ap (of_bits binary32) (ap (to_bits binary32) e ∙ to_bits-of_bits binary32 n h (subst (λ (x : Float). T (not (is_nan x))) e tt)) ∙ sym e

pub same_float : (n : ℕ) → n < 2 ^ 32 → of_bits binary32 (to_bits binary32 (of_bits binary32 n)) ≡ of_bits binary32 n
same_float n h = same_go n (of_bits binary32 n) refl h

-- the test says the same of a number, and of the float that it stands for
bits_judged_go : (n : ℕ) (x : Float) → x ≡ of_bits binary32 n → n < 2 ^ 32 → finite (to_bits binary32 x) ≡ finite n
unfolding is_nan finite
bits_judged_go n nan e h = ap finite nan_bits_lem ∙ ap is_number e ∙ finite_is n
bits_judged_go n (inf s) e h = ap finite (ap (to_bits binary32) e ∙ to_bits-of_bits binary32 n h (subst (λ (x : Float). T (not (is_nan x))) e tt))
bits_judged_go n (fin s m d) e h = ap finite (ap (to_bits binary32) e ∙ to_bits-of_bits binary32 n h (subst (λ (x : Float). T (not (is_nan x))) e tt))

pub bits_judged : (n : ℕ) → n < 2 ^ 32 → finite (to_bits binary32 (of_bits binary32 n)) ≡ finite n
bits_judged n h = bits_judged_go n (of_bits binary32 n) refl h

-- ---- the sheet's test of a signed number on the wire is: -k ≤ z ≤ k

leb_same : (a b c d : ℕ) → (a ≤ b → c ≤ d) → (c ≤ d → a ≤ b) → leb a b ≡ leb c d
leb_same a b c d f g = go (leb a b) refl (leb c d) refl
  where
    go : (x : Bool) → leb a b ≡ x → (y : Bool) → leb c d ≡ y → x ≡ y
    go true p true q = refl
    go true p false q = absurd (lt_irrefl c (lt_of_le_of_lt (f (leb-true a b p)) (leb-false c d q)))
    go false p true q = absurd (lt_irrefl a (lt_of_le_of_lt (g (leb-true c d q)) (leb-false a b p)))
    go false p false q = refl

or_false : (a b : Bool) → b ≡ false → (a || b) ≡ a
or_false true b e = refl
or_false false b e = e

pub signed_is : (m n : ℕ) → m < 32767 → n < 65536 → signed_within (suc m) n ≡ (le_z (negsuc m) (to_z w16 n) && le_z (to_z w16 n) (pos (suc m)))
unfolding signed_within
signed_is m n h f = go (ltb n 32768) refl
  where
    go : (t : Bool) → ltb n 32768 ≡ t → (leb n (suc m) || leb (65536 - suc m) n) ≡ (le_z (negsuc m) (sel t (pos n) (negsuc (65536 - suc n))) && le_z (sel t (pos n) (negsuc (65536 - suc n))) (pos (suc m)))
    go true p = let l = ltb-true n 32768 p in or_false (leb n (suc m)) (leb (65536 - suc m) n) (lt-leb (65536 - suc m) n (omega arith))
    go false p =
        let l = ltb-false n 32768 p in
        sym (or_no (leb n (suc m)) (leb (65536 - suc m) n) (lt-leb n (suc m) (omega arith)))
        ∙ leb_same (65536 - suc m) n (65536 - suc n) m (λ q. omega arith) (λ q. omega arith)
        ∙ and_true (leb (65536 - suc n) m)
