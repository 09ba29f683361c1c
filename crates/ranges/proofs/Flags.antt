-- What the test of a flag field says, over the mask. Assumes nothing.
use mathlib.Core.Path.{◌≡◌, refl, sym, ap, ap₂, ◌∙◌, subst}
use mathlib.Core.Bool.{true}
use mathlib.Core.Logic.{◌↔◌}
use Prim.Native.Nat.{ℕ, zero, suc, ◌+◌, ◌*◌, ◌/◌, ◌%◌, ◌^◌, ◌≤◌, ◌<◌, zero-le}
use native.Mathlib.Nat.{le_of_eq, mod-lt, zero-lt-suc, div-add-mod', div-one, min-eq_left}
use native.Mathlib.Omega.{arith}
use lib.Arith.{bin_ind}
use lib.Bits.{bit_and, and_step, and_shr, and_mod, and_le_r}
use lib.Pow.{shr-shr}
use borrow.Author.Tests.{eqb-true, eq-eqb}
use Rattle.ranges.specs.Tests.{bit, only_bits}

abbrev Inside : ℕ → ℕ → Type 0
Inside mask n = (k : ℕ) → bit n k ≡ 1 → bit mask k ≡ 1

-- a bit of what two numbers have in common is a bit of the second
inside : (mask n : ℕ) → bit_and n mask ≡ n → Inside mask n
inside mask n e k set =
    let x = n / 2 ^ k in
    let y = mask / 2 ^ k in
    let common : bit_and (x % 2) (y % 2) ≡ 1 = sym (and_mod x y 1) ∙ ap (λ (z : ℕ). z % 2) (sym (and_shr n mask k) ∙ ap (λ (z : ℕ). z / 2 ^ k) e) ∙ set in
    let least : 1 ≤ y % 2 = subst (λ (z : ℕ). z ≤ y % 2) common (and_le_r (x % 2) (y % 2)) in
    omega (arith, least, mod-lt y (zero-lt-suc 1))

-- the bits of half a number are those above its lowest
half_bit : (n k : ℕ) → bit (n / 2) k ≡ bit n (1 + k)
half_bit n k = ap (λ (z : ℕ). z % 2) (shr-shr n 1 k)

low_bit : (n : ℕ) → bit n 0 ≡ n % 2
low_bit n = ap (λ (z : ℕ). z % 2) (div-one n)

digit_le : (a b : ℕ) → a < 2 → (a ≡ 1 → b ≡ 1) → a ≤ b
digit_le zero b l h = zero-le
digit_le (suc zero) b l h = le_of_eq (sym (h refl))
digit_le (suc (suc a)) b l h = absurd (omega arith)

-- so where each bit is one of the mask's, the two have the whole number in common
whole : (n mask : ℕ) → Inside mask n → bit_and n mask ≡ n
whole = bin_ind (λ (n : ℕ). (mask : ℕ) → Inside mask n → bit_and n mask ≡ n) (λ mask h. refl) step
  where
    step : (n : ℕ) → ((mask : ℕ) → Inside mask (n / 2) → bit_and (n / 2) mask ≡ n / 2) → (mask : ℕ) → Inside mask n → bit_and n mask ≡ n
    step n ih mask h =
        let high = ih (mask / 2) (λ k set. half_bit mask k ∙ h (1 + k) (sym (half_bit n k) ∙ set)) in
        let low = min-eq_left (digit_le (n % 2) (mask % 2) (mod-lt n (zero-lt-suc 1)) (λ set. sym (low_bit mask) ∙ h 0 (low_bit n ∙ set))) in
        and_step n mask ∙ ap₂ (λ (x y : ℕ). x * 2 + y) high low ∙ div-add-mod' n 2

-- the test is: no bit of the number is outside the mask
pub only_bits_is : (mask n : ℕ) → (only_bits mask n ≡ true) ↔ ((k : ℕ) → bit n k ≡ 1 → bit mask k ≡ 1)
unfolding only_bits
only_bits_is mask n = (λ e. inside mask n (eqb-true (bit_and n mask) n e), λ h. eq-eqb (bit_and n mask) n (whole n mask h))
