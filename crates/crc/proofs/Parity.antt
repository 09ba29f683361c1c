-- 02, P4: "The eight steps for a byte can be had from a few shifts and the parity of the byte." Assumes nothing.
use mathlib.Core.Path.{◌≡◌, refl, sym, ap, ap₂, ◌∙◌}
use mathlib.Core.Bool.{Bool, true, false, cond}
use Prim.Native.Nat.{ℕ, zero, suc, ◌+◌, ◌*◌, ◌/◌, ◌%◌, ◌^◌, ◌<◌}
use native.Mathlib.Nat.{mul-one, mul_assoc, mul_comm, pow-suc, mul-div_cancel, not-suc-le-zero, le_of_suc-le-suc}
use native.Mathlib.Omega.{arith}
use lib.Arith.{bin_ind}
use lib.Bits.{bit_xor, xor_add_and, xor_shr, xor_shifted, xor_zero_r}
use lib.Count.{ones_in, ones}
use lib.Dec.{T, eqb}
use lib.Pow.{split}
use Rattle.crc.specs.Crc.{crc_bit, crc_bits, crc_byte}

-- ---- XOR is associative

xor_odd : (a b : ℕ) → bit_xor a b % 2 ≡ (a + b) % 2
xor_odd a b = omega (arith, xor_add_and a b)

odd_assoc : (a b c : ℕ) → bit_xor (bit_xor a b) c % 2 ≡ bit_xor a (bit_xor b c) % 2
odd_assoc a b c =
    let l : bit_xor (bit_xor a b) c % 2 ≡ (a + b + c) % 2 = omega (arith, xor_odd (bit_xor a b) c, xor_odd a b) in
    let r : bit_xor a (bit_xor b c) % 2 ≡ (a + b + c) % 2 = omega (arith, xor_odd a (bit_xor b c), xor_odd b c) in
    l ∙ sym r

-- numbers with the same half and the same lowest digit
same_digits : {m n : ℕ} → m / 2 ≡ n / 2 → m % 2 ≡ n % 2 → m ≡ n
same_digits h o = omega arith

xor_assoc : (a b c : ℕ) → bit_xor (bit_xor a b) c ≡ bit_xor a (bit_xor b c)
xor_assoc =
    bin_ind (λ (a : ℕ). (b c : ℕ) → bit_xor (bit_xor a b) c ≡ bit_xor a (bit_xor b c)) (λ b c. refl)
    (λ a ih b c.
    same_digits
    (xor_shr (bit_xor a b) c 1
    ∙ ap (λ (m : ℕ). bit_xor m (c / 2)) (xor_shr a b 1)
    ∙ ih (b / 2) (c / 2)
    ∙ sym (xor_shr a (bit_xor b c) 1 ∙ ap (bit_xor (a / 2)) (xor_shr b c 1)))
    (odd_assoc a b c))

xor_assoc₃ : (a b c d : ℕ) → bit_xor (bit_xor (bit_xor a b) c) d ≡ bit_xor a (bit_xor (bit_xor b c) d)
xor_assoc₃ a b c d = ap (λ (m : ℕ). bit_xor m d) (xor_assoc a b c) ∙ xor_assoc a (bit_xor b c) d

-- ---- the digits above those that the steps shift out pass through them

xor_out : (t : Bool) (a x y : ℕ) → cond t (bit_xor (bit_xor a x) y) (bit_xor a x) ≡ bit_xor a (cond t (bit_xor x y) x)
xor_out true a x y = xor_assoc a x y
xor_out false a x y = refl

bit_over : (a x : ℕ) → crc_bit (bit_xor (a * 2) x) ≡ bit_xor a (crc_bit x)
unfolding crc_bit
bit_over a x =
    let odd : bit_xor (a * 2) x % 2 ≡ x % 2 = omega (arith, xor_odd (a * 2) x) in
    let half : bit_xor (a * 2) x / 2 ≡ bit_xor a (x / 2) = xor_shr (a * 2) x 1 ∙ ap (λ (m : ℕ). bit_xor m (x / 2)) (mul-div_cancel a (omega arith)) in
    ap₂ (λ (o h : ℕ). cond (eqb o 1) (bit_xor h 0xA001) h) odd half ∙ xor_out (eqb (x % 2) 1) a (x / 2) 0xA001

bits_over : (n a x : ℕ) → crc_bits n (bit_xor (a * 2 ^ n) x) ≡ bit_xor a (crc_bits n x)
unfolding crc_bits
bits_over zero a x = ap (λ (m : ℕ). bit_xor m x) (mul-one a)
bits_over (suc n) a x =
    ap (λ (m : ℕ). crc_bit (crc_bits n (bit_xor m x))) (ap (λ (p : ℕ). a * p) (pow-suc 2 n ∙ mul_comm (2 ^ n) 2) ∙ sym (mul_assoc a 2 (2 ^ n)))
    ∙ ap crc_bit (bits_over n (a * 2) x)
    ∙ bit_over a (crc_bits n x)

pub byte_over : (r b : ℕ) → b < 256 → crc_byte r b ≡ bit_xor (r / 256) (crc_bits 8 (bit_xor r b % 256))
unfolding crc_byte
byte_over r b h =
    let x = bit_xor r b % 256 in
    ap (crc_bits 8) (sym (split (bit_xor r b) 8) ∙ sym (xor_shifted (bit_xor r b / 256) 8 x (omega arith)))
    ∙ bits_over 8 (bit_xor r b / 256) x
    ∙ ap (λ (m : ℕ). bit_xor m (crc_bits 8 x)) (xor_shr r b 8 ∙ ap (bit_xor (r / 256)) (omega arith) ∙ xor_zero_r (r / 256))

-- ---- a few shifts and a parity

-- XOR 0xC001 where x has an odd number of bits set
unfoldable pub marked : ℕ → ℕ → ℕ
marked x r = cond (eqb (ones x % 2) 1) (bit_xor r 0xC001) r

-- the high byte so, and x shifted left by 6 and by 7 in 32 bits
unfoldable pub at_once : ℕ → ℕ → ℕ
at_once high x = bit_xor (bit_xor (marked x high) (x * 2 ^ 6 % 2 ^ 32)) (x * 2 ^ 7 % 2 ^ 32)

marked_over : (x high : ℕ) → marked x high ≡ bit_xor high (marked x 0)
unfolding marked
marked_over x high = ap (marked x) (sym (xor_zero_r high)) ∙ xor_out (eqb (ones x % 2) 1) high 0 _

pub at_once_over : (high x : ℕ) → at_once high x ≡ bit_xor high (at_once 0 x)
unfolding at_once
at_once_over high x = rw (marked_over x high) (xor_assoc₃ high _ _ _)

-- the test of every number below n
abbrev pub every : (ℕ → Bool) → ℕ → Bool
every test zero = true
every test (suc n) = cond (test zero) (every (λ x. test (suc x)) n) false

first : (a b : Bool) → T (cond a b false) → T a
first true b t = tt
first false b t = t

rest : (a b : Bool) → T (cond a b false) → T b
rest true b t = t
rest false b t = absurd t

-- where it passes, each of them does
pub each : (test : ℕ → Bool) (n : ℕ) → T (every test n) → (x : ℕ) → x < n → T (test x)
each test zero t x h = absurd (not-suc-le-zero h)
each test (suc n) t zero h = first (test zero) (every (λ x. test (suc x)) n) t
each test (suc n) t (suc x) h = each (λ x. test (suc x)) n (rest (test zero) (every (λ x. test (suc x)) n) t) x (le_of_suc-le-suc h)

-- at all 256 values of x: antt computes both sides
abbrev pub agrees : ℕ → Bool
agrees x = eqb (crc_bits 8 x) (at_once 0 x)

pub computed : T (every agrees 256)
unfolding crc_bits crc_bit at_once marked ones ones_in
computed = tt

-- the parity is of x: that of the data byte, even here, would give 0x00C0
of_x : crc_byte 1 0 ≡ 0xC0C1
unfolding crc_byte crc_bits crc_bit
of_x = refl
