-- Texts one behind the other in a buffer, and what the numbers in them look like. Assumes nothing.
use mathlib.Core.Bool.{Bool, true, false, cond}
use mathlib.Core.List.{List, [], ◌∷◌, ◌++◌, append_assoc}
use mathlib.Core.Path.{◌≡◌, refl, sym, ap, ◌∙◌}
use Prim.Native.Nat.{ℕ, zero, suc, ◌+◌, ◌-◌, ◌*◌, ◌/◌, ◌%◌, ◌^◌, ◌≤◌, ◌<◌, min}
use native.Mathlib.Nat.{min-eq_left, min-eq_right, pow-succ'}
use native.Mathlib.Numerals.{add-one}
use native.Mathlib.Omega.{arith}
use borrow.Author.Rules.{rules}
use borrow.Author.Tests.{leb-true, leb-false, ltb-true, ltb-false, lt-ltb, le-ltb}
use lib.Dec.{eqb, leb, ltb}
use lib.IntN.{ℤ, pos, negsuc, nat_abs}
use Rattle.std.specs.Prelude.{◌<ℤ◌, ◌≤ℤ◌}
use lib.ListN.{length, get_or, take, length-append}
use lib.Seq.{sets, sets-eq, length-sets, take-suc, take_at, length-take-le}
use mir.Syntax.{w64}
use mir.Val.{to_z}
use Rattle.wire.proofs.Stores.{sets_append, sets_past}
use Rattle.wire.specs.Letters.{ascii}
use Rattle.text.specs.Texts.{glyph, digits, decimal, signed, hex, shown, Written}

-- ---- one text behind another

-- the second text, from where the first ends in the buffer
next_bytes : (s a b : List ℕ) (at : ℕ) (t : Bool) → leb (at + length a) (length s) ≡ t
    → sets (sets s at a) (min (at + length a) (length s)) b ≡ sets s at (a ++ b)
next_bytes s a b at true e =
    let h : at + length a ≤ length s = leb-true (at + length a) (length s) e in
    rw (min-eq_left h) (sym (sets_append s at a b))
next_bytes s a b at false e =
    let h : length s ≤ at + length a = omega (arith, leb-false (at + length a) (length s) e) in
    let l : length (sets s at a) ≤ length s = omega (arith, length-sets s at a) in
    let m : length (sets s at a) ≤ at + length a = omega (arith, length-sets s at a) in
    rw (min-eq_right h, sets_past b (sets s at a) (length s) l) (sym (sets_append s at a b ∙ sets_past b (sets s at a) (at + length a) m))

pub then : {before mid after a b : List ℕ} {at r r' : ℕ} → Written before at a r mid → Written mid r b r' after → Written before at (a ++ b) r' after
then {before} {mid} {after} {a} {b} {at} {r} {r'} p q =
    record {
      bytes = q.bytes ∙ rw (p.bytes, p.behind) (next_bytes before a b at _ refl);
      behind = omega (arith, q.behind, p.behind, ap length p.bytes, length-sets before at a, length-append a b);
    }

-- nothing is written within the buffer
pub nothing : (s : List ℕ) (at : ℕ) → at ≤ length s → Written s at [] at s
nothing s at h = record { bytes = refl; behind = omega arith }

-- nor anywhere else
pub begun : (s : List ℕ) (at p : ℕ) → p ≡ min at (length s) → Written s at [] p s
begun s at p e = record { bytes = refl; behind = omega (arith, e) }

-- ---- decimal

-- more digits than are needed are no others
enough : (f n : ℕ) → n < 10 ^ suc f → digits (suc (suc f)) n ≡ digits (suc f) n
unfolding digits
enough zero n h = let k : n < 10 = omega arith in rw (lt-ltb n 10 k)
enough (suc f) n h = let k : n / 10 < 10 ^ suc f = omega (arith, rw pow-succ' at h) in rw (enough f (n / 10) k)

pub decimal_digit : (n : ℕ) → n < 10 → decimal n ≡ (48 + n) ∷ []
unfolding decimal digits
decimal_digit n h = rw (lt-ltb n 10 h)

-- the digits of a number of 64 bits, with no bound on them
pub decimal_last : (n : ℕ) → 10 ≤ n → n < 2 ^ 64 → decimal n ≡ decimal (n / 10) ++ (48 + n % 10) ∷ []
unfolding decimal digits
decimal_last n h l =
    let k : n / 10 < 10 ^ 19 = omega arith in
    rw (le-ltb n 10 h) (ap (λ (x : List ℕ). x ++ (48 + n % 10) ∷ []) (sym (enough 18 (n / 10) k)))

-- the number that decimal digits stand for, behind those of n
abbrev pub value_from : ℕ → List ℕ → ℕ
value_from n [] = n
value_from n (d ∷ ds) = value_from (10 * n + (d - 48)) ds

value_append : (n : ℕ) (a b : List ℕ) → value_from n (a ++ b) ≡ value_from (value_from n a) b
value_append n [] b = refl
value_append n (d ∷ a) b = value_append (10 * n + (d - 48)) a b

first_stays : (a b : List ℕ) → 48 < get_or a 0 0 → 48 < get_or (a ++ b) 0 0
first_stays [] b h = absurd (omega arith)
first_stays (x ∷ a) b h = h

-- the digits of n, by those of n / 10
by_size : (P : List ℕ → Type 0) (f n : ℕ) → (n < 10 → P ((48 + n) ∷ [])) → (10 ≤ n → P (digits f (n / 10) ++ (48 + n % 10) ∷ [])) → P (digits (suc f) n)
unfolding digits
by_size P f n small large = split (ltb n 10) refl
  where
    split : (t : Bool) → ltb n 10 ≡ t → P (cond t ((48 + n) ∷ []) (digits f (n / 10) ++ (48 + n % 10) ∷ []))
    split true e = small (ltb-true n 10 e)
    split false e = large (ltb-false n 10 e)

digits_value : (f n : ℕ) → n < 10 ^ f → value_from 0 (digits f n) ≡ n
unfolding digits
digits_value zero n h = omega arith
digits_value (suc f) n h =
    by_size (λ (x : List ℕ). value_from 0 x ≡ n) f n (λ s. omega arith) (λ l.
    let k : n / 10 < 10 ^ f = omega (arith, rw pow-succ' at h) in
    value_append 0 (digits f (n / 10)) ((48 + n % 10) ∷ []) ∙ rw (digits_value f (n / 10) k) (omega arith))

digits_first : (f n : ℕ) → 0 < n → n < 10 ^ f → 48 < get_or (digits f n) 0 0
unfolding digits
digits_first zero n p h = omega arith
digits_first (suc f) n p h =
    by_size (λ (x : List ℕ). 48 < get_or x 0 0) f n (λ s. omega arith) (λ l.
    let k : n / 10 < 10 ^ f = omega (arith, rw pow-succ' at h) in
    let q : 0 < n / 10 = omega arith in
    first_stays (digits f (n / 10)) ((48 + n % 10) ∷ []) (digits_first f (n / 10) q k))

digits_most : (f n : ℕ) → length (digits f n) ≤ f
unfolding digits
digits_most zero n = omega arith
digits_most (suc f) n =
    by_size (λ (x : List ℕ). length x ≤ suc f) f n (λ s. omega arith) (λ l.
    omega (arith, length-append (digits f (n / 10)) ((48 + n % 10) ∷ []), digits_most f (n / 10)))

-- a number of 64 bits is what its digits stand for
pub decimal_value : (n : ℕ) → n < 2 ^ 64 → value_from 0 (decimal n) ≡ n
unfolding decimal
decimal_value n h = digits_value 20 n (omega arith)

-- no zero in front, but of 0 itself, whose text is one digit
pub decimal_first : (n : ℕ) → 0 < n → n < 2 ^ 64 → 48 < get_or (decimal n) 0 0
unfolding decimal
decimal_first n p h = digits_first 20 n p (omega arith)

pub decimal_most : (n : ℕ) → length (decimal n) ≤ 20
unfolding decimal
decimal_most n = digits_most 20 n

-- ---- signed, by the magnitude

pub signed_negative : (z : ℤ) → z <ℤ pos 0 → signed z ≡ ascii "-" ++ decimal (nat_abs z)
unfolding signed
signed_negative (pos n) h = absurd (search rules)
signed_negative (negsuc n) h = refl

pub signed_other : (z : ℤ) → pos 0 ≤ℤ z → signed z ≡ decimal (nat_abs z)
unfolding signed
signed_other (pos n) h = refl
signed_other (negsuc n) h = absurd (search rules)

-- the least number of 64 bits
pub signed_least : signed (to_z w64 9223372036854775808) ≡ ascii "-9223372036854775808"
unfolding signed decimal digits
signed_least = refl

pub signed_most : (z : ℤ) → length (signed z) ≤ 21
unfolding signed
signed_most (pos n) = omega (arith, decimal_most n)
signed_most (negsuc n) = omega (arith, decimal_most (suc n))

-- ---- hexadecimal

hex_append : (a b : List ℕ) → hex (a ++ b) ≡ hex a ++ hex b
unfolding hex
hex_append [] b = refl
hex_append (x ∷ a) b = ap (λ (l : List ℕ). glyph (x / 16) ∷ glyph (x % 16) ∷ l) (hex_append a b)

-- one byte more
pub hex_next : (s : List ℕ) (k : ℕ) → k < length s → (hex (take k s) ++ glyph (get_or s k 0 / 16) ∷ []) ++ glyph (get_or s k 0 % 16) ∷ [] ≡ hex (take (k + 1) s)
unfolding hex
hex_next s k h = rw (add-one, take-suc s k 0 h, hex_append, append_assoc)

length_hex : (s : List ℕ) → length (hex s) ≡ 2 * length s
unfolding hex
length_hex [] = refl
length_hex (x ∷ s) = omega (arith, length_hex s)

pub shown_most : (s : List ℕ) → length (shown s) ≤ 1 + 2 * length s
unfolding shown
shown_most s = split (eqb (length s) 0)
  where
    split : (t : Bool) → length (cond t (ascii "-") (hex s)) ≤ 1 + 2 * length s
    split true = omega arith
    split false = omega (arith, length_hex s)

-- ---- a text at the front

-- where a text has room at the front, the answer is its length, and so many bytes of the buffer are the text
pub whole_text : {before after said : List ℕ} {r : ℕ} → Written before 0 said r after → length said ≤ length before → (r ≡ length said) × (take r after ≡ said)
whole_text {before} {after} {said} {r} w h =
    let n : r ≡ length said = omega (arith, w.behind) in
    let l : 0 + length said ≤ length before = omega arith in
    (n, rw (n, w.bytes, sets-eq said before 0 l) (take_at said _ (length said) refl))
