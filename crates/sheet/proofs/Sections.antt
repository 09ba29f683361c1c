-- Laws of data sections as bytes, once over a row. Assumes nothing.
use mathlib.Core.Path.{◌≡◌, refl, sym, ap, ◌∙◌, subst}
use mathlib.Core.Bool.{Bool, true, false, cond, ◌&&◌}
use mathlib.Core.List.{List, [], ◌∷◌, ◌++◌, append-nil}
use Prim.Native.Nat.{ℕ, zero, suc, ◌+◌, ◌-◌, ◌*◌, ◌≤◌, ◌<◌, min}
use native.Mathlib.Nat.{add-zero, zero-add, suc-add}
use native.Mathlib.Numerals.{add-one}
use native.Mathlib.Omega.{arith}
use mir.Syntax.{w8}
use mir.Val.{Fits}
use lib.Dec.{T, eqb, leb, lit<}
use lib.ListN.{length, get_or, take, drop, replicate, length-append, length-replicate, take-append-drop, drop_of_length-le, get_or-eq_default}
use lib.Seq.{get_or-append-add, drop-cons, take_at}
use borrow.Author.Tests.{eqb-true, eqb-false, eq-eqb, ne_eqb, leb-true, leb-false}
use Rattle.wire.specs.Numbers.{le_at}
use Rattle.wire.specs.Layout.{sum, numbers}
use Rattle.wire.proofs.Numbers.{le_at_same}
use Rattle.ranges.specs.Tests.{first_false, ruled}
use Rattle.ranges.proofs.Tests.{and_true}
use Rattle.sheet.specs.Sheet.{Row}
use Rattle.sheet.specs.Rows.{size_of, widths, numbers_in, verdicts, first_out, first_bad, canonical}
use Rattle.sheet.specs.Sections.{bytes_at, filled, bad_in, all_zero, sound_in}
use Rattle.sheet.proofs.Laws.{reserved_ignored, numbers_fit}
use Rattle.sheet.proofs.Codec.{Codec}

-- ---- bytes from a place on

pub bytes_length : (n p : ℕ) (s : List ℕ) → length (bytes_at n p s) ≡ n
bytes_length zero p s = refl
bytes_length (suc n) p s = ap suc (bytes_length n (p + 1) s)

pub bytes_byte : (n p : ℕ) (s : List ℕ) (i : ℕ) → i < n → get_or (bytes_at n p s) i 0 ≡ get_or s (p + i) 0
bytes_byte zero p s i h = absurd (omega arith)
bytes_byte (suc n) p s zero h = rw add-zero
bytes_byte (suc n) p s (suc i) h =
    let e : p + 1 + i ≡ p + suc i = omega arith in
    bytes_byte n (p + 1) s i (omega arith) ∙ ap (λ (k : ℕ). get_or s k 0) e

pub bytes_low : (n p : ℕ) (s : List ℕ) → ((i : ℕ) → get_or s i 0 < 256) → (i : ℕ) → get_or (bytes_at n p s) i 0 < 256
bytes_low zero p s b i = lit< tt
bytes_low (suc n) p s b zero = b p
bytes_low (suc n) p s b (suc i) = bytes_low n (p + 1) s b i

pub bytes_behind : (n m : ℕ) (a b : List ℕ) → bytes_at n (length a + m) (a ++ b) ≡ bytes_at n m b
bytes_behind zero m a b = refl
bytes_behind (suc n) m a b =
    let e : length a + m + 1 ≡ length a + (m + 1) = omega arith in
    rw (get_or-append-add a b m 0) (ap (λ (x : List ℕ). get_or b m 0 ∷ x) (ap (λ (k : ℕ). bytes_at n k (a ++ b)) e ∙ bytes_behind n (m + 1) a b))

-- of a list that is long enough, a part
pub bytes_part : (n p : ℕ) (s : List ℕ) → p + n ≤ length s → bytes_at n p s ≡ take n (drop p s)
bytes_part zero p s h = refl
bytes_part (suc n) p s h =
    let l : p < length s = omega arith in
    let k : p + 1 + n ≤ length s = omega arith in
    ap (λ (x : List ℕ). get_or s p 0 ∷ x) (bytes_part n (p + 1) s k ∙ ap (λ (i : ℕ). take n (drop i s)) (add-one p)) ∙ ap (take (suc n)) (sym (drop-cons s p 0 l))

pub bytes_front : (a b : List ℕ) (n : ℕ) → length a ≡ n → bytes_at n 0 (a ++ b) ≡ a
bytes_front a b n e =
    let h : 0 + n ≤ length (a ++ b) = omega (arith, length-append a b) in
    bytes_part n 0 (a ++ b) h ∙ take_at a b n e

bytes_past : (n p : ℕ) (s : List ℕ) → length s ≤ p → bytes_at n p s ≡ replicate n 0
bytes_past zero p s h = refl
bytes_past (suc n) p s h = let k : length s ≤ p + 1 = omega arith in rw (get_or-eq_default s 0 h) (ap (λ (x : List ℕ). 0 ∷ x) (bytes_past n (p + 1) s k))

pub bytes_add : (a b p : ℕ) (s : List ℕ) → bytes_at (a + b) p s ≡ bytes_at a p s ++ bytes_at b (p + a) s
bytes_add zero b p s = rw (zero-add, add-zero)
bytes_add (suc a) b p s =
    let e : p + 1 + a ≡ p + suc a = omega arith in
    rw suc-add (ap (λ (x : List ℕ). get_or s p 0 ∷ x) (bytes_add a b (p + 1) s ∙ ap (λ (i : ℕ). bytes_at a (p + 1) s ++ bytes_at b i s) e))

-- as far as the bytes are there, and zeros
pub bytes_then_zeros : (w : ℕ) (d : List ℕ) (n : ℕ) → n ≡ min w (length d) → bytes_at w 0 d ≡ take n d ++ replicate (w - n) 0
bytes_then_zeros w d n e = by (leb w (length d)) refl
  where
    by : (b : Bool) → leb w (length d) ≡ b → bytes_at w 0 d ≡ take n d ++ replicate (w - n) 0
    by true f =
        let h = leb-true w (length d) f in
        let i : n ≡ w = omega arith in
        let z : w - n ≡ 0 = omega arith in
        bytes_part w 0 d (let q : 0 + w ≤ length d = omega arith in q) ∙ sym (rw (z, i) (append-nil (take w d)))
    by false f =
        let h = leb-false w (length d) f in
        let i : n + (w - n) ≡ w = omega arith in
        let l : length d ≤ 0 + n = omega arith in
        ap (λ (k : ℕ). bytes_at k 0 d) (sym i) ∙ bytes_add n (w - n) 0 d ∙ rw (bytes_past (w - n) (0 + n) d l) (ap (λ (x : List ℕ). x ++ replicate (w - n) 0) (bytes_part n 0 d (let q : 0 + n ≤ length d = omega arith in q)))

-- lists that agree byte for byte
Alike : List ℕ → List ℕ → Type 0
Alike s t = (i : ℕ) → get_or s i 0 ≡ get_or t i 0

bytes_alike : (n p : ℕ) (s t : List ℕ) → Alike s t → bytes_at n p s ≡ bytes_at n p t
unfolding Alike
bytes_alike zero p s t h = refl
bytes_alike (suc n) p s t h = rw (h p, bytes_alike n (p + 1) s t h)

pub numbers_same : (ws : List ℕ) (p : ℕ) (s t : List ℕ) → ((i : ℕ) → i < p + sum ws → get_or s i 0 ≡ get_or t i 0) → numbers ws p s ≡ numbers ws p t
numbers_same [] p s t h = refl
numbers_same (w ∷ ws) p s t h = rw (le_at_same w p s t (λ i a b. h i (omega arith)), numbers_same ws (p + w) s t (λ i a. h i (omega arith)))

-- ---- zeros

pub both : (a b : Bool) → (a && b) ≡ true → (a ≡ true) × (b ≡ true)
both true b h = (refl, h)
both false b h = absurd (subst T (sym h) tt)

and_both : (a b : Bool) → a ≡ true → b ≡ true → (a && b) ≡ true
and_both a b e f = ap (λ (x : Bool). x && b) e ∙ f

pub and_assoc : (a b c : Bool) → ((a && b) && c) ≡ (a && (b && c))
and_assoc true b c = refl
and_assoc false b c = refl

and_false : (a : Bool) → false ≡ (a && false)
and_false true = refl
and_false false = refl

zeros_good : (n : ℕ) → all_zero (replicate n 0) ≡ true
zeros_good zero = refl
zeros_good (suc n) = zeros_good n

zeros_are : (s : List ℕ) → all_zero s ≡ true → s ≡ replicate (length s) 0
zeros_are [] h = refl
zeros_are (b ∷ s) h =
    let p = both (eqb b 0) (all_zero s) h in
    ap (λ (x : ℕ). x ∷ s) (eqb-true b 0 p.0) ∙ ap (λ (x : List ℕ). 0 ∷ x) (zeros_are s p.1)

zeros_append : (a b : List ℕ) → all_zero (a ++ b) ≡ (all_zero a && all_zero b)
zeros_append [] b = refl
zeros_append (x ∷ a) b = ap (λ (y : Bool). eqb x 0 && y) (zeros_append a b) ∙ sym (and_assoc (eqb x 0) (all_zero a) (all_zero b))

-- a number is zero where its low byte and the rest are
digit_zero : (x y : ℕ) → eqb (x + 256 * y) 0 ≡ (eqb x 0 && eqb y 0)
digit_zero x y = go (eqb y 0) refl
  where
    go : (b : Bool) → eqb y 0 ≡ b → eqb (x + 256 * y) 0 ≡ (eqb x 0 && b)
    go true e = let z = eqb-true y 0 e in let n : x + 256 * y ≡ x = omega arith in ap (λ (k : ℕ). eqb k 0) n ∙ and_true (eqb x 0)
    go false e = let z = eqb-false y 0 e in ne_eqb (x + 256 * y) 0 (λ h. z (omega arith)) ∙ and_false (eqb x 0)

-- a number of any width is zero where its bytes are
zero_bytes : (w p : ℕ) (s : List ℕ) → eqb (le_at w p s) 0 ≡ all_zero (bytes_at w p s)
unfolding le_at
zero_bytes zero p s = refl
zero_bytes (suc w) p s = digit_zero (get_or s p 0) (le_at w (p + 1) s) ∙ ap (λ (x : Bool). eqb (get_or s p 0) 0 && x) (zero_bytes w (p + 1) s)

-- ---- what is kept of a data section

pub filled_length : (r : Row) (d : List ℕ) → length (filled r d) ≡ size_of r
filled_length r d = rw (length-append, length-replicate, bytes_length)

-- its numbers are those that came
pub filled_read : (r : Row) (d : List ℕ) → numbers_in r (filled r d) ≡ numbers_in r d
filled_read r d =
    let w = sum (widths r) in
    sym (reserved_ignored r (filled r d) w (omega arith))
    ∙ ap (numbers_in r) (take_at (bytes_at w 0 d) (replicate r.reserved 0) w (bytes_length w 0 d))
    ∙ numbers_same (widths r) 0 (bytes_at w 0 d) d (λ i h. let k : i < w = omega arith in bytes_byte w 0 d i k ∙ ap (λ (j : ℕ). get_or d j 0) (zero-add i))

-- of a whole data section, its reserved bytes zero
pub filled_canonical : (r : Row) (d : List ℕ) → sum (widths r) ≤ length d → filled r d ≡ canonical r d
filled_canonical r d h = ap (λ (x : List ℕ). x ++ replicate r.reserved 0) (bytes_part (sum (widths r)) 0 d (let q : 0 + sum (widths r) ≤ length d = omega arith in q))

-- ---- sound sections

-- what is kept of one that passes is sound
pub filled_sound : (r : Row) (d : List ℕ) → bad_in r d ≡ 0 → sound_in r (filled r d) ≡ true
unfolding sound_in bad_in
filled_sound r d h =
    let w = sum (widths r) in
    let front = bytes_at w 0 d in
    let zeros = replicate {A = ℕ} r.reserved 0 in
    let l = bytes_length w 0 d in
    let at : w ≡ length front + 0 = omega arith in
    let back : bytes_at r.reserved w (front ++ zeros) ≡ zeros =
    ap (λ (p : ℕ). bytes_at r.reserved p (front ++ zeros)) at ∙ bytes_behind r.reserved 0 front zeros
    ∙ ap (bytes_at r.reserved 0) (sym (append-nil zeros)) ∙ bytes_front zeros [] r.reserved (length-replicate r.reserved 0) in
    and_both (eqb (first_bad r (numbers_in r (filled r d))) 0) (all_zero (bytes_at r.reserved w (filled r d)))
    (eq-eqb (first_bad r (numbers_in r (filled r d))) 0 (ap (first_bad r) (filled_read r d) ∙ h))
    (ap all_zero back ∙ zeros_good r.reserved)

pub sound_fields : (r : Row) (d : List ℕ) → sound_in r d ≡ true → bad_in r d ≡ 0
unfolding sound_in
sound_fields r d h = eqb-true (bad_in r d) 0 (both (eqb (bad_in r d) 0) (all_zero (bytes_at r.reserved (sum (widths r)) d)) h).0

-- it has zeros in the reserved part
pub sound_canonical : (r : Row) (d : List ℕ) → length d ≡ size_of r → sound_in r d ≡ true → canonical r d ≡ d
unfolding sound_in
sound_canonical r d l h =
    let w = sum (widths r) in
    let reserved = bytes_at r.reserved w d in
    let z = zeros_are reserved (both (eqb (bad_in r d) 0) (all_zero reserved) h).1 in
    let fits : w + r.reserved ≤ length d = omega arith in
    let whole : 0 + size_of r ≤ length d = omega arith in
    let all : take (size_of r) d ≡ d = sym (append-nil (take (size_of r) d)) ∙ ap (λ (x : List ℕ). take (size_of r) d ++ x) (sym (past d (size_of r) (omega arith))) ∙ take-append-drop (size_of r) d in
    ap (λ (x : List ℕ). x ++ replicate r.reserved 0) (sym (bytes_part w 0 d (let q : 0 + w ≤ length d = omega arith in q)))
    ∙ ap (λ (x : List ℕ). bytes_at w 0 d ++ x) (ap (λ (n : ℕ). replicate n 0) (sym (bytes_length r.reserved w d)) ∙ sym z ∙ ap (λ (p : ℕ). bytes_at r.reserved p d) (sym (zero-add w)))
    ∙ sym (bytes_add w r.reserved 0 d) ∙ bytes_part (size_of r) 0 d whole ∙ all
  where
    past : (s : List ℕ) (n : ℕ) → length s ≤ n → drop n s ≡ []
    past s n k = drop_of_length-le s k

-- sections that agree byte for byte are sound alike
pub sound_alike : (r : Row) (s t : List ℕ) → ((i : ℕ) → get_or s i 0 ≡ get_or t i 0) → sound_in r s ≡ sound_in r t
unfolding sound_in bad_in Alike
sound_alike r s t h = rw (numbers_same (widths r) 0 s t (λ i _. h i), bytes_alike r.reserved (sum (widths r)) s t h)

-- ---- the tests of a section in code, one behind the other

abbrev pub all_then : List Bool → Bool → Bool
all_then [] z = z
all_then (b ∷ bs) z = b && all_then bs z

-- no test fails where all pass
pub first_none : (n : ℕ) (ts : List Bool) (z : Bool) → (eqb (first_false (n + 1) ts) 0 && z) ≡ all_then ts z
unfolding first_false
first_none n [] z = refl
first_none n (true ∷ ts) z = first_none (n + 1) ts z
first_none n (false ∷ ts) z = ap (λ (b : Bool). b && z) (ne_eqb (n + 1) 0 (λ e. omega arith))

-- nothing is refused where no test fails and the rule is kept
ruled_none : (n : ℕ) (kept z : Bool) → (eqb (ruled n kept) 0 && z) ≡ (eqb n 0 && (kept && z))
ruled_none n true z = refl
ruled_none n false z = by (eqb n 0) refl
  where
    by : (b : Bool) → eqb n 0 ≡ b → (eqb (cond b 99 n) 0 && z) ≡ (b && false)
    by true e = refl
    by false e = ap (λ (b : Bool). b && z) e

-- the fields' tests, the rule, then the reserved bytes
pub sound_tests : (r : Row) (d : List ℕ) → sound_in r d ≡ all_then (verdicts r.fields 0 (numbers_in r d)) (r.rule (numbers_in r d) && all_zero (bytes_at r.reserved (sum (widths r)) d))
unfolding sound_in bad_in
sound_tests r d =
    let ns = numbers_in r d in
    let reserved = all_zero (bytes_at r.reserved (sum (widths r)) d) in
    ruled_none (first_out r ns) (r.rule ns) reserved ∙ first_none 0 (verdicts r.fields 0 ns) (r.rule ns && reserved)

-- a rule's test, or a run of tests, and those behind it
pub kept : (a b f g : Bool) → a ≡ f → b ≡ g → (a && b) ≡ (f && g)
kept a b f g e h = ap (λ (x : Bool). x && b) e ∙ ap (λ (x : Bool). f && x) h

pub tested : (t : ℕ → Bool) (a b g : Bool) (n m : ℕ) → n ≡ m → a ≡ t n → b ≡ g → (a && b) ≡ (t m && g)
tested t a b g n m e f h = kept a b (t m) g (f ∙ ap t e) h

-- reserved bytes read as a number of any width, and those behind it
pub zeroed : (w m p : ℕ) (s : List ℕ) (n : ℕ) (b : Bool) → n ≡ le_at w p s → b ≡ all_zero (bytes_at m (p + w) s) → (eqb n 0 && b) ≡ all_zero (bytes_at (w + m) p s)
zeroed w m p s n b e f =
    ap (λ (x : Bool). x && b) (ap (λ (k : ℕ). eqb k 0) e ∙ zero_bytes w p s) ∙ ap (λ (x : Bool). all_zero (bytes_at w p s) && x) f
    ∙ sym (zeros_append (bytes_at w p s) (bytes_at m (p + w) s)) ∙ ap all_zero (sym (bytes_add w m p s))

pub zeroed_last : (w p : ℕ) (s : List ℕ) (n : ℕ) → n ≡ le_at w p s → eqb n 0 ≡ all_zero (bytes_at w p s)
zeroed_last w p s n e = ap (λ (k : ℕ). eqb k 0) e ∙ zero_bytes w p s

-- ---- a block's own decode and first bad field, on a data section, are the row's tests on its numbers

module _ {r : Row} {X : Type 0} {of : List ℕ → X} {to : X → List ℕ} {Held : X → Type 0} (c : Codec r X of to Held) where
  pub judged_in : (part : List ℕ) → ((i : ℕ) → Fits w8 (get_or part i 0)) → (x : X) (n : ℕ) → x ≡ of (numbers_in r part) → n ≡ first_bad r (to x) → n ≡ bad_in r part
  unfolding bad_in
  judged_in part b x n e f = f ∙ ap (λ (y : X). first_bad r (to y)) e ∙ c.judged (numbers_in r part) (numbers_fit r part (λ i. (b i).fits))
