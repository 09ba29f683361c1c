-- Laws of numbers on the wire, over width and place. Assumes nothing.
use mathlib.Core.Path.{◌≡◌, refl, sym, ap, ◌∙◌}
use mathlib.Core.Bool.{Bool, true, false}
use mathlib.Core.List.{List, [], ◌∷◌, ◌++◌}
use Prim.Native.Nat.{ℕ, zero, suc, min, ◌+◌, ◌-◌, ◌*◌, ◌/◌, ◌%◌, ◌^◌, ◌≤◌, ◌<◌}
use native.Mathlib.Nat.{add_assoc, add-suc, add-zero, zero-add, suc-add, mul_assoc, pow-succ'}
use native.Mathlib.Numerals.{add-one}
use native.Mathlib.Omega.{arith}
use lib.ListN.{length, get_or, take, drop, replicate, length-drop, get_or-eq_default}
use lib.Dec.{leb}
use borrow.Author.Tests.{leb-true, leb-false}
use Rattle.std.specs.Int.{w8, w16, w32, w64, from_le_bytes}
use lib.Seq.{get_or-append-add, get_or-take, get_or-drop, drop-cons, take_all}
use Rattle.wire.specs.Numbers.{le_at, le_bytes}

pub length_le_bytes : (w v : ℕ) → length (le_bytes w v) ≡ w
unfolding le_bytes
length_le_bytes zero v = refl
length_le_bytes (suc w) v = ap suc (length_le_bytes w (v / 256))

pub le_bytes_zero : (w : ℕ) → le_bytes w 0 ≡ replicate w 0
unfolding le_bytes
le_bytes_zero zero = refl
le_bytes_zero (suc w) = ap (λ (l : List ℕ). 0 ∷ l) (le_bytes_zero w)

-- ---- bytes are below 256

pub le_bytes_low : (w v i : ℕ) → get_or (le_bytes w v) i 0 < 256
unfolding le_bytes
le_bytes_low zero v i = omega arith
le_bytes_low (suc w) v zero = omega arith
le_bytes_low (suc w) v (suc i) = le_bytes_low w (v / 256) i

pub append_low : (a b : List ℕ) → ((i : ℕ) → get_or a i 0 < 256) → ((i : ℕ) → get_or b i 0 < 256) → (i : ℕ) → get_or (a ++ b) i 0 < 256
append_low [] b l m i = m i
append_low (x ∷ a) b l m zero = l 0
append_low (x ∷ a) b l m (suc i) = append_low a b (λ j. l (suc j)) m i

-- a number of w bytes is below 256 ^ w
pub le_at_lt : (w p : ℕ) (s : List ℕ) → ((i : ℕ) → get_or s i 0 < 256) → le_at w p s < 256 ^ w
unfolding le_at
le_at_lt zero p s h = omega arith
le_at_lt (suc w) p s h = rw pow-succ' (omega (arith, h p, le_at_lt w (p + 1) s h))

-- only the w bytes from p on count
pub le_at_same : (w p : ℕ) (s t : List ℕ) → ((i : ℕ) → p ≤ i → i < p + w → get_or s i 0 ≡ get_or t i 0) → le_at w p s ≡ le_at w p t
unfolding le_at
le_at_same zero p s t h = refl
le_at_same (suc w) p s t h =
    omega (arith, h p (omega arith) (omega (arith, add-suc p w)), le_at_same w (p + 1) s t (λ i a b. h i (omega arith) (omega (arith, add-suc p w))))

pub le_at_take : (w p n : ℕ) (s : List ℕ) → p + w ≤ n → le_at w p (take n s) ≡ le_at w p s
le_at_take w p n s h = le_at_same w p (take n s) s (λ i a b. get_or-take n s i 0 (omega arith))

-- past a list in front
pub le_at_append : (w p : ℕ) (a s : List ℕ) → le_at w (length a + p) (a ++ s) ≡ le_at w p s
unfolding le_at
le_at_append zero p a s = refl
le_at_append (suc w) p a s = rw (get_or-append-add, add_assoc, le_at_append w (p + 1) a s)

-- from a place on
pub le_at_drop : (w p i : ℕ) (s : List ℕ) → le_at w p (drop i s) ≡ le_at w (i + p) s
unfolding le_at
le_at_drop zero p i s = refl
le_at_drop (suc w) p i s = rw (get_or-drop i s p 0, add_assoc, le_at_drop w (p + 1) i s)

-- what was written is read
pub le_at_le_bytes : (w v : ℕ) (r : List ℕ) → v < 256 ^ w → le_at w 0 (le_bytes w v ++ r) ≡ v
unfolding le_at le_bytes
le_at_le_bytes zero v r h = omega arith
le_at_le_bytes (suc w) v r h =
    let k : v / 256 < 256 ^ w = omega (arith, rw pow-succ' at h) in
    omega (arith, le_at_append w 0 (v % 256 ∷ []) (le_bytes w (v / 256) ++ r), le_at_le_bytes w (v / 256) r k)

-- what was read is written
pub le_bytes_le_at : (w p : ℕ) (s : List ℕ) → ((i : ℕ) → get_or s i 0 < 256) → p + w ≤ length s → le_bytes w (le_at w p s) ≡ take w (drop p s)
unfolding le_at le_bytes
le_bytes_le_at zero p s h l = refl
le_bytes_le_at (suc w) p s h l =
    let i : p < length s = omega arith in
    let a : (get_or s p 0 + 256 * le_at w (p + 1) s) % 256 ≡ get_or s p 0 = omega (arith, h p) in
    let b : (get_or s p 0 + 256 * le_at w (p + 1) s) / 256 ≡ le_at w (p + 1) s = omega (arith, h p) in
    let k : p + 1 + w ≤ length s = omega arith in
    rw (a, b, le_bytes_le_at w (p + 1) s h k, drop-cons s p 0 i, add-one)

-- past the end stand zeros
pub le_at_past : (w p : ℕ) (s : List ℕ) → length s ≤ p → le_at w p s ≡ 0
unfolding le_at
le_at_past zero p s h = refl
le_at_past (suc w) p s h = omega (arith, get_or-eq_default s 0 h, le_at_past w (p + 1) s (omega arith))

-- from a place on, if that is in the list, and else from its end
pub le_at_rest : (w p n : ℕ) (s : List ℕ) → n ≡ min p (length s) → le_at w 0 (take (length s - n) (drop n s)) ≡ le_at w p s
le_at_rest w p n s e =
    let l : length (drop n s) ≤ length s - n = omega (arith, length-drop n s) in
    rw (take_all (length s - n) (drop n s) l, le_at_drop w 0 n s, add-zero) (by (leb p (length s)) refl)
  where
    by : (t : Bool) → leb p (length s) ≡ t → le_at w n s ≡ le_at w p s
    by true f = let g = leb-true p (length s) f in let i : n ≡ p = omega arith in ap (λ (k : ℕ). le_at w k s) i
    by false f =
        let g = leb-false p (length s) f in
        le_at_past w n s (omega arith) ∙ sym (le_at_past w p s (omega arith))

-- a number of a + b bytes is that of the first a, and that of the b behind them
pub le_at_split : (a b p : ℕ) (s : List ℕ) → le_at (a + b) p s ≡ le_at a p s + 256 ^ a * le_at b (p + a) s
unfolding le_at
le_at_split zero b p s = rw (zero-add, add-zero) (omega arith)
le_at_split (suc a) b p s =
    let i : le_at (a + b) (p + 1) s ≡ le_at a (p + 1) s + 256 ^ a * le_at b (p + 1 + a) s = le_at_split a b (p + 1) s in
    let e : p + 1 + a ≡ p + suc a = omega arith in
    rw (suc-add, i, e, pow-succ') (omega (arith, mul_assoc 256 (256 ^ a) (le_at b (p + suc a) s)))

-- ---- as std reads an array's bytes, low byte first

pub read_1 : (bs : List ℕ) → from_le_bytes w8 bs ≡ le_at 1 0 bs
unfolding le_at
read_1 bs = omega arith

pub read_2 : (bs : List ℕ) → from_le_bytes w16 bs ≡ le_at 2 0 bs
unfolding le_at
read_2 bs = omega arith

pub read_4 : (bs : List ℕ) → from_le_bytes w32 bs ≡ le_at 4 0 bs
unfolding le_at
read_4 bs = omega arith

pub read_8 : (bs : List ℕ) → from_le_bytes w64 bs ≡ le_at 8 0 bs
unfolding le_at
read_8 bs = omega arith
