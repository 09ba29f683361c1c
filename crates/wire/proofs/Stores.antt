-- A run of stores at a place: what it changes, what it leaves, and the same through the lent rest of a buffer. Assumes nothing.
use mathlib.Core.Path.{◌≡◌, refl, sym, ap, ◌∙◌, subst}
use mathlib.Core.Bool.{Bool, true, false}
use mathlib.Core.List.{List, [], ◌∷◌, ◌++◌, append-nil, append_assoc}
use Prim.Native.Nat.{ℕ, zero, suc, ◌+◌, ◌-◌, ◌/◌, ◌%◌, ◌^◌, ◌≤◌, ◌<◌, min}
use native.Mathlib.Nat.{add-zero, zero-add, add-suc, suc-add, lt_irrefl, le_of_eq}
use native.Mathlib.Numerals.{add-one, sub-one}
use native.Mathlib.Omega.{arith}
use lib.ListN.{length, get_or, take, drop, set, length-drop, drop_of_length-le, take-append-drop}
use lib.Seq.{sets, length-sets, sets-eq, set_out, get_or-set_other, take-set-le, drop-set-add, drop-cons, take_all, take-append_seam, drop-append_seam, drop-drop, length-take-le}
use lib.Dec.{leb}
use borrow.Author.Tests.{leb-true, leb-false}
use borrow.Rule.Slice.PartMut.{mid_of, put_mid}
use Rattle.wire.specs.Numbers.{le_at, le_bytes}
use Rattle.wire.proofs.Numbers.{length_le_bytes, le_at_append, le_at_le_bytes, le_at_same, le_bytes_le_at}

pub sets_append : (s : List ℕ) (p : ℕ) (a b : List ℕ) → sets s p (a ++ b) ≡ sets (sets s p a) (p + length a) b
sets_append s p [] b = rw add-zero
sets_append s p (x ∷ a) b = rw (add-suc, sets_append (set s p x) (suc p) a b, suc-add)

-- the front of what was stored at the front
pub front_stored : (s vs : List ℕ) (n : ℕ) → length vs ≡ n → n ≤ length s → take n (sets s 0 vs) ≡ vs
front_stored s vs n e h =
    let l : 0 + length vs ≤ length s = omega arith in
    rw (sets-eq vs s 0 l, ← e) (take-append_seam vs (drop (0 + length vs) s))

-- and what stands behind it
pub past_stored : (s vs : List ℕ) → length vs ≤ length s → drop (length vs) (sets s 0 vs) ≡ drop (length vs) s
past_stored s vs h =
    let l : 0 + length vs ≤ length s = omega arith in
    rw (sets-eq vs s 0 l, zero-add (length vs)) (drop-append_seam vs (drop (length vs) s))

-- a store past the end is none
pub sets_past : (vs s : List ℕ) (p : ℕ) → length s ≤ p → sets s p vs ≡ s
sets_past [] s p h = refl
sets_past (v ∷ vs) s p h = let k : length s ≤ suc p = omega arith in rw (set_out s p v h, sets_past vs s (suc p) k)

-- the first byte of a number, and then the others
pub put_step : (s : List ℕ) (p n x : ℕ) → 0 < n → sets s p (le_bytes n x) ≡ sets (set s p (x % 256)) (p + 1) (le_bytes (n - 1) (x / 256))
unfolding le_bytes
put_step s p zero x h = absurd (lt_irrefl 0 h)
put_step s p (suc n) x h = rw (sub-one, add-one)

-- the first element of a part, and then the others
pub copy_step : {A : Type 0} (s part : List A) (at k : ℕ) (d : A) → k < length part
    → sets s (at + k) (drop k part) ≡ sets (set s (at + k) (get_or part k d)) (at + (k + 1)) (drop (k + 1) part)
copy_step s part at k d h = rw (drop-cons part k d h, add-one k, add-suc at k)

-- as many as fit are copied: no byte of the part is left, or no place
pub copy_end : (s part : List ℕ) (at k : ℕ) → at ≤ length s → min (length part) (length s - at) ≤ k → sets s (at + k) (drop k part) ≡ s
copy_end s part at k l h = by (leb (length part) k) refl
  where
    by : (b : Bool) → leb (length part) k ≡ b → sets s (at + k) (drop k part) ≡ s
    by true e = rw (drop_of_length-le part {i = k} (leb-true (length part) k e))
    by false e = let f = leb-false (length part) k e in sets_past (drop k part) s (at + k) (omega arith)

-- ---- other places are untouched

pub sets_before : (vs s : List ℕ) (p i : ℕ) → i < p → get_or (sets s p vs) i 0 ≡ get_or s i 0
sets_before [] s p i h = refl
sets_before (v ∷ vs) s p i h = sets_before vs (set s p v) (suc p) i (omega arith) ∙ get_or-set_other s p i v 0 (λ e. omega arith)

pub sets_behind : (vs s : List ℕ) (p i : ℕ) → p + length vs ≤ i → get_or (sets s p vs) i 0 ≡ get_or s i 0
sets_behind [] s p i h = refl
sets_behind (v ∷ vs) s p i h =
    sets_behind vs (set s p v) (suc p) i (omega (arith, add-suc p (length vs))) ∙ get_or-set_other s p i v 0 (λ e. omega (arith, add-suc p (length vs)))

pub read_before : (w q p : ℕ) (vs s : List ℕ) → q + w ≤ p → le_at w q (sets s p vs) ≡ le_at w q s
read_before w q p vs s h = le_at_same w q (sets s p vs) s (λ i a b. sets_before vs s p i (omega arith))

pub read_behind : (w q p : ℕ) (vs s : List ℕ) → p + length vs ≤ q → le_at w q (sets s p vs) ≡ le_at w q s
read_behind w q p vs s h = le_at_same w q (sets s p vs) s (λ i a b. sets_behind vs s p i (omega arith))

-- ---- the place itself: read after write, write after read

-- the stores, between what stands before them and behind
sets_between : (p : ℕ) (vs s : List ℕ) → p + length vs ≤ length s → sets s p vs ≡ take p s ++ (vs ++ drop (length vs) (drop p s))
sets_between p vs s h = sets-eq vs s p h ∙ append_assoc (take p s) vs (drop (p + length vs) s) ∙ rw drop-drop

pub read_written : (w p v : ℕ) (s : List ℕ) → v < 256 ^ w → p + w ≤ length s → le_at w p (sets s p (le_bytes w v)) ≡ v
read_written w p v s h l =
    let k : p + length (le_bytes w v) ≤ length s = omega (arith, length_le_bytes w v) in
    let n : length (take p s) + 0 ≡ p = add-zero (length (take p s)) ∙ length-take-le p s (omega arith) in
    let rest = drop (length (le_bytes w v)) (drop p s) in
    ap (le_at w p) (sets_between p (le_bytes w v) s k)
    ∙ subst (λ (q : ℕ). le_at w q (take p s ++ (le_bytes w v ++ rest)) ≡ le_at w 0 (le_bytes w v ++ rest)) n (le_at_append w 0 (take p s) (le_bytes w v ++ rest))
    ∙ le_at_le_bytes w v rest h

pub written_read : (w p : ℕ) (s : List ℕ) → ((i : ℕ) → get_or s i 0 < 256) → p + w ≤ length s → sets s p (le_bytes w (le_at w p s)) ≡ s
written_read w p s b l =
    let k : p + length (le_bytes w (le_at w p s)) ≤ length s = omega (arith, length_le_bytes w (le_at w p s)) in
    sets_between p (le_bytes w (le_at w p s)) s k
    ∙ rw (length_le_bytes, le_bytes_le_at w p s b l, take-append-drop w (drop p s)) (take-append-drop p s)

-- ---- the lent rest of a buffer, from a on

drop_sets : (vs xs : List ℕ) (a j : ℕ) → drop a (sets xs (a + j) vs) ≡ sets (drop a xs) j vs
drop_sets [] xs a j = refl
drop_sets (v ∷ vs) xs a j = rw (← add-suc, drop_sets vs (set xs (a + j) v) a (suc j), drop-set-add)

take_sets : (vs xs : List ℕ) (a j : ℕ) → take a (sets xs (a + j) vs) ≡ take a xs
take_sets [] xs a j = refl
take_sets (v ∷ vs) xs a j =
    let h : a ≤ a + j = omega arith in
    rw (← add-suc, take_sets vs (set xs (a + j) v) a (suc j)) (take-set-le a xs (a + j) v h)

-- stores into the lent rest are stores into the whole, further on
pub sets_rest : (vs xs : List ℕ) (a j : ℕ) → put_mid a (length xs - a) xs (sets (mid_of a (length xs - a) xs) j vs) ≡ sets xs (a + j) vs
sets_rest vs xs a j =
    let l : length (drop a xs) ≤ length xs - a = le_of_eq (length-drop a xs) in
    rw (take_all (length xs - a) (drop a xs) l, drop_of_length-le (drop a xs) l, append-nil (sets (drop a xs) j vs), ← drop_sets vs xs a j, ← take_sets vs xs a j)
    (take-append-drop a (sets xs (a + j) vs))

-- ---- as much of a part as there are places for, written over those places

pub stored : (s vs : List ℕ) (p n : ℕ) → p ≤ length s → n ≡ min (length vs) (length s - p) → put_mid p n s (take n vs) ≡ sets s p vs
stored s vs p n h e =
    let l : length (take n vs) ≡ n = length-take-le n vs (omega (arith, e)) in
    let k : p + length (take n vs) ≤ length s = omega (arith, l, e) in
    let part = sets s p (take n vs) in
    let long : length part ≡ length s = length-sets s p (take n vs) in
    rw l at (sym (sets_between p (take n vs) s k))
    ∙ sym (copy_end part vs p n (omega (arith, long)) (omega (arith, long, e)))
    ∙ rw l at (sym (sets_append s p (take n vs) (drop n vs)))
    ∙ ap (sets s p) (take-append-drop n vs)

-- the first bytes of a number
pub take_le_bytes : (n w v : ℕ) → n ≤ w → take n (le_bytes w v) ≡ le_bytes n v
unfolding le_bytes
take_le_bytes zero w v h = refl
take_le_bytes (suc n) zero v h = absurd (omega arith)
take_le_bytes (suc n) (suc w) v h = ap (λ (l : List ℕ). v % 256 ∷ l) (take_le_bytes n w (v / 256) (omega arith))
