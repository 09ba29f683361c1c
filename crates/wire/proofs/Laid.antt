-- Laws of numbers laid one behind the other, over their widths. Assumes nothing.
use mathlib.Core.Path.{◌≡◌, refl, sym, ap, ◌∙◌, subst}
use mathlib.Core.List.{List, [], ◌∷◌, ◌++◌, append_assoc, append-nil}
use Prim.Native.Nat.{ℕ, zero, suc, ◌+◌, ◌^◌, ◌≤◌, ◌<◌}
use native.Mathlib.Nat.{add-zero}
use native.Mathlib.Numerals.{add-one}
use native.Mathlib.Omega.{arith}
use lib.Dec.{lit<}
use lib.ListN.{length, get_or, take, drop, replicate, length-append, drop_of_length-le}
use lib.Seq.{sets, length-sets, get_or_at, get_or-drop, drop-cons, drop-drop, take-add}
use Rattle.wire.specs.Numbers.{le_at, le_bytes}
use Rattle.wire.specs.Layout.{numbers, laid, sum}
use Rattle.wire.proofs.Numbers.{length_le_bytes, le_bytes_zero, le_bytes_low, append_low, le_at_lt, le_at_append, le_at_take, le_at_le_bytes, le_bytes_le_at}
use Rattle.wire.proofs.Stores.{sets_append, sets_past}

-- as many numbers as widths, and each has room in its width
abbrev pub Room : List ℕ → List ℕ → Type 0
Room [] [] = Unit
Room [] (v ∷ vs) = ⊥
Room (w ∷ ws) [] = ⊥
Room (w ∷ ws) (v ∷ vs) = (v < 256 ^ w) × Room ws vs

pub length_laid : (ws vs : List ℕ) → length (laid ws vs) ≡ sum ws
unfolding laid
length_laid [] vs = refl
length_laid (w ∷ ws) vs = rw (length-append, length_le_bytes, length_laid ws (drop 1 vs))

pub laid_low : (ws vs : List ℕ) (i : ℕ) → get_or (laid ws vs) i 0 < 256
unfolding laid
laid_low [] vs i = omega arith
laid_low (w ∷ ws) vs i = append_low (le_bytes w (get_or vs 0 0)) (laid ws (drop 1 vs)) (le_bytes_low w (get_or vs 0 0)) (laid_low ws (drop 1 vs)) i

pub length_numbers : (ws : List ℕ) (p : ℕ) (s : List ℕ) → length (numbers ws p s) ≡ length ws
length_numbers [] p s = refl
length_numbers (w ∷ ws) p s = ap suc (length_numbers ws (p + w) s)

-- ---- writing them one by one

-- one number, and then the others
pub lay_step : (s ws vs : List ℕ) (p k : ℕ) → k < length ws
    → sets s p (laid (drop k ws) (drop k vs)) ≡ sets (sets s p (le_bytes (get_or ws k 0) (get_or vs k 0))) (p + get_or ws k 0) (laid (drop (k + 1) ws) (drop (k + 1) vs))
unfolding laid
lay_step s ws vs p k h = rw (drop-cons ws k 0 h, sets_append, length_le_bytes, get_or-drop k vs 0 0, add-zero, drop-drop 1 k vs, add-one k)

pub lay_end : (s ws vs : List ℕ) (p k : ℕ) → length ws ≤ k → sets s p (laid (drop k ws) (drop k vs)) ≡ s
unfolding laid
lay_end s ws vs p k h = rw (drop_of_length-le ws h)

-- where the next place is past the end, one number was the last
pub lay_last : (s ws vs : List ℕ) (p k : ℕ) → k < length ws → length s ≤ p + get_or ws k 0
    → sets s p (laid (drop k ws) (drop k vs)) ≡ sets s p (le_bytes (get_or ws k 0) (get_or vs k 0))
lay_last s ws vs p k h l =
    lay_step s ws vs p k h
    ∙ sets_past (laid (drop (k + 1) ws) (drop (k + 1) vs)) (sets s p (le_bytes (get_or ws k 0) (get_or vs k 0))) (p + get_or ws k 0)
    (rw (length-sets s p (le_bytes (get_or ws k 0) (get_or vs k 0))) l)

-- ---- reading what was laid, and laying what was read

-- only the bytes of the widths count: not what stands behind, as reserved bytes do
pub numbers_take : (ws : List ℕ) (p n : ℕ) (s : List ℕ) → p + sum ws ≤ n → numbers ws p (take n s) ≡ numbers ws p s
numbers_take [] p n s h = refl
numbers_take (w ∷ ws) p n s h =
    let i : p + w ≤ n = omega arith in
    let j : p + w + sum ws ≤ n = omega arith in
    rw (le_at_take w p n s i, numbers_take ws (p + w) n s j)

pub numbers_room : (ws : List ℕ) (p : ℕ) (s : List ℕ) → ((i : ℕ) → get_or s i 0 < 256) → Room ws (numbers ws p s)
numbers_room [] p s h = tt
numbers_room (w ∷ ws) p s h = (le_at_lt w p s h, numbers_room ws (p + w) s h)

numbers_behind : (ws vs a r : List ℕ) (p : ℕ) → length a ≡ p → Room ws vs → numbers ws p (a ++ (laid ws vs ++ r)) ≡ vs
unfolding laid
numbers_behind [] [] a r p e h = refl
numbers_behind [] (v ∷ vs) a r p e h = absurd h
numbers_behind (w ∷ ws) [] a r p e h = absurd h
numbers_behind (w ∷ ws) (v ∷ vs) a r p e h =
    let l = laid ws vs in
    let x : le_at w p (a ++ ((le_bytes w v ++ l) ++ r)) ≡ v =
    subst (λ (k : ℕ). le_at w k (a ++ ((le_bytes w v ++ l) ++ r)) ≡ v) (add-zero (length a) ∙ e)
    (le_at_append w 0 a ((le_bytes w v ++ l) ++ r) ∙ rw append_assoc (le_at_le_bytes w v (l ++ r) h.0)) in
    let y : a ++ ((le_bytes w v ++ l) ++ r) ≡ (a ++ le_bytes w v) ++ (l ++ r) = simp append_assoc in
    let n : length (a ++ le_bytes w v) ≡ p + w = rw (length-append, length_le_bytes, e) in
    rw x (ap (λ (k : List ℕ). v ∷ k) (ap (numbers ws (p + w)) y ∙ numbers_behind ws vs (a ++ le_bytes w v) r (p + w) n h.1))

-- numbers that have room are read as they were laid, whatever stands behind
pub numbers_laid : (ws vs r : List ℕ) → Room ws vs → numbers ws 0 (laid ws vs ++ r) ≡ vs
numbers_laid ws vs r h = numbers_behind ws vs [] r 0 refl h

-- the bytes that numbers were read of are laid again
pub laid_numbers : (ws : List ℕ) (p : ℕ) (s : List ℕ) → ((i : ℕ) → get_or s i 0 < 256) → p + sum ws ≤ length s → laid ws (numbers ws p s) ≡ take (sum ws) (drop p s)
unfolding laid
laid_numbers [] p s b l = refl
laid_numbers (w ∷ ws) p s b l =
    let i : p + w ≤ length s = omega arith in
    let j : p + w + sum ws ≤ length s = omega arith in
    rw (le_bytes_le_at w p s b i, laid_numbers ws (p + w) s b j, take-add, drop-drop)

-- a last width without a number is zeros: the reserved bytes
pub laid_then_zeros : (ws : List ℕ) (k : ℕ) (vs : List ℕ) → length vs ≡ length ws → laid (ws ++ k ∷ []) vs ≡ laid ws vs ++ replicate k 0
unfolding laid
laid_then_zeros [] k [] e = append-nil (le_bytes k 0) ∙ le_bytes_zero k
laid_then_zeros [] k (v ∷ vs) e = absurd (omega arith)
laid_then_zeros (w ∷ ws) k [] e = absurd (omega arith)
laid_then_zeros (w ∷ ws) k (v ∷ vs) e =
    let i : length vs ≡ length ws = omega arith in
    ap (λ (l : List ℕ). le_bytes w v ++ l) (laid_then_zeros ws k vs i) ∙ sym (append_assoc (le_bytes w v) (laid ws vs) (replicate k 0))

-- ---- numbers by their places

pub room_length : (ws vs : List ℕ) → Room ws vs → length vs ≡ length ws
room_length [] [] h = refl
room_length [] (v ∷ vs) h = absurd h
room_length (w ∷ ws) [] h = absurd h
room_length (w ∷ ws) (v ∷ vs) h = ap suc (room_length ws vs h.1)

-- the number at each place has room in the width there
pub room_at : (ws ns : List ℕ) (k : ℕ) → Room ws ns → get_or ns k 0 < 256 ^ get_or ws k 0
room_at [] [] k h = lit< tt
room_at [] (v ∷ ns) k h = absurd h
room_at (w ∷ ws) [] k h = absurd h
room_at (w ∷ ws) (v ∷ ns) zero h = h.0
room_at (w ∷ ws) (v ∷ ns) (suc k) h = room_at ws ns k h.1

abbrev pub listed : List ℕ → ℕ → List ℕ → List ℕ
listed [] k ns = []
listed (w ∷ ws) k ns = get_or ns k 0 ∷ listed ws (k + 1) ns

listed_behind : (ws ns p : List ℕ) (k : ℕ) → length p ≡ k → Room ws ns → listed ws k (p ++ ns) ≡ ns
listed_behind [] [] p k e h = refl
listed_behind [] (v ∷ ns) p k e h = absurd h
listed_behind (w ∷ ws) [] p k e h = absurd h
listed_behind (w ∷ ws) (v ∷ ns) p k e h =
    let a : get_or (p ++ v ∷ ns) k 0 ≡ v = get_or_at p v ns 0 k e in
    let l : length (p ++ v ∷ []) ≡ k + 1 = rw (length-append, e) in
    let b : listed ws (k + 1) (p ++ v ∷ ns) ≡ ns = ap (listed ws (k + 1)) (sym (append_assoc p (v ∷ []) ns)) ∙ listed_behind ws ns (p ++ v ∷ []) (k + 1) l h.1 in
    rw (a, b)

-- as many numbers as widths are the numbers at these places
pub room_listed : (ws ns : List ℕ) → Room ws ns → listed ws 0 ns ≡ ns
room_listed ws ns h = listed_behind ws ns [] 0 refl h
