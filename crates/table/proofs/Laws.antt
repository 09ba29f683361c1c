-- A table of any rows: a get behind a set, with no word about lengths; and a set is a store at the block's place. Assumes nothing.
use mathlib.Core.Path.{◌≡◌, refl, sym, ap, ◌∙◌}
use mathlib.Core.Bool.{Bool, true, false, cond}
use mathlib.Core.List.{List, [], ◌∷◌, ◌++◌, append_assoc}
use mathlib.Core.Logic.{◌⊎◌, inl, ⊎_elim}
use Prim.Native.Nat.{ℕ, ◌+◌, ◌-◌, ◌≤◌, ◌<◌, min}
use native.Mathlib.Nat.{add-zero, zero-add, add_assoc}
use native.Mathlib.Omega.{arith}
use lib.Dec.{eqb, lit<}
use lib.ListN.{length, get_or, take, drop, replicate, length-append, length-take, length-drop, take-append-drop, drop_of_length-le}
use lib.Seq.{sets, sets-eq, length-sets, ext_get_or, get_or-take, get_or-drop, drop-drop, length-take-le, drop_at}
use borrow.Author.Tests.{eqb-true, ne_eqb, eq-eqb}
use Rattle.sheet.specs.Sheet.{Row}
use Rattle.sheet.specs.Rows.{size_of, row_in, widths, data_of, fresh}
use Rattle.sheet.specs.Sections.{bytes_at, filled}
use Rattle.sheet.proofs.Sections.{bytes_length, bytes_low, bytes_behind, bytes_part, bytes_front, filled_length}
use Rattle.wire.specs.Layout.{sum}
use Rattle.wire.proofs.Numbers.{le_bytes_zero, le_bytes_low, append_low}
use Rattle.wire.proofs.Laid.{laid_low}
use Rattle.wire.proofs.Stores.{sets_before, sets_behind}
use Rattle.table.specs.Places.{whole_of, place_in, put_from, section_in, put_in, fresh_in}

-- ---- a get behind a set, of any block, in one law

chosen_length : (b : Bool) (r : Row) (p : ℕ) (t d : List ℕ) → length (cond b (filled r d) (bytes_at (size_of r) p t)) ≡ size_of r
chosen_length true r p t d = filled_length r d
chosen_length false r p t d = bytes_length (size_of r) p t

none_here : (b : Bool) → [] ≡ cond {A = List ℕ} b [] []
none_here true = refl
none_here false = refl

section_from_lem : (rs : List Row) (p : ℕ) (t : List ℕ) (k : ℕ) (d : List ℕ) (j : ℕ)
    → bytes_at (size_of (row_in rs j)) (place_in rs j) (put_from rs p t k d) ≡ cond (eqb k j) (filled (row_in rs j) d) (bytes_at (size_of (row_in rs j)) (p + place_in rs j) t)
section_from_lem [] p t k d j = none_here (eqb k j)
section_from_lem (r ∷ rs) p t k d j = go (eqb j r.number) refl (section_from_lem rs (p + size_of r) t k d j)
  where
    go : (b : Bool) → eqb j r.number ≡ b
        → bytes_at (size_of (row_in rs j)) (place_in rs j) (put_from rs (p + size_of r) t k d) ≡ cond (eqb k j) (filled (row_in rs j) d) (bytes_at (size_of (row_in rs j)) (p + size_of r + place_in rs j) t)
        → bytes_at (size_of (cond b r (row_in rs j))) (cond b 0 (size_of r + place_in rs j)) (cond (eqb k r.number) (filled r d) (bytes_at (size_of r) p t) ++ put_from rs (p + size_of r) t k d)
        ≡ cond (eqb k j) (filled (cond b r (row_in rs j)) d) (bytes_at (size_of (cond b r (row_in rs j))) (p + cond b 0 (size_of r + place_in rs j)) t)
    go true e ih =
        bytes_front (cond (eqb k r.number) (filled r d) (bytes_at (size_of r) p t)) (put_from rs (p + size_of r) t k d) (size_of r) (chosen_length (eqb k r.number) r p t d)
        ∙ ap (λ (i : ℕ). cond (eqb k i) (filled r d) (bytes_at (size_of r) p t)) (sym (eqb-true j r.number e))
        ∙ ap (λ (i : ℕ). cond (eqb k j) (filled r d) (bytes_at (size_of r) i t)) (sym (add-zero p))
    go false e ih =
        let x = cond (eqb k r.number) (filled r d) (bytes_at (size_of r) p t) in
        let l = chosen_length (eqb k r.number) r p t d in
        ap (λ (i : ℕ). bytes_at (size_of (row_in rs j)) (i + place_in rs j) (x ++ put_from rs (p + size_of r) t k d)) (sym l)
        ∙ bytes_behind (size_of (row_in rs j)) (place_in rs j) x (put_from rs (p + size_of r) t k d)
        ∙ ih
        ∙ ap (λ (i : ℕ). cond (eqb k j) (filled (row_in rs j) d) (bytes_at (size_of (row_in rs j)) i t)) (add_assoc p (size_of r) (place_in rs j))

pub section_put : (rs : List Row) (t : List ℕ) (k : ℕ) (d : List ℕ) (j : ℕ) → section_in rs (put_in rs t k d) j ≡ cond (eqb k j) (filled (row_in rs j) d) (section_in rs t j)
unfolding section_in put_in
section_put rs t k d j = section_from_lem rs 0 t k d j ∙ ap (λ (i : ℕ). cond (eqb k j) (filled (row_in rs j) d) (bytes_at (size_of (row_in rs j)) i t)) (zero-add (place_in rs j))

-- ---- of a table of its length, it is the store at the place

abbrev pub Once : List Row → Type 0
Once [] = Unit
Once (r ∷ rs) = (row_in rs r.number ≡ row_in [] 0) × Once rs

pub section_is : (rs : List Row) (t : List ℕ) (k : ℕ) → place_in rs k + size_of (row_in rs k) ≤ length t → section_in rs t k ≡ take (size_of (row_in rs k)) (drop (place_in rs k) t)
unfolding section_in
section_is rs t k h = bytes_part (size_of (row_in rs k)) (place_in rs k) t h

part_length : (p n : ℕ) (t : List ℕ) → length (take n (drop p t)) ≡ min n (length t - p)
part_length p n t = length-take n (drop p t) ∙ ap (min n) (length-drop p t)

-- a part before or behind a store is as it was
part_other : (t vs : List ℕ) (p n q : ℕ) → (p + n ≤ q) ⊎ (q + length vs ≤ p) → take n (drop p (sets t q vs)) ≡ take n (drop p t)
part_other t vs p n q w =
    ext_get_or 0 (take n (drop p (sets t q vs))) (take n (drop p t))
    (part_length p n (sets t q vs) ∙ ap (λ (k : ℕ). min n (k - p)) (length-sets t q vs) ∙ sym (part_length p n t))
    (λ i h.
    let l : i < n = omega (arith, part_length p n (sets t q vs)) in
    get_or-take n (drop p (sets t q vs)) i 0 l
    ∙ get_or-drop p (sets t q vs) i 0
    ∙ ⊎_elim (λ (a : p + n ≤ q). sets_before vs t q (p + i) (omega arith)) (λ (a : q + length vs ≤ p). sets_behind vs t q (p + i) (omega arith)) w
    ∙ sym (get_or-take n (drop p t) i 0 l ∙ get_or-drop p t i 0))

store_from : (rs : List Row) → Once rs → (p : ℕ) (t : List ℕ) (k : ℕ) (d : List ℕ) → length t ≡ p + whole_of rs
    → put_from rs p t k d ≡ drop p (sets t (p + place_in rs k) (filled (row_in rs k) d))
store_from [] o p t k d l = sym (drop_of_length-le t (let h : length t ≤ p = omega arith in h))
store_from (r ∷ rs) o p t k d l =
    let n : length t ≡ p + size_of r + whole_of rs = omega arith in
    go (eqb k r.number) refl (store_from rs o.1 (p + size_of r) t k d n)
  where
    go : (b : Bool) → eqb k r.number ≡ b
        → put_from rs (p + size_of r) t k d ≡ drop (p + size_of r) (sets t (p + size_of r + place_in rs k) (filled (row_in rs k) d))
        → cond b (filled r d) (bytes_at (size_of r) p t) ++ put_from rs (p + size_of r) t k d ≡ drop p (sets t (p + cond b 0 (size_of r + place_in rs k)) (filled (cond b r (row_in rs k)) d))
    go true e ih =
        let f = filled r d in
        let m = filled_length r d in
        let q : p + length f ≤ length t = omega arith in
        let a : length (take p t) ≡ p = length-take-le p t (omega arith) in
        let none = ap (row_in rs) (eqb-true k r.number e) ∙ o.0 in
        ap (λ (x : List ℕ). f ++ x)
        (ih ∙ ap (λ (y : Row). drop (p + size_of r) (sets t (p + size_of r + place_in rs k) (filled y d))) none ∙ ap (λ (i : ℕ). drop (p + i) t) (sym m))
        ∙ sym (drop_at (take p t) (f ++ drop (p + length f) t) p a)
        ∙ ap (drop p) (sym (ap (λ (i : ℕ). sets t i f) (add-zero p) ∙ sets-eq f t p q ∙ append_assoc (take p t) f (drop (p + length f) t)))
    go false e ih =
        let v = filled (row_in rs k) d in
        let s = sets t (p + (size_of r + place_in rs k)) v in
        let w : p + size_of r ≤ p + (size_of r + place_in rs k) = omega arith in
        let g : p + size_of r ≤ length t = omega arith in
        ap (λ (x : List ℕ). x ++ put_from rs (p + size_of r) t k d) (bytes_part (size_of r) p t g ∙ sym (part_other t v p (size_of r) (p + (size_of r + place_in rs k)) (inl w)))
        ∙ ap (λ (x : List ℕ). take (size_of r) (drop p s) ++ x)
        (ih ∙ ap (λ (i : ℕ). drop (p + size_of r) (sets t i v)) (add_assoc p (size_of r) (place_in rs k)) ∙ sym (drop-drop (size_of r) p s))
        ∙ take-append-drop (size_of r) (drop p s)

-- what the code stores, of a table of its length
pub put_store : (rs : List Row) → Once rs → (t : List ℕ) (k : ℕ) (d : List ℕ) → length t ≡ whole_of rs → put_in rs t k d ≡ sets t (place_in rs k) (filled (row_in rs k) d)
unfolding put_in
put_store rs o t k d l = store_from rs o 0 t k d (omega arith) ∙ ap (λ (i : ℕ). sets t i (filled (row_in rs k) d)) (zero-add (place_in rs k))

-- ---- the sections one behind the other are the table

abbrev sections_from : List Row → ℕ → List ℕ → List ℕ
sections_from [] p t = []
sections_from (r ∷ rs) p t = bytes_at (size_of r) p t ++ sections_from rs (p + size_of r) t

pub sections_from_lem : (rs : List Row) (p : ℕ) (t : List ℕ) → length t ≡ p + whole_of rs → sections_from rs p t ≡ drop p t
sections_from_lem [] p t l = sym (drop_of_length-le t (let h : length t ≤ p = omega arith in h))
sections_from_lem (r ∷ rs) p t l =
    let n : length t ≡ p + size_of r + whole_of rs = omega arith in
    let fits : p + size_of r ≤ length t = omega arith in
    ap (λ (x : List ℕ). x ++ sections_from rs (p + size_of r) t) (bytes_part (size_of r) p t fits)
    ∙ ap (λ (x : List ℕ). take (size_of r) (drop p t) ++ x) (sections_from_lem rs (p + size_of r) t n ∙ sym (drop-drop (size_of r) p t))
    ∙ take-append-drop (size_of r) (drop p t)

-- A PUT CHANGES ITS OWN SECTION AND NO OTHER BYTE
pub put_bytes : (rs : List Row) → Once rs → (t : List ℕ) (k : ℕ) (d : List ℕ) → length t ≡ whole_of rs → (i : ℕ)
    → (i < place_in rs k) ⊎ (place_in rs k + size_of (row_in rs k) ≤ i) → get_or (put_in rs t k d) i 0 ≡ get_or t i 0
put_bytes rs o t k d l i outside =
    let v = filled (row_in rs k) d in
    let n = filled_length (row_in rs k) d in
    ap (λ (x : List ℕ). get_or x i 0) (put_store rs o t k d l)
    ∙ ⊎_elim (λ (h : i < place_in rs k). sets_before v t (place_in rs k) i h) (λ (h : place_in rs k + size_of (row_in rs k) ≤ i). sets_behind v t (place_in rs k) i (omega arith)) outside

from_length : (rs : List Row) (p : ℕ) (t : List ℕ) (k : ℕ) (d : List ℕ) → length (put_from rs p t k d) ≡ whole_of rs
from_length [] p t k d = refl
from_length (r ∷ rs) p t k d = rw (length-append, chosen_length (eqb k r.number) r p t d, from_length rs (p + size_of r) t k d)

pub put_length : (rs : List Row) (t : List ℕ) (k : ℕ) (d : List ℕ) → length (put_in rs t k d) ≡ whole_of rs
unfolding put_in
put_length rs t k d = from_length rs 0 t k d

pub section_length : (rs : List Row) (t : List ℕ) (k : ℕ) → length (section_in rs t k) ≡ size_of (row_in rs k)
unfolding section_in
section_length rs t k = bytes_length (size_of (row_in rs k)) (place_in rs k) t

-- A GET BEHIND A SET: of the same block the data that came, of another what it was
pub get_same : (rs : List Row) (t : List ℕ) (k : ℕ) (d : List ℕ) → section_in rs (put_in rs t k d) k ≡ filled (row_in rs k) d
get_same rs t k d = section_put rs t k d k ∙ ap (λ (b : Bool). cond b (filled (row_in rs k) d) (section_in rs t k)) (eq-eqb k k refl)

pub get_other : (rs : List Row) (t : List ℕ) (j k : ℕ) (d : List ℕ) → (j ≡ k → ⊥) → section_in rs (put_in rs t k d) j ≡ section_in rs t j
get_other rs t j k d ne = section_put rs t k d j ∙ ap (λ (b : Bool). cond b (filled (row_in rs j) d) (section_in rs t j)) (ne_eqb k j (λ e. ne (sym e)))

-- ---- a table stays one of bytes

chosen_low : (b : Bool) (r : Row) (p : ℕ) (t d : List ℕ) → ((i : ℕ) → get_or t i 0 < 256) → ((i : ℕ) → get_or d i 0 < 256)
    → (i : ℕ) → get_or (cond b (filled r d) (bytes_at (size_of r) p t)) i 0 < 256
chosen_low true r p t d low came i =
    append_low (bytes_at (sum (widths r)) 0 d) (replicate r.reserved 0) (bytes_low (sum (widths r)) 0 d came)
    (λ j. rw (← le_bytes_zero r.reserved) (le_bytes_low r.reserved 0 j)) i
chosen_low false r p t d low came i = bytes_low (size_of r) p t low i

from_low : (rs : List Row) (p : ℕ) (t : List ℕ) (k : ℕ) (d : List ℕ) → ((i : ℕ) → get_or t i 0 < 256) → ((i : ℕ) → get_or d i 0 < 256)
    → (i : ℕ) → get_or (put_from rs p t k d) i 0 < 256
from_low [] p t k d low came i = lit< tt
from_low (r ∷ rs) p t k d low came i =
    append_low (cond (eqb k r.number) (filled r d) (bytes_at (size_of r) p t)) (put_from rs (p + size_of r) t k d) (chosen_low (eqb k r.number) r p t d low came)
    (from_low rs (p + size_of r) t k d low came) i

pub put_low : (rs : List Row) (t : List ℕ) (k : ℕ) (d : List ℕ) → ((i : ℕ) → get_or t i 0 < 256) → ((i : ℕ) → get_or d i 0 < 256)
    → (i : ℕ) → get_or (put_in rs t k d) i 0 < 256
unfolding put_in
put_low rs t k d low came i = from_low rs 0 t k d low came i

pub fresh_low : (rs : List Row) (i : ℕ) → get_or (fresh_in rs) i 0 < 256
unfolding fresh_in
fresh_low [] i = lit< tt
fresh_low (r ∷ rs) i = append_low (data_of r (fresh r)) (fresh_in rs) (laid_low (widths r ++ r.reserved ∷ []) (fresh r)) (fresh_low rs) i
