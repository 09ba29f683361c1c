-- What the code does at the spot of a block. Assumes nothing.
use mathlib.Core.Path.{◌≡◌, refl, sym, ap, ◌∙◌, subst}
use mathlib.Core.Bool.{Bool, true, false, ◌&&◌}
use mathlib.Core.List.{List, ◌∷◌, ◌++◌, append_assoc}
use Prim.Native.Nat.{ℕ, zero, suc, ◌+◌, ◌-◌, ◌≤◌, min}
use native.Mathlib.Nat.{zero-add, suc-add}
use native.Mathlib.Omega.{arith}
use lib.Dec.{ltb}
use lib.ListN.{length, get_or, take, drop, replicate, length-take, get_or-eq_default}
use lib.Seq.{sets, take_all, length-sets, length-take-le, get_or-take, get_or-drop}
use borrow.Author.Tests.{ltb-true, ltb-false}
use borrow.Rule.Slice.PartMut.{mid_of, put_mid, mid_len}
use Rattle.wire.specs.Numbers.{le_bytes}
use Rattle.wire.specs.Layout.{sum}
use Rattle.wire.proofs.Numbers.{le_bytes_zero, length_le_bytes}
use Rattle.wire.proofs.Stores.{sets_append, stored as laid}
use Rattle.ranges.proofs.Tests.{and_true}
use Rattle.sheet.specs.Sheet.{Row, sheet}
use Rattle.sheet.specs.Rows.{size_of, row_at, widths, numbers_in}
use Rattle.sheet.specs.Sections.{bytes_at, sound_in}
use Rattle.sheet.proofs.Sections.{bytes_length, bytes_byte, bytes_then_zeros, numbers_same, sound_alike}
use Rattle.table.specs.declared.Spot.{Spot}
use Rattle.table.specs.Places.{whole_of, place_in, spot_in, section_in, put_in}
use Rattle.table.specs.Table.{numbers_of}
use Rattle.table.proofs.Places.{place_fits}
use Rattle.table.proofs.Laws.{section_is, put_store}
use Rattle.table.proofs.Keep.{sheet_once}

-- ---- a part, as far as it is there

-- byte for byte, it is what stands there, with zeros past the end
part_byte : (n p : ℕ) (s : List ℕ) (i : ℕ) → get_or (take n (drop p s)) i 0 ≡ get_or (bytes_at n p s) i 0
part_byte n p s i = by (ltb i n) refl
  where
    by : (b : Bool) → ltb i n ≡ b → get_or (take n (drop p s)) i 0 ≡ get_or (bytes_at n p s) i 0
    by true e =
        let l = ltb-true i n e in
        get_or-take n (drop p s) i 0 l ∙ get_or-drop p s i 0 ∙ sym (bytes_byte n p s i l)
    by false e =
        let l = ltb-false i n e in
        let short : length (take n (drop p s)) ≤ i = omega (arith, length-take n (drop p s)) in
        let as_short : length (bytes_at n p s) ≤ i = omega (arith, bytes_length n p s) in
        get_or-eq_default (take n (drop p s)) 0 short ∙ sym (get_or-eq_default (bytes_at n p s) 0 as_short)

-- so the part of block k has the numbers of its section
pub part_numbers : (k : ℕ) (t x : List ℕ) → x ≡ take (size_of (row_at k)) (drop (place_in sheet k) t) → numbers_in (row_at k) x ≡ numbers_of t k
unfolding section_in
part_numbers k t x e =
    let n = size_of (row_at k) in
    let p = place_in sheet k in
    ap (numbers_in (row_at k)) e ∙ numbers_same (widths (row_at k)) 0 (take n (drop p t)) (bytes_at n p t) (λ i _. part_byte n p t i)

-- the tests of one section, and of those behind it
pub sections : (r : Row) (n p : ℕ) (t : List ℕ) (x : List ℕ) (a b g : Bool) → x ≡ take n (drop p t) → a ≡ sound_in r x → b ≡ g → (a && b) ≡ (sound_in r (bytes_at n p t) && g)
sections r n p t x a b g e f h =
    ap (λ (z : Bool). z && b) (f ∙ ap (sound_in r) e ∙ sound_alike r (take n (drop p t)) (bytes_at n p t) (part_byte n p t)) ∙ ap (λ (z : Bool). sound_in r (bytes_at n p t) && z) h

pub last_section : (r : Row) (n p : ℕ) (t : List ℕ) (x : List ℕ) (a : Bool) → x ≡ take n (drop p t) → a ≡ sound_in r x → a ≡ (sound_in r (bytes_at n p t) && true)
last_section r n p t x a e f = and_true a ∙ sections r n p t x a true true e f refl

-- ---- the section at a spot

replicate_add : (a b : ℕ) → replicate {A = ℕ} (a + b) 0 ≡ replicate a 0 ++ replicate b 0
replicate_add zero b = rw zero-add
replicate_add (suc a) b = rw suc-add (ap (λ (x : List ℕ). 0 ∷ x) (replicate_add a b))

stored : (p w m n : ℕ) (t d : List ℕ) → n ≡ min w (length d) → sets (sets t p (take n d)) (p + n) (le_bytes (w - n + m) 0) ≡ sets t p (bytes_at w 0 d ++ replicate m 0)
stored p w m n t d e =
    let l : length (take n d) ≡ n = length-take-le n d (omega arith) in
    ap (λ (x : List ℕ). sets (sets t p (take n d)) (p + n) x) (le_bytes_zero (w - n + m))
    ∙ ap (λ (i : ℕ). sets (sets t p (take n d)) (p + i) (replicate (w - n + m) 0)) (sym l)
    ∙ sym (sets_append t p (take n d) (replicate (w - n + m) 0))
    ∙ ap (sets t p)
    (ap (λ (x : List ℕ). take n d ++ x) (replicate_add (w - n) m) ∙ sym (append_assoc (take n d) (replicate (w - n) 0) (replicate m 0))
    ∙ ap (λ (x : List ℕ). x ++ replicate m 0) (sym (bytes_then_zeros w d n e)))

-- zeros from p up to q
blank : (x z : List ℕ) (p q m : ℕ) → q ≡ p + m → q ≤ length x → z ≡ replicate (length (mid_of p (q - p) x)) 0 → put_mid p (q - p) x z ≡ sets x p (le_bytes m 0)
blank x z p q m e h is =
    let l : length (le_bytes m 0) ≡ m = length_le_bytes m 0 in
    let n : q - p ≡ m = omega arith in
    let zeros : z ≡ take (q - p) (le_bytes m 0) =
    is ∙ ap (λ (k : ℕ). replicate k 0) (mid_len p q x h ∙ n) ∙ sym (le_bytes_zero m) ∙ sym (take_all (q - p) (le_bytes m 0) (omega (arith, l))) in
    ap (put_mid p (q - p) x) zeros ∙ laid x (le_bytes m 0) p (q - p) (omega arith) (omega (arith, l))

-- in a whole table it is all there
pub section_whole : (k : ℕ) (t : List ℕ) → length t ≡ whole_of sheet → take (size_of (row_at k)) (drop (place_in sheet k) t) ≡ section_in sheet t k
section_whole k t l = let f = place_fits sheet k in sym (section_is sheet t k (omega arith))

module _ (k : ℕ) (s : Spot) (is : s ≡ spot_in sheet k) where
  pub spot_size : (t : List ℕ) → take (s.fields + s.reserved) (drop s.place t) ≡ take (size_of (row_at k)) (drop (place_in sheet k) t)
  spot_size t = ap (λ (x : Spot). take (x.fields + x.reserved) (drop x.place t)) is

  -- the bytes of the fields, and zeros up to the section's end
  pub put_of : (t d x z : List ℕ) (n : ℕ) → length t ≡ whole_of sheet → n ≡ min s.fields (length d) → x ≡ sets t s.place (take n d)
      → let end = s.place + s.fields + s.reserved - (s.place + n) in
      z ≡ replicate (length (mid_of (s.place + n) end x)) 0 → put_mid (s.place + n) end x z ≡ put_in sheet t k d
  put_of t d x z n l e f zeros =
      let fits : s.place + (s.fields + s.reserved) ≤ whole_of sheet = subst (λ (y : Spot). y.place + (y.fields + y.reserved) ≤ whole_of sheet) (sym is) (place_fits sheet k) in
      let long : length x ≡ length t = ap length f ∙ length-sets t s.place (take n d) in
      blank x z (s.place + n) (s.place + s.fields + s.reserved) (s.fields - n + s.reserved) (omega (arith, e)) (omega (arith, long)) zeros
      ∙ ap (λ (y : List ℕ). sets y (s.place + n) (le_bytes (s.fields - n + s.reserved) 0)) f
      ∙ subst (λ (y : Spot). n ≡ min y.fields (length d) → sets (sets t y.place (take n d)) (y.place + n) (le_bytes (y.fields - n + y.reserved) 0) ≡ put_in sheet t k d) (sym is)
      (λ h. stored (place_in sheet k) (sum (widths (row_at k))) (row_at k).reserved n t d h ∙ sym (put_store sheet sheet_once t k d l)) e
