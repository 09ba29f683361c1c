-- Sound tables, over any rows. Assumes nothing.
use mathlib.Core.Path.{◌≡◌, refl, sym, ap, ◌∙◌, subst}
use mathlib.Core.Bool.{Bool, true, false, cond, ◌&&◌}
use mathlib.Core.List.{List, [], ◌∷◌}
use Prim.Native.Nat.{ℕ, ◌+◌}
use native.Mathlib.Nat.{add-zero, zero-add, add_assoc}
use lib.Dec.{T, eqb}
use borrow.Author.Tests.{eqb-true, eqb-false, eq-eqb}
use Rattle.ranges.specs.Tests.{first_false}
use Rattle.sheet.specs.Sheet.{Row}
use Rattle.sheet.specs.Rows.{size_of, row_in}
use Rattle.sheet.specs.Sections.{bytes_at, bad_in, sound_in}
use Rattle.sheet.proofs.Sections.{both, filled_sound}
use Rattle.table.specs.Places.{place_in, section_in, put_in, good_from, good_in}
use Rattle.table.proofs.Laws.{Once, get_same, get_other}

abbrev section_from : List Row → ℕ → List ℕ → ℕ → List ℕ
section_from rs p t k = bytes_at (size_of (row_in rs k)) (p + place_in rs k) t

-- of the tests one behind the other, that of block k
from_step : (r q : Row) (b : Bool) (p m : ℕ) (t : List ℕ) → sound_in r (bytes_at (size_of r) p t) ≡ true → sound_in q (bytes_at (size_of q) (p + size_of r + m) t) ≡ true
    → sound_in (cond b r q) (bytes_at (size_of (cond b r q)) (p + cond b 0 (size_of r + m)) t) ≡ true
from_step r q true p m t e f = ap (λ (n : ℕ). sound_in r (bytes_at (size_of r) n t)) (add-zero p) ∙ e
from_step r q false p m t e f = ap (λ (n : ℕ). sound_in q (bytes_at (size_of q) n t)) (sym (add_assoc p (size_of r) m)) ∙ f

good_from_lem : (rs : List Row) (p : ℕ) (t : List ℕ) → good_from rs p t ≡ true → (k : ℕ) → sound_in (row_in rs k) (section_from rs p t k) ≡ true
unfolding sound_in bad_in first_false
good_from_lem [] p t h k = refl
good_from_lem (r ∷ rs) p t h k =
    let s = both (sound_in r (bytes_at (size_of r) p t)) (good_from rs (p + size_of r) t) h in
    from_step r (row_in rs k) (eqb k r.number) p (place_in rs k) t s.0 (good_from_lem rs (p + size_of r) t s.1 k)

-- where the test passes, each section is sound
pub good_at : (rs : List Row) (t : List ℕ) → good_in rs t ≡ true → (k : ℕ) → sound_in (row_in rs k) (section_in rs t k) ≡ true
unfolding good_in section_in
good_at rs t h k = ap (λ (n : ℕ). sound_in (row_in rs k) (bytes_at (size_of (row_in rs k)) n t)) (sym (zero-add (place_in rs k))) ∙ good_from_lem rs 0 t h k

-- and back, where no number stands twice
none_sound : (s : List ℕ) → sound_in (row_in [] 0) s ≡ true
unfolding sound_in bad_in first_false
none_sound s = refl

from_good : (rs : List Row) (p : ℕ) (t : List ℕ) → Once rs → ((k : ℕ) → sound_in (row_in rs k) (section_from rs p t k) ≡ true) → good_from rs p t ≡ true
from_good [] p t o g = refl
from_good (r ∷ rs) p t o g =
    ap (λ (b : Bool). b && good_from rs (p + size_of r) t) (head (eqb r.number r.number) (eq-eqb r.number r.number refl) (g r.number))
    ∙ from_good rs (p + size_of r) t o.1 (λ k. rest k (eqb k r.number) refl (g k))
  where
    head : (b : Bool) → b ≡ true
        → sound_in (cond b r (row_in rs r.number)) (bytes_at (size_of (cond b r (row_in rs r.number))) (p + cond b 0 (size_of r + place_in rs r.number)) t) ≡ true
        → sound_in r (bytes_at (size_of r) p t) ≡ true
    head true e h = ap (λ (n : ℕ). sound_in r (bytes_at (size_of r) n t)) (sym (add-zero p)) ∙ h
    head false e h = absurd (subst T (sym e) tt)

    rest : (k : ℕ) (b : Bool) → eqb k r.number ≡ b
        → sound_in (cond b r (row_in rs k)) (bytes_at (size_of (cond b r (row_in rs k))) (p + cond b 0 (size_of r + place_in rs k)) t) ≡ true
        → sound_in (row_in rs k) (bytes_at (size_of (row_in rs k)) (p + size_of r + place_in rs k) t) ≡ true
    rest k true e h =
        subst (λ (q : Row). sound_in q (bytes_at (size_of q) (p + size_of r + place_in rs k) t) ≡ true) (sym (ap (row_in rs) (eqb-true k r.number e) ∙ o.0)) (none_sound [])
    rest k false e h = ap (λ (n : ℕ). sound_in (row_in rs k) (bytes_at (size_of (row_in rs k)) n t)) (add_assoc p (size_of r) (place_in rs k)) ∙ h

pub all_good_lem : (rs : List Row) (t : List ℕ) → Once rs → ((k : ℕ) → sound_in (row_in rs k) (section_in rs t k) ≡ true) → good_in rs t ≡ true
unfolding good_in section_in
all_good_lem rs t o g = from_good rs 0 t o (λ k. ap (λ (n : ℕ). sound_in (row_in rs k) (bytes_at (size_of (row_in rs k)) n t)) (zero-add (place_in rs k)) ∙ g k)

-- A SET KEEPS EVERY SECTION SOUND
pub put_sound : (rs : List Row) (t : List ℕ) (k : ℕ) (d : List ℕ) → bad_in (row_in rs k) d ≡ 0 → ((j : ℕ) → sound_in (row_in rs j) (section_in rs t j) ≡ true)
    → (j : ℕ) → sound_in (row_in rs j) (section_in rs (put_in rs t k d) j) ≡ true
put_sound rs t k d z g j = go (eqb j k) refl
  where
    go : (b : Bool) → eqb j k ≡ b → sound_in (row_in rs j) (section_in rs (put_in rs t k d) j) ≡ true
    go true e =
        subst (λ (i : ℕ). sound_in (row_in rs i) (section_in rs (put_in rs t k d) i) ≡ true) (sym (eqb-true j k e))
        (ap (sound_in (row_in rs k)) (get_same rs t k d) ∙ filled_sound (row_in rs k) d z)
    go false e = ap (sound_in (row_in rs j)) (get_other rs t j k d (eqb-false j k e)) ∙ g j
