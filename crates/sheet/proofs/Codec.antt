-- What a block's own maps have to do, and what follows from it with the laws of its row. Assumes nothing.
use mathlib.Core.Path.{◌≡◌, sym, ap, ◌∙◌, subst}
use mathlib.Core.List.{List, ◌++◌}
use Prim.Native.Nat.{ℕ, ◌≤◌, ◌<◌, ◌^◌}
use mir.Syntax.{Width}
use mir.Val.{bits, Fits, SFits, to_z, of_z}
use mir.ValLaws.{of_z-to_z, to_z-Fits}
use Rattle.wire.proofs.Laid.{Room, room_at}
use lib.ListN.{length, get_or}
use Rattle.wire.specs.Layout.{sum}
use Rattle.sheet.specs.Sheet.{Row}
use Rattle.sheet.specs.Rows.{widths, numbers_in, data_of, first_bad, canonical}
use Rattle.sheet.proofs.Laws.{read_back, sent_again, numbers_fit}

-- of makes a block of numbers and to its numbers again; Held is what the types of its fields say of a block
pub record Codec (r : Row) (X : Type 0) (of : List ℕ → X) (to : X → List ℕ) (Held : X → Type 0) : Type 0 where
  -- the numbers come back where they pass the tests
  pub back : (ns : List ℕ) → Room (widths r) ns → first_bad r ns ≡ 0 → to (of ns) ≡ ns
  -- the tests say of the block what they say of the numbers
  pub judged : (ns : List ℕ) → Room (widths r) ns → first_bad r (to (of ns)) ≡ first_bad r ns
  -- the block comes back
  pub room : (x : X) → Held x → Room (widths r) (to x)
  pub forth : (x : X) → Held x → of (to x) ≡ x
  -- a block made of numbers that have room fits its types
  pub held : (ns : List ℕ) → Room (widths r) ns → Held (of ns)

module _ (r : Row) (X : Type 0) (of : List ℕ → X) (to : X → List ℕ) (Held : X → Type 0) (c : Codec r X of to Held) where
  -- what is encoded is decoded again, whatever stands behind it
  pub decoded : (x : X) → Held x → (rest : List ℕ) → of (numbers_in r (data_of r (to x) ++ rest)) ≡ x
  decoded x h rest = ap of (read_back r (to x) rest (c.room x h)) ∙ c.forth x h

  -- a data section that passes the tests is sent again as it came, with zeros in the reserved part
  pub sent : (d : List ℕ) → ((i : ℕ) → get_or d i 0 < 256) → sum (widths r) ≤ length d → first_bad r (to (of (numbers_in r d))) ≡ 0 → data_of r (to (of (numbers_in r d))) ≡ canonical r d
  sent d b l e =
      let m = numbers_fit r d b in
      ap (data_of r) (c.back (numbers_in r d) m (sym (c.judged (numbers_in r d) m) ∙ e)) ∙ sent_again r d b l

-- where the numbers come back from every block, the tests say the same of them
pub always : (r : Row) (X : Type 0) (of : List ℕ → X) (to : X → List ℕ) (Held : X → Type 0)
    → ((ns : List ℕ) → Room (widths r) ns → to (of ns) ≡ ns)
    → ((x : X) → Held x → Room (widths r) (to x))
    → ((x : X) → Held x → of (to x) ≡ x)
    → ((ns : List ℕ) → Room (widths r) ns → Held (of ns))
    → Codec r X of to Held
always r X of to Held b m f k = record { back = λ ns h _. b ns h; judged = λ ns h. ap (first_bad r) (b ns h); room = m; forth = f; held = k }

-- ---- signed fields, of any width

module _ (w : Width) (ws ns : List ℕ) (k : ℕ) where
  fits : 256 ^ get_or ws k 0 ≡ 2 ^ bits w → Room ws ns → Fits w (get_or ns k 0)
  fits e h = record { fits = subst (λ (top : ℕ). get_or ns k 0 < top) e (room_at ws ns k h) }

  -- the number comes back
  pub signed_back : 256 ^ get_or ws k 0 ≡ 2 ^ bits w → Room ws ns → of_z w (to_z w (get_or ns k 0)) ≡ get_or ns k 0
  signed_back e h = of_z-to_z w (get_or ns k 0) (fits e h)

  -- and what it stands for fits its type
  pub signed_held : 256 ^ get_or ws k 0 ≡ 2 ^ bits w → Room ws ns → SFits w (to_z w (get_or ns k 0))
  signed_held e h = to_z-Fits w (get_or ns k 0) (fits e h)
