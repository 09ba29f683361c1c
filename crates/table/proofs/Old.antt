-- THE TABLE IS THE OLD RECORDS, under every set and every get. Assumes nothing.
use mathlib.Core.Path.{◌≡◌, refl, sym, ap, ◌∙◌, subst}
use mathlib.Core.Bool.{Bool, true, false, cond}
use mathlib.Core.List.{List}
use Prim.Native.Nat.{ℕ, ◌<◌}
use lib.Dec.{eqb}
use lib.ListN.{get_or}
use borrow.Author.Tests.{eqb-true, eqb-false}
use Rattle.wire.specs.Numbers.{le_at, le_bytes}
use Rattle.wire.specs.Layout.{laid}
use Rattle.ranges.specs.Tests.{within, signed_within, finite, only_bits}
use Rattle.sheet.specs.Sheet.{Row, mov_row, eng_row, pwr_row, eds_row, hom_row, brk_row, pid_row}
use Rattle.sheet.specs.Rows.{row_at, row_in, numbers_in, data_of, least}
use Rattle.sheet.specs.Sections.{bad_in}
use Rattle.sheet.proofs.Laws.{numbers_fit}
use Rattle.sheet.proofs.Sections.{sound_fields}
use Rattle.sheet.proofs.Codec.{Codec}
use Rattle.mov.specs.Mov.{mov_of, mov_numbers}
use Rattle.eng.specs.Eng.{eng_of, eng_numbers}
use Rattle.pwr.specs.Pwr.{pwr_of, pwr_numbers}
use Rattle.eds.specs.Eds.{eds_of, eds_numbers}
use Rattle.hom.specs.Hom.{hom_of, hom_numbers}
use Rattle.brk.specs.Brk.{brk_of, brk_numbers}
use Rattle.pid.specs.Pid.{pid_of, pid_numbers}
use Rattle.mov.proofs.Codec.{mov_codec}
use Rattle.eng.proofs.Codec.{eng_codec}
use Rattle.pwr.proofs.Codec.{pwr_codec}
use Rattle.eds.proofs.Codec.{eds_codec}
use Rattle.hom.proofs.Codec.{hom_codec}
use Rattle.brk.proofs.Codec.{brk_codec}
use Rattle.pid.proofs.Codec.{pid_codec}
use Rattle.table.specs.declared.Table.{Table}
use Rattle.table.specs.Places.{section_in, fresh_in}
use Rattle.table.specs.Table.{data_at, numbers_at, put_at, Good, fresh_table}
use Rattle.table.specs.Records.{old_rows, old_numbers, old_get, old_set, old_fresh, records_of}
use Rattle.table.proofs.Keep.{data_low, data_sent, put_same, get_other}

-- ---- a set: once over the block that is set and the block that is looked at

module _ (t : Table) (k : ℕ) (d : List ℕ) where
  -- block i, whose old row was r
  set_step : (i : ℕ) (X : Type 0) (of : List ℕ → X) → row_in old_rows i ≡ row_at i
      → of (numbers_at (put_at t k d) i) ≡ cond (eqb k i) (of (numbers_in (row_in old_rows k) d)) (of (numbers_at t i))
  set_step i X of row = go (eqb k i) refl
    where
      go : (b : Bool) → eqb k i ≡ b → of (numbers_at (put_at t k d) i) ≡ cond b (of (numbers_in (row_in old_rows k) d)) (of (numbers_at t i))
      go true e =
          subst (λ (j : ℕ). row_in old_rows j ≡ row_at j → of (numbers_at (put_at t k d) j) ≡ of (numbers_in (row_in old_rows k) d)) (eqb-true k i e)
          (λ same. ap of (put_same t k d ∙ ap (λ (r : Row). numbers_in r d) (sym same))) row
      go false e = ap (λ (x : List ℕ). of (numbers_in (row_at i) x)) (get_other t i k d (λ z. eqb-false k i e (sym z)))

  -- UNDER EVERY SET
  pub set_same : records_of (put_at t k d) ≡ old_set (records_of t) k d
  set_same =
      λ i. record {
        mov = set_step 1 _ mov_of refl i;
        eng = set_step 2 _ eng_of refl i;
        pwr = set_step 3 _ pwr_of refl i;
        eds = set_step 4 _ eds_of refl i;
        hom = set_step 5 _ hom_of refl i;
        brk = set_step 6 _ brk_of refl i;
        pid = set_step 7 _ pid_of refl i;
      }

-- ---- a get of a sound table

module _ (t : Table) (good : Good t) (low : (i : ℕ) → get_or t.bytes i 0 < 256) where
  -- the numbers of a block come back
  back_at : (i : ℕ) (X : Type 0) (of : List ℕ → X) (to : X → List ℕ) (Held : X → Type 0) → Codec (row_at i) X of to Held → to (of (numbers_at t i)) ≡ numbers_at t i
  unfolding bad_in
  back_at i X of to Held c =
      c.back (numbers_at t i) (numbers_fit (row_at i) (data_at t i) (data_low t low i)) (sound_fields (row_at i) (data_at t i) (good.1 i))

  at_step : (k i : ℕ) (r q : Row) (x u : List ℕ) → x ≡ numbers_in r (data_at t i) → u ≡ numbers_in q (data_at t k)
      → cond (eqb k i) x u ≡ numbers_in (cond (eqb k i) r q) (data_at t k)
  at_step k i r q x u e f = go (eqb k i) refl
    where
      go : (b : Bool) → eqb k i ≡ b → cond b x u ≡ numbers_in (cond b r q) (data_at t k)
      go true p = e ∙ ap (λ (j : ℕ). numbers_in r (data_at t j)) (sym (eqb-true k i p))
      go false p = f

  pub numbers_same : (k : ℕ) → old_numbers (records_of t) k ≡ numbers_in (row_in old_rows k) (data_at t k)
  numbers_same k =
      at_step k 1 mov_row _ _ _ (back_at 1 _ mov_of mov_numbers _ mov_codec)
      (at_step k 2 eng_row _ _ _ (back_at 2 _ eng_of eng_numbers _ eng_codec)
      (at_step k 3 pwr_row _ _ _ (back_at 3 _ pwr_of pwr_numbers _ pwr_codec)
      (at_step k 4 eds_row _ _ _ (back_at 4 _ eds_of eds_numbers _ eds_codec)
      (at_step k 5 hom_row _ _ _ (back_at 5 _ hom_of hom_numbers _ hom_codec)
      (at_step k 6 brk_row _ _ _ (back_at 6 _ brk_of brk_numbers _ brk_codec)
      (at_step k 7 pid_row _ _ _ (back_at 7 _ pid_of pid_numbers _ pid_codec)
      refl))))))

  -- UNDER EVERY GET of a block that had a record
  pub get_same : (k : ℕ) → row_in old_rows k ≡ row_at k → old_get (records_of t) k ≡ data_at t k
  get_same k row =
      ap (data_of (row_in old_rows k)) (numbers_same k)
      ∙ ap (λ (r : Row). data_of r (numbers_in r (data_at t k))) row ∙ data_sent t good low k

-- and fresh
pub fresh_same : records_of fresh_table ≡ old_fresh
unfolding fresh_in section_in laid le_bytes le_at least within signed_within finite only_bits
fresh_same = refl
