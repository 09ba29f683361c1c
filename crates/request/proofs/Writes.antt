-- The length of a set's frame, and the writer's three answers. Assumes nothing.
use Rattle.std.specs.Prelude.{Result, Ok, Err}
use mathlib.Core.Path.{◌≡◌, refl, sym, ap, ◌∙◌}
use mathlib.Core.Bool.{Bool, true, false, cond}
use mathlib.Core.List.{List}
use Prim.Native.Nat.{ℕ, zero, suc, ◌≤◌, ◌<◌}
use native.Mathlib.Omega.{arith}
use lib.Dec.{eqb, ltb}
use lib.ListN.{length, drop}
use lib.Seq.{sets}
use borrow.Author.Tests.{eq-eqb, ne_eqb, lt-ltb, le-ltb, eqb-true, ltb-false}
use Rattle.wire.proofs.Stores.{past_stored}
use Rattle.sheet.specs.Rows.{total}
use Rattle.frame.proofs.Frames.{frame_length}
use Rattle.host.specs.Names.{row_of, set_of}
use Rattle.host.proofs.Totals.{total_least}
use Rattle.fields.specs.Fields.{block_of, section_of}
use Rattle.fields.specs.declared.Fields.{Fields}
use Rattle.fields.proofs.Sections.{section_length}
use Rattle.request.specs.Request.{set_frame, Wrote, refused_write, written_as, writes, Writes}
use Rattle.request.specs.declared.Refused.{Refused}
use Rattle.request.specs.declared.Refused.TheVariants.{OutOfRange, TooShort}
use Rattle.std.specs.Prelude.{Option}
use Rattle.std.specs.Option.{is_some}
use Rattle.ranges.specs.Tests.{found}

-- ---- whether a field was found out of its range

pub some_bad : (o : Option ℕ) (n : ℕ) → o ≡ found n → is_some o ≡ true → n ≡ 0 → ⊥
some_bad o zero e t z = let f = ap is_some e in cc
some_bad o (suc n) e t z = cc

pub none_bad : (o : Option ℕ) (n : ℕ) → o ≡ found n → is_some o ≡ false → n ≡ 0
none_bad o zero e t = refl
none_bad o (suc n) e t = let f = ap is_some e in cc

pub set_length : (f : Fields) → length (set_frame f) ≡ total (row_of (block_of f))
set_length f = omega (arith, frame_length (set_of (block_of f)).name (section_of f), section_length f, total_least (block_of f))

-- ---- the three answers

module _ (bad : ℕ) (u before : List ℕ) where
  pub says_out_of_range : (bad ≡ 0 → ⊥) → Writes bad u before (Err OutOfRange) before
  unfolding writes
  says_out_of_range h = record { answer = rw (ne_eqb bad 0 h); buffer = rw (ne_eqb bad 0 h) }

  pub says_too_short : bad ≡ 0 → length before < length u → Writes bad u before (Err TooShort) before
  unfolding writes
  says_too_short z h = record { answer = rw (eq-eqb bad 0 z, lt-ltb (length before) (length u) h); buffer = rw (eq-eqb bad 0 z, lt-ltb (length before) (length u) h) }

  pub says_frame : (n : ℕ) (after : List ℕ) → bad ≡ 0 → length u ≤ length before → n ≡ length u → after ≡ sets before 0 u → Writes bad u before (Ok n) after
  unfolding writes
  says_frame n after z h e s =
      record {
        answer = rw (eq-eqb bad 0 z, le-ltb (length before) (length u) h) (ap (λ (k : ℕ). record { number = 0; size = k }) e);
        buffer = rw (eq-eqb bad 0 z, le-ltb (length before) (length u) h) s;
      }

-- what stands behind the number 0
module _ (bad : ℕ) (u : List ℕ) where
  pub record Framed (room : ℕ) : Type 0 where
    pub good : bad ≡ 0
    pub fits : length u ≤ room
    pub long : (writes bad u room).size ≡ length u

  pub wrote_frame : (room : ℕ) → (writes bad u room).number ≡ 0 → Framed room
  unfolding writes
  wrote_frame room z = by_value (eqb bad 0) refl z
    where
      by_room : (y : Bool) → ltb room (length u) ≡ y → eqb bad 0 ≡ true → (cond y (refused_write 4) (record { number = 0; size = length u })).number ≡ 0 → Framed room
      by_room true e g n = absurd (omega arith)
      by_room false e g n =
          record { good = eqb-true bad 0 g; fits = ltb-false room (length u) e; long = rw (g, e) }

      by_value : (y : Bool) → eqb bad 0 ≡ y → (cond y (cond (ltb room (length u)) (refused_write 4) (record { number = 0; size = length u })) (refused_write 3)).number ≡ 0 → Framed room
      by_value true e n = by_room (ltb room (length u)) refl e n
      by_value false e n = absurd (omega arith)

-- the buffer, over the promise: "nothing written" where it is refused, and else the writer "keeps the buffer past the frame"
module _ {bad : ℕ} {u before after : List ℕ} {r : Result ℕ Refused} (got : Writes bad u before r after) where
  abbrev number : ℕ
  number = (writes bad u (length before)).number

  number_is : (written_as r).number ≡ number
  number_is = ap (λ (w : Wrote). w.number) got.answer

  pub refused_kept : ((written_as r).number ≡ 0 → ⊥) → after ≡ before
  refused_kept h = got.buffer ∙ rw (ne_eqb number 0 (λ z. h (number_is ∙ z)))

  pub past_kept : (written_as r).number ≡ 0 → drop (length u) after ≡ drop (length u) before
  past_kept z =
      let zero = sym number_is ∙ z in
      ap (drop (length u)) (got.buffer ∙ rw (eq-eqb number 0 zero)) ∙ past_stored before u (wrote_frame bad u (length before) zero).fits

-- every request gets an answer
pub writes_some : (bad : ℕ) (u : List ℕ) (room : ℕ) → (w : Result ℕ Refused) × (written_as w ≡ writes bad u room)
unfolding writes
writes_some bad u room = by (eqb bad 0) (ltb room (length u))
  where
    by : (y z : Bool) → (w : Result ℕ Refused) × (written_as w ≡ cond y (cond z (refused_write 4) (record { number = 0; size = length u })) (refused_write 3))
    by true true = (Err TooShort, refl)
    by true false = (Ok (length u), refl)
    by false z = (Err OutOfRange, refl)
