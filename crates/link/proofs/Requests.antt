-- What the board does with the frame of a request, and what the reader makes of its reply: over the definitions.
-- In quotation marks: sheet 02, P1. Assumes nothing.
use mathlib.Core.Path.{◌≡◌, refl, sym, ap, subst, ◌∙◌}
use mathlib.Core.Bool.{Bool, true, false, cond}
use mathlib.Core.List.{List, [], ◌++◌, append-nil}
use Prim.Native.Nat.{ℕ, ◌^◌, ◌≤◌, ◌<◌}
use native.Mathlib.Omega.{arith}
use lib.Dec.{eqb}
use lib.ListN.{length, get_or}
use borrow.Author.Tests.{eqb-true}
use Rattle.wire.specs.Numbers.{le_at, le_bytes}
use Rattle.wire.proofs.Numbers.{length_le_bytes, le_at_le_bytes}
use Rattle.wire.proofs.Laid.{Room}
use Rattle.frame.specs.Frame.{framed, data_in, intact}
use Rattle.frame.proofs.Frames.{frame_length, frame_name, frame_data, frame_intact}
use Rattle.keyed.specs.Keyed.{value_in}
use Rattle.sheet.specs.Lengths.{longest_frame}
use Rattle.sheet.specs.Sheet.{Row, sheet, set_table, get_table}
use Rattle.sheet.specs.Rows.{row_at, widths, total, numbers_in, data_of, first_bad}
use Rattle.sheet.specs.Sections.{bad_in as badPart}
use Rattle.sheet.proofs.Laws.{numbers_fit}
use Rattle.sheet.proofs.Sections.{sound_fields}
use Rattle.table.specs.declared.Table.{Table}
use Rattle.table.specs.Table.{data_at, numbers_at, put_at, Good}
use Rattle.table.proofs.Laws.{put_low}
use Rattle.table.proofs.Keep.{data_low, data_sent, numbers_put, good_put}
use Rattle.rule.specs.Framing.{whole}
use Rattle.rule.specs.Rule.{Said}
use Rattle.rule.specs.Facts.{OfBytes}
use Rattle.names.specs.Names.{name_in, kind_of, name_of, kind_at, span, need}
use Rattle.orders.specs.declared.Order.{Order}
use Rattle.names.specs.declared.Kind.{Kind}
use Rattle.names.specs.declared.Kind.TheVariants as kind
use Rattle.names.proofs.Lengths.{set_total}
use Rattle.names.proofs.Need.{kind_named, need_span}
use Rattle.unit.specs.Unit.{out_of_range, act, puts, does}
use Rattle.unit.specs.declared.Memory.{Memory}
use Rattle.unit.proofs.Sets.{checked_refused}
use Rattle.unit.proofs.Replies.{act_kind}
use Rattle.unit.specs.Kept.{Accepts, get_reply}
use Rattle.unit.proofs.Kept.{accepted}
use Rattle.unit.proofs.Runs.{got}
use Rattle.host.specs.Names.{row_of, set_of, get_of, order_name, block_number}
use Rattle.host.specs.declared.Block.{Block}
use Rattle.host.specs.declared.Block.TheVariants.{Mov, Eng, Pwr, Eds, Hom, Brk, Pid}
use Rattle.host.specs.declared.Order.{Order as Asked}
use Rattle.host.specs.declared.Order.TheVariants.{Stop, Sstp, Pwof, Left, Rigt, Home, Loft}
use Rattle.host.proofs.Numbered.{number_one, row_numbered, set_plain, get_plain, order_plain}
use Rattle.host.proofs.Totals.{total_most, total_least}
use Rattle.fields.specs.Fields.{block_of, Typed, fields_of, section_of, fields_in, first_bad_of}
use Rattle.fields.specs.declared.Fields.{Fields}
use Rattle.fields.proofs.Sections.{section_length, section_low, numbers_back, section_back, fields_typed, fields_own, fields_section}
use Rattle.request.specs.Request.{set_frame, frame_of, bad_in}
use Rattle.request.specs.declared.Request.{Request}
use Rattle.request.specs.declared.Request.TheVariants.{Get, Set, Give}
use Rattle.request.proofs.Writes.{set_length}
use Rattle.answer.specs.Answer.{answer_of, first_answer}
use Rattle.answer.specs.declared.Answer.TheVariants.{Data}
use Rattle.answer.proofs.Answers.{set_echoed, order_echoed, data_read}
use Rattle.link.specs.Book.{Book, book_of, noted, answer_to, given_by, orders_by, reply_to}
use Rattle.link.specs.Types.{TypedIn, TypedBook, Kept}

-- ---- the board knows each name: later commands change none of these

kind_set : (b : Block) → kind_of (set_of b).name ≡ kind.Set (block_number b)
unfolding value_in kind_of
kind_set Mov = refl
kind_set Eng = refl
kind_set Pwr = refl
kind_set Eds = refl
kind_set Hom = refl
kind_set Brk = refl
kind_set Pid = refl

kind_get : (b : Block) → kind_of (get_of b).name ≡ kind.Get (block_number b)
unfolding value_in kind_of
kind_get Mov = refl
kind_get Eng = refl
kind_get Pwr = refl
kind_get Eds = refl
kind_get Hom = refl
kind_get Brk = refl
kind_get Pid = refl

kind_order : (o : Asked) → kind_of (order_name o) ≡ kind.Gives (given_by o)
unfolding value_in kind_of
kind_order Stop = refl
kind_order Sstp = refl
kind_order Pwof = refl
kind_order Left = refl
kind_order Rigt = refl
kind_order Home = refl
kind_order Loft = refl

set_name : (b : Block) → name_in set_table (block_number b) ≡ (set_of b).name
unfolding value_in
set_name Mov = refl
set_name Eng = refl
set_name Pwr = refl
set_name Eds = refl
set_name Hom = refl
set_name Brk = refl
set_name Pid = refl

get_name : (b : Block) → name_in get_table (block_number b) ≡ (get_of b).name
unfolding value_in
get_name Mov = refl
get_name Eng = refl
get_name Pwr = refl
get_name Eds = refl
get_name Hom = refl
get_name Brk = refl
get_name Pid = refl

-- ---- frames are whole units

abbrev kind_for : Request → Kind
kind_for (Get b) = kind.Get (block_number b)
kind_for (Set f) = kind.Set (block_number (block_of f))
kind_for (Give o) = kind.Gives (given_by o)

name_read : (n : ℕ) → n < 256 ^ 4 → name_of (le_bytes 4 n) ≡ n
name_read n h = ap (le_at 4 0) (sym (append-nil (le_bytes 4 n))) ∙ le_at_le_bytes 4 n [] h

frame_starts : (q : Request) → get_or (frame_of q) 0 0 ≡ 0 → ⊥
unfolding le_bytes
frame_starts (Get b) = (get_plain b).starts
frame_starts (Set f) = (set_plain (block_of f)).starts
frame_starts (Give o) = (order_plain o).starts

frame_named : (q : Request) → kind_of (name_of (frame_of q)) ≡ kind_for q
frame_named (Get b) = ap kind_of (name_read (get_of b).name (get_plain b).fits) ∙ kind_get b
frame_named (Set f) =
    let n = (set_of (block_of f)).name in
    ap (λ (u : List ℕ). kind_of (name_of u)) (sym (append-nil (set_frame f)))
    ∙ ap kind_of (frame_name n (section_of f) [] (set_plain (block_of f)).fits) ∙ kind_set (block_of f)
frame_named (Give o) = ap kind_of (name_read (order_name o) (order_plain o).fits) ∙ kind_order o

frame_kind : (q : Request) → kind_at (frame_of q) ≡ kind_for q
frame_kind q = kind_named (frame_of q) (frame_starts q) ∙ frame_named q

pub frame_least : (q : Request) → 4 ≤ length (frame_of q)
frame_least (Get b) = omega (arith, length_le_bytes 4 (get_of b).name)
frame_least (Set f) = omega (arith, set_length f, total_least (block_of f))
frame_least (Give o) = omega (arith, length_le_bytes 4 (order_name o))

pub frame_most : (q : Request) → length (frame_of q) ≤ longest_frame
frame_most (Get b) = omega (arith, length_le_bytes 4 (get_of b).name)
frame_most (Set f) = omega (arith, set_length f, total_most (block_of f))
frame_most (Give o) = omega (arith, length_le_bytes 4 (order_name o))

span_frame : (q : Request) → span (kind_for q) ≡ length (frame_of q)
span_frame (Get b) = sym (length_le_bytes 4 (get_of b).name)
span_frame (Set f) = set_total (block_number (block_of f)) ∙ ap total (row_numbered (block_of f)) ∙ sym (set_length f)
span_frame (Give o) = sym (length_le_bytes 4 (order_name o))

pub frame_whole : (q : Request) → need (frame_of q) ≡ length (frame_of q)
frame_whole q = need_span (frame_of q) (frame_starts q) (frame_least q) ∙ ap span (frame_named q) ∙ span_frame q

-- ---- what a set leaves in each block

cond_out : {X Y : Type 0} (f : X → Y) (b : Bool) (x y : X) → f (cond b x y) ≡ cond b (f x) (f y)
cond_out f true x y = refl
cond_out f false x y = refl

put_fields : (t : Table) (k : ℕ) (d : List ℕ) (c : Block) → book_of (put_at t k d) c ≡ cond (eqb k (block_number c)) (fields_in c d) (book_of t c)
put_fields t k d c =
    ap (fields_of c) (numbers_put t k d (block_number c)) ∙ cond_out (fields_of c) (eqb k (block_number c)) _ _
    ∙ ap (λ (r : Row). cond (eqb k (block_number c)) (fields_of c (numbers_in r d)) (book_of t c)) (row_numbered c)

module _ (m : Memory) (f : Fields) (typed : Typed f) where
  abbrev b : Block
  b = block_of f

  abbrev k : ℕ
  k = block_number b

  section_is : data_in (set_frame f) ≡ section_of f
  section_is = frame_data (set_of b).name (section_of f)

  stored_fields : (c : Block) → book_of (put_at m.settings k (data_in (set_frame f))) c ≡ noted (book_of m.settings) (Set f) c
  stored_fields c = put_fields m.settings k (data_in (set_frame f)) c ∙ by (eqb k (block_number c)) refl
    where
      by : (y : Bool) → eqb k (block_number c) ≡ y → cond y (fields_in c (data_in (set_frame f))) (book_of m.settings c) ≡ cond y f (book_of m.settings c)
      by true e = ap (fields_in c) section_is ∙ ap (λ (x : Block). fields_in x (section_of f)) (sym (number_one b c (eqb-true k (block_number c) e))) ∙ section_back f typed
      by false e = refl

  -- the board's test of the frame is the host's test of the fields
  judged : badPart (row_at k) (data_in (set_frame f)) ≡ first_bad_of f
  unfolding badPart
  judged =
      ap (badPart (row_at k)) section_is ∙ ap (λ (r : Row). badPart r (section_of f)) (row_numbered b) ∙ ap (first_bad (row_of b)) (numbers_back f typed)

  intact_frame : intact (set_frame f) ≡ true
  intact_frame = frame_intact (set_of b).name (section_of f) (section_low f)

  set_accepted : first_bad_of f ≡ 0 → Accepts m (set_frame f) k
  set_accepted good = record { kind = frame_kind (Set f); crc = intact_frame; good = judged ∙ good }

  -- and the table is still a sound board's
  set_kept : first_bad_of f ≡ 0 → Kept m.settings → Kept (put_at m.settings k (data_in (set_frame f)))
  set_kept good h =
      record {
        good = good_put m.settings k (data_in (set_frame f)) (judged ∙ good) h.good;
        bytes = put_low sheet m.settings.bytes k (data_in (set_frame f)) h.bytes (subst OfBytes (sym section_is) (section_low f));
      }

  -- "refuses what the board would refuse", and nothing else: a set that the writer answers 3 to, the board would answer errv to, at the same field
  pub would_refuse : (first_bad_of f ≡ 0 → ⊥) → act m (whole (set_frame f)) ≡ out_of_range m k (first_bad_of f)
  unfolding does puts
  would_refuse bad =
      act_kind m (set_frame f) (kind.Set k) (frame_kind (Set f))
      ∙ checked_refused m (set_frame f) k _ _ intact_frame (λ z. bad (sym judged ∙ z))
      ∙ ap (out_of_range m k) judged

-- ---- what a get sends

module _ (t : Table) (b : Block) where
  abbrev number : ℕ
  number = block_number b

  abbrev ns : List ℕ
  ns = numbers_at t number

  -- the row that the board finds by the block's number is the block's
  by_row : (P : Row → Type 0) → P (row_at number) → P (row_of b)
  by_row P h = subst P (row_numbered b) h

  numbers_room : OfBytes t.bytes → Room (widths (row_of b)) ns
  numbers_room low = by_row (λ (r : Row). Room (widths r) ns) (numbers_fit (row_at number) (data_at t number) (data_low t low number))

  numbers_good : Good t → first_bad (row_of b) ns ≡ 0
  unfolding badPart
  numbers_good good = by_row (λ (r : Row). first_bad r ns ≡ 0) (sound_fields (row_at number) (data_at t number) (good.1 number))

  get_sends : Kept t → get_reply number (data_at t number) ≡ framed (get_of b).name (section_of (book_of t b))
  get_sends h =
      let sent = by_row (λ (r : Row). data_of r ns ≡ data_at t number) (data_sent t h.good h.bytes number) in
      let section = fields_section b ns (numbers_room h.bytes) (numbers_good h.good) ∙ sent in
      λ i. framed (get_name b i) (sym section i)

-- ---- WHAT THE BOARD DOES WITH A REQUEST'S FRAME

-- it replies, where its table is a sound board's, and orders as the book says; flags and last refused field stay, each block is then as the book has
-- it, and the table is still a sound board's
pub record Acts (m : Memory) (q : Request) : Type 0 where
  pub reply : Kept m.settings → (act m (whole (frame_of q))).reply ≡ reply_to (book_of m.settings) q
  pub orders : (act m (whole (frame_of q))).orders ≡ orders_by q
  pub notes : (act m (whole (frame_of q))).next.notes ≡ m.notes
  pub blocks : (b : Block) → book_of (act m (whole (frame_of q))).next.settings b ≡ noted (book_of m.settings) q b
  pub table : Kept m.settings → Kept (act m (whole (frame_of q))).next.settings

-- it does as a says
acts_as : (m : Memory) (q : Request) (a : Said Order Memory) → act m (whole (frame_of q)) ≡ a → (Kept m.settings → a.reply ≡ reply_to (book_of m.settings) q)
    → a.orders ≡ orders_by q → a.next.notes ≡ m.notes → ((b : Block) → book_of a.next.settings b ≡ noted (book_of m.settings) q b)
    → (Kept m.settings → Kept a.next.settings) → Acts m q
acts_as m q a e r o n f k =
    record {
      reply = λ h. ap (λ (x : Said Order Memory). x.reply) e ∙ r h;
      orders = ap (λ (x : Said Order Memory). x.orders) e ∙ o;
      notes = ap (λ (x : Said Order Memory). x.next.notes) e ∙ n;
      blocks = λ b. ap (λ (x : Said Order Memory). book_of x.next.settings b) e ∙ f b;
      table = λ h. subst (λ (x : Said Order Memory). Kept x.next.settings) (sym e) (k h);
    }

pub acts : (m : Memory) (q : Request) → TypedIn q → bad_in q ≡ 0 → Acts m q
unfolding does
acts m (Get b) typed good =
    acts_as m (Get b) _ (got m (frame_of (Get b)) (block_number b) (frame_kind (Get b)))
    (get_sends m.settings b) refl refl (λ c. refl) (λ h. h)
acts m (Set f) typed good =
    acts_as m (Set f) _ (accepted m (set_frame f) (block_number (block_of f)) (set_accepted m f typed good))
    (λ h. ap (le_bytes 4) (set_name (block_of f))) refl refl (stored_fields m f typed) (set_kept m f typed good)
acts m (Give o) typed good =
    acts_as m (Give o) _ (act_kind m (frame_of (Give o)) (kind.Gives (given_by o)) (frame_kind (Give o)))
    (λ h. ap (le_bytes 4) (name_read (order_name o) (order_plain o).fits)) refl refl (λ c. refl) (λ h. h)

-- ---- WHAT THE READER MAKES OF THE REPLY

-- a book that a board can hold: each block's fields are that block's, and fit their types
pub record Bound (book : Book) : Type 0 where
  pub own : (b : Block) → block_of (book b) ≡ b
  pub typed : TypedBook book

pub table_bound : (t : Table) → OfBytes t.bytes → Bound (book_of t)
table_bound t low =
    record { own = λ c. fields_own c (numbers_at t (block_number c)); typed = λ c. fields_typed c (numbers_at t (block_number c)) (numbers_room t c low) }

pub noted_bound : (book : Book) (q : Request) → Bound book → TypedIn q → Bound (noted book q)
noted_bound book (Get b) h typed = h
noted_bound book (Give o) h typed = h
noted_bound book (Set f) h typed = record { own = λ c. own_by c (eqb (block_number (block_of f)) (block_number c)) refl; typed = λ c. typed_by c (eqb (block_number (block_of f)) (block_number c)) }
  where
    own_by : (c : Block) (y : Bool) → eqb (block_number (block_of f)) (block_number c) ≡ y → block_of (cond y f (book c)) ≡ c
    own_by c true e = number_one (block_of f) c (eqb-true (block_number (block_of f)) (block_number c) e)
    own_by c false e = h.own c

    typed_by : (c : Block) (y : Bool) → Typed (cond y f (book c))
    typed_by c true = typed
    typed_by c false = h.typed c

pub reply_read : (book : Book) (q : Request) → Bound book → (rest : List ℕ) → first_answer (reply_to book q ++ rest) ≡ answer_of (length (reply_to book q)) (answer_to book q)
reply_read book (Get b) h rest =
    let f = book b in
    let n : length (framed (get_of (block_of f)).name (section_of f)) ≡ total (row_of (block_of f)) =
    omega (arith, frame_length (get_of (block_of f)).name (section_of f), section_length f, total_least (block_of f)) in
    let e : first_answer (framed (get_of (block_of f)).name (section_of f) ++ rest) ≡ answer_of (length (framed (get_of (block_of f)).name (section_of f))) (Data f) =
    data_read f (h.typed b) rest ∙ ap (λ (k : ℕ). answer_of k (Data f)) (sym n) in
    rw (ap (λ (c : Block). framed (get_of c).name (section_of f)) (h.own b)) at e
reply_read book (Set f) h rest = set_echoed (block_of f) rest ∙ ap (λ (k : ℕ). answer_of k (answer_to book (Set f))) (sym (length_le_bytes 4 (set_of (block_of f)).name))
reply_read book (Give o) h rest = order_echoed o rest ∙ ap (λ (k : ℕ). answer_of k (answer_to book (Give o))) (sym (length_le_bytes 4 (order_name o)))
