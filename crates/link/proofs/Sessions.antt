-- The host and the board on one line, over the promises of `write`, `receive` and `read` themselves. In quotation marks: sheet 02, P1.
-- Assumes nothing.
use Rattle.std.specs.Prelude.{Result, Ok}
use mathlib.Core.Path.{◌≡◌, refl, sym, ap, subst, ◌∙◌}
use mathlib.Core.List.{List, [], ◌∷◌, ◌++◌}
use Prim.Native.Nat.{ℕ, zero, suc, ◌≤◌}
use native.Mathlib.Omega.{arith}
use lib.ListN.{length, take, drop, replicate}
use lib.Seq.{sets, drop-append_seam}
use borrow.Author.Tests.{eq-eqb, ne_eqb}
use Rattle.wire.proofs.Stores.{front_stored}
use Rattle.sheet.specs.Lengths.{longest_frame}
use Rattle.table.specs.Table.{fresh_table}
use Rattle.rule.specs.Facts.{OfBytes}
use Rattle.orders.specs.Orders.{given}
use Rattle.orders.specs.declared.Order.{Order}
use Rattle.unit.specs.Protocol.{protocol}
use Rattle.unit.proofs.Sound.{sound_memory_lem}
use Rattle.state.specs.State.{state_of}
use Rattle.state.specs.declared.Board.{Board}
use Rattle.state.specs.Call.{Call}
use Rattle.state.proofs.Boards.{fresh_sound}
use Rattle.state.proofs.Board.fresh.Reads as fresh
use Rattle.demands.specs.Calls.{Answers}
use Rattle.demands.proofs.Calls.{ref_to, lent_to, receive_some, keeps_sound}
use Rattle.host.specs.Names.{block_number}
use Rattle.host.specs.declared.Block.{Block}
use Rattle.host.proofs.Numbered.{number_one}
use Rattle.fields.specs.Fields.{block_of, Typed}
use Rattle.fields.specs.declared.Fields.{Fields}
use Rattle.request.specs.Request.{frame_of, bad_in, writes, buffer_after, Writes}
use Rattle.request.specs.declared.Request.{Request}
use Rattle.request.specs.declared.Request.TheVariants.{Set}
use Rattle.request.specs.declared.Refused.{Refused}
use Rattle.request.proofs.Writes.{says_frame, Framed, wrote_frame, writes_some}
use Rattle.answer.specs.Answer.{FirstRead, read_as, answer_of, first_answer}
use Rattle.answer.specs.declared.Reading.{Reading}
use Rattle.answer.specs.declared.Unread.{Unread}
use Rattle.answer.proofs.Ways.{first_some}
use Rattle.link.specs.Book.{Book, book_of, noted, noted_all, answer_to, answers_to, orders_by, orders_of, reply_to, replies_to}
use Rattle.link.specs.Types.{TypedIn, TypedAll, TypedBoard, Kept}
use Rattle.link.specs.Asking.{Writing, Reads, allowed, Ready, Asked, none, ask, NoRefusal, Sendable, ReadOff, one, AnswerForAnswer}
use Rattle.link.proofs.Alone.{Taken, taken_alone}
use Rattle.link.proofs.Requests.{frame_least, frame_most, frame_whole, Acts, acts, Bound, table_bound, noted_bound, reply_read}
use Rattle.link.proofs.Types.{fresh_typed}

-- ---- what the contracts say

pub wrote : {q : Request} {before after : List ℕ} {w : Result ℕ Refused} → Writing q before w after → Writes (bad_in q) (frame_of q) before w after
wrote (allowed κs a s got e f g) = rw (← e, ← f, ← g) got

pub has_read : {bytes : List ℕ} {r : Result Reading Unread} → Reads bytes r → read_as r ≡ first_answer bytes
has_read (allowed κs a s got e) = got ∙ ap first_answer e

-- ---- a written request: the frame of n bytes stands at the buffer's front, and the board would refuse no field of it

module _ {q : Request} {n : ℕ} {room out : List ℕ} (written : Writing q room (Ok n) out) where
  number_zero : (writes (bad_in q) (frame_of q) (length room)).number ≡ 0
  number_zero = sym (ap (λ w. w.number) (wrote written).answer)

  stands : Framed (bad_in q) (frame_of q) (length room)
  stands = wrote_frame (bad_in q) (frame_of q) (length room) number_zero

  pub good_is : bad_in q ≡ 0
  good_is = stands.good

  pub length_is : n ≡ length (frame_of q)
  length_is = ap (λ w. w.size) (wrote written).answer ∙ stands.long

  pub frame_is : take n out ≡ frame_of q
  frame_is =
      let kept : out ≡ sets room 0 (frame_of q) = (wrote written).buffer ∙ rw (eq-eqb (writes (bad_in q) (frame_of q) (length room)).number 0 number_zero) in
      ap (take n) kept ∙ front_stored room (frame_of q) n (sym length_is) (omega (arith, length_is, stands.fits))

-- ---- ONE REQUEST

-- the book of a board
pub bound : (b : Board) → TypedBoard b → Bound (book_of b.memory.settings)
bound b typed = table_bound b.memory.settings typed.table

-- and its table, where it is sound
pub kept : (b : Board) → Ready b → TypedBoard b → Kept b.memory.settings
kept b can typed = record { good = (sound_memory_lem (state_of b) can.sound).good; bytes = typed.table }

-- "a written frame, offered whole to a sound board with room enough and nothing unfinished, is accepted"
module _ {q : Request} {n : ℕ} {room out : List ℕ} (written : Writing q room (Ok n) out) (typed : TypedIn q)
    {b : Board} {t : ℕ} {before after : List ℕ} {r : Call} (got : Answers b t (take n out) before r after) (can : Ready b) (wide : protocol.least_room ≤ length before) where
  abbrev book : Book
  book = book_of b.memory.settings

  done : Acts b.memory q
  done = acts b.memory q typed (good_is written)

  -- the board is offered the frame, alone
  one_unit : Taken b t (frame_of q) r after
  one_unit =
      taken_alone (subst (λ (u : List ℕ). Answers b t u before r after) (frame_is written) got) can wide (omega (arith, frame_most q))
      (omega (arith, frame_least q)) (frame_whole q)

  pub accepted : r.number ≡ 0
  accepted = one_unit.number

  pub taken : r.taken ≡ n
  taken = one_unit.taken ∙ sym (length_is written)

  -- the reply and the order are the book's
  pub replied : TypedBoard b → take r.written after ≡ reply_to book q
  replied fit = one_unit.reply ∙ done.reply (kept b can fit)

  pub ordered : given r.order ≡ orders_by q
  ordered = one_unit.order ∙ done.orders

  -- each block is then as the book has it
  pub blocks : (c : Block) → book_of r.board.memory.settings c ≡ noted book q c
  blocks c = ap (λ (y : Board). book_of y.memory.settings c) one_unit.board ∙ done.blocks c

  -- the book goes on
  pub next_book : book_of r.board.memory.settings ≡ noted book q
  next_book = λ i c. blocks c i

  -- flags and last refused field stay, and the board can be asked again
  pub notes : r.board.memory.notes ≡ b.memory.notes
  notes = ap (λ (y : Board). y.memory.notes) one_unit.board ∙ done.notes

  pub ready_again : Ready r.board
  ready_again = record { sound = keeps_sound got can.sound; idle = ap (λ (y : Board). y.count) one_unit.board }

  -- its table is still of bytes
  pub typed_again : TypedBoard b → TypedBoard r.board
  typed_again fit =
      record {
        table = subst (λ (y : Board). OfBytes y.memory.settings.bytes) (sym one_unit.board) (done.table (kept b can fit)).bytes;
        bytes = subst (λ (n : ℕ). OfBytes (take n r.board.held)) (sym ready_again.idle) (λ i. omega arith);
      }

  -- "the host reader gives back what a get reply holds", and so each reply, whatever stands behind it
  pub read_back : TypedBoard b → (rest : List ℕ) {x : Result Reading Unread} → Reads (take r.written after ++ rest) x
      → read_as x ≡ answer_of r.written (answer_to book q)
  read_back fit rest got_read =
      has_read got_read ∙ ap (λ (u : List ℕ). first_answer (u ++ rest)) (replied fit) ∙ reply_read book q (bound b fit) rest
      ∙ ap (λ (k : ℕ). answer_of k (answer_to book q)) (sym (one_unit.written ∙ ap length (done.reply (kept b can fit))))

-- "the fields of its block are then those written", and no other block changes
module _ {f : Fields} {n : ℕ} {room out : List ℕ} (written : Writing (Set f) room (Ok n) out) (typed : Typed f)
    {b : Board} {t : ℕ} {before after : List ℕ} {r : Call} (got : Answers b t (take n out) before r after) (can : Ready b) (wide : protocol.least_room ≤ length before) where
  pub then_written : book_of r.board.memory.settings (block_of f) ≡ f
  then_written = blocks written typed got can wide (block_of f) ∙ rw (eq-eqb (block_number (block_of f)) (block_number (block_of f)) refl)

  pub no_other : (c : Block) → (c ≡ block_of f → ⊥) → book_of r.board.memory.settings c ≡ book_of b.memory.settings c
  no_other c other =
      blocks written typed got can wide c
      ∙ rw (ne_eqb (block_number (block_of f)) (block_number c) (λ e. other (sym (number_one (block_of f) c e))))

-- ---- ANY SEQUENCE OF REQUESTS

-- the book's replies, joined, are read back, answer for answer, to the last byte
pub replies_read : (book : Book) (qs : List Request) → Bound book → TypedAll qs → {xs : List (Result Reading Unread)} {rest : List ℕ} → ReadOff (replies_to book qs) xs rest
    → length xs ≡ length qs → AnswerForAnswer xs (answers_to book qs) × (rest ≡ [])
replies_read book [] bound typed none e = (tt, refl)
replies_read book [] bound typed (one reads off) e = absurd (omega arith)
replies_read book (q ∷ qs) bound typed none e = absurd (omega arith)
replies_read book (q ∷ qs) bound typed {rest = rest} (one {x = x} {xs = xs} reads off) e =
    let more = replies_to (noted book q) qs in
    let is : read_as x ≡ answer_of (length (reply_to book q)) (answer_to book q) = has_read reads ∙ reply_read book q bound more in
    let behind : drop (read_as x).size (reply_to book q ++ more) ≡ more =
    ap (λ (y : FirstRead). drop y.size (reply_to book q ++ more)) is ∙ drop-append_seam (reply_to book q) more in
    let ih = replies_read (noted book q) qs (noted_bound book q bound typed.0) typed.1 (subst (λ (l : List ℕ). ReadOff l xs rest) behind off) (omega arith) in
    (((ap (λ (y : FirstRead). y.number) is, ap (λ (y : FirstRead). y.answer) is), ih.0), ih.1)

-- no request of the sequence is refused
pub asked_accepted : {b end : Board} {qs : List Request} {reply : List ℕ} {orders : List Order} (asked : Asked b qs reply orders end) → Ready b → NoRefusal asked
asked_accepted none can = tt
asked_accepted (ask typed written wide got rest) can =
    ((accepted written typed got can wide, taken written typed got can wide), asked_accepted rest (ready_again written typed got can wide))

-- each order is given, in sequence
pub asked_orders : {b end : Board} {qs : List Request} {reply : List ℕ} {orders : List Order} → Asked b qs reply orders end → Ready b → orders ≡ orders_of qs
asked_orders none can = refl
asked_orders (ask typed written wide got rest) can =
    λ i. ordered written typed got can wide i ++ asked_orders rest (ready_again written typed got can wide) i

-- the replies are the book's
asked_replies : {b end : Board} {qs : List Request} {reply : List ℕ} {orders : List Order} → Asked b qs reply orders end → Ready b → TypedBoard b
    → reply ≡ replies_to (book_of b.memory.settings) qs
asked_replies none can fit = refl
asked_replies (ask {qs = qs} typed written wide got rest) can fit =
    let ih = asked_replies rest (ready_again written typed got can wide) (typed_again written typed got can wide fit) in
    let next = ap (λ (k : Book). replies_to k qs) (next_book written typed got can wide) in
    λ i. replied written typed got can wide fit i ++ (ih ∙ next) i

asked_typed : {b end : Board} {qs : List Request} {reply : List ℕ} {orders : List Order} → Asked b qs reply orders end → TypedAll qs
asked_typed none = tt
asked_typed (ask typed written wide got rest) = (typed, asked_typed rest)

-- each block then holds what the requests leave in it, noted in sequence
pub asked_blocks : {b end : Board} {qs : List Request} {reply : List ℕ} {orders : List Order} → Asked b qs reply orders end → Ready b
    → (c : Block) → book_of end.memory.settings c ≡ noted_all (book_of b.memory.settings) qs c
asked_blocks none can c = refl
asked_blocks (ask {qs = qs} typed written wide got rest) can c =
    asked_blocks rest (ready_again written typed got can wide) c ∙ ap (λ (k : Book). noted_all k qs c) (next_book written typed got can wide)

-- flags and last refused field stay, the board can be asked again, and its table is still of bytes
pub asked_notes : {b end : Board} {qs : List Request} {reply : List ℕ} {orders : List Order} → Asked b qs reply orders end → Ready b
    → end.memory.notes ≡ b.memory.notes
asked_notes none can = refl
asked_notes (ask typed written wide got rest) can = asked_notes rest (ready_again written typed got can wide) ∙ notes written typed got can wide

pub asked_ready : {b end : Board} {qs : List Request} {reply : List ℕ} {orders : List Order} → Asked b qs reply orders end → Ready b → Ready end
asked_ready none can = can
asked_ready (ask typed written wide got rest) can = asked_ready rest (ready_again written typed got can wide)

pub asked_typed_again : {b end : Board} {qs : List Request} {reply : List ℕ} {orders : List Order} → Asked b qs reply orders end → Ready b
    → TypedBoard b → TypedBoard end
asked_typed_again none can fit = fit
asked_typed_again (ask typed written wide got rest) can fit =
    asked_typed_again rest (ready_again written typed got can wide) (typed_again written typed got can wide fit)

-- "the host reader gives back what a get reply holds", of any sequence: read off as often as was asked, the joined replies are the book's answers, one
-- for one, and nothing is left
pub asked_read : {b end : Board} {qs : List Request} {reply rest : List ℕ} {orders : List Order} {xs : List (Result Reading Unread)} → Asked b qs reply orders end
    → Ready b → TypedBoard b → ReadOff reply xs rest → length xs ≡ length qs → AnswerForAnswer xs (answers_to (book_of b.memory.settings) qs) × (rest ≡ [])
asked_read {b = b} {qs = qs} {rest = rest} {xs = xs} asked can typed off e =
    replies_read (book_of b.memory.settings) qs (bound b typed) (asked_typed asked)
    (subst (λ (l : List ℕ). ReadOff l xs rest) (asked_replies asked can typed) off) e

-- ---- FROM A FRESH BOARD, as `state::fresh` promises it: nothing is asked of the board

module _ (κs : _) (a : _) (b : Board) (s : _) (is : fresh.Post κs a b s) where
  pub fresh_ready : Ready b
  fresh_ready = record { sound = fresh_sound κs a b s is; idle = ap (λ (y : Board). y.count) is }

  pub fresh_asked_blocks : {end : Board} {qs : List Request} {reply : List ℕ} {orders : List Order} → Asked b qs reply orders end
      → (c : Block) → book_of end.memory.settings c ≡ noted_all (book_of fresh_table) qs c
  fresh_asked_blocks {qs = qs} asked c =
      asked_blocks asked fresh_ready c ∙ ap (λ (y : Board). noted_all (book_of y.memory.settings) qs c) is

  pub fresh_asked_read : {end : Board} {qs : List Request} {reply rest : List ℕ} {orders : List Order} {xs : List (Result Reading Unread)} → Asked b qs reply orders end
      → ReadOff reply xs rest → length xs ≡ length qs → AnswerForAnswer xs (answers_to (book_of fresh_table) qs) × (rest ≡ [])
  fresh_asked_read {qs = qs} {rest = rest} {xs = xs} asked off e =
      subst (λ (y : Board). AnswerForAnswer xs (answers_to (book_of y.memory.settings) qs) × (rest ≡ [])) is
      (asked_read asked fresh_ready (fresh_typed κs a b s is) off e)

-- ---- every request, every slice and every sequence gets its answers

pub write_some : (q : Request) (room : List ℕ) → (w : Result ℕ Refused) × Writing q room w (buffer_after (bad_in q) (frame_of q) room)
write_some q room =
    let w = writes_some (bad_in q) (frame_of q) (length room) in
    (w.0, allowed ([], tt) (q, (lent_to room, tt)) (q, (lent_to (buffer_after (bad_in q) (frame_of q) room), tt)) (record { answer = w.1; buffer = refl }) refl refl refl)

pub read_some : (bytes : List ℕ) → (x : Result Reading Unread) × Reads bytes x
read_some bytes = let x = first_some bytes in (x.0, allowed ([], tt) (ref_to bytes, tt) (ref_to bytes, tt) x.1 refl)

-- as often as one likes
pub readable : (n : ℕ) (bytes : List ℕ) → (xs : List (Result Reading Unread)) × (rest : List ℕ) × (length xs ≡ n) × ReadOff bytes xs rest
readable zero bytes = ([], bytes, refl, none)
readable (suc n) bytes =
    let x = read_some bytes in
    let more = readable n (drop (read_as x.0).size bytes) in
    (x.0 ∷ more.0, more.1, ap suc more.2, one x.1 more.3)

-- a request that passes its test is written where it fits
pub write_good : (q : Request) (room : List ℕ) → bad_in q ≡ 0 → length (frame_of q) ≤ length room → (out : List ℕ) × Writing q room (Ok (length (frame_of q))) out
write_good q room good fits =
    let w = says_frame (bad_in q) (frame_of q) room (length (frame_of q)) (sets room 0 (frame_of q)) good fits refl refl in
    (sets room 0 (frame_of q), allowed ([], tt) (q, (lent_to room, tt)) (q, (lent_to (sets room 0 (frame_of q)), tt)) w refl refl refl)

-- any sequence of them can be asked of any board that is ready, at any stamp
pub askable : (t : ℕ) (qs : List Request) (b : Board) → Ready b → Sendable qs → (reply : List ℕ) × (orders : List Order) × (end : Board) × Asked b qs reply orders end
askable t [] b can good = ([], [], b, none)
askable t (q ∷ qs) b can good =
    let room : List ℕ = replicate longest_frame 0 in
    let typed = good.0.0 in
    let w = write_good q room good.0.1 (omega (arith, frame_most q)) in
    let got = receive_some b t (take (length (frame_of q)) w.0) room in
    let rest = askable t qs _ (ready_again w.1 typed got can (omega arith)) good.1 in
    (_, _, rest.2, ask {before = room} typed w.1 (omega arith) got rest.3)
