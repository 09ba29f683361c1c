-- Requests as one run of bytes on the line, each byte behind its own stamp, offered in any cutting, and time and position reported in between: what is
-- read back is the same, and so is what the board holds at the end. Assumes nothing.
use Rattle.std.specs.Prelude.{Result}
use mathlib.Core.Path.{◌≡◌, refl, sym, ap, subst, ◌∙◌}
use mathlib.Core.List.{List, [], ◌∷◌, ◌++◌, map}
use Prim.Native.Nat.{ℕ, zero, suc, ◌-◌}
use native.Mathlib.Omega.{arith}
use lib.ListN.{length, get_or, take, drop, replicate, length-replicate}
use Rattle.sheet.specs.Lengths.{longest_frame}
use Rattle.table.specs.declared.Table.{Table}
use Rattle.table.specs.Table.{fresh_table}
use Rattle.rule.specs.Run.{Item, byte, event, last_stamp}
use Rattle.rule.specs.Framing.{Token, whole, lost, seen}
use Rattle.rule.specs.Rule.{Said, then, State, with_line, state_at, Protocol, deal}
use Rattle.rule.specs.Step.{Fed, feeds, step, steps}
use Rattle.rule.specs.Facts.{InTime, spread}
use Rattle.rule.proofs.Waits.{late_self}
use Rattle.rule.proofs.Steps.{event_step, steps_append, steps_feeds}
use Rattle.rule.proofs.Spread.{steps_in_time}
use Rattle.orders.specs.declared.Order.{Order}
use Rattle.names.proofs.Need.{need_law}
use Rattle.unit.specs.Unit.{Event, clock, position, stands, act}
use Rattle.unit.specs.Protocol.{protocol, fresh_state}
use Rattle.unit.specs.declared.Memory.{Memory}
use Rattle.unit.specs.declared.Notes.{Notes}
use Rattle.state.specs.State.{board_of}
use Rattle.state.specs.declared.Board.{Board}
use Rattle.state.proofs.Board.fresh.Reads as fresh
use Rattle.clock.specs.Timely.{NoneOverdue, without_clock}
use Rattle.clock.proofs.Clock.{none_overdue}
use Rattle.demands.specs.Runs.{on_board, Offered}
use Rattle.demands.proofs.Runs.{offered_steps}
use Rattle.host.specs.declared.Block.{Block}
use Rattle.request.specs.Request.{frame_of}
use Rattle.request.specs.declared.Request.{Request}
use Rattle.answer.specs.declared.Reading.{Reading}
use Rattle.answer.specs.declared.Unread.{Unread}
use Rattle.link.specs.Book.{Book, book_of, noted, noted_all, answers_to, orders_of, replies_to}
use Rattle.link.specs.Types.{TypedAll, TypedBoard, Kept}
use Rattle.link.specs.Asking.{Ready, Sendable, ReadOff, AnswerForAnswer}
use Rattle.link.specs.Sending.{Sent, only_bytes, run_of, requests_of}
use Rattle.link.proofs.Requests.{frame_least, frame_most, frame_whole, acts}
use Rattle.link.proofs.Types.{fresh_typed}
use Rattle.link.proofs.Sessions.{good_is, length_is, frame_is, bound, kept, replies_read, fresh_ready, write_good}

-- ---- the units of a run

-- the same framing with no memory, to see the units: each whole one is given as it stands
abbrev framer : Protocol Event (List ℕ) (Unit {0})
framer = record { cuts = protocol.cuts; need = protocol.need; act = λ _ k. record { reply = []; orders = given k; next = tt }; longest_piece = 0; least_room = 0 }
  where
    given : Token Event → List (List ℕ)
    given (whole u) = u ∷ []
    given (lost u) = []
    given (seen e) = []

-- reports of the position part no unit, wherever they come
positions_aside : (r : List (Item Event)) (s : State (Unit {0})) → steps framer s (without_clock r) ≡ steps framer s (only_bytes r)
unfolding steps
positions_aside [] s = refl
positions_aside (byte t b ∷ r) s =
    let a = step framer s (byte t b) in
    ap (then a) (positions_aside r a.next)
positions_aside (event (clock now) ∷ r) s = positions_aside r s
positions_aside (event (position p) ∷ r) s = rw (event_step framer s (position p) refl) (positions_aside r s)

-- the units seen are the frames of these requests, and nothing stays unfinished
record Frames (qs : List Request) (w : Said (List ℕ) (State (Unit {0}))) : Type 0 where
  units : w.orders ≡ map frame_of qs
  idle : w.next.line.unfinished ≡ []

frames : (xs : List Sent) (t : ℕ) → Frames (requests_of xs) (steps framer (state_at tt [] t) (run_of xs))
unfolding steps
frames [] t = record { units = refl; idle = refl }
frames (x ∷ xs) t =
    let q = x.request in
    let u = frame_of q in
    let is : take x.size x.out ≡ u = frame_is x.written in
    let stamps = x.first ∷ x.others in
    let last = last_stamp t (spread stamps u) in
    let ih = frames xs last in
    let all : steps framer (state_at tt [] t) (run_of (x ∷ xs)) ≡ then (with_line (record { unfinished = []; last = last }) (framer.act tt (whole u))) (steps framer (state_at tt [] last) (run_of xs)) =
    steps_append framer (spread stamps (take x.size x.out)) (run_of xs) (state_at tt [] t)
    ∙ ap (λ (y : Said (List ℕ) (State (Unit {0}))). then y (steps framer y.next (run_of xs)))
    (ap (λ (v : List ℕ). steps framer (state_at tt [] t) (spread stamps v)) is
    ∙ steps_in_time framer need_law tt t x.first x.others u (sym (length_is x.written) ∙ x.each) x.in_time (frame_whole q)) in
    rw all (record { units = ap (λ (us : List (List ℕ)). u ∷ us) ih.units; idle = ih.idle })

-- ---- what the memory makes of them

-- what is said of requests one after the other, from this table and these notes, and what they leave
record Answered (t : Table) (notes : Notes) (qs : List Request) (w : Said Order Memory) : Type 0 where
  replies : Kept t → w.reply ≡ replies_to (book_of t) qs
  orders : w.orders ≡ orders_of qs
  blocks : (c : Block) → book_of w.next.settings c ≡ noted_all (book_of t) qs c
  kept : w.next.notes ≡ notes

-- wherever the position stands: what comes between the frames says nothing and alters neither settings nor notes
units_answered : (ks : List (Token Event)) (xs : List Sent) (m : Memory) → (deal framer tt ks).orders ≡ map frame_of (requests_of xs)
    → Answered m.settings m.notes (requests_of xs) (deal protocol m ks)
unfolding deal act
units_answered [] [] m e = record { replies = λ h. refl; orders = refl; blocks = λ c. refl; kept = refl }
units_answered [] (x ∷ xs) m e = absurd (omega (arith, ap length e))
units_answered (lost u ∷ ks) xs m e = units_answered ks xs m e
units_answered (seen (clock now) ∷ ks) xs m e = units_answered ks xs m e
units_answered (seen (position p) ∷ ks) xs m e = units_answered ks xs (stands m p) e
units_answered (whole u ∷ ks) [] m e = absurd (omega (arith, ap length e))
units_answered (whole u ∷ ks) (x ∷ xs) m e =
    let q = x.request in
    let qs = requests_of xs in
    let is : u ≡ frame_of q = ap (λ (us : List (List ℕ)). get_or us 0 []) e in
    let done = acts m q x.typed (good_is x.written) in
    let n = (act m (whole (frame_of q))).next in
    let ih = units_answered ks xs n (ap (drop 1) e) in
    let next : book_of n.settings ≡ noted (book_of m.settings) q = λ i c. done.blocks c i in
    subst (λ (v : List ℕ). Answered m.settings m.notes (q ∷ qs) (deal protocol m (whole v ∷ ks))) (sym is)
    (record {
      replies = λ h i. done.reply h i ++ (ih.replies (done.table h) ∙ ap (λ (k : Book). replies_to k qs) next) i;
      orders = λ i. done.orders i ++ ih.orders i;
      blocks = λ c. ih.blocks c ∙ ap (λ (k : Book). noted_all k qs c) next;
      kept = ih.kept ∙ done.notes;
    })

sent_typed : (xs : List Sent) → TypedAll (requests_of xs)
sent_typed [] = tt
sent_typed (x ∷ xs) = (x.typed, sent_typed xs)

-- a board with nothing unfinished, as a fresh board is and as each call leaves it that ends a unit; the run has what was written, reports of the
-- time that are not overdue where they come, and reports of the position anywhere, inside a frame too
module _ {b : Board} {m : Memory} {t : ℕ} (is : b ≡ board_of (state_at m [] t)) (xs : List Sent)
    {run : List (Item Event)} (sent : only_bytes run ≡ run_of xs) (timely : NoneOverdue (state_at m [] t) run) {x : Said Order Board} (offered : Offered b run x) where
  abbrev qs : List Request
  qs = requests_of xs

  abbrev book : Book
  book = book_of b.memory.settings

  -- what the run falls into, without its reports of the time
  abbrev f : Fed Event
  f = feeds protocol.cuts protocol.need (record { unfinished = []; last = t }) (without_clock run)

  framed : Frames qs (with_line f.line (deal framer tt f.tokens))
  framed =
      subst (Frames qs) (ap (steps framer (state_at tt [] t)) (sym sent) ∙ sym (positions_aside run (state_at tt [] t)) ∙ steps_feeds framer (without_clock run) (state_at tt [] t))
      (frames xs t)

  done : Answered m.settings m.notes qs (deal protocol m f.tokens)
  done = units_answered f.tokens xs m framed.units

  says : x ≡ on_board (with_line f.line (deal protocol m f.tokens))
  says = offered_steps offered (state_at m [] t) is ∙ ap on_board (none_overdue run (state_at m [] t) timely ∙ steps_feeds protocol (without_clock run) (state_at m [] t))

  same_book : book_of m.settings ≡ book
  same_book = ap (λ (y : Board). book_of y.memory.settings) (sym is)

  -- the orders are given, in sequence
  pub cut_orders : x.orders ≡ orders_of qs
  cut_orders = ap (λ (y : Said Order Board). y.orders) says ∙ done.orders

  -- each block of the board at the end holds what the requests leave in it, noted in sequence
  pub cut_blocks : (c : Block) → book_of x.next.memory.settings c ≡ noted_all book qs c
  cut_blocks c =
      ap (λ (y : Said Order Board). book_of y.next.memory.settings c) says ∙ done.blocks c ∙ ap (λ (k : Book). noted_all k qs c) same_book

  -- flags and last refused field stay, and nothing is unfinished
  pub cut_notes : x.next.memory.notes ≡ b.memory.notes
  cut_notes = ap (λ (y : Said Order Board). y.next.memory.notes) says ∙ done.kept ∙ ap (λ (y : Board). y.memory.notes) (sym is)

  pub cut_idle : x.next.count ≡ 0
  cut_idle = ap (λ (y : Said Order Board). y.next.count) says ∙ ap length framed.idle

  -- the joined replies are read back, answer for answer, to the last byte
  pub cut_read : Ready b → TypedBoard b → {rs : List (Result Reading Unread)} {rest : List ℕ} → ReadOff x.reply rs rest → length rs ≡ length qs
      → AnswerForAnswer rs (answers_to book qs) × (rest ≡ [])
  cut_read can typed {rs} {rest} off e =
      let holds : Kept m.settings = subst (λ (y : Board). Kept y.memory.settings) is (kept b can typed) in
      let same : x.reply ≡ replies_to book qs =
      ap (λ (y : Said Order Board). y.reply) says ∙ done.replies holds ∙ ap (λ (k : Book). replies_to k qs) same_book in
      replies_read book qs (bound b typed) (sent_typed xs) (subst (λ (l : List ℕ). ReadOff l rs rest) same off) e

-- ---- FROM A FRESH BOARD, as `state::fresh` promises it: nothing is asked of the board

module _ (κs : _) (a : _) (b : Board) (s : _) (is : fresh.Post κs a b s) (xs : List Sent)
    {run : List (Item Event)} (sent : only_bytes run ≡ run_of xs) (timely : NoneOverdue fresh_state run) {x : Said Order Board} (offered : Offered b run x) where
  pub fresh_cut_blocks : (c : Block) → book_of x.next.memory.settings c ≡ noted_all (book_of fresh_table) (requests_of xs) c
  fresh_cut_blocks c =
      cut_blocks is xs sent timely offered c ∙ ap (λ (y : Board). noted_all (book_of y.memory.settings) (requests_of xs) c) is

  pub fresh_cut_read : {rs : List (Result Reading Unread)} {rest : List ℕ} → ReadOff x.reply rs rest → length rs ≡ length (requests_of xs)
      → AnswerForAnswer rs (answers_to (book_of fresh_table) (requests_of xs)) × (rest ≡ [])
  fresh_cut_read {rs} {rest} off e =
      subst (λ (y : Board). AnswerForAnswer rs (answers_to (book_of y.memory.settings) (requests_of xs)) × (rest ≡ [])) is
      (cut_read is xs sent timely offered (fresh_ready κs a b s is) (fresh_typed κs a b s is) off e)

-- ---- every sequence can be sent, all its bytes at any one stamp

in_time_lem : (n t : ℕ) → InTime t (replicate n t)
in_time_lem zero t = tt
in_time_lem (suc n) t = (late_self t, in_time_lem n t)

pub sent_some : (t : ℕ) (qs : List Request) → Sendable qs → (xs : List Sent) × (requests_of xs ≡ qs)
sent_some t [] good = ([], refl)
sent_some t (q ∷ qs) good =
    let n = length (frame_of q) in
    let room : List ℕ = replicate longest_frame 0 in
    let w = write_good q room good.0.1 (omega (arith, frame_most q)) in
    let rest = sent_some t qs good.1 in
    let others : List ℕ = replicate (n - 1) t in
    let each : n ≡ suc (length others) = omega (arith, frame_least q, length-replicate (n - 1) t) in
    (record { request = q; typed = good.0.0; room = room; size = n; out = w.0; written = w.1; first = t; others = others; each = each; in_time = in_time_lem (n - 1) t } ∷ rest.0, ap (λ (l : List Request). q ∷ l) rest.1)
