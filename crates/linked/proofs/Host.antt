-- P1's writer, reader and sequence, of the functions that C and Rust link. In quotation marks: sheet 02, P1. Assumes nothing.
use Rattle.std.specs.Prelude.{Some, Result, Ok, Err}
use Prim.Native.Nat.{ℕ, ◌≤◌}
use mathlib.Core.Path.{◌≡◌, refl, ap, sym, subst, ◌∙◌}
use mathlib.Core.List.{List, [], ◌∷◌, ◌++◌, map, map-append}
use native.Mathlib.Omega.{arith}
use lib.ListN.{length, take, drop, length-map}
use Rattle.table.specs.Table.{fresh_table}
use Rattle.position.specs.Position.{travel_of}
use Rattle.orders.specs.Orders.{given}
use Rattle.orders.specs.declared.Order.{Order}
use Rattle.state.specs.declared.Board.{Board}
use Rattle.state.specs.Call.{Call}
use Rattle.demands.specs.Calls.{Answers}
use Rattle.demands.proofs.Calls.{ref_to, lent_to}
use Rattle.board.specs.Answer.{flat, Left as FlatCall}
use Rattle.host.specs.Names.{block_number, block_at, order_at, order_number as number_of}
use Rattle.host.specs.declared.Block.{Block}
use Rattle.host.specs.declared.Order as host
use Rattle.host.specs.declared.Order.TheVariants.{Stop, Sstp, Pwof, Left, Rigt, Home, Loft}
use Rattle.host.proofs.Numbered.{block_back, order_back}
use Rattle.fields.specs.Fields.{block_of}
use Rattle.fields.specs.declared.Fields.{Fields}
use Rattle.fields.specs.declared.Fields.TheVariants.{Mov, Eng, Pwr, Eds, Hom, Brk, Pid}
use Rattle.blocks.specs.Blocks.{fields_at, blocks_with}
use Rattle.blocks.specs.declared.Blocks.{Blocks}
use Rattle.request.specs.Request.{written_as}
use Rattle.request.specs.declared.Request.{Request}
use Rattle.request.specs.declared.Request.TheVariants.{Get, Set, Give}
use Rattle.request.specs.declared.Refused.{Refused}
use Rattle.request.specs.declared.Refused.TheVariants.{OutOfRange, TooShort}
use Rattle.answer.specs.Answer.{read_as, first_answer}
use Rattle.answer.specs.declared.Answer.{Answer}
use Rattle.answer.specs.declared.Reading.{Reading}
use Rattle.answer.specs.declared.Unread.{Unread}
use Rattle.optimiser.specs.Flat.{get_asked, set_asked, order_asked, flat_written, nobody, FlatWrites, flat_read, answer_kind, what_of, data_blocks}
use Rattle.optimiser.specs.declared.FlatWritten.{FlatWritten}
use Rattle.optimiser.specs.declared.FlatAnswer.{FlatAnswer}
use Rattle.optimiser.proofs.Flats as flats
use Rattle.link.specs.Book.{book_of, answers_to, given_by, orders_of}
use Rattle.link.specs.Types.{TypedBoard}
use Rattle.link.specs.Asking as link
use Rattle.link.specs.Asking.{Writing, Reads, Ready, Sendable}
use Rattle.link.proofs.Sessions.{wrote, has_read, write_some, read_some, asked_accepted, asked_orders, asked_read, asked_blocks, asked_notes, asked_ready, asked_typed_again, fresh_ready, askable, readable}
use Rattle.link.proofs.Types.{fresh_typed}
use Rattle.linked.specs.Board.{Starts, OrderSeen, order_seen, said_by}
use Rattle.linked.specs.Board as board
use Rattle.linked.specs.Host.{WritesGet, WritesSet, WritesOrder, ReadsFlat, allowed, Asks, get, set, give, Asked, none, ask, NoRefusal, ReadOff, one, AnswerForAnswer, orders_asked, Served}
use Rattle.linked.proofs.Board.{receives, receives_all, given_seen}

-- ---- what each contract says

module _ {before after : List ℕ} {r : FlatWritten} {n : ℕ} where
  writes_get : WritesGet n before r after → FlatWrites (get_asked (block_at n)) before r after
  writes_get (allowed κs a s got e f g) = rw (← e, ← f, ← g) got

  writes_set : {x : Blocks} → WritesSet n x before r after → FlatWrites (set_asked x (block_at n)) before r after
  writes_set (allowed κs a s got e y f g) = rw (← e, ← y, ← f, ← g) got

  writes_order : WritesOrder n before r after → FlatWrites (order_asked (order_at n)) before r after
  writes_order (allowed κs a s got e f g) = rw (← e, ← f, ← g) got

  -- a number outside 1 to 7 asks nothing: it is answered 9, and nothing is written
  module _ (outside : 1 ≤ n → n ≤ 7 → ⊥) where
    pub get_outside : WritesGet n before r after → (r ≡ nobody) × (after ≡ before)
    get_outside got = flats.get_outside n outside (writes_get got)

    pub set_outside : {x : Blocks} → WritesSet n x before r after → (r ≡ nobody) × (after ≡ before)
    set_outside {x} got = flats.set_outside n outside x (writes_set got)

    pub order_outside : WritesOrder n before r after → (r ≡ nobody) × (after ≡ before)
    order_outside got = flats.order_outside n outside (writes_order got)

-- ---- each export allows what the function behind it allows, and nothing else

module _ {before after : List ℕ} {r : FlatWritten} where
  asks_one : {q : Request} → Asks q before r after → FlatWrites (q ∷ []) before r after
  asks_one (get e got) = flats.asks_as _ _ (ap get_asked e) (writes_get got)
  asks_one (set {x = x} e got) = flats.asks_as _ _ (ap (set_asked x) e) (writes_set got)
  asks_one (give e got) = flats.asks_as _ _ (ap order_asked e) (writes_order got)

  pub asks : {q : Request} → Asks q before r after → (w : Result ℕ Refused) × Writing q before w after × (r ≡ flat_written (written_as w))
  asks {q} got =
      let said = asks_one got in
      let w = write_some q before in
      (w.0, subst (Writing q before w.0) (sym said.buffer) w.1, said.answer ∙ ap flat_written (sym (wrote w.1).answer))

module _ {before after : List ℕ} {w : Result ℕ Refused} where
  said_one : {q : Request} → Writing q before w after → FlatWrites (q ∷ []) before (flat_written (written_as w)) after
  said_one {q} got = flats.asks q before after w _ (wrote got) refl

  pub get_all : {n : ℕ} {b : Block} → block_at n ≡ Some b → Writing (Get b) before w after → WritesGet n before (flat_written (written_as w)) after
  get_all {n} e got =
      allowed ([], tt) (n, (lent_to before, tt)) (n, (lent_to after, tt)) (flats.asks_as _ _ (ap get_asked (sym e)) (said_one got)) refl refl refl

  pub set_all : {n : ℕ} {b : Block} (x : Blocks) → block_at n ≡ Some b → Writing (Set (fields_at x b)) before w after → WritesSet n x before (flat_written (written_as w)) after
  set_all {n} x e got =
      allowed ([], tt) (n, (x, (lent_to before, tt))) (n, (x, (lent_to after, tt))) (flats.asks_as _ _ (ap (set_asked x) (sym e)) (said_one got))
      refl refl refl refl

  pub order_all : {n : ℕ} {o : host.Order} → order_at n ≡ Some o → Writing (Give o) before w after → WritesOrder n before (flat_written (written_as w)) after
  order_all {n} e got =
      allowed ([], tt) (n, (lent_to before, tt)) (n, (lent_to after, tt)) (flats.asks_as _ _ (ap order_asked (sym e)) (said_one got)) refl refl refl

-- a block's own fields, among blocks that hold them
own_fields : (f : Fields) → fields_at (blocks_with f) (block_of f) ≡ f
own_fields (Mov x) = refl
own_fields (Eng x) = refl
own_fields (Pwr x) = refl
own_fields (Eds x) = refl
own_fields (Hom x) = refl
own_fields (Brk x) = refl
own_fields (Pid x) = refl

-- so every request can be asked, by the number of its block or order
module _ {before after : List ℕ} {w : Result ℕ Refused} where
  pub asks_all : {q : Request} → Writing q before w after → Asks q before (flat_written (written_as w)) after
  asks_all {q = Get b} got = get {n = block_number b} (block_back b) (get_all (block_back b) got)
  asks_all {q = Set f} got =
      let back = block_back (block_of f) in
      subst (λ (g : Fields). Asks (Set g) before (flat_written (written_as w)) after) (own_fields f)
      (set {n = block_number (block_of f)} back (set_all (blocks_with f) back (subst (λ (g : Fields). Writing (Set g) before w after) (sym (own_fields f)) got)))
  asks_all {q = Give o} got = give {n = number_of o} (order_back o) (order_all (order_back o) got)

module _ {bytes : List ℕ} where
  pub reads_flat : {r : FlatAnswer} → ReadsFlat bytes r → (x : Result Reading Unread) × Reads bytes x × (r ≡ flat_read (read_as x))
  reads_flat (allowed κs a s got e) =
      let x = read_some bytes in
      (x.0, x.1, got ∙ ap (λ (l : List ℕ). flat_read (first_answer l)) e ∙ ap flat_read (sym (has_read x.1)))

  pub reads_flat_all : {x : Result Reading Unread} → Reads bytes x → ReadsFlat bytes (flat_read (read_as x))
  reads_flat_all got = allowed ([], tt) (ref_to bytes, tt) (ref_to bytes, tt) (ap flat_read (has_read got)) refl

-- a frame was written where the number is 0
frame_written : {q : Request} {room out : List ℕ} {r : FlatWritten} → Asks q room r out → r.number ≡ 0 → Writing q room (Ok r.size) out
frame_written {q} {room} {out} {r} got zero = let w = asks got in by w.0 w.1 w.2
  where
    by : (w : Result ℕ Refused) → Writing q room w out → r ≡ flat_written (written_as w) → Writing q room (Ok r.size) out
    by (Ok n) h e = subst (λ (k : ℕ). Writing q room (Ok k) out) (ap (λ (y : FlatWritten). y.size) (sym e)) h
    by (Err OutOfRange) h e = let three : r.number ≡ 3 = ap (λ (y : FlatWritten). y.number) e in absurd (omega arith)
    by (Err TooShort) h e = let four : r.number ≡ 4 = ap (λ (y : FlatWritten). y.number) e in absurd (omega arith)

-- ---- A SEQUENCE

-- asked by the functions behind the exports, with the orders by their numbers and values; where they refuse nothing, N holds
abbrev Behind : Board → List Request → List ℕ → List OrderSeen → Board → Type 0 → Type 0
Behind b qs reply orders end N = (os : List Order) × (is : link.Asked b qs reply os end) × (orders ≡ map order_seen os) × (link.NoRefusal is → N)

pub asked_is : {b end : Board} {qs : List Request} {reply : List ℕ} {orders : List OrderSeen} (asked : Asked b qs reply orders end) → Behind b qs reply orders end (NoRefusal asked)
asked_is none = ([], link.none, refl, λ h. tt)
asked_is (ask {b} {end} {q} {w} {t} {room} {out} {before} {after} {r} {qs} {reply} {orders} typed asking zero wide got rest) =
    let c = receives got in
    subst
    (λ (y : FlatCall). (N : Type 0) → Behind y.board qs reply orders end N
    → Behind b (q ∷ qs) ((said_by y after).reply ++ reply) ((said_by y after).orders ++ orders) end (((y.answer.number ≡ 0) × (y.answer.taken ≡ w.size)) × N))
    (sym c.2) (first c.0 c.1) (NoRefusal rest) (asked_is rest)
  where
    first : (c : Call) → Answers b t (take w.size out) before c after → (N : Type 0) → Behind c.board qs reply orders end N
        → Behind b (q ∷ qs) (take c.written after ++ reply) ((said_by (flat c) after).orders ++ orders) end (((c.number ≡ 0) × (c.taken ≡ w.size)) × N)
    first c answers N more = (
      given c.order ++ more.0,
      link.ask typed (frame_written asking zero) wide answers more.1,
      (λ i. sym (given_seen c.order) i ++ more.2 i) ∙ sym (map-append order_seen (given c.order) more.0),
      λ h. (h.0, more.3 h.1),
    )

-- read off by the functions behind them
abbrev flat_as : Result Reading Unread → FlatAnswer
flat_as y = flat_read (read_as y)

pub off_is : {bytes rest : List ℕ} {xs : List FlatAnswer} → ReadOff bytes xs rest
    → (ys : List (Result Reading Unread)) × link.ReadOff bytes ys rest × (xs ≡ map flat_as ys)
off_is none = ([], link.none, refl)
off_is (one {bytes} {rest} {x} {xs} got off) =
    let y = reads_flat got in
    let more = off_is off in
    let behind = subst (λ (k : ℕ). link.ReadOff (drop k bytes) more.0 rest) (ap (λ (z : FlatAnswer). z.size) y.2) more.1 in
    (y.0 ∷ more.0, link.one y.1 behind, λ i. y.2 i ∷ more.2 i)

answers_flat : (ys : List (Result Reading Unread)) (rest : List Answer) → link.AnswerForAnswer ys rest → AnswerForAnswer (map flat_as ys) rest
answers_flat [] [] h = tt
answers_flat [] (a ∷ rest) h = h
answers_flat (y ∷ ys) [] h = h
answers_flat (y ∷ ys) (a ∷ rest) h = (
  λ i. record {
    number = h.0.0 i;
    kind = answer_kind (h.0.1 i);
    what = what_of (h.0.1 i);
    size = (read_as y).size;
    blocks = data_blocks (h.0.1 i);
  },
  answers_flat ys rest h.1,
)

-- AN ORDER'S NUMBER IS ONE AT BOTH ENDS: the board gives by its number what the host asked for by its own, with no steps
pub order_given : (o : host.Order) → order_seen (given_by o) ≡ (number_of o, travel_of [])
order_given Stop = refl
order_given Sstp = refl
order_given Pwof = refl
order_given Left = refl
order_given Rigt = refl
order_given Home = refl
order_given Loft = refl

asked_seen : (qs : List Request) → map order_seen (orders_of qs) ≡ orders_asked qs
asked_seen [] = refl
asked_seen (Get b ∷ qs) = asked_seen qs
asked_seen (Set f ∷ qs) = asked_seen qs
asked_seen (Give o ∷ qs) = λ i. order_given o i ∷ asked_seen qs i

-- THE SEQUENCE OF P1, of what C and Rust link: on any board that is ready and whose bytes are below 256, as their type says
pub asked_served : {b end : Board} {qs : List Request} {reply : List ℕ} {orders : List OrderSeen} (asked : Asked b qs reply orders end) → Ready b → TypedBoard b
    → Served (book_of b.memory.settings) asked
asked_served {b = b} {qs = qs} asked can fit =
    let x = asked_is asked in
    let is = x.1 in
    let answers = answers_to (book_of b.memory.settings) qs in
    record {
      accepted = x.3 (asked_accepted is can);
      ordered = x.2 ∙ ap (map order_seen) (asked_orders is can) ∙ asked_seen qs;
      answered =
          λ off e.
          let y = off_is off in
          let back = asked_read is can fit y.1 (sym (ap length y.2 ∙ length-map y.0 flat_as) ∙ e) in
          (subst (λ (l : List FlatAnswer). AnswerForAnswer l answers) (sym y.2) (answers_flat y.0 answers back.0), back.1);
      blocks = asked_blocks is can;
      notes = asked_notes is can;
      ready = asked_ready is can;
      typed = asked_typed_again is can fit;
    }

-- and on the board that they start with: nothing is asked of it
pub fresh_served : {b end : Board} {qs : List Request} {reply : List ℕ} {orders : List OrderSeen} (asked : Asked b qs reply orders end) → Starts b
    → Served (book_of fresh_table) asked
fresh_served {b} asked (board.allowed κs a s is) =
    subst (λ (y : Board). Served (book_of y.memory.settings) asked) is (asked_served asked (fresh_ready tt tt b tt is) (fresh_typed tt tt b tt is))

-- ---- and what the functions behind them ask and read off, the exports do

pub asked_all : {b end : Board} {qs : List Request} {reply : List ℕ} {os : List Order} → link.Asked b qs reply os end → Asked b qs reply (map order_seen os) end
asked_all link.none = none
asked_all (link.ask {b} {end} {q} {after = after} {r = r} {qs} {reply} {orders = os} typed written wide got rest) =
    subst (λ (l : List OrderSeen). Asked b (q ∷ qs) (take r.written after ++ reply) l end)
    ((λ i. sym (given_seen r.order) i ++ map order_seen os) ∙ sym (map-append order_seen (given r.order) os))
    (ask {r = flat r} typed (asks_all written) refl wide (receives_all got) (asked_all rest))

pub off_all : {bytes rest : List ℕ} {ys : List (Result Reading Unread)} → link.ReadOff bytes ys rest → ReadOff bytes (map flat_as ys) rest
off_all link.none = none
off_all (link.one got off) = one (reads_flat_all got) (off_all off)

-- any sequence of requests that no field keeps from being written can be asked of any board that is ready, at any stamp, and read off as often as one likes
pub linked_askable : (t : ℕ) (qs : List Request) (b : Board) → Ready b → Sendable qs → (reply : List ℕ) × (orders : List OrderSeen) × (end : Board) × Asked b qs reply orders end
linked_askable t qs b can good = let x = askable t qs b can good in (x.0, map order_seen x.1, x.2, asked_all x.3)

pub linked_readable : (n : ℕ) (bytes : List ℕ) → (xs : List FlatAnswer) × (rest : List ℕ) × (length xs ≡ n) × ReadOff bytes xs rest
linked_readable n bytes = let x = readable n bytes in (map flat_as x.0, x.1, length-map x.0 flat_as ∙ x.2, off_all x.3)
