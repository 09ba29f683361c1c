-- The host's functions as C and Rust link them: what their contracts allow, and requests asked of a board by them. In quotation marks: sheet 02, P1.
use Rattle.std.specs.Prelude.{ℕ, ◌≤◌, ◌≡◌, List, [], ◌∷◌, ◌++◌, length, take, drop, Some}
use Rattle.position.specs.Position.{travel_of}
use Rattle.unit.specs.Protocol.{protocol}
use Rattle.state.specs.declared.Board.{Board}
use Rattle.board.specs.Answer.{Left}
use Rattle.host.specs.Names.{block_at, order_at, order_number}
use Rattle.host.specs.declared.Block.{Block}
use Rattle.host.specs.declared.Order.{Order}
use Rattle.blocks.specs.Blocks.{fields_at}
use Rattle.blocks.specs.declared.Blocks.{Blocks}
use Rattle.request.specs.declared.Request.{Request}
use Rattle.request.specs.declared.Request.TheVariants.{Get, Set, Give}
use Rattle.answer.specs.Answer.{answer_of}
use Rattle.answer.specs.declared.Answer.{Answer}
use Rattle.optimiser.specs.Flat.{flat_read}
use Rattle.optimiser.specs.declared.FlatWritten.{FlatWritten}
use Rattle.optimiser.specs.declared.FlatAnswer.{FlatAnswer}
use Rattle.optimiser.proofs.rivertosku_write_get_1.Reads as write-get
use Rattle.optimiser.proofs.rivertosku_write_set_1.Reads as write-set
use Rattle.optimiser.proofs.rivertosku_write_order_1.Reads as write-order
use Rattle.optimiser.proofs.rivertosku_read_1.Reads as read
use Rattle.link.specs.Book.{Book, book_of, noted_all, answers_to}
use Rattle.link.specs.Types.{TypedIn, TypedBoard}
use Rattle.link.specs.Asking.{Ready}
use Rattle.linked.specs.Board.{Receives, OrderSeen, said_by}

-- ---- what the contracts allow

-- THE CONTRACTS OF RIVERTOSKU_WRITE_GET, _SET AND _ORDER allow the answer r to the number n, with the buffer `before` at entry and `after` at exit
pub data WritesGet (n : ℕ) (before : List ℕ) (r : FlatWritten) (after : List ℕ) : Type 0 where
  allowed : (κs : _) (a : _) (s : _) → write-get.Post κs a r s → a.0 ≡ n → a.1.0.now ≡ before → s.1.0.now ≡ after → WritesGet n before r after

pub data WritesSet (n : ℕ) (x : Blocks) (before : List ℕ) (r : FlatWritten) (after : List ℕ) : Type 0 where
  allowed : (κs : _) (a : _) (s : _) → write-set.Post κs a r s
      → a.0 ≡ n → a.1.0 ≡ x → a.1.1.0.now ≡ before → s.1.1.0.now ≡ after
      → WritesSet n x before r after

pub data WritesOrder (n : ℕ) (before : List ℕ) (r : FlatWritten) (after : List ℕ) : Type 0 where
  allowed : (κs : _) (a : _) (s : _) → write-order.Post κs a r s → a.0 ≡ n → a.1.0.now ≡ before → s.1.0.now ≡ after → WritesOrder n before r after

-- THE CONTRACT OF RIVERTOSKU_READ allows the answer r to these bytes
pub data ReadsFlat (bytes : List ℕ) (r : FlatAnswer) : Type 0 where
  allowed : (κs : _) (a : _) (s : _) → read.Post κs a r s → a.0.now ≡ bytes → ReadsFlat bytes r

-- the request that is asked by such a call, with the number of a block or an order
pub data Asks : Request → List ℕ → FlatWritten → List ℕ → Type 0 where
  get : {n : ℕ} {b : Block} {before after : List ℕ} {r : FlatWritten} → block_at n ≡ Some b → WritesGet n before r after → Asks (Get b) before r after
  set : {n : ℕ} {b : Block} {x : Blocks} {before after : List ℕ} {r : FlatWritten} → block_at n ≡ Some b → WritesSet n x before r after
      → Asks (Set (fields_at x b)) before r after
  give : {n : ℕ} {o : Order} {before after : List ℕ} {r : FlatWritten} → order_at n ≡ Some o → WritesOrder n before r after → Asks (Give o) before r after

-- ---- a sequence

-- REQUESTS ASKED of the board b by C or Rust: each written by an export, the "written frame, offered whole", at any stamp, with "room enough"; the
-- replies joined, the orders by their numbers and values, and the board at the end
pub data Asked : Board → List Request → List ℕ → List OrderSeen → Board → Type 0 where
  none : {b : Board} → Asked b [] [] [] b
  ask : {b end : Board} {q : Request} {w : FlatWritten} {t : ℕ} {room out before after : List ℕ} {r : Left} {qs : List Request} {reply : List ℕ} {orders : List OrderSeen}
      → TypedIn q → Asks q room w out → w.number ≡ 0 → protocol.least_room ≤ length before → Receives b t (take w.size out) before r after
      → Asked r.board qs reply orders end
      → Asked b (q ∷ qs) ((said_by r after).reply ++ reply) ((said_by r after).orders ++ orders) end

-- each call answered 0 and took its frame whole
abbrev pub NoRefusal : {b end : Board} {qs : List Request} {reply : List ℕ} {orders : List OrderSeen} → Asked b qs reply orders end → Type 0
NoRefusal none = Unit {0}
NoRefusal (ask {w = w} {r = r} typed asking zero wide got rest) = ((r.answer.number ≡ 0) × (r.answer.taken ≡ w.size)) × NoRefusal rest

-- bytes read from their front by rivertosku_read, answer after answer, and what is left of them
pub data ReadOff : List ℕ → List FlatAnswer → List ℕ → Type 0 where
  none : {bytes : List ℕ} → ReadOff bytes [] bytes
  one : {bytes rest : List ℕ} {x : FlatAnswer} {xs : List FlatAnswer} → ReadsFlat bytes x → ReadOff (drop x.size bytes) xs rest → ReadOff bytes (x ∷ xs) rest

-- the flat answers are these, one for one: the number 0, and the answer's kind, block or order, and data
abbrev pub AnswerForAnswer : List FlatAnswer → List Answer → Type 0
AnswerForAnswer [] [] = Unit {0}
AnswerForAnswer [] (a ∷ rest) = ⊥
AnswerForAnswer (x ∷ xs) [] = ⊥
AnswerForAnswer (x ∷ xs) (a ∷ rest) = (x ≡ flat_read (answer_of x.size a)) × AnswerForAnswer xs rest

-- the orders that are asked for, by their numbers; they carry no steps
abbrev pub orders_asked : List Request → List OrderSeen
orders_asked [] = []
orders_asked (Get b ∷ qs) = orders_asked qs
orders_asked (Set f ∷ qs) = orders_asked qs
orders_asked (Give o ∷ qs) = (order_number o, travel_of []) ∷ orders_asked qs

-- THE SEQUENCE of P1, on a board whose blocks were as in the book: no request is refused, each order is given, in sequence, the replies are read back,
-- answer for answer, to the last byte, each block holds what the requests leave in it, flags and last refused field stay, and the board can be asked
-- again
pub record Served (book : Book) {b end : Board} {qs : List Request} {reply : List ℕ} {orders : List OrderSeen} (asked : Asked b qs reply orders end) : Type 0 where
  pub accepted : NoRefusal asked
  pub ordered : orders ≡ orders_asked qs
  pub answered : {xs : List FlatAnswer} {rest : List ℕ} → ReadOff reply xs rest → length xs ≡ length qs → AnswerForAnswer xs (answers_to book qs) × (rest ≡ [])
  pub blocks : (c : Block) → book_of end.memory.settings c ≡ noted_all book qs c
  pub notes : end.memory.notes ≡ b.memory.notes
  pub ready : Ready end
  pub typed : TypedBoard end
