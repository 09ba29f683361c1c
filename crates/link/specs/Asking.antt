-- Requests asked of a board one by one: the words in which Sessions (proofs) speaks of what `write`, `receive` and `read` promise.
-- In quotation marks: sheet 02, P1.
use Rattle.std.specs.Prelude.{◌≡◌, true, List, [], ◌∷◌, ◌++◌, ℕ, ◌≤◌, length, take, drop, Result, Ok}
use Rattle.orders.specs.Orders.{given}
use Rattle.orders.specs.declared.Order.{Order}
use Rattle.unit.specs.Protocol.{protocol}
use Rattle.state.specs.Sound.{sound_board}
use Rattle.state.specs.declared.Board.{Board}
use Rattle.state.specs.Call.{Call}
use Rattle.demands.specs.Calls.{Answers}
use Rattle.request.specs.Request.{bad_in}
use Rattle.request.specs.declared.Request.{Request}
use Rattle.request.specs.declared.Refused.{Refused}
use Rattle.request.proofs.write.Reads as write
use Rattle.answer.specs.Answer.{read_as}
use Rattle.answer.specs.declared.Answer.{Answer}
use Rattle.answer.specs.declared.Reading.{Reading}
use Rattle.answer.specs.declared.Unread.{Unread}
use Rattle.answer.proofs.read.Reads as read
use Rattle.link.specs.Types.{TypedIn}

-- ---- what the contracts allow

-- THE CONTRACT OF WRITE allows the answer w to the request q, with the buffer `before` at entry and `after` at exit
pub data Writing (q : Request) (before : List ℕ) (w : Result ℕ Refused) (after : List ℕ) : Type 0 where
  allowed : (κs : _) (a : _) (s : _) → write.Post κs a w s → a.0 ≡ q → a.1.0.now ≡ before → s.1.0.now ≡ after → Writing q before w after

-- THE CONTRACT OF READ allows the answer r to these bytes
pub data Reads (bytes : List ℕ) (r : Result Reading Unread) : Type 0 where
  allowed : (κs : _) (a : _) (s : _) → read.Post κs a r s → a.0.now ≡ bytes → Reads bytes r

-- ---- the board's end

-- a board that can be asked: "a sound board with .. nothing unfinished"
pub record Ready (b : Board) : Type 0 where
  pub sound : sound_board b ≡ true
  pub idle : b.count ≡ 0

-- REQUESTS ASKED of the board b: each "written frame, offered whole", at any stamp, with "room enough"; the replies joined, the orders, and the board
-- at the end. Each answer is whatever its contract allows
pub data Asked : Board → List Request → List ℕ → List Order → Board → Type 0 where
  none : {b : Board} → Asked b [] [] [] b
  ask : {b end : Board} {q : Request} {n t : ℕ} {room out before after : List ℕ} {r : Call} {qs : List Request} {reply : List ℕ} {orders : List Order}
      → TypedIn q → Writing q room (Ok n) out → protocol.least_room ≤ length before → Answers b t (take n out) before r after
      → Asked r.board qs reply orders end
      → Asked b (q ∷ qs) (take r.written after ++ reply) (given r.order ++ orders) end

-- each call answered 0 and took its frame whole
abbrev pub NoRefusal : {b end : Board} {qs : List Request} {reply : List ℕ} {orders : List Order} → Asked b qs reply orders end → Type 0
NoRefusal none = Unit {0}
NoRefusal (ask {n = n} {r = r} typed written wide got rest) = ((r.number ≡ 0) × (r.taken ≡ n)) × NoRefusal rest

-- requests that no field keeps from being written: none that "the board would refuse"
abbrev pub Sendable : List Request → Type 0
Sendable [] = Unit {0}
Sendable (q ∷ qs) = (TypedIn q × (bad_in q ≡ 0)) × Sendable qs

-- ---- the host's end

-- bytes read from their front, answer after answer, and what is left of them: "The reader takes one answer from the front and says its length"
pub data ReadOff : List ℕ → List (Result Reading Unread) → List ℕ → Type 0 where
  none : {bytes : List ℕ} → ReadOff bytes [] bytes
  one : {bytes rest : List ℕ} {x : Result Reading Unread} {xs : List (Result Reading Unread)} → Reads bytes x → ReadOff (drop (read_as x).size bytes) xs rest → ReadOff bytes (x ∷ xs) rest

-- the readings are these answers, one for one, and no refusal among them
abbrev pub AnswerForAnswer : List (Result Reading Unread) → List Answer → Type 0
AnswerForAnswer [] [] = Unit {0}
AnswerForAnswer [] (a ∷ rest) = ⊥
AnswerForAnswer (x ∷ xs) [] = ⊥
AnswerForAnswer (x ∷ xs) (a ∷ rest) = (((read_as x).number ≡ 0) × ((read_as x).answer ≡ a ∷ [])) × AnswerForAnswer xs rest
