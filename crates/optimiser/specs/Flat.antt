-- The host's answers, flat, by the numbers of sheets 01 and 02 (P1).
use Rattle.std.specs.Prelude.{List, [], ◌∷◌, ◌≡◌, ℕ, length, Option, Some, None}
use Rattle.host.specs.Names.{block_number, order_number}
use Rattle.host.specs.declared.Block.{Block}
use Rattle.host.specs.declared.Order.{Order}
use Rattle.fields.specs.Fields.{block_of}
use Rattle.blocks.specs.Blocks.{fields_at, fresh_blocks, blocks_with}
use Rattle.blocks.specs.declared.Blocks.{Blocks}
use Rattle.request.specs.Request.{Wrote, writes, buffer_after, bad_in, frame_of}
use Rattle.request.specs.declared.Request.{Request}
use Rattle.request.specs.declared.Request.TheVariants.{Get, Set, Give}
use Rattle.answer.specs.Answer.{FirstRead}
use Rattle.answer.specs.declared.Answer.{Answer}
use Rattle.answer.specs.declared.Answer.TheVariants.{Zero, SetEcho, OrderEcho, Data, Errc, Errd, Errv}
use Rattle.optimiser.specs.declared.FlatWritten.{FlatWritten}
use Rattle.optimiser.specs.declared.FlatAnswer.{FlatAnswer}

-- ---- writing

-- the request that was asked by a number: one, or none where the number is nobody's
abbrev pub get_asked : Option Block → List Request
get_asked (Some b) = Get b ∷ []
get_asked None = []

abbrev pub set_asked : Blocks → Option Block → List Request
set_asked x (Some b) = Set (fields_at x b) ∷ []
set_asked x None = []

abbrev pub order_asked : Option Order → List Request
order_asked (Some o) = Give o ∷ []
order_asked None = []

abbrev pub flat_written : Wrote → FlatWritten
flat_written w = record { number = w.number; size = w.size }

abbrev pub nobody : FlatWritten
nobody = record { number = 9; size = 0 }

-- the writer's answer in a buffer of that room; where nothing was asked, 9
abbrev pub flat_answer : List Request → ℕ → FlatWritten
flat_answer [] room = nobody
flat_answer (q ∷ qs) room = flat_written (writes (bad_in q) (frame_of q) room)

-- the buffer then; where nothing was asked, nothing is written
abbrev pub flat_buffer : List Request → List ℕ → List ℕ
flat_buffer [] before = before
flat_buffer (q ∷ qs) before = buffer_after (bad_in q) (frame_of q) before

pub record FlatWrites (asked : List Request) (before : List ℕ) (r : FlatWritten) (after : List ℕ) : Type 0 where
  pub answer : r ≡ flat_answer asked (length before)
  pub buffer : after ≡ flat_buffer asked before

-- ---- reading

-- the kind of the answer, or 0 for none
abbrev pub answer_kind : List Answer → ℕ
answer_kind [] = 0
answer_kind (Zero ∷ xs) = 1
answer_kind (SetEcho b ∷ xs) = 2
answer_kind (OrderEcho o ∷ xs) = 3
answer_kind (Data f ∷ xs) = 4
answer_kind (Errc ∷ xs) = 5
answer_kind (Errd ∷ xs) = 6
answer_kind (Errv ∷ xs) = 7

-- the number of its block or order, or 0
abbrev pub what_of : List Answer → ℕ
what_of [] = 0
what_of (Zero ∷ xs) = 0
what_of (SetEcho b ∷ xs) = block_number b
what_of (OrderEcho o ∷ xs) = order_number o
what_of (Data f ∷ xs) = block_number (block_of f)
what_of (Errc ∷ xs) = 0
what_of (Errd ∷ xs) = 0
what_of (Errv ∷ xs) = 0

-- its data; all other blocks are fresh
abbrev pub data_blocks : List Answer → Blocks
data_blocks [] = fresh_blocks
data_blocks (Zero ∷ xs) = fresh_blocks
data_blocks (SetEcho b ∷ xs) = fresh_blocks
data_blocks (OrderEcho o ∷ xs) = fresh_blocks
data_blocks (Data f ∷ xs) = blocks_with f
data_blocks (Errc ∷ xs) = fresh_blocks
data_blocks (Errd ∷ xs) = fresh_blocks
data_blocks (Errv ∷ xs) = fresh_blocks

abbrev pub flat_read : FirstRead → FlatAnswer
flat_read f =
    record { number = f.number; kind = answer_kind f.answer; what = what_of f.answer; size = f.size; blocks = data_blocks f.answer }

-- an answer without data
abbrev pub plain_answer : ℕ → ℕ → ℕ → ℕ → FlatAnswer
plain_answer number size kind what = record { number = number; kind = kind; what = what; size = size; blocks = fresh_blocks }
