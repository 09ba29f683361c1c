-- What the reader promises. In quotation marks: sheet 02, P1.
use Rattle.std.specs.Prelude.{cond, List, [], ◌∷◌, ℕ, eqb, ltb, length, take, Option, Some, None, Result, Ok, Err}
use Rattle.wire.specs.Numbers.{le_at}
use Rattle.sheet.specs.Names.{named}
use Rattle.sheet.specs.Rows.{total}
use Rattle.frame.specs.Frame.{data_in, intact}
use Rattle.host.specs.Names.{row_of, block_at, order_at, set_named, get_named, order_named}
use Rattle.fields.specs.Fields.{fields_in}
use Rattle.host.specs.declared.Block.{Block}
use Rattle.host.specs.declared.Order.{Order}
use Rattle.answer.specs.declared.Answer.{Answer}
use Rattle.answer.specs.declared.Answer.TheVariants.{Zero, SetEcho, OrderEcho, Data, Errc, Errd, Errv}
use Rattle.answer.specs.declared.Reading.{Reading}
use Rattle.answer.specs.declared.Unread.{Unread}
use Rattle.answer.specs.declared.Unread.TheVariants.{NoName, NoAnswer, Cut, Damaged}

-- the first answer of some bytes: 02's number, its length as its size, and what it is, if there is one
pub record FirstRead : Type 0 where
  pub number : ℕ
  pub size : ℕ
  pub answer : List Answer

-- a refusal, "each with length 0"
abbrev pub refused_read : ℕ → FirstRead
refused_read n = record { number = n; size = 0; answer = [] }

-- an answer of n bytes
abbrev pub answer_of : ℕ → Answer → FirstRead
answer_of n a = record { number = 0; size = n; answer = a ∷ [] }

-- "5 fewer bytes than a name needs, 6 a name that no answer has, 7 fewer bytes than that answer needs, 8 wrong CRC"
abbrev pub refusal_number : Unread → ℕ
refusal_number NoName = 5
refusal_number NoAnswer = 6
refusal_number Cut = 7
refusal_number Damaged = 8

abbrev pub read_as : Result Reading Unread → FirstRead
read_as (Ok r) = answer_of r.size r.answer
read_as (Err e) = refused_read (refusal_number e)

-- of four letters
abbrev pub lettered_as : Option Answer → FirstRead
lettered_as (Some a) = answer_of 4 a
lettered_as None = refused_read 6

-- ---- the reader

-- "errc, errd or errv"; "6 a name that no answer has"
unfoldable pub error_answer : ℕ → FirstRead
error_answer n =
    cond (eqb n (named "errc")) (answer_of 4 Errc)
    (cond (eqb n (named "errd")) (answer_of 4 Errd)
    (cond (eqb n (named "errv")) (answer_of 4 Errv)
    (refused_read 6)))

-- an order's "echo", or an error: the four letters of the name are all of it
abbrev pub order_else : Option Order → FirstRead → FirstRead
order_else (Some o) e = answer_of 4 (OrderEcho o)
order_else None e = e

unfoldable pub order_answer : ℕ → FirstRead
order_answer n = order_else (order_at (order_named n)) (error_answer n)

-- a set's "echo", or one of these
abbrev pub set_else : Option Block → FirstRead → FirstRead
set_else (Some b) e = answer_of 4 (SetEcho b)
set_else None e = e

unfoldable pub lettered_answer : ℕ → FirstRead
lettered_answer n = set_else (block_at (set_named n)) (order_answer n)

-- a "data block": "7 fewer bytes than that answer needs, 8 wrong CRC"; "It judges no range and no reserved byte."
unfoldable pub data_answer : Block → List ℕ → FirstRead
data_answer b s =
    let u = take (total (row_of b)) s in
    cond (ltb (length s) (total (row_of b))) (refused_read 7)
    (cond (intact u) (answer_of (total (row_of b)) (Data (fields_in b (data_in u))))
    (refused_read 8))

abbrev pub data_else : Option Block → List ℕ → FirstRead → FirstRead
data_else (Some b) s e = data_answer b s
data_else None s e = e

-- "5 fewer bytes than a name needs, 6 a name that no answer has"
unfoldable pub named_answer : List ℕ → FirstRead
named_answer s =
    let n = le_at 4 0 s in
    cond (ltb (length s) 4) (refused_read 5) (data_else (block_at (get_named n)) s (lettered_answer n))

-- "The reader takes one answer from the front and says its length; a first byte of zero is an answer of one byte, tested first."
unfoldable pub first_answer : List ℕ → FirstRead
first_answer [] = refused_read 5
first_answer (b ∷ s) = cond (eqb b 0) (answer_of 1 Zero) (named_answer (b ∷ s))
