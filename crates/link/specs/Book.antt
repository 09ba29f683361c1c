-- What the optimiser can rely on, in the host's words alone: a book of what each block holds, kept from the requests that it wrote.
-- In quotation marks: sheet 01, or 02, P1 where it is named.
use Rattle.std.specs.Prelude.{cond, List, [], ◌∷◌, ◌++◌, ℕ, eqb}
use Rattle.wire.specs.Numbers.{le_bytes}
use Rattle.frame.specs.Frame.{framed}
use Rattle.orders.specs.declared.Order.{Order}
use Rattle.orders.specs.declared.Order.TheVariants.{Stop, Sstp, Pwof, Left, Rigt, Home, Loft}
use Rattle.table.specs.declared.Table.{Table}
use Rattle.table.specs.Table.{numbers_at}
use Rattle.host.specs.Names.{set_of, get_of, order_name, block_number}
use Rattle.host.specs.declared.Block.{Block}
use Rattle.host.specs.declared.Order.{Order as Asked}
use Rattle.host.specs.declared.Order.TheVariants as asked
use Rattle.fields.specs.Fields.{block_of, fields_of, section_of}
use Rattle.fields.specs.declared.Fields.{Fields}
use Rattle.request.specs.declared.Request.{Request}
use Rattle.request.specs.declared.Request.TheVariants.{Get, Set, Give}
use Rattle.answer.specs.declared.Answer.{Answer}
use Rattle.answer.specs.declared.Answer.TheVariants.{SetEcho, OrderEcho, Data}

-- the fields that each block holds
abbrev pub Book : Type 0
Book = Block → Fields

-- what a board holds in its table
abbrev pub book_of : Table → Book
book_of t c = fields_of c (numbers_at t (block_number c))

-- a set is noted in its block's place; nothing else changes the book. 02, P1: "the fields of its block are then those written"
abbrev pub noted : Book → Request → Book
noted book (Get b) c = book c
noted book (Set f) c = cond (eqb (block_number (block_of f)) (block_number c)) f (book c)
noted book (Give o) c = book c

-- the book after requests one after the other
abbrev pub noted_all : Book → List Request → Book
noted_all book [] = book
noted_all book (q ∷ qs) = noted_all (noted book q) qs

-- a get brings the block's fields; of a set "the set name is the reply", of an order "the identifier"
abbrev pub answer_to : Book → Request → Answer
answer_to book (Get b) = Data (book b)
answer_to book (Set f) = SetEcho (block_of f)
answer_to book (Give o) = OrderEcho o

-- the answers to requests one after the other: a get's holds the fields of the last set of its block
abbrev pub answers_to : Book → List Request → List Answer
answers_to book [] = []
answers_to book (q ∷ qs) = answer_to book q ∷ answers_to (noted book q) qs

-- "give the order": the board's, for the host's
abbrev pub given_by : Asked → Order
given_by asked.Stop = Stop
given_by asked.Sstp = Sstp
given_by asked.Pwof = Pwof
given_by asked.Left = Left
given_by asked.Rigt = Rigt
given_by asked.Home = Home
given_by asked.Loft = Loft

abbrev pub orders_by : Request → List Order
orders_by (Get b) = []
orders_by (Set f) = []
orders_by (Give o) = given_by o ∷ []

-- the orders of requests one after the other
abbrev pub orders_of : List Request → List Order
orders_of [] = []
orders_of (q ∷ qs) = orders_by q ++ orders_of qs

-- the bytes of the answer: "reply the get name, data, CRC"; "the set name is the reply"; "reply the identifier"
abbrev pub reply_to : Book → Request → List ℕ
reply_to book (Get b) = framed (get_of b).name (section_of (book b))
reply_to book (Set f) = le_bytes 4 (set_of (block_of f)).name
reply_to book (Give o) = le_bytes 4 (order_name o)

-- joined, one behind the other
abbrev pub replies_to : Book → List Request → List ℕ
replies_to book [] = []
replies_to book (q ∷ qs) = reply_to book q ++ replies_to (noted book q) qs
