-- What the writer promises. In quotation marks: sheet 02, P1.
use Rattle.std.specs.Prelude.{cond, List, ◌≡◌, ℕ, eqb, ltb, length, Result, Ok, Err}
use Rattle.std.proofs.lemmas.List.Edits.{sets}
use Rattle.wire.specs.Numbers.{le_bytes}
use Rattle.frame.specs.Frame.{framed}
use Rattle.host.specs.Names.{set_of, get_of, order_name}
use Rattle.fields.specs.Fields.{block_of, section_of, first_bad_of}
use Rattle.fields.specs.declared.Fields.{Fields}
use Rattle.request.specs.declared.Request.{Request}
use Rattle.request.specs.declared.Request.TheVariants.{Get, Set, Give}
use Rattle.request.specs.declared.Refused.{Refused}
use Rattle.request.specs.declared.Refused.TheVariants.{OutOfRange, TooShort}

-- ---- frames

-- 01: "A set carries data and a 2-byte CRC"; 02: "The writer sends reserved zeros" (sheet, `data_of`)
abbrev pub set_frame : Fields → List ℕ
set_frame f = framed (set_of (block_of f)).name (section_of f)

-- 01: "a get or an order is the identifier only"
abbrev pub frame_of : Request → List ℕ
frame_of (Get b) = le_bytes 4 (get_of b).name
frame_of (Set f) = set_frame f
frame_of (Give o) = le_bytes 4 (order_name o)

-- the first field that "the board would refuse", or 0
abbrev pub bad_in : Request → ℕ
bad_in (Get b) = 0
bad_in (Set f) = first_bad_of f
bad_in (Give o) = 0

-- ---- answers

-- an answer by its number, and as its size the frame's length
pub record Wrote : Type 0 where
  pub number : ℕ
  pub size : ℕ

abbrev pub refused_write : ℕ → Wrote
refused_write n = record { number = n; size = 0 }

-- "Refusals, in these orders: writer, 3 value out of range, 4 buffer shorter than the frame, nothing written"
abbrev pub refusal_number : Refused → ℕ
refusal_number OutOfRange = 3
refusal_number TooShort = 4

abbrev pub written_as : Result ℕ Refused → Wrote
written_as (Ok n) = record { number = 0; size = n }
written_as (Err e) = refused_write (refusal_number e)

-- the answer to a request with this first bad field and this frame, in a buffer of that room
unfoldable pub writes : ℕ → List ℕ → ℕ → Wrote
writes bad u room = cond (eqb bad 0) (cond (ltb room (length u)) (refused_write 4) (record { number = 0; size = length u })) (refused_write 3)

-- the buffer then: a refusal leaves it as it is, "nothing written"; else the frame stands at its front, and the writer "keeps the buffer past
-- the frame"
abbrev pub buffer_after : ℕ → List ℕ → List ℕ → List ℕ
buffer_after bad u before = cond (eqb (writes bad u (length before)).number 0) (sets before 0 u) before

-- THE PROMISE: the answer, and each byte of the buffer
pub record Writes (bad : ℕ) (u before : List ℕ) (r : Result ℕ Refused) (after : List ℕ) : Type 0 where
  pub answer : written_as r ≡ writes bad u (length before)
  pub buffer : after ≡ buffer_after bad u before
