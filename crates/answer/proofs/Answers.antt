-- What the reader makes of each answer that a board can send, whatever stands behind it. In quotation marks: sheet 02, P1. Assumes nothing.
use Rattle.std.specs.Prelude.{Option, Some, None}
use mathlib.Core.Path.{◌≡◌, refl, ap, ◌∙◌}
use mathlib.Core.List.{List, ◌++◌}
use Prim.Native.Nat.{ℕ, ◌≤◌}
use native.Mathlib.Omega.{arith}
use lib.ListN.{length, take, length-append}
use lib.Seq.{take_at}
use Rattle.wire.specs.Numbers.{le_at, le_bytes}
use Rattle.wire.proofs.Numbers.{length_le_bytes, le_at_le_bytes}
use Rattle.sheet.specs.Names.{named}
use Rattle.sheet.specs.Rows.{total}
use Rattle.frame.specs.Frame.{framed, data_in}
use Rattle.frame.proofs.Frames.{frame_length, frame_name, frame_data, frame_intact}
use Rattle.keyed.specs.Keyed.{value_in}
use Rattle.host.specs.Names.{row_of, set_of, get_of, order_name, block_at, get_named}
use Rattle.fields.specs.Fields.{block_of, Typed, fields_in, section_of}
use Rattle.answer.specs.Answer.{answer_of, error_answer, order_answer, lettered_answer, data_else, first_answer}
use Rattle.host.specs.declared.Block.{Block}
use Rattle.host.specs.declared.Block.TheVariants.{Mov, Eng, Pwr, Eds, Hom, Brk, Pid}
use Rattle.host.specs.declared.Order.{Order}
use Rattle.host.specs.declared.Order.TheVariants.{Stop, Sstp, Pwof, Left, Rigt, Home, Loft}
use Rattle.fields.specs.declared.Fields.{Fields}
use Rattle.answer.specs.declared.Answer.TheVariants.{SetEcho, OrderEcho, Data, Errc, Errd, Errv}
use Rattle.host.proofs.Numbered.{Plain, plain, set_plain, get_plain, order_plain}
use Rattle.host.proofs.Totals.{total_least}
use Rattle.fields.proofs.Sections.{section_length, section_low, section_back}
use Rattle.answer.proofs.Ways.{first_named, named_as, data_taken}

-- ---- four letters

-- a name that is not a block's get name
letters : (n : ℕ) (rest : List ℕ) → Plain n → block_at (get_named n) ≡ None → first_answer (le_bytes 4 n ++ rest) ≡ lettered_answer n
unfolding le_bytes
letters n rest p none =
    let s = le_bytes 4 n ++ rest in
    let is : le_at 4 0 s ≡ n = le_at_le_bytes 4 n rest p.fits in
    let long : 4 ≤ length s = omega (arith, length-append (le_bytes 4 n) rest, length_le_bytes 4 n) in
    first_named s p.starts ∙ named_as s long
    ∙ ap (λ (k : ℕ). data_else (block_at (get_named k)) s (lettered_answer k)) is
    ∙ ap (λ (f : Option Block). data_else f s (lettered_answer n)) none

pub set_echoed : (b : Block) (rest : List ℕ) → first_answer (le_bytes 4 (set_of b).name ++ rest) ≡ answer_of 4 (SetEcho b)
unfolding lettered_answer order_answer error_answer value_in
set_echoed Mov rest = letters (set_of Mov).name rest (set_plain Mov) refl
set_echoed Eng rest = letters (set_of Eng).name rest (set_plain Eng) refl
set_echoed Pwr rest = letters (set_of Pwr).name rest (set_plain Pwr) refl
set_echoed Eds rest = letters (set_of Eds).name rest (set_plain Eds) refl
set_echoed Hom rest = letters (set_of Hom).name rest (set_plain Hom) refl
set_echoed Brk rest = letters (set_of Brk).name rest (set_plain Brk) refl
set_echoed Pid rest = letters (set_of Pid).name rest (set_plain Pid) refl

pub order_echoed : (o : Order) (rest : List ℕ) → first_answer (le_bytes 4 (order_name o) ++ rest) ≡ answer_of 4 (OrderEcho o)
unfolding lettered_answer order_answer error_answer value_in
order_echoed Stop rest = letters (order_name Stop) rest (order_plain Stop) refl
order_echoed Sstp rest = letters (order_name Sstp) rest (order_plain Sstp) refl
order_echoed Pwof rest = letters (order_name Pwof) rest (order_plain Pwof) refl
order_echoed Left rest = letters (order_name Left) rest (order_plain Left) refl
order_echoed Rigt rest = letters (order_name Rigt) rest (order_plain Rigt) refl
order_echoed Home rest = letters (order_name Home) rest (order_plain Home) refl
order_echoed Loft rest = letters (order_name Loft) rest (order_plain Loft) refl

pub errc_read : (rest : List ℕ) → first_answer (le_bytes 4 (named "errc") ++ rest) ≡ answer_of 4 Errc
unfolding lettered_answer order_answer error_answer value_in
errc_read rest = letters (named "errc") rest (plain _ tt tt) refl

pub errd_read : (rest : List ℕ) → first_answer (le_bytes 4 (named "errd") ++ rest) ≡ answer_of 4 Errd
unfolding lettered_answer order_answer error_answer value_in
errd_read rest = letters (named "errd") rest (plain _ tt tt) refl

pub errv_read : (rest : List ℕ) → first_answer (le_bytes 4 (named "errv") ++ rest) ≡ answer_of 4 Errv
unfolding lettered_answer order_answer error_answer value_in
errv_read rest = letters (named "errv") rest (plain _ tt tt) refl

-- ---- data

-- the get name of a block is found
get_found : (b : Block) → block_at (get_named (get_of b).name) ≡ Some b
unfolding value_in
get_found Mov = refl
get_found Eng = refl
get_found Pwr = refl
get_found Eds = refl
get_found Hom = refl
get_found Brk = refl
get_found Pid = refl

-- THE READER GIVES BACK WHAT A GET REPLY HOLDS: "the host reader gives back what a get reply holds"
module _ (f : Fields) (typed : Typed f) (rest : List ℕ) where
  abbrev b : Block
  b = block_of f

  abbrev u : List ℕ
  u = framed (get_of b).name (section_of f)

  long : length u ≡ total (row_of b)
  long = omega (arith, frame_length (get_of b).name (section_of f), section_length f, total_least b)

  pub data_read : first_answer (u ++ rest) ≡ answer_of (total (row_of b)) (Data f)
  unfolding le_bytes
  data_read =
      let s = u ++ rest in
      let all : total (row_of b) ≤ length s = omega (arith, long, length-append u rest) in
      let is : le_at 4 0 s ≡ (get_of b).name = frame_name (get_of b).name (section_of f) rest (get_plain b).fits in
      let at : block_at (get_named (le_at 4 0 s)) ≡ Some b = ap (λ (k : ℕ). block_at (get_named k)) is ∙ get_found b in
      let whole : take (total (row_of b)) s ≡ u = take_at u rest (total (row_of b)) long in
      first_named s (get_plain b).starts
      ∙ named_as s (omega (arith, total_least b))
      ∙ ap (λ (f : Option Block). data_else f s (lettered_answer (le_at 4 0 s))) at
      ∙ data_taken s b all (rw whole (frame_intact (get_of b).name (section_of f) (section_low f)))
      ∙ ap (λ (d : List ℕ). answer_of (total (row_of b)) (Data (fields_in b d))) (ap data_in whole ∙ frame_data (get_of b).name (section_of f))
      ∙ ap (λ (x : Fields). answer_of (total (row_of b)) (Data x)) (section_back f typed)
