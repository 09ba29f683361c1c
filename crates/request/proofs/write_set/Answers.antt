-- `request::write_set`: its refusals and its frame. Assumes nothing.
use Rattle.std.proofs.Common.{◌≡◌, ℕ, ◌-◌, List, length, take, refl, sym, ap, ◌∙◌, arith}
use lib.Seq.{sets}
use borrow.Author.Rules.{rules}
use Rattle.sheet.specs.declared.Head.{Head}
use Rattle.sheet.specs.Rows.{head_of}
use Rattle.sheet.proofs.Laws.{data_length, aside_front}
use Rattle.frame.specs.Frame.{framed}
use Rattle.host.specs.Names.{row_of, set_of, get_of}
use Rattle.fields.specs.Fields.{block_of, field_numbers, section_of}
use Rattle.request.specs.Request.{set_frame}
use Rattle.host.specs.declared.Block.{Block}
use Rattle.fields.specs.declared.Fields.{Fields}
use Rattle.host.proofs.Totals.{total_most, head_total}
use Rattle.request.proofs.Writes.{some_bad, none_bad, set_length, says_out_of_range, says_too_short, says_frame}
use Rattle.request.proofs.write_set.Goals as goal

-- the head is the block's own; the section laid out aside has the data section in front
module _ (f : Fields) (b : Block) (is : b ≡ block_of f) (h : Head) (has : h ≡ head_of (set_of b) (get_of b)) where
  head_is : h ≡ head_of (set_of (block_of f)) (get_of (block_of f))
  head_is = has ∙ ap (λ (x : Block). head_of (set_of x) (get_of x)) is

  long : h.total ≡ length (set_frame f)
  long = head_total (block_of f) h head_is ∙ sym (set_length f)

  framed_is : (zs section : List ℕ) → 48 ≡ length zs → section ≡ sets zs 0 (section_of f) → framed h.set (take (h.total - 6) section) ≡ set_frame f
  framed_is zs section room laid = rw (aside_front (row_of (block_of f)) (section_of f) (data_length (row_of (block_of f)) (field_numbers f)) h.total (head_total (block_of f) h head_is) zs section (omega (arith, total_most (block_of f))) laid, ap (λ (x : Head). x.set) head_is)

pub returns-then-is_some : goal.returns-then-is_some
returns-then-is_some c = says_out_of_range _ _ _ (some_bad _ _ c.first_bad.ensures (search rules))

pub returns-then-out-head : goal.returns-then-out-head
returns-then-out-head c =
    says_too_short _ _ _ (none_bad _ _ c.first_bad.ensures (search rules)) (omega (arith, long _ _ c.block.ensures _ c.head-head.ensures))

pub returns : goal.returns
returns c =
    let size = long _ _ c.block.ensures _ c.head-head.ensures in
    let whole = framed_is _ _ c.block.ensures _ c.head-head.ensures _ _ refl c.encode.ensures in
    says_frame _ _ _ _ _ (none_bad _ _ c.first_bad.ensures (search rules)) (omega (arith, size)) size (c.put.ensures ∙ ap (sets c.args.out.now 0) whole)
