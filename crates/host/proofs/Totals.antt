-- Laws of the seven blocks' lengths, over the block. Assumes nothing.
use mathlib.Core.Path.{◌≡◌, refl, ap, ◌∙◌}
use Prim.Native.Nat.{◌≤◌}
use native.Mathlib.Omega.{arith}
use Rattle.sheet.specs.declared.Head.{Head}
use Rattle.sheet.specs.Rows.{total, head_of}
use Rattle.host.specs.Names.{row_of, set_of, get_of}
use Rattle.host.specs.declared.Block.{Block}
use Rattle.host.specs.declared.Block.TheVariants.{Mov, Eng, Pwr, Eds, Hom, Brk, Pid}

-- no frame is longer than the room for one (`host::FRAME`)
pub total_most : (b : Block) → total (row_of b) ≤ 48
total_most Mov = omega arith
total_most Eng = omega arith
total_most Pwr = omega arith
total_most Eds = omega arith
total_most Hom = omega arith
total_most Brk = omega arith
total_most Pid = omega arith

pub total_least : (b : Block) → 6 ≤ total (row_of b)
total_least b = omega arith

-- a set carries the block's row
set_total : (b : Block) → total (set_of b).row ≡ total (row_of b)
set_total Mov = refl
set_total Eng = refl
set_total Pwr = refl
set_total Eds = refl
set_total Hom = refl
set_total Brk = refl
set_total Pid = refl

-- a head that is the block's own
pub head_total : (b : Block) (h : Head) → h ≡ head_of (set_of b) (get_of b) → h.total ≡ total (row_of b)
head_total b h e = ap (λ (x : Head). x.total) e ∙ set_total b
