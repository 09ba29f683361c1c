-- The fields of one of the blocks: its numbers, its data section and its test are those of its row.
use Rattle.std.specs.Prelude.{List, ℕ}
use Rattle.sheet.specs.Rows.{numbers_in, data_of, first_bad}
use Rattle.mov.specs.Mov.{mov_of, mov_numbers, MovHeld}
use Rattle.eng.specs.Eng.{eng_of, eng_numbers, EngHeld}
use Rattle.pwr.specs.Pwr.{pwr_of, pwr_numbers, PwrHeld}
use Rattle.eds.specs.Eds.{eds_of, eds_numbers, EdsHeld}
use Rattle.hom.specs.Hom.{hom_of, hom_numbers, HomHeld}
use Rattle.brk.specs.Brk.{brk_of, brk_numbers, BrkHeld}
use Rattle.pid.specs.Pid.{pid_of, pid_numbers, PidHeld}
use Rattle.host.specs.Names.{row_of}
use Rattle.host.specs.declared.Block.{Block}
use Rattle.host.specs.declared.Block.TheVariants as block
use Rattle.fields.specs.declared.Fields.{Fields}
use Rattle.fields.specs.declared.Fields.TheVariants as fields

abbrev pub block_of : Fields → Block
block_of (fields.Mov x) = block.Mov
block_of (fields.Eng x) = block.Eng
block_of (fields.Pwr x) = block.Pwr
block_of (fields.Eds x) = block.Eds
block_of (fields.Hom x) = block.Hom
block_of (fields.Brk x) = block.Brk
block_of (fields.Pid x) = block.Pid

-- what the types of a block's fields say of it: each number fits the width of its field
abbrev pub Typed : Fields → Type 0
Typed (fields.Mov x) = MovHeld x
Typed (fields.Eng x) = EngHeld x
Typed (fields.Pwr x) = PwrHeld x
Typed (fields.Eds x) = EdsHeld x
Typed (fields.Hom x) = HomHeld x
Typed (fields.Brk x) = BrkHeld x
Typed (fields.Pid x) = PidHeld x

-- the numbers of the fields as they stand on the wire
abbrev pub field_numbers : Fields → List ℕ
field_numbers (fields.Mov x) = mov_numbers x
field_numbers (fields.Eng x) = eng_numbers x
field_numbers (fields.Pwr x) = pwr_numbers x
field_numbers (fields.Eds x) = eds_numbers x
field_numbers (fields.Hom x) = hom_numbers x
field_numbers (fields.Brk x) = brk_numbers x
field_numbers (fields.Pid x) = pid_numbers x

-- the fields that numbers stand for. A NaN pattern of a gain, which no accepted set brings, reads as the one NaN (wire, `f32_of`)
abbrev pub fields_of : Block → List ℕ → Fields
fields_of block.Mov ns = fields.Mov (mov_of ns)
fields_of block.Eng ns = fields.Eng (eng_of ns)
fields_of block.Pwr ns = fields.Pwr (pwr_of ns)
fields_of block.Eds ns = fields.Eds (eds_of ns)
fields_of block.Hom ns = fields.Hom (hom_of ns)
fields_of block.Brk ns = fields.Brk (brk_of ns)
fields_of block.Pid ns = fields.Pid (pid_of ns)

abbrev pub section_of : Fields → List ℕ
section_of f = data_of (row_of (block_of f)) (field_numbers f)

-- "It judges no range and no reserved byte."
abbrev pub fields_in : Block → List ℕ → Fields
fields_in b d = fields_of b (numbers_in (row_of b) d)

-- the number, from 1, of the first field out of its range, or 0: what the board says of the set
abbrev pub first_bad_of : Fields → ℕ
first_bad_of f = first_bad (row_of (block_of f)) (field_numbers f)
