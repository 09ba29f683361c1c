-- The host's own record of the seven blocks. In quotation marks: sheet 01.
use Rattle.sheet.specs.Sheet.{mov_row, eng_row, pwr_row, eds_row, hom_row, brk_row, pid_row}
use Rattle.sheet.specs.Rows.{fresh}
use Rattle.mov.specs.Mov.{mov_of}
use Rattle.eng.specs.Eng.{eng_of}
use Rattle.pwr.specs.Pwr.{pwr_of}
use Rattle.eds.specs.Eds.{eds_of}
use Rattle.hom.specs.Hom.{hom_of}
use Rattle.brk.specs.Brk.{brk_of}
use Rattle.pid.specs.Pid.{pid_of}
use Rattle.host.specs.declared.Block.{Block}
use Rattle.host.specs.declared.Block.TheVariants as block
use Rattle.fields.specs.declared.Fields.{Fields}
use Rattle.fields.specs.declared.Fields.TheVariants as fields
use Rattle.blocks.specs.declared.Blocks.{Blocks}

-- the fields that a block has among the seven
abbrev pub fields_at : Blocks → Block → Fields
fields_at x block.Mov = fields.Mov x.mov
fields_at x block.Eng = fields.Eng x.eng
fields_at x block.Pwr = fields.Pwr x.pwr
fields_at x block.Eds = fields.Eds x.eds
fields_at x block.Hom = fields.Hom x.hom
fields_at x block.Brk = fields.Brk x.brk
fields_at x block.Pid = fields.Pid x.pid

-- "every field is 0, or the smallest allowed value where 0 is not allowed"
abbrev pub fresh_blocks : Blocks
fresh_blocks =
    record {
      mov = mov_of (fresh mov_row);
      eng = eng_of (fresh eng_row);
      pwr = pwr_of (fresh pwr_row);
      eds = eds_of (fresh eds_row);
      hom = hom_of (fresh hom_row);
      brk = brk_of (fresh brk_row);
      pid = pid_of (fresh pid_row);
    }

-- the fields of one block put in
abbrev pub put_in : Blocks → Fields → Blocks
put_in s (fields.Mov x) = record { mov = x; eng = s.eng; pwr = s.pwr; eds = s.eds; hom = s.hom; brk = s.brk; pid = s.pid }
put_in s (fields.Eng x) = record { mov = s.mov; eng = x; pwr = s.pwr; eds = s.eds; hom = s.hom; brk = s.brk; pid = s.pid }
put_in s (fields.Pwr x) = record { mov = s.mov; eng = s.eng; pwr = x; eds = s.eds; hom = s.hom; brk = s.brk; pid = s.pid }
put_in s (fields.Eds x) = record { mov = s.mov; eng = s.eng; pwr = s.pwr; eds = x; hom = s.hom; brk = s.brk; pid = s.pid }
put_in s (fields.Hom x) = record { mov = s.mov; eng = s.eng; pwr = s.pwr; eds = s.eds; hom = x; brk = s.brk; pid = s.pid }
put_in s (fields.Brk x) = record { mov = s.mov; eng = s.eng; pwr = s.pwr; eds = s.eds; hom = s.hom; brk = x; pid = s.pid }
put_in s (fields.Pid x) = record { mov = s.mov; eng = s.eng; pwr = s.pwr; eds = s.eds; hom = s.hom; brk = s.brk; pid = x }

-- fresh but for one block
abbrev pub blocks_with : Fields → Blocks
blocks_with f = put_in fresh_blocks f
