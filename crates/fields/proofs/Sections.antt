-- Laws of the fields of a block and their data section, over the fields. Assumes nothing.
use mathlib.Core.Path.{◌≡◌, refl, sym, ap, ◌∙◌}
use mathlib.Core.List.{List, [], ◌∷◌, ◌++◌, append-nil}
use Prim.Native.Nat.{ℕ, ◌-◌, ◌<◌}
use lib.ListN.{length, get_or}
use Rattle.wire.proofs.Laid.{Room, laid_low}
use Rattle.sheet.specs.Rows.{widths, total, numbers_in, data_of, first_bad}
use Rattle.sheet.proofs.Laws.{data_length, read_back}
use Rattle.mov.proofs.Codec.{mov_codec}
use Rattle.eng.proofs.Codec.{eng_codec}
use Rattle.pwr.proofs.Codec.{pwr_codec}
use Rattle.eds.proofs.Codec.{eds_codec}
use Rattle.hom.proofs.Codec.{hom_codec}
use Rattle.brk.proofs.Codec.{brk_codec}
use Rattle.pid.proofs.Codec.{pid_codec}
use Rattle.host.specs.Names.{row_of}
use Rattle.host.specs.declared.Block.{Block}
use Rattle.host.specs.declared.Block.TheVariants as block
use Rattle.fields.specs.Fields.{block_of, Typed, field_numbers, fields_of, fields_in, section_of}
use Rattle.fields.specs.declared.Fields.{Fields}
use Rattle.fields.specs.declared.Fields.TheVariants as fields

pub section_length : (f : Fields) → length (section_of f) ≡ total (row_of (block_of f)) - 6
section_length f = data_length (row_of (block_of f)) (field_numbers f)

pub section_low : (f : Fields) (i : ℕ) → get_or (section_of f) i 0 < 256
section_low f i = laid_low (widths (row_of (block_of f)) ++ (row_of (block_of f)).reserved ∷ []) (field_numbers f) i

-- ---- the fields come back from their data section

fields_room : (f : Fields) → Typed f → Room (widths (row_of (block_of f))) (field_numbers f)
fields_room (fields.Mov x) h = mov_codec.room x h
fields_room (fields.Eng x) h = eng_codec.room x h
fields_room (fields.Pwr x) h = pwr_codec.room x h
fields_room (fields.Eds x) h = eds_codec.room x h
fields_room (fields.Hom x) h = hom_codec.room x h
fields_room (fields.Brk x) h = brk_codec.room x h
fields_room (fields.Pid x) h = pid_codec.room x h

pub fields_back : (f : Fields) → Typed f → fields_of (block_of f) (field_numbers f) ≡ f
fields_back (fields.Mov x) h = ap fields.Mov (mov_codec.forth x h)
fields_back (fields.Eng x) h = ap fields.Eng (eng_codec.forth x h)
fields_back (fields.Pwr x) h = ap fields.Pwr (pwr_codec.forth x h)
fields_back (fields.Eds x) h = ap fields.Eds (eds_codec.forth x h)
fields_back (fields.Hom x) h = ap fields.Hom (hom_codec.forth x h)
fields_back (fields.Brk x) h = ap fields.Brk (brk_codec.forth x h)
fields_back (fields.Pid x) h = ap fields.Pid (pid_codec.forth x h)

pub numbers_back : (f : Fields) → Typed f → numbers_in (row_of (block_of f)) (section_of f) ≡ field_numbers f
numbers_back f h =
    ap (numbers_in (row_of (block_of f))) (sym (append-nil (section_of f))) ∙ read_back (row_of (block_of f)) (field_numbers f) [] (fields_room f h)

pub section_back : (f : Fields) → Typed f → fields_in (block_of f) (section_of f) ≡ f
section_back f h = ap (fields_of (block_of f)) (numbers_back f h) ∙ fields_back f h

-- ---- numbers that have room stand for fields that fit their types: so do those of a data section of bytes (sheet, `numbers_fit`)

pub fields_typed : (b : Block) (ns : List ℕ) → Room (widths (row_of b)) ns → Typed (fields_of b ns)
fields_typed block.Mov ns h = mov_codec.held ns h
fields_typed block.Eng ns h = eng_codec.held ns h
fields_typed block.Pwr ns h = pwr_codec.held ns h
fields_typed block.Eds ns h = eds_codec.held ns h
fields_typed block.Hom ns h = hom_codec.held ns h
fields_typed block.Brk ns h = brk_codec.held ns h
fields_typed block.Pid ns h = pid_codec.held ns h

-- ---- fields made of numbers are their block's

pub fields_own : (b : Block) (ns : List ℕ) → block_of (fields_of b ns) ≡ b
fields_own block.Mov ns = refl
fields_own block.Eng ns = refl
fields_own block.Pwr ns = refl
fields_own block.Eds ns = refl
fields_own block.Hom ns = refl
fields_own block.Brk ns = refl
fields_own block.Pid ns = refl

-- where the numbers have room and pass their tests they come back, and so does their data section
fields_numbers : (b : Block) (ns : List ℕ) → Room (widths (row_of b)) ns → first_bad (row_of b) ns ≡ 0 → field_numbers (fields_of b ns) ≡ ns
fields_numbers block.Mov ns h z = mov_codec.back ns h z
fields_numbers block.Eng ns h z = eng_codec.back ns h z
fields_numbers block.Pwr ns h z = pwr_codec.back ns h z
fields_numbers block.Eds ns h z = eds_codec.back ns h z
fields_numbers block.Hom ns h z = hom_codec.back ns h z
fields_numbers block.Brk ns h z = brk_codec.back ns h z
fields_numbers block.Pid ns h z = pid_codec.back ns h z

pub fields_section : (b : Block) (ns : List ℕ) → Room (widths (row_of b)) ns → first_bad (row_of b) ns ≡ 0 → section_of (fields_of b ns) ≡ data_of (row_of b) ns
fields_section b ns h z = λ i. data_of (row_of (fields_own b ns i)) (fields_numbers b ns h z i)
