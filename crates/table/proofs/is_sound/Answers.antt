-- Sound is: section by section. Assumes nothing.
use Rattle.std.proofs.Common.{ap, Bool, ◌&&◌, length}
use lib.Dec.{eqb}
use Rattle.sheet.specs.Sheet.{sheet, mov_row, eng_row, pwr_row, eds_row, hom_row, brk_row, pid_row, ctl_row, joy_row}
use Rattle.table.specs.Places.{whole_of, good_in}
use Rattle.table.proofs.Spots.{sections, last_section}
use Rattle.table.proofs.is_sound.Goals as goal

pub returns : goal.returns
unfolding good_in
returns c =
    let t = c.args.bytes.now in
    ap (λ (b : Bool). eqb (length t) (whole_of sheet) && b)
    (sections mov_row 24 0 t _ _ _ _ c.part.ensures c.is_sound.ensures
    (sections eng_row 28 24 t _ _ _ _ c.part-2.ensures c.is_sound-2.ensures
    (sections pwr_row 14 52 t _ _ _ _ c.part-3.ensures c.is_sound-3.ensures
    (sections eds_row 20 66 t _ _ _ _ c.part-4.ensures c.is_sound-4.ensures
    (sections hom_row 27 86 t _ _ _ _ c.part-5.ensures c.is_sound-5.ensures
    (sections brk_row 19 113 t _ _ _ _ c.part-6.ensures c.is_sound-6.ensures
    (sections pid_row 42 132 t _ _ _ _ c.part-7.ensures c.is_sound-7.ensures
    (sections ctl_row 87 174 t _ _ _ _ c.part-8.ensures c.is_sound-8.ensures
    (last_section joy_row 16 261 t _ _ c.part-9.ensures c.is_sound-9.ensures)))))))))
