-- The fields of the block's section. Assumes nothing.
use Rattle.std.proofs.Common.{ap, ◌∙◌}
use Rattle.sheet.specs.Sheet.{Row}
use Rattle.sheet.specs.Rows.{numbers_in}
use Rattle.table.proofs.Spots.{part_numbers}
use Rattle.views.proofs.fields.Goals as goal

pub returns : goal.returns
returns g c =
    let read = part_numbers c.args.number _ _ c.section.ensures in
    c.decode.ensures ∙ ap g.S.Section.of (ap (λ (r : Row). numbers_in r c.section.result.now) c.requires ∙ read)
