-- `lines::write_travel` meets its contract. Assumes nothing.
use Rattle.std.proofs.Common.{◌≡◌, rules, w64, to_z, of_z}
use Rattle.lines.specs.Lines.{travel_shown}
use Rattle.text.proofs.Texts.{then}
use Rattle.lines.proofs.write_travel.Goals as goal

pub returns : goal.returns
unfolding travel_shown
returns c =
    let steps : to_z w64 (of_z w64 c.from.result) ≡ c.args.travel.steps.0 = search rules in
    let microsteps : to_z w64 (of_z w64 c.from-2.result) ≡ c.args.travel.microsteps.0 = search rules in
    rw (← steps, ← microsteps) (then c.write_byte-a.ensures (then c.write_signed-b.ensures (then c.write_byte-c.ensures c.write_signed.ensures)))
