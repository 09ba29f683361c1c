-- The public function's promise leaves one answer. Assumes nothing.
use mathlib.Core.Path.{sym, ◌∙◌}
use Rattle.promise.specs.Promise.{Leaves}
use Rattle.state.proofs.Refused.{report_as}
use Rattle.drive.proofs.report_position.Reads as report-position

pub report_position_one : Leaves report-position.Post (λ κs r s. r)
report_position_one κs a r r' s s' p q = report_as a.0 r r' (p ∙ sym q)
