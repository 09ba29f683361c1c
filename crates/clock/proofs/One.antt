-- Each public function's promise leaves one answer. Assumes nothing.
use Rattle.std.proofs.Common.{sym, ◌∙◌}
use Rattle.promise.specs.Promise.{Leaves}
use Rattle.state.proofs.Refused.{report_as}
use Rattle.clock.proofs.is_late.Reads as is-late
use Rattle.clock.proofs.joined.Reads as joined
use Rattle.clock.proofs.report_time.Reads as report-time

pub is_late_one : Leaves is-late.Post (λ κs r s. r)
is_late_one κs a r r' s s' p q = p ∙ sym q

pub joined_one : Leaves joined.Post (λ κs r s. r)
joined_one κs a r r' s s' p q = p ∙ sym q

pub report_time_one : Leaves report-time.Post (λ κs r s. r)
report_time_one κs a r r' s s' p q = report_as a.0 r r' (p ∙ sym q)
