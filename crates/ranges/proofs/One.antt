-- Each public function's promise leaves one answer. Assumes nothing.
use mathlib.Core.Path.{sym, ◌∙◌}
use Rattle.promise.specs.Promise.{Leaves}
use Rattle.ranges.proofs.is_within.Reads as is_Within
use Rattle.ranges.proofs.is_signed_within.Reads as is-signed-within
use Rattle.ranges.proofs.is_finite.Reads as is_finite
use Rattle.ranges.proofs.has_only_bits.Reads as has-only-bits
use Rattle.ranges.proofs.first_false.Reads as first-false
use Rattle.ranges.proofs.ruled.Reads as ruled

pub is_within_one : Leaves is_Within.Post (λ κs r s. r)
is_within_one κs a r r' s s' p q = p ∙ sym q

pub is_signed_within_one : Leaves is-signed-within.Post (λ κs r s. r)
is_signed_within_one κs a r r' s s' p q = p ∙ sym q

pub is_finite_one : Leaves is_finite.Post (λ κs r s. r)
is_finite_one κs a r r' s s' p q = p ∙ sym q

pub has_only_bits_one : Leaves has-only-bits.Post (λ κs r s. r)
has_only_bits_one κs a r r' s s' p q = p ∙ sym q

pub first_false_one : Leaves first-false.Post (λ κs r s. r)
first_false_one κs a r r' s s' p q = p ∙ sym q

pub ruled_one : Leaves ruled.Post (λ κs r s. r)
ruled_one κs a r r' s s' p q = p ∙ sym q
