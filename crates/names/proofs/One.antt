-- Each public function's promise leaves one answer. Assumes nothing.
use mathlib.Core.Path.{sym, ◌∙◌}
use Rattle.promise.specs.Promise.{Leaves}
use Rattle.names.proofs.total_of.Reads as total-of
use Rattle.names.proofs.Kind.of.Reads as kind-of
use Rattle.names.proofs.Kind.span.Reads as Span-of
use Rattle.names.proofs.Kind.replied.Reads as replied-of

pub get_total_one : Leaves total-of.Post (λ κs r s. r)
get_total_one κs a r r' s s' p q = p.1 ∙ sym q.1

pub kind_of_one : Leaves kind-of.Post (λ κs r s. r)
kind_of_one κs a r r' s s' p q = p ∙ sym q

pub span_of_one : Leaves Span-of.Post (λ κs r s. r)
span_of_one κs a r r' s s' p q = p ∙ sym q

pub replied_of_one : Leaves replied-of.Post (λ κs r s. r)
replied_of_one κs a r r' s s' p q = p ∙ sym q
