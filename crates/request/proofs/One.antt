-- The writer's promise leaves one answer, and one content of the lent buffer; a refusal has one number. Assumes nothing.
use Rattle.std.specs.Prelude.{ℕ, Result, Ok, Err}
use mathlib.Core.Path.{◌≡◌, refl, sym, ap, ◌∙◌}
use mathlib.Core.Bool.{cond}
use lib.Dec.{eqb}
use Rattle.promise.specs.Promise.{Leaves}
use Rattle.request.specs.Request.{Wrote, written_as}
use Rattle.request.specs.declared.Refused.{Refused}
use Rattle.request.specs.declared.Refused.TheVariants.{OutOfRange, TooShort}
use Rattle.request.proofs.U8FromRefused.from.Reads as from
use Rattle.request.proofs.write.Reads as write

-- an answer is told by its number and size
wrote_back : Wrote → Result ℕ Refused
wrote_back w = cond (eqb w.number 0) (Ok w.size) (Err (cond (eqb w.number 3) OutOfRange TooShort))

written_back : (r : Result ℕ Refused) → wrote_back (written_as r) ≡ r
unfolding wrote_back
written_back (Ok n) = refl
written_back (Err OutOfRange) = refl
written_back (Err TooShort) = refl

pub write_one : Leaves write.Post (λ κs r s. r)
write_one κs a r r' s s' p q = sym (written_back r) ∙ ap wrote_back (p.answer ∙ sym q.answer) ∙ written_back r'

pub write_bytes_one : Leaves write.Post (λ κs r s. s.1.0.now)
write_bytes_one κs a r r' s s' p q = p.buffer ∙ sym q.buffer

pub refusal_number_one : Leaves from.Post (λ κs r s. r)
refusal_number_one κs a r r' s s' p q = p ∙ sym q
