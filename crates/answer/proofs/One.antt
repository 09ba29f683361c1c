-- The reader's promise leaves one answer; a refusal has one number. Assumes nothing.
use Rattle.std.specs.Prelude.{Result, Ok, Err}
use mathlib.Core.Path.{◌≡◌, refl, sym, ap, ◌∙◌}
use mathlib.Core.Bool.{cond}
use mathlib.Core.List.{List, [], ◌∷◌}
use Prim.Native.Nat.{ℕ}
use lib.Dec.{eqb}
use Rattle.promise.specs.Promise.{Leaves}
use Rattle.answer.specs.Answer.{FirstRead, read_as}
use Rattle.answer.specs.declared.Answer.{Answer}
use Rattle.answer.specs.declared.Reading.{Reading}
use Rattle.answer.specs.declared.Unread.{Unread}
use Rattle.answer.specs.declared.Unread.TheVariants.{NoName, NoAnswer, Cut, Damaged}
use Rattle.answer.proofs.U8FromUnread.from.Reads as from
use Rattle.answer.proofs.read.Reads as read

-- an answer is told by its number, its size and what was read
refusal : ℕ → Unread
refusal n = cond (eqb n 5) NoName (cond (eqb n 6) NoAnswer (cond (eqb n 7) Cut Damaged))

read_back : ℕ → ℕ → List Answer → Result Reading Unread
read_back n l [] = Err (refusal n)
read_back n l (a ∷ rest) = Ok (record { size = l; answer = a })

reading_back : (r : Result Reading Unread) → read_back (read_as r).number (read_as r).size (read_as r).answer ≡ r
unfolding refusal read_back
reading_back (Ok x) = refl
reading_back (Err NoName) = refl
reading_back (Err NoAnswer) = refl
reading_back (Err Cut) = refl
reading_back (Err Damaged) = refl

pub read_one : Leaves read.Post (λ κs r s. r)
read_one κs a r r' s s' p q = sym (reading_back r) ∙ ap (λ (f : FirstRead). read_back f.number f.size f.answer) (p ∙ sym q) ∙ reading_back r'

pub refusal_number_one : Leaves from.Post (λ κs r s. r)
refusal_number_one κs a r r' s s' p q = p ∙ sym q
