-- `answer::read`: test by test. Assumes nothing.
use Rattle.std.proofs.Common.{◌≡◌, sym, ◌∙◌, arith, rules}
use Rattle.answer.specs.Answer.{read_as, lettered_answer}
use Rattle.answer.proofs.Ways.{first_none, first_zero, first_named, named_short, gets_as}
use Rattle.answer.proofs.read.Goals as goal

pub returns-in_default : goal.returns-in_default
returns-in_default c = sym (first_none _ (omega arith))

pub returns-then-first-eq0 : goal.returns-then-first-eq0
returns-then-first-eq0 c = sym (first_zero _ (omega arith) (omega arith))

pub returns-then-bytes-lt4 : goal.returns-then-bytes-lt4
returns-then-bytes-lt4 c = sym (first_named _ (omega arith) ∙ named_short _ (omega arith))

pub returns-in-Some : goal.returns-in-Some
returns-in-Some c = gets_as _ (omega arith) (omega arith) _ c.read-name.ensures _ c.in-Some.ensures _ c.read_data.ensures

pub returns-in-None : goal.returns-in-None
returns-in-None c =
    let letters : read_as c.ok_or.result ≡ lettered_answer c.read-name.result = search rules in
    gets_as _ (omega arith) (omega arith) _ c.read-name.ensures _ c.in-None.ensures _ letters
