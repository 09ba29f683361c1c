-- An answer is told by its number and what it carries. Assumes nothing.
use mathlib.Core.Path.{◌≡◌, refl, sym, ap}
use mathlib.Core.List.{List}
use Prim.Native.Nat.{ℕ}
use native.Mathlib.Omega.{arith}
use Rattle.std.specs.Prelude.{Result, Ok, Err, ⊤}
use Rattle.state.specs.Refused.{number_of, number_in, report_in}
use Rattle.state.specs.Sound.{Verdict, refusal_of, verdict_of, verdict_in}
use Rattle.state.specs.Call.{Call, call_in, call_at, call_lent}
use Rattle.state.specs.Parts.{rest_of}
use Rattle.state.specs.declared.Board.{Board}
use Rattle.state.specs.declared.Rest.{Rest}
use Rattle.state.specs.declared.Done.{Done}
use Rattle.state.specs.declared.Report.{Report}
use Rattle.state.specs.declared.Refusal.{Refusal}
use Rattle.state.specs.declared.Refusal.TheVariants.{Length, Room, Unsound, Range}

-- no refusal has the number 0, and no two have one
pub number_some : (e : Refusal) → number_of e ≡ 0 → ⊥
number_some Length = λ z. omega arith
number_some Room = λ z. omega arith
number_some Unsound = λ z. omega arith
number_some Range = λ z. omega arith

pub number_as : (d e : Refusal) → number_of d ≡ number_of e → d ≡ e
number_as Length Length h = refl
number_as Length Room h = absurd (omega arith)
number_as Length Unsound h = absurd (omega arith)
number_as Length Range h = absurd (omega arith)
number_as Room Length h = absurd (omega arith)
number_as Room Room h = refl
number_as Room Unsound h = absurd (omega arith)
number_as Room Range h = absurd (omega arith)
number_as Unsound Length h = absurd (omega arith)
number_as Unsound Room h = absurd (omega arith)
number_as Unsound Unsound h = refl
number_as Unsound Range h = absurd (omega arith)
number_as Range Length h = absurd (omega arith)
number_as Range Room h = absurd (omega arith)
number_as Range Unsound h = absurd (omega arith)
number_as Range Range h = refl

-- so what is told by its number and its values is one answer
pub given_as : (x y : Result ⊤ Refusal) → number_in x ≡ number_in y → x ≡ y
given_as (Ok a) (Ok b) p = refl
given_as (Ok a) (Err e) p = absurd (number_some e (sym p))
given_as (Err d) (Ok b) p = absurd (number_some d p)
given_as (Err d) (Err e) p = ap Err (number_as d e p)

pub verdict_as : (x y : Result ℕ Refusal) → verdict_in x ≡ verdict_in y → x ≡ y
verdict_as (Ok a) (Ok b) p = ap (λ (v : Verdict). Ok v.wants) p
verdict_as (Ok a) (Err e) p = absurd (number_some e (sym (ap (λ (v : Verdict). v.number) p)))
verdict_as (Err d) (Ok b) p = absurd (number_some d (ap (λ (v : Verdict). v.number) p))
verdict_as (Err d) (Err e) p = ap Err (number_as d e (ap (λ (v : Verdict). v.number) p))

pub report_as : (b : Board) (x y : Result Board Refusal) → report_in b x ≡ report_in b y → x ≡ y
report_as b (Ok m) (Ok n) p = ap (λ (r : Report). Ok r.board) p
report_as b (Ok m) (Err e) p = absurd (number_some e (sym (ap (λ (r : Report). r.number) p)))
report_as b (Err d) (Ok n) p = absurd (number_some d (ap (λ (r : Report). r.number) p))
report_as b (Err d) (Err e) p = ap Err (number_as d e (ap (λ (r : Report). r.number) p))

pub call_as : (b : Board) (x y : Result (Done Board) Refusal) → call_in b x ≡ call_in b y → x ≡ y
call_as b (Ok m) (Ok n) p = ap (λ (c : Call). Ok (record { board = c.board; taken = c.taken; written = c.written; order = c.order })) p
call_as b (Ok m) (Err e) p = absurd (number_some e (sym (ap (λ (c : Call). c.number) p)))
call_as b (Err d) (Ok n) p = absurd (number_some d (ap (λ (c : Call). c.number) p))
call_as b (Err d) (Err e) p = ap Err (number_as d e (ap (λ (c : Call). c.number) p))

-- the same where the arrays are lent, whatever they are
pub done_as : {t t' h h' : List ℕ} {d e : Done Rest} → call_at t h d ≡ call_at t' h' e → d ≡ e
done_as p = λ i. record { board = rest_of (p i).board; taken = (p i).taken; written = (p i).written; order = (p i).order }

pub lent_as : (t t' h h' : List ℕ) (r : Rest) (x y : Result (Done Rest) Refusal) → call_lent t h r x ≡ call_lent t' h' r y → x ≡ y
lent_as t t' h h' r (Ok m) (Ok n) p = ap Ok (done_as p)
lent_as t t' h h' r (Ok m) (Err e) p = absurd (number_some e (sym (ap (λ (c : Call). c.number) p)))
lent_as t t' h h' r (Err d) (Ok n) p = absurd (number_some d (ap (λ (c : Call). c.number) p))
lent_as t t' h h' r (Err d) (Err e) p = ap Err (number_as d e (ap (λ (c : Call). c.number) p))

-- a verdict's number
pub judged_ok : (b : Board) (n : ℕ) → verdict_in (Ok n) ≡ verdict_of b → refusal_of b ≡ 0
judged_ok b n p = sym (ap (λ (v : Verdict). v.number) p)

pub judged_err : (b : Board) (e : Refusal) → verdict_in (Err e) ≡ verdict_of b → number_of e ≡ refusal_of b
judged_err b e p = ap (λ (v : Verdict). v.number) p

-- the arrays are those that were lent
pub lent_table : (t h : List ℕ) (r : Rest) (x : Result (Done Rest) Refusal) → (call_lent t h r x).board.memory.settings.bytes ≡ t
lent_table t h r (Ok d) = refl
lent_table t h r (Err e) = refl

pub lent_held : (t h : List ℕ) (r : Rest) (x : Result (Done Rest) Refusal) → (call_lent t h r x).board.held ≡ h
lent_held t h r (Ok d) = refl
lent_held t h r (Err e) = refl
