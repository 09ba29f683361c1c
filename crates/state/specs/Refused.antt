-- What the code's refusals are in 01 and 02: numbers. In quotation marks: sheet 01, "One call".
use Rattle.std.specs.Prelude.{ℕ, Result, Ok, Err}
use Rattle.state.specs.declared.Board.{Board}
use Rattle.state.specs.declared.Report.{Report}
use Rattle.state.specs.declared.Refusal.{Refusal}
use Rattle.state.specs.declared.Refusal.TheVariants.{Length, Room, Unsound, Range}

abbrev pub number_of : Refusal → ℕ
number_of Length = 1
number_of Room = 2
number_of Unsound = 3
number_of Range = 5

-- the number of an answer: 0 "otherwise"
abbrev pub number_in : {T : Type 0} → Result T Refusal → ℕ
number_in (Ok x) = 0
number_in (Err e) = number_of e

-- the answer to a report that is made to the board b, which a refused one leaves as it is
abbrev pub report_in : Board → Result Board Refusal → Report
report_in b (Ok next) = record { number = 0; board = next }
report_in b (Err e) = record { number = number_of e; board = b }
