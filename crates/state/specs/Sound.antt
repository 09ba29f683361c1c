-- When a board is sound. In quotation marks: sheet 01, "One call".
use Rattle.std.specs.Prelude.{Bool, cond, List, ℕ, zero, suc, eqb, length, take, Option, Some, None, Result, Ok, Err}
use Rattle.sheet.specs.Lengths.{longest_frame}
use Rattle.rule.specs.Framing.{begun}
use Rattle.names.specs.Names.{need}
use Rattle.unit.specs.Protocol.{sound_state}
use Rattle.state.specs.State.{state_of}
use Rattle.state.specs.Parts.{board_at}
use Rattle.state.specs.declared.Board.{Board}
use Rattle.state.specs.declared.Rest.{Rest}
use Rattle.state.specs.declared.Refusal.{Refusal}
use Rattle.state.specs.Refused.{number_of}

-- "A state is sound when its unfinished bytes are none or a true beginning of one unit .., every field lies in its range, the floats are finite, and
-- the flags are at most 7."; "In a sound state the position's microsteps lie in -255..255." (02, P5) Spare bytes are no cause
abbrev pub sound_board : Board → Bool
sound_board b = sound_state (state_of b)

-- THE VERDICT: 3 "the state is not sound", 0 "otherwise". "Any other public entry that takes a board state, now or later, answers 3 in the same way"
abbrev pub refusal_of : Board → ℕ
refusal_of b = cond (sound_board b) 0 3

-- how long the unit is that the bytes u begin, as far as they tell; 0 where they begin none
abbrev pub wanted_by : List ℕ → ℕ
wanted_by u = cond (begun need u) (need u) 0

-- the same as the code gives it
abbrev pub wanting : ℕ → Option ℕ
wanting zero = None
wanting (suc n) = Some (suc n)

-- the verdict with that length, and what the code's answer says of it
pub record Verdict : Type 0 where
  pub number : ℕ
  pub wants : ℕ

abbrev pub verdict_in : Result ℕ Refusal → Verdict
verdict_in (Ok n) = record { number = 0; wants = n }
verdict_in (Err e) = record { number = number_of e; wants = 0 }

abbrev pub refused : Verdict
refused = record { number = 3; wants = 0 }

abbrev pub verdict_of : Board → Verdict
verdict_of b = record { number = refusal_of b; wants = cond (sound_board b) (need (take b.count b.held)) 0 }

-- of a board in parts: bytes held that are not as many as a board's are no board's
abbrev pub verdict_at : List ℕ → List ℕ → Rest → Verdict
verdict_at table held rest = cond (eqb (length held) longest_frame) (verdict_of (board_at table held rest)) refused
