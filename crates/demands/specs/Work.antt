-- The words in which it is said that a main loop comes to its end.
use Rattle.std.specs.Prelude.{ℕ, suc, ◌≤◌, ◌≡◌, List, [], ◌∷◌, ◌++◌, length, drop}
use Rattle.sheet.specs.Lengths.{longest_piece}
use Rattle.rule.specs.Run.{Item, at}
use Rattle.rule.specs.Rule.{Said, quiet, then}
use Rattle.orders.specs.declared.Order.{Order}
use Rattle.unit.specs.Unit.{Event}
use Rattle.state.specs.declared.Board.{Board}
use Rattle.state.specs.Call.{Call}
use Rattle.demands.specs.Calls.{Answers}
use Rattle.demands.specs.Runs.{said_by}

-- a piece that came: bytes that share a stamp
pub record Piece : Type 0 where
  pub stamp : ℕ
  pub bytes : List ℕ

-- the run that pieces one after the other are, and the bytes in them
abbrev pub run_of : List Piece → List (Item Event)
run_of [] = []
run_of (q ∷ qs) = at q.stamp q.bytes ++ run_of qs

abbrev pub bytes_in : List Piece → List ℕ
bytes_in [] = []
bytes_in (q ∷ qs) = q.bytes ++ bytes_in qs

-- none is longer than a call takes
abbrev pub Short : List Piece → Type 0
Short [] = Unit {0}
Short (q ∷ qs) = (length q.bytes ≤ longest_piece) × Short qs

-- A MAIN LOOP AT WORK: from the call k on, the piece in front is offered to the board as long as something of it is left, and so are the others; the
-- call n would be the next. `room n` is the room of call n. Each answer is whatever the contract of `receive` allows
pub data Worked (room : ℕ → ℕ) : ℕ → Board → List Piece → ℕ → Said Order Board → Type 0 where
  over : (k : ℕ) (b : Board) → Worked room k b [] k (quiet b)
  past : {k n : ℕ} {b : Board} {x : Said Order Board} (t : ℕ) (qs : List Piece) → Worked room k b qs n x → Worked room k b (record { stamp = t; bytes = [] } ∷ qs) n x
  call : {k n : ℕ} {b : Board} {x : Said Order Board} {before after : List ℕ} {r : Call} (t c : ℕ) (p : List ℕ) (qs : List Piece)
      → length before ≡ room k → Answers b t (c ∷ p) before r after
      → Worked room (suc k) r.board (record { stamp = t; bytes = drop r.taken (c ∷ p) } ∷ qs) n x
      → Worked room k b (record { stamp = t; bytes = c ∷ p } ∷ qs) n (then (said_by r after) x)
