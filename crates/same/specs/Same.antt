-- When two boards are the same.
use Rattle.std.specs.Prelude.{Bool, true, false, cond, ◌&&◌, List, [], ◌∷◌, ℕ, eqb}
use Rattle.std.specs.Int.{w16, w32, w64}
use Rattle.std.proofs.Common.{of_z}
use Rattle.rule.specs.Rule.{State}
use Rattle.position.specs.declared.Position.{Position}
use Rattle.unit.specs.declared.Notes.{Notes}
use Rattle.unit.specs.declared.Memory.{Memory}
use Rattle.state.specs.State.{state_of}
use Rattle.state.specs.Sound.{refusal_of}
use Rattle.state.specs.declared.Board.{Board}

-- two lists of bytes are one
unfoldable pub same_bytes : List ℕ → List ℕ → Bool
same_bytes [] [] = true
same_bytes [] (y ∷ ys) = false
same_bytes (x ∷ xs) [] = false
same_bytes (x ∷ xs) (y ∷ ys) = eqb x y && same_bytes xs ys

-- the flags, and the last refused block and field
abbrev pub same_notes : Notes → Notes → Bool
same_notes m n = eqb m.flags n.flags && (eqb m.block n.block && eqb m.field n.field)

-- the three quantities of the position, by their numbers on the wire
abbrev pub same_positions : Position → Position → Bool
same_positions p q =
    eqb (of_z w32 p.steps.0) (of_z w32 q.steps.0)
    && (eqb (of_z w16 p.microsteps.0) (of_z w16 q.microsteps.0) && eqb (of_z w64 p.count.0) (of_z w64 q.count.0))

-- what the rule knows of a board: the last stamp, the notes, the position, the unfinished bytes, the settings as gets send them
abbrev pub same_states : State Memory → State Memory → Bool
same_states s t =
    eqb s.line.last t.line.last
    && (same_notes s.memory.notes t.memory.notes
    && (same_positions s.memory.position t.memory.position
    && (same_bytes s.line.unfinished t.line.unfinished && same_bytes s.memory.settings.bytes t.memory.settings.bytes)))

-- TWO BOARDS ARE THE SAME. Bytes behind the unfinished ones, and the gaps of a struct, play no part
abbrev pub same_boards : Board → Board → Bool
same_boards a b = same_states (state_of a) (state_of b)

-- THE ANSWER: "Any other public entry that takes a board state, now or later, answers 3 in the same way" (01, "One call"); else 0 for two boards that
-- are the same, 1 for others
abbrev pub compared_as : Board → Board → ℕ
compared_as a b = cond (eqb (refusal_of a) 0) (cond (eqb (refusal_of b) 0) (cond (same_boards a b) 0 1) (refusal_of b)) (refusal_of a)
