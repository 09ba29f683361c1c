-- A board and the state it stands for. Assumes nothing.
use mathlib.Core.Path.{◌≡◌, refl, sym, ap, ◌∙◌}
use mathlib.Core.Bool.{Bool, true, false, cond}
use mathlib.Core.List.{List}
use Prim.Native.Nat.{ℕ, ◌<◌}
use native.Mathlib.Omega.{arith}
use lib.ListN.{length, take, length-take}
use borrow.Author.Tests.{eq-eqb}
use Rattle.sheet.specs.Lengths.{longest_frame}
use Rattle.rule.specs.Rule.{State}
use Rattle.rule.specs.Framing.{begun}
use Rattle.names.specs.Names.{need}
use Rattle.names.proofs.Need.{need_some, need_most}
use Rattle.unit.specs.Protocol.{sound_memory, sound_state, fresh_state}
use Rattle.unit.specs.declared.Memory.{Memory}
use Rattle.unit.proofs.Sound as sound
use Rattle.state.specs.State.{state_of, board_of}
use Rattle.state.specs.Sound.{sound_board, refusal_of, wanted_by, refused, verdict_of, verdict_at}
use Rattle.state.specs.Parts.{board_at}
use Rattle.state.specs.declared.Board.{Board}
use Rattle.state.specs.declared.Rest.{Rest}
use Rattle.state.proofs.Padded.{padded_take}
use Rattle.state.proofs.Board.fresh.Reads as fresh

-- there and back
pub state_board : (s : State Memory) → state_of (board_of s) ≡ s
state_board s = λ i. record { memory = s.memory; line = record { unfinished = padded_take s.line.unfinished i; last = s.line.last } }

-- a sound board's bytes are a true beginning, inside the array
pub sound_count : (b : Board) → sound_board b ≡ true → length b.held ≡ longest_frame → b.count < need (take b.count b.held)
sound_count b h f = omega (arith, sound.sound_begun (state_of b) h, need_most (take b.count b.held), length-take b.count b.held)

-- the verdict, and what it says of the board
pub refusal_none : (b : Board) → sound_board b ≡ true → refusal_of b ≡ 0
refusal_none b h = rw h

pub refusal_sound : (b : Board) → refusal_of b ≡ 0 → sound_board b ≡ true
refusal_sound b z = by (sound_board b) z
  where
    by : (y : Bool) → ◌≡◌ {A = ℕ} (cond y 0 3) 0 → y ≡ true
    by true e = refl
    by false e = absurd (omega arith)

pub refusal_three : (b : Board) → (refusal_of b ≡ 0 → ⊥) → refusal_of b ≡ 3
refusal_three b other = by (sound_board b) other
  where
    by : (y : Bool) → (◌≡◌ {A = ℕ} (cond y 0 3) 0 → ⊥) → ◌≡◌ {A = ℕ} (cond y 0 3) 3
    by true h = absurd (h refl)
    by false h = refl

-- how long the unit is that a sound board has begun
pub wants_sound : (b : Board) → sound_board b ≡ true → (verdict_of b).wants ≡ need (take b.count b.held)
wants_sound b h = rw h

-- the verdict, by its tests in their sequence
module _ (b : Board) where
  abbrev u : List ℕ
  u = take b.count b.held

  pub judged_unbegun : wanted_by u ≡ 0 → verdict_of b ≡ refused
  unfolding sound_state
  judged_unbegun z = by (begun need u) refl
    where
      by : (y : Bool) → begun need u ≡ y → verdict_of b ≡ refused
      by true e = let w : need u ≡ 0 = ap (λ (c : Bool). cond c (need u) 0) (sym e) ∙ z in absurd (omega (arith, need_some u))
      by false e = rw e

  module _ (some : wanted_by u ≡ 0 → ⊥) where
    is_begun : begun need u ≡ true
    is_begun = by (begun need u) refl
      where
        by : (y : Bool) → begun need u ≡ y → y ≡ true
        by true e = refl
        by false e = absurd (some (rw e))

    pub judged_fields : sound_memory b.memory ≡ false → verdict_of b ≡ refused
    unfolding sound_state
    judged_fields e = rw (is_begun, e)

    pub judged_sound : sound_memory b.memory ≡ true → verdict_of b ≡ record { number = 0; wants = wanted_by u }
    unfolding sound_state
    judged_sound e = rw (is_begun, e)

-- the verdict of parts
pub verdict_full : (table held : List ℕ) (rest : Rest) → length held ≡ longest_frame → verdict_at table held rest ≡ verdict_of (board_at table held rest)
verdict_full table held rest full = rw (eq-eqb (length held) longest_frame full)

-- "A fresh board is sound"
pub fresh_sound : (κs : _) (a : _) (b s : _) → fresh.Post κs a b s → sound_board b ≡ true
fresh_sound κs a b s is = ap sound_board is ∙ ap sound_state (state_board fresh_state) ∙ sound.fresh_sound
