-- What the two functions promise, case by case. Assumes nothing.
use mathlib.Core.Path.{◌≡◌, refl, sym, ap, ◌∙◌}
use mathlib.Core.Bool.{Bool, true, false}
use mathlib.Core.List.{List, [], ◌++◌}
use Prim.Native.Nat.{ℕ, ◌+◌, ◌≤◌}
use native.Mathlib.Omega.{arith}
use lib.ListN.{length, drop}
use lib.Seq.{sets, sets-eq}
use borrow.Author.Tests.{le-ltb, eq-eqb, ne_eqb}
use Rattle.sheet.specs.Sheet.{sheet}
use Rattle.table.specs.Places.{whole_of}
use Rattle.table.specs.Table.{Good, all_good}
use Rattle.table.specs.declared.Table.{Table}
use Rattle.position.proofs.Placed.{fresh_sound}
use Rattle.rule.specs.Rule.{State, state_at}
use Rattle.unit.specs.Unit.{fresh_memory}
use Rattle.unit.specs.Protocol.{sound_memory, sound_state, fresh_state}
use Rattle.unit.specs.declared.Memory.{Memory}
use Rattle.unit.proofs.Sound.{none_begun, sound_memory_lem}
use Rattle.state.specs.State.{state_of, board_of}
use Rattle.state.specs.Sound.{sound_board, refusal_of}
use Rattle.state.specs.declared.Board.{Board}
use Rattle.state.proofs.Boards.{state_board, refusal_sound}
use Rattle.flash.specs.Flash.{out_number, handed, with_settings, taken_back}

-- ---- handed out

-- a sound board's settings are a sound table
pub settings_good : (b : Board) → refusal_of b ≡ 0 → Good b.memory.settings
settings_good b z = (sound_memory_lem (state_of b) (refusal_sound b z)).good

module _ (b : Board) (out : List ℕ) where
  abbrev Promised : ℕ → List ℕ → Type 0
  Promised n left = (n ≡ out_number b (length out)) × (left ≡ handed b out)

  module _ (room : whole_of sheet ≤ length out) where
    pub out_handed : refusal_of b ≡ 0 → Promised 0 (sets out 0 b.memory.settings.bytes)
    out_handed z =
        let t = b.memory.settings.bytes in
        let l = (settings_good b z).0 in
        let fits : 0 + length t ≤ length out = omega arith in
        let whole : 0 + length t ≡ whole_of sheet = omega arith in
        rw (le-ltb (length out) (whole_of sheet) room, eq-eqb (refusal_of b) 0 z) (sym z, sets-eq t out 0 fits ∙ ap (λ (n : ℕ). t ++ drop n out) whole)

-- ---- taken back

-- a fresh board with these settings: nothing is unfinished, and notes, position and stamp are fresh
abbrev pub fresh_with : Table → State Memory
fresh_with t = state_at {M = Memory} (record { settings = t; notes = fresh_memory.notes; position = fresh_memory.position }) [] 0

pub with_state : (t : Table) → state_of (with_settings (board_of fresh_state) t) ≡ fresh_with t
with_state t = state_board (fresh_with t)

-- it is as sound as its table
pub with_sound : (t : Table) → sound_board (with_settings (board_of fresh_state) t) ≡ all_good t
unfolding sound_state sound_memory
with_sound t = ap sound_state (with_state t) ∙ rw (none_begun, fresh_sound)

module _ (t : List ℕ) where
  abbrev with : Board
  with = with_settings (board_of fresh_state) (record { bytes = t })

  pub back_length : (length t ≡ whole_of sheet → ⊥) → taken_back t ≡ record { number = 1; board = board_of fresh_state }
  back_length h = rw (ne_eqb (length t) (whole_of sheet) h)

  module _ (l : length t ≡ whole_of sheet) where
    pub back_unsound : all_good (record { bytes = t }) ≡ false → taken_back t ≡ record { number = 3; board = board_of fresh_state }
    back_unsound e = rw (e, eq-eqb (length t) (whole_of sheet) l)

    pub back_taken : all_good (record { bytes = t }) ≡ true → taken_back t ≡ record { number = 0; board = with_settings (board_of fresh_state) (record { bytes = t }) }
    back_taken e = rw (e, eq-eqb (length t) (whole_of sheet) l)

    -- what the code finds
    pub back_refused : (n : ℕ) → n ≡ refusal_of with → (n ≡ 0 → ⊥) → record { number = n; board = board_of fresh_state } ≡ taken_back t
    back_refused n e other = by (all_good (record { bytes = t })) refl
      where
        by : (g : Bool) → all_good (record { bytes = t }) ≡ g → record { number = n; board = board_of fresh_state } ≡ taken_back t
        by true h = absurd (other (e ∙ rw (with_sound (record { bytes = t }) ∙ h)))
        by false h = ap (λ (k : ℕ). record { number = k; board = board_of fresh_state }) (e ∙ rw (with_sound (record { bytes = t }) ∙ h)) ∙ sym (back_unsound h)

    pub back_passed : refusal_of with ≡ 0 → record { number = 0; board = with } ≡ taken_back t
    back_passed z = sym (back_taken (sym (with_sound (record { bytes = t })) ∙ refusal_sound with z))
