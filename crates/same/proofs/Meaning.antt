-- What it means that two boards are the same. Assumes nothing.
use mathlib.Core.Path.{◌≡◌, refl, sym, ap, ◌∙◌}
use mathlib.Core.Bool.{true, cond, ◌&&◌}
use mathlib.Core.List.{List, [], ◌∷◌}
use Prim.Native.Nat.{ℕ}
use lib.Dec.{eqb}
use mir.Syntax.{w16, w32, w64}
use mir.Val.{of_z}
use borrow.Author.Tests.{eq-eqb, eqb-true}
use Rattle.rule.specs.Rule.{State}
use Rattle.rule.specs.Calls.{call}
use Rattle.sheet.specs.Sheet.{gpos_row}
use Rattle.sheet.specs.Rows.{data_of}
use Rattle.sheet.proofs.Sections.{both}
use Rattle.position.specs.Position.{position_of, position_numbers, PositionHeld}
use Rattle.position.proofs.Codec.{position_codec}
use Rattle.table.specs.Table.{data_at}
use Rattle.table.specs.declared.Table.{Table}
use Rattle.unit.specs.Protocol.{protocol, sound_state}
use Rattle.unit.specs.declared.Memory.{Memory}
use Rattle.state.specs.State.{state_of}
use Rattle.state.specs.Sound.{refusal_of}
use Rattle.state.specs.declared.Board.{Board}
use Rattle.same.specs.Same.{same_bytes, same_notes, same_positions, same_states, same_boards}
use Rattle.same.proofs.Alike.{bytes_self, bytes_are}

-- a number, and three of them
self : (n : ℕ) → eqb n n ≡ true
self n = eq-eqb n n refl

three_self : (x y z : ℕ) → (eqb x x && (eqb y y && eqb z z)) ≡ true
three_self x y z = rw (self x, self y) (self z)

three_are : (x y z u v w : ℕ) → (eqb x u && (eqb y v && eqb z w)) ≡ true → (x ≡ u) × (y ≡ v) × (z ≡ w)
three_are x y z u v w h =
    let one = both (eqb x u) (eqb y v && eqb z w) h in
    let two = both (eqb y v) (eqb z w) one.1 in
    (eqb-true x u one.0, eqb-true y v two.0, eqb-true z w two.1)

-- a board is the same as itself
pub same_self : (b : Board) → same_boards b b ≡ true
same_self b =
    let n = b.memory.notes in
    let p = b.memory.position in
    rw (self b.stamp, three_self n.flags n.block n.field, three_self (of_z w32 p.steps.0) (of_z w16 p.microsteps.0) (of_z w64 p.count.0), bytes_self (state_of b).line.unfinished)
    (bytes_self b.memory.settings.bytes)

module _ (a b : Board) (h : same_boards a b ≡ true) where
  parts : (eqb a.stamp b.stamp ≡ true) × (same_notes a.memory.notes b.memory.notes ≡ true)
      × (same_positions a.memory.position b.memory.position ≡ true)
      × (same_bytes (state_of a).line.unfinished (state_of b).line.unfinished ≡ true) × (same_bytes a.memory.settings.bytes b.memory.settings.bytes ≡ true)
  parts =
      let stamps = both (eqb a.stamp b.stamp) _ h in
      let notes = both (same_notes a.memory.notes b.memory.notes) _ stamps.1 in
      let position = both (same_positions a.memory.position b.memory.position) _ notes.1 in
      let bytes = both (same_bytes (state_of a).line.unfinished (state_of b).line.unfinished) _ position.1 in
      (stamps.0, notes.0, position.0, bytes.0, bytes.1)

  pub same_settings : a.memory.settings ≡ b.memory.settings
  same_settings = let e = bytes_are _ _ parts.4 in λ i. record { bytes = e i }

  -- WHAT A GET SENDS is the same, whatever the block; and what gpos sends
  pub same_data : (k : ℕ) → data_at a.memory.settings k ≡ data_at b.memory.settings k
  same_data k = ap (λ (t : Table). data_at t k) same_settings

  numbers : position_numbers a.memory.position ≡ position_numbers b.memory.position
  numbers = let e = three_are _ _ _ _ _ _ parts.2 in λ i. e.0 i ∷ e.1 i ∷ e.2 i ∷ []

  pub same_gpos : data_of gpos_row (position_numbers a.memory.position) ≡ data_of gpos_row (position_numbers b.memory.position)
  same_gpos = ap (data_of gpos_row) numbers

  pub same_line : (state_of a).line ≡ (state_of b).line
  same_line =
      let last = eqb-true a.stamp b.stamp parts.0 in
      let held = bytes_are _ _ parts.3 in
      λ i. record { unfinished = held i; last = last i }

  pub same_notes_lem : a.memory.notes ≡ b.memory.notes
  same_notes_lem = let e = three_are _ _ _ _ _ _ parts.1 in λ i. record { flags = e.0 i; block = e.1 i; field = e.2 i }

  -- two boards that are the same stand for one state of the rule, by what the types say of the position,
  module _ (p : PositionHeld a.memory.position) (q : PositionHeld b.memory.position) where
    pub same_state : state_of a ≡ state_of b
    same_state =
        let position = sym (position_codec.forth a.memory.position p) ∙ ap position_of numbers ∙ position_codec.forth b.memory.position q in
        λ i. record { memory = record { settings = same_settings i; notes = same_notes_lem i; position = position i }; line = same_line i }

    -- so every public entry judges them alike, and every call says the same of both
    pub same_judged : refusal_of a ≡ refusal_of b
    same_judged = ap (λ (s : State Memory). cond (sound_state s) 0 3) same_state

    pub same_called : (stamp room : ℕ) (piece : List ℕ) → call protocol (refusal_of a) (state_of a) stamp room piece ≡ call protocol (refusal_of b) (state_of b) stamp room piece
    same_called stamp room piece = λ i. call protocol (same_judged i) (same_state i) stamp room piece

-- and boards that stand for one state are the same
pub state_same : (a b : Board) → state_of a ≡ state_of b → same_boards a b ≡ true
state_same a b e = ap (λ (s : State Memory). same_states (state_of a) s) (sym e) ∙ same_self a
