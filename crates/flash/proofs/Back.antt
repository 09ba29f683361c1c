-- What is handed out comes back, over what the two contracts themselves say. Assumes nothing.
use mathlib.Core.Path.{◌≡◌, refl, sym, ap, ◌∙◌}
use mathlib.Core.Bool.{Bool, true, false, cond}
use mathlib.Core.List.{List, ◌++◌}
use Prim.Native.Nat.{ℕ}
use native.Mathlib.Omega.{arith}
use lib.Dec.{eqb, ltb}
use lib.ListN.{length, take, drop}
use lib.Seq.{take_at}
use borrow.Author.Tests.{eqb-true, eqb-false, eq-eqb, ne_eqb}
use Rattle.std.specs.Prelude.{Result, Ok, ⊤}
use Rattle.sheet.specs.Sheet.{sheet}
use Rattle.table.specs.Places.{whole_of}
use Rattle.table.specs.Table.{Good, all_good, fresh_table}
use Rattle.table.specs.declared.Table.{Table}
use Rattle.table.proofs.Keep.{joined, table_joined, good_all, good_fresh}
use Rattle.unit.specs.Protocol.{fresh_state}
use Rattle.state.specs.State.{board_of}
use Rattle.state.specs.Sound.{sound_board, refusal_of}
use Rattle.state.specs.Refused.{number_in, report_in}
use Rattle.state.specs.declared.Refusal.{Refusal}
use Rattle.state.proofs.Refused.{report_as}
use Rattle.state.specs.declared.Board.{Board}
use Rattle.state.specs.declared.Report.{Report}
use Rattle.state.proofs.Boards.{refusal_none}
use Rattle.flash.specs.Flash.{out_number, with_settings, taken_back}
use Rattle.flash.proofs.Cases.{settings_good, with_sound, back_length, back_unsound, back_taken}
use Rattle.flash.proofs.hand_out.Reads as hand-out
use Rattle.flash.proofs.take_back.Reads as take_back

-- ---- a table handed out

-- number 0 says that there was room, and that the board is sound
had_room : (b : Bool) (v : ℕ) → cond b 2 v ≡ 0 → v ≡ 0
had_room true v z = absurd (omega arith)
had_room false v z = z

module _ (κs : _) (a : _) (x : Result ⊤ Refusal) (s : _) (got : hand-out.Post κs a x s) where
  abbrev board : Board
  board = a.0

  abbrev number : ℕ
  number = out_number board (length a.1.0.now)

  -- A REFUSAL WRITES NOTHING
  pub refused_stays : (number_in x ≡ 0 → ⊥) → s.1.0.now ≡ a.1.0.now
  refused_stays other = got.1 ∙ rw (ne_eqb number 0 (λ z. other (got.0 ∙ z)))

  module _ (zero : number_in x ≡ 0) where
    sound : Good board.memory.settings
    sound = settings_good board (had_room (ltb (length a.1.0.now) (whole_of sheet)) (refusal_of board) (sym got.0 ∙ zero))

    -- else the table stands at the front, and behind it what stood there
    pub handed_whole : s.1.0.now ≡ board.memory.settings.bytes ++ drop (whole_of sheet) a.1.0.now
    handed_whole = got.1 ∙ rw (eq-eqb number 0 (sym got.0 ∙ zero))

    pub handed_front : take (whole_of sheet) s.1.0.now ≡ board.memory.settings.bytes
    handed_front =
        ap (take (whole_of sheet)) handed_whole ∙ take_at board.memory.settings.bytes (drop (whole_of sheet) a.1.0.now) (whole_of sheet) sound.0

    -- "the blocks in number order .., each as its get sends it without name and CRC" (02, P10)
    pub handed_blocks : take (whole_of sheet) s.1.0.now ≡ joined sheet board.memory.settings
    handed_blocks = handed_front ∙ sym (table_joined board.memory.settings sound.0)

    pub back_is : (stored : List ℕ) → stored ≡ take (whole_of sheet) s.1.0.now
        → taken_back stored ≡ record { number = 0; board = with_settings (board_of fresh_state) board.memory.settings }
    back_is stored e =
        let t = board.memory.settings in
        ap taken_back (e ∙ handed_front) ∙ back_taken t.bytes sound.0 (good_all t sound)

    -- WHAT WAS HANDED OUT COMES BACK
    pub comes_back : (κs' : _) (a' : _) (y : Result Board Refusal) (s' : _) → take_back.Post κs' a' y s' → a'.0.now ≡ take (whole_of sheet) s.1.0.now
        → y ≡ Ok (with_settings (board_of fresh_state) board.memory.settings)
    comes_back κs' a' y s' is stored = report_as (board_of fresh_state) y _ (is ∙ back_is a'.0.now stored)

-- ---- A BOARD THAT IS TAKEN BACK IS SOUND, refused or not

abbrev sound_in : Report → Bool
sound_in r = sound_board r.board

sound_taken : (t : List ℕ) → sound_in (taken_back t) ≡ true
sound_taken t = by (eqb (length t) (whole_of sheet)) (all_good (record { bytes = t })) refl refl
  where
    by : (l g : Bool) → eqb (length t) (whole_of sheet) ≡ l → all_good (record { bytes = t }) ≡ g → sound_in (taken_back t) ≡ true
    by true true e f =
        let table : Table = record { bytes = t } in
        ap sound_in (back_taken t (eqb-true _ _ e) f) ∙ with_sound table ∙ f
    by true false e f = ap sound_in (back_unsound t (eqb-true _ _ e) f) ∙ with_sound fresh_table ∙ good_all fresh_table good_fresh
    by false g e f = ap sound_in (back_length t (eqb-false _ _ e)) ∙ with_sound fresh_table ∙ good_all fresh_table good_fresh

pub taken_sound : (t : List ℕ) → refusal_of (taken_back t).board ≡ 0
taken_sound t = refusal_none (taken_back t).board (sound_taken t)

pub back_sound : (κs : _) (a : _) (x : Result Board Refusal) (s : _) → take_back.Post κs a x s
    → refusal_of (report_in (board_of fresh_state) x).board ≡ 0
back_sound κs a x s is = ap (λ (r : Report). refusal_of r.board) is ∙ taken_sound a.0.now
