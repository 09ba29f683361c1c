-- What is handed to the flash writer and taken back. "The flash writer needs the settings as one run of bytes" (02, P10). 02 names no function for it:
-- the refusals go beyond, numbered and tested in the sequence of 01's "One call", and so does the way back.
use Rattle.std.specs.Prelude.{cond, List, ◌++◌, ℕ, eqb, ltb, length, drop}
use Rattle.sheet.specs.Sheet.{sheet}
use Rattle.table.specs.Places.{whole_of}
use Rattle.table.specs.Table.{all_good}
use Rattle.table.specs.declared.Table.{Table}
use Rattle.unit.specs.Protocol.{fresh_state}
use Rattle.state.specs.State.{board_of}
use Rattle.state.specs.Sound.{refusal_of}
use Rattle.state.specs.declared.Board.{Board}
use Rattle.state.specs.declared.Report.{Report}

-- ---- handed out

-- 2 where the lent bytes are fewer than the table's, then 3 where the board is not sound, else 0
abbrev pub out_number : Board → ℕ → ℕ
out_number b room = cond (ltb room (whole_of sheet)) 2 (refusal_of b)

-- the lent bytes then: the table, and behind it what stood there; where it is refused, what stood there
abbrev pub handed : Board → List ℕ → List ℕ
handed b out = cond (eqb (out_number b (length out)) 0) (b.memory.settings.bytes ++ drop (whole_of sheet) out) out

-- ---- taken back

-- 1 where the bytes are not as many as the table's, then 3 where it is not sound, else 0
abbrev pub back_number : List ℕ → ℕ
back_number t = cond (eqb (length t) (whole_of sheet)) (cond (all_good (record { bytes = t })) 0 3) 1

-- the board with these settings, and nothing else changed
abbrev pub with_settings : Board → Table → Board
with_settings b t =
    record { memory = record { settings = t; notes = b.memory.notes; position = b.memory.position }; held = b.held; count = b.count; stamp = b.stamp }

-- a fresh board with these settings; a fresh board where they are refused
abbrev pub taken_back : List ℕ → Report
taken_back t =
    let fresh = board_of fresh_state in
    record { number = back_number t; board = cond (eqb (back_number t) 0) (with_settings fresh (record { bytes = t })) fresh }
