-- The two lengths that a call goes by. The code has them once each too: sheet::FRAME, sheet::PIECE.
use Rattle.std.specs.Prelude.{ℕ}

-- the longest frame, set or answer (proofs/Table, `longest_total`); 02, P6: "The longest answer is now 93, so the least reply room becomes 93"
abbrev pub longest_frame : ℕ
longest_frame = 93

-- 01, "One call": "piece longer than 250"
abbrev pub longest_piece : ℕ
longest_piece = 250
