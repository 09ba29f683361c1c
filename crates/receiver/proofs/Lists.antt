-- The bytes held and the piece behind them as one line. Assumes nothing.
use mathlib.Core.Path.{◌≡◌, ◌∙◌}
use mathlib.Core.List.{List, ◌++◌}
use Prim.Native.Nat.{ℕ, ◌+◌, ◌≤◌}
use native.Mathlib.Omega.{arith}
use lib.ListN.{length, take, drop, length-append}
use lib.Seq.{sets, sets-eq, length-sets, length-take-le, take_at, take-append-le}

-- the bytes held, and the piece laid over them from `had` on, in a buffer that has room for both: one line
module _ (zeros held piece one two : List ℕ) (had : ℕ) (first : one ≡ sets zeros 0 held) (second : two ≡ sets one had piece) where
  pub line_long : length two ≡ length zeros
  line_long = rw (second, first) (length-sets (sets zeros 0 held) had piece ∙ length-sets zeros 0 held)

  pub line_is : had ≤ length held → length held ≤ length zeros → had + length piece ≤ length zeros → take (had + length piece) two ≡ take had held ++ piece
  line_is h k l =
      let one-is = sets-eq held zeros 0 (omega arith) in
      let two_is = sets-eq piece (sets zeros 0 held) had (rw (length-sets zeros 0 held) l) in
      let front : take had (sets zeros 0 held) ≡ take had held = rw one-is (take-append-le had held (drop (0 + length held) zeros) h) in
      rw (second, first, two_is, front)
      (take_at (take had held ++ piece) (drop (had + length piece) (sets zeros 0 held)) (had + length piece) (length-append (take had held) piece ∙ rw (length-take-le had held h)))
