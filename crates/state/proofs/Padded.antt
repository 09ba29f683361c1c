-- The bytes held, with zeros behind them. Assumes nothing.
use mathlib.Core.Path.{◌≡◌, sym, ap, ◌∙◌}
use mathlib.Core.List.{List, [], ◌++◌, append-nil}
use Prim.Native.Nat.{ℕ, ◌+◌, ◌-◌, ◌≤◌}
use native.Mathlib.Omega.{arith}
use lib.ListN.{length, take, replicate, drop, length-append, length-drop, drop_of_length-le}
use lib.Seq.{sets, sets-eq, take_at, length-sets, take-append_seam, length-take-le}
use borrow.Rule.Slice.PartMut.{mid_of, put_mid, mid_len}
use Rattle.sheet.specs.Lengths.{longest_frame}
use Rattle.state.specs.State.{padded}

pub padded_take : (u : List ℕ) → take (length u) (padded u) ≡ u
unfolding padded
padded_take u = take-append_seam u (replicate (longest_frame - length u) 0)

-- a part laid behind the first n bytes, and zeros from its end e on
pub padded_behind : (held w one zeros : List ℕ) (n e : ℕ) → e ≡ n + length w → length held ≡ longest_frame → e ≤ longest_frame → one ≡ sets held n w
    → zeros ≡ replicate (length (mid_of e (longest_frame - e) one)) 0 → put_mid e (longest_frame - e) one zeros ≡ padded (take n held ++ w)
unfolding padded
padded_behind held w one zeros n e at full h first second =
    let u = take n held ++ w in
    let long : length one ≡ longest_frame = rw first (length-sets held n w ∙ full) in
    let front : length u ≡ e = omega (arith, length-append (take n held) w, length-take-le n held (omega arith)) in
    let start : take e one ≡ u = rw (first, sets-eq w held n (omega arith)) (take_at u (drop (n + length w) held) e front) in
    let many : length (mid_of e (longest_frame - e) one) ≡ longest_frame - length u = mid_len e longest_frame one (omega arith) ∙ ap (λ (k : ℕ). longest_frame - k) (sym front) in
    let none : drop (longest_frame - e) (drop e one) ≡ [] = drop_of_length-le (drop e one) (omega (arith, length-drop e one)) in
    (λ i. start i ++ (second i ++ none i)) ∙ ap (λ (x : List ℕ). u ++ x) (append-nil _) ∙ ap (λ (k : ℕ). u ++ replicate k 0) many
