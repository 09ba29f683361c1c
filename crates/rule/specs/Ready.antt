-- The wait, met once before the first byte of a piece.
use Rattle.std.specs.Prelude.{ℕ, cond, List, [], ◌∷◌}
use Rattle.rule.specs.Run.{late}
use Rattle.rule.specs.Framing.{lost}
use Rattle.rule.specs.Rule.{State, state_at, Protocol}

module _ {E O M : Type 0} (p : Protocol E O M) where
  -- the memory once u is dropped: nothing is dropped where nothing is unfinished
  abbrev pub lose : M → List ℕ → M
  lose m [] = m
  lose m (a ∷ u) = (p.act m (lost (a ∷ u))).next

  -- the state as a byte at t finds it: a wait that is too long has dropped the unfinished bytes, and the last stamp is t
  unfoldable pub ready : State M → ℕ → State M
  ready s t =
      cond (late t s.line.last) (state_at (lose s.memory s.line.unfinished) [] t) (state_at s.memory s.line.unfinished t)
