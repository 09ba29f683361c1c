-- The byte step, behind the rule: what one item does to a line and to a board. `steps_is_whole` of proofs/Steps says that it is the rule.
use Rattle.std.specs.Prelude.{ℕ, Bool, leb, length}
use Rattle.std.proofs.Math.Bool.{cond}
use mathlib.Core.List.{List, [], ◌∷◌, ◌++◌}
use Rattle.rule.specs.Run.{Item, byte, event, late}
use Rattle.rule.specs.Framing.{Token, whole, lost, seen, Cut}
use Rattle.rule.specs.Rule.{Said, quiet, then, Line, State, with_line, Protocol, deal}

-- the tokens that are complete, and the line behind them
pub record Fed (E : Type 0) : Type 0 where
  pub tokens : List (Token E)
  pub line : Line

module _ {E : Type 0} where
  abbrev pub join : List (Token E) → Fed E → Fed E
  join ks f = record { tokens = ks ++ f.tokens; line = f.line }

  -- read as the rule's cut of a run
  abbrev pub cut_of : Fed E → Cut E
  cut_of f = record { tokens = f.tokens; unfinished = f.line.unfinished }

module _ {E : Type 0} (cuts : ℕ → E → Bool) (need : List ℕ → ℕ) where
  -- the bytes u, the last at t, are a whole unit or stay unfinished
  unfoldable pub settle : List ℕ → ℕ → Fed E
  settle u t =
      cond (leb (need u) (length u)) (record { tokens = whole u ∷ []; line = record { unfinished = []; last = t } })
      (record { tokens = []; line = record { unfinished = u; last = t } })

  -- an item behind the unfinished bytes u, the last at t
  unfoldable pub feed_on : List ℕ → ℕ → Item E → Fed E
  unfolding settle
  feed_on [] t (byte s b) = settle (b ∷ []) s
  feed_on (a ∷ u) t (byte s b) = cond (late s t) (join (lost (a ∷ u) ∷ []) (settle (b ∷ []) s)) (settle (a ∷ u ++ b ∷ []) s)
  feed_on [] t (event e) = record { tokens = seen e ∷ []; line = record { unfinished = []; last = t } }
  feed_on (a ∷ u) t (event e) =
      cond (cuts t e) (record { tokens = lost (a ∷ u) ∷ seen e ∷ []; line = record { unfinished = []; last = t } })
      (record { tokens = seen e ∷ []; line = record { unfinished = a ∷ u; last = t } })

  unfoldable pub feed : Line → Item E → Fed E
  unfolding feed_on
  feed l x = feed_on l.unfinished l.last x

  unfoldable pub feeds : Line → List (Item E) → Fed E
  feeds l [] = record { tokens = []; line = l }
  feeds l (x ∷ r) = join (feed l x).tokens (feeds (feed l x).line r)

module _ {E O M : Type 0} (p : Protocol E O M) where
  -- THE BYTE STEP, and over a run
  unfoldable pub step : State M → Item E → Said O (State M)
  step s x =
      let f = feed p.cuts p.need s.line x in
      with_line f.line (deal p s.memory f.tokens)

  unfoldable pub steps : State M → List (Item E) → Said O (State M)
  steps s [] = quiet s
  steps s (x ∷ r) = let a = step s x in then a (steps a.next r)
