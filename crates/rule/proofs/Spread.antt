-- One whole unit whose bytes come in time, each behind its own stamp. Assumes nothing.
use Prim.Native.Nat.{ℕ, zero, suc, ◌-◌}
use mathlib.Core.Path.{◌≡◌, refl, ap, ◌∙◌}
use mathlib.Core.Bool.{Bool}
use mathlib.Core.List.{List, [], ◌∷◌}
use native.Mathlib.Omega.{arith}
use lib.ListN.{length}
use lib.Seq.{take-length}
use borrow.Author.Tests.{le-leb}
use Rattle.rule.specs.Run.{bytes, among, past, onward, last_stamp}
use Rattle.rule.specs.Framing.{Needs, whole, Cut, front, units, units_of}
use Rattle.rule.specs.Rule.{with_line, Protocol, deal, whole_run, state_at}
use Rattle.rule.specs.Step.{steps}
use Rattle.rule.specs.Facts.{InTime, spread}
use Rattle.rule.proofs.Said.{then_quiet}
use Rattle.rule.proofs.Steps.{steps_is_whole}

module _ (E : Type 0) where
  spread_bytes : (ts u : List ℕ) → length u ≡ length ts → bytes (spread {E = E} ts u) ≡ u
  spread_bytes [] [] e = refl
  spread_bytes [] (b ∷ u) e = absurd (omega arith)
  spread_bytes (t ∷ ts) [] e = absurd (omega arith)
  spread_bytes (t ∷ ts) (b ∷ u) e = ap (λ (l : List ℕ). b ∷ l) (spread_bytes ts u (omega arith))

  -- no event stands among the bytes, and nothing behind them
  spread_among : (ts u : List ℕ) → among (length u) (spread {E = E} ts u) ≡ []
  spread_among [] [] = refl
  spread_among [] (b ∷ u) = refl
  spread_among (t ∷ ts) [] = refl
  spread_among (t ∷ ts) (b ∷ u) = spread_among ts u

  spread_past : (ts u : List ℕ) → past (length u) (spread {E = E} ts u) ≡ []
  spread_past [] [] = refl
  spread_past [] (b ∷ u) = refl
  spread_past (t ∷ ts) [] = refl
  spread_past (t ∷ ts) (b ∷ u) = spread_past ts u

module _ {E : Type 0} (cuts : ℕ → E → Bool) where
  -- all of it comes in time
  spread_onward : (t : ℕ) (ts u : List ℕ) → InTime t ts → onward cuts t (spread ts u) ≡ spread ts u
  unfolding onward
  spread_onward t [] u h = refl
  spread_onward t (s ∷ ts) [] h = refl
  spread_onward t (s ∷ ts) (b ∷ u) h = rw (h.0, spread_onward s ts u h.1)

  module _ (need : List ℕ → ℕ) where
    none_left : (n : ℕ) → units cuts need n [] ≡ record { tokens = []; unfinished = [] }
    unfolding units
    none_left zero = refl
    none_left (suc n) = refl

    -- the run falls into that unit, and nothing stays
    pub unit_in_time : (t : ℕ) (ts u : List ℕ) → length u ≡ suc (length ts) → InTime t ts → need u ≡ length u
        → units_of cuts need (spread (t ∷ ts) u) ≡ record { tokens = whole u ∷ []; unfinished = [] }
    unfolding units front
    unit_in_time t ts [] e h is = absurd (omega arith)
    unit_in_time t ts (b ∷ u) e h is =
        let rest : length (b ∷ u) - length (b ∷ []) ≡ length u = omega arith in
        rw (spread_onward t ts u h, spread_bytes E ts u (omega arith), is, le-leb (length (b ∷ u)) (length (b ∷ u)) (omega arith), rest, spread_among E ts u, spread_past E ts u, take-length (b ∷ u), none_left (length (spread {E = E} ts u)))

module _ {E O M : Type 0} (p : Protocol E O M) (law : Needs p.need) where
  -- ONE WHOLE UNIT IN TIME, from nothing unfinished: the byte steps say what the unit does
  pub steps_in_time : (m : M) (last t : ℕ) (ts u : List ℕ) → length u ≡ suc (length ts) → InTime t ts → p.need u ≡ length u
      → let r = spread (t ∷ ts) u in steps p (state_at m [] last) r ≡ with_line (record { unfinished = []; last = last_stamp last r }) (p.act m (whole u))
  unfolding whole_run deal
  steps_in_time m last t ts u e h is =
      let r = spread (t ∷ ts) u in
      steps_is_whole p law m last r
      ∙ ap (λ (c : Cut E). with_line (record { unfinished = c.unfinished; last = last_stamp last r }) (deal p m c.tokens)) (unit_in_time p.cuts p.need t ts u e h is)
      ∙ ap (with_line (record { unfinished = []; last = last_stamp last r })) (then_quiet (p.act m (whole u)))
