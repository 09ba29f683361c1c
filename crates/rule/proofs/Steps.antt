-- The byte step over any run, from nothing unfinished, is the whole-run rule.
use Prim.Native.Nat.{ℕ}
use mathlib.Core.Path.{◌≡◌, refl, ap, sym, ◌∙◌}
use mathlib.Core.Bool.{false}
use mathlib.Core.List.{List, [], ◌∷◌, ◌++◌}
use Rattle.rule.specs.Run.{Item, event, last_stamp}
use Rattle.rule.specs.Framing.{Needs, seen}
use Rattle.rule.specs.Rule.{Said, then, Line, State, with_line, state_at, Protocol, deal, whole_run}
use Rattle.rule.specs.Step.{feed_on, feed, feeds, step, steps}
use Rattle.rule.proofs.Said.{then_quiet, then_then, deal_append}
use Rattle.rule.proofs.Framing.{feeds_is_units, feeds_last}

module _ {E O M : Type 0} (p : Protocol E O M) where
  -- an event that drops nothing leaves the line as it stands
  pub event_step : (s : State M) (e : E) → p.cuts s.line.last e ≡ false → step p s (event e) ≡ with_line s.line (p.act s.memory (seen e))
  unfolding step feed feed_on deal
  event_step s e still = by s.line.unfinished
    where
      by : (u : List ℕ) → let held : State M = state_at s.memory u s.line.last in step p held (event e) ≡ with_line held.line (p.act s.memory (seen e))
      by [] = ap (with_line _) (then_quiet (p.act s.memory (seen e)))
      by (a ∷ u) = rw still (ap (with_line _) (then_quiet (p.act s.memory (seen e))))

  pub steps_append : (q r : List (Item E)) (s : State M) → steps p s (q ++ r) ≡ then (steps p s q) (steps p (steps p s q).next r)
  unfolding steps
  steps_append [] r s = refl
  steps_append (x ∷ q) r s =
      let a = step p s x in
      let b = steps p a.next q in
      ap (then a) (steps_append q r a.next) ∙ sym (then_then a b (steps p b.next r))

  -- the byte steps are the framing's, dealt with
  pub steps_feeds : (r : List (Item E)) (s : State M)
      → let f = feeds p.cuts p.need s.line r in steps p s r ≡ with_line f.line (deal p s.memory f.tokens)
  unfolding steps step feeds deal
  steps_feeds [] s = refl
  steps_feeds (x ∷ r) s =
      let f = feed p.cuts p.need s.line x in
      let g = feeds p.cuts p.need f.line r in
      rw (steps_feeds r (step p s x).next) (ap (with_line g.line) (sym (deal_append p f.tokens g.tokens s.memory)))

  -- "Each byte taken sets the last stamp."
  pub steps_last : (r : List (Item E)) (s : State M) → (steps p s r).next.line.last ≡ last_stamp s.line.last r
  steps_last r s = ap (λ (a : Said O (State M)). a.next.line.last) (steps_feeds r s) ∙ feeds_last p.cuts p.need r s.line

  -- THE BYTE STEP OVER ANY RUN, FROM NOTHING UNFINISHED, IS THE WHOLE-RUN RULE
  pub steps_is_whole : Needs p.need → (m : M) (t : ℕ) (r : List (Item E))
      → steps p (record { memory = m; line = record { unfinished = []; last = t } }) r ≡ whole_run p m t r
  unfolding whole_run
  steps_is_whole law m t r =
      let l : Line = record { unfinished = []; last = t } in
      let cut = feeds_is_units p.cuts p.need law r t in
      let stamp = feeds_last p.cuts p.need r l in
      steps_feeds r (record { memory = m; line = l })
      ∙ (λ i. with_line (record { unfinished = (cut i).unfinished; last = stamp i }) (deal p m (cut i).tokens))
