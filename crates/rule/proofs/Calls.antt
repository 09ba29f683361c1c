-- A call is the byte step over the bytes it took.
use Prim.Native.Nat.{ℕ, ◌<◌}
use mathlib.Core.Path.{◌≡◌, refl, ap, sym, ◌∙◌}
use mathlib.Core.List.{List, [], ◌∷◌, ◌++◌}
use native.Mathlib.Omega.{arith}
use lib.Dec.{eqb, ltb}
use lib.ListN.{length, take}
use lib.Seq.{length-take-le}
use Rattle.rule.specs.Run.{Item, byte, last_stamp, at}
use Rattle.rule.specs.Rule.{Said, quiet, then, State, Protocol}
use Rattle.rule.specs.Step.{steps}
use Rattle.rule.specs.Calls.{none, accept, call}
use Rattle.rule.specs.Facts.{says, TakesSteps}
use Rattle.rule.proofs.Choice.{either}
use Rattle.rule.proofs.Accept.{accept_by}
use Rattle.rule.proofs.Said.{then_quiet}
use Rattle.rule.proofs.Steps.{steps_last}

pub at_append : {E : Type 0} (t : ℕ) (u w : List ℕ) → at {E = E} t (u ++ w) ≡ at t u ++ at t w
at_append {E} t [] w = refl
at_append {E} t (b ∷ u) w = ap (λ (r : List (Item E)). byte t b ∷ r) (at_append t u w)

module _ {E O M : Type 0} (p : Protocol E O M) where
  none_steps : (s : State M) (t n : ℕ) (piece : List ℕ) → TakesSteps p s t piece (none n s)
  unfolding steps
  none_steps s t n piece = record { same = refl; most = omega arith }

  pub accept_steps : (piece : List ℕ) (s : State M) (t room : ℕ) → TakesSteps p s t piece (accept p s t room piece)
  unfolding steps
  accept_steps piece s t room =
      accept_by p t (λ s _ piece c. TakesSteps p s t piece c) (record {
        at_end = λ s _. none_steps s t 0 [];
        at_full = λ s _ x piece _. none_steps s t 0 (x ∷ piece);
        at_order = λ s _ x _ _ _ _ _. record { same = sym (then_quiet (says p t s x)); most = omega arith };
        at_next = λ s _ x _ c _ _ ih. record { same = ap (then (says p t s x)) ih.same; most = omega (arith, ih.most) };
      }) piece s room

  pub call_steps : (verdict : ℕ) (piece : List ℕ) (s : State M) (t room : ℕ) → TakesSteps p s t piece (call p verdict s t room piece)
  unfolding call
  call_steps verdict piece s t room =
      either (TakesSteps p s t piece) (ltb p.longest_piece (length piece)) _ _ (none_steps s t 1 piece)
      (either (TakesSteps p s t piece) (ltb room p.least_room) _ _ (none_steps s t 2 piece)
      (either (TakesSteps p s t piece) (eqb verdict 0) _ _ (accept_steps piece s t room) (none_steps s t verdict piece)))

  -- a call that took nothing did nothing
  pub call_none : (verdict : ℕ) (s : State M) (t room : ℕ) (piece : List ℕ) → let c = call p verdict s t room piece in c.taken ≡ 0 → c.said ≡ quiet s
  unfolding steps
  call_none verdict s t room piece e = (call_steps verdict piece s t room).same ∙ ap (λ (k : ℕ). steps p s (at t (take k piece))) e

  -- bytes that share a stamp leave it as the last one
  at_last : (t s : ℕ) (u : List ℕ) → 0 < length u → last_stamp {E = E} s (at t u) ≡ t
  unfolding last_stamp
  at_last t s [] h = absurd (omega arith)
  at_last t s (b ∷ []) h = refl
  at_last t s (b ∷ c ∷ u) h = at_last t t (c ∷ u) (omega arith)

  -- "Each byte taken sets the last stamp."
  pub call_stamp : (verdict : ℕ) (s : State M) (t room : ℕ) (piece : List ℕ) → let c = call p verdict s t room piece in 0 < c.taken → c.said.next.line.last ≡ t
  call_stamp verdict s t room piece some =
      let is = call_steps verdict piece s t room in
      let u = take (call p verdict s t room piece).taken piece in
      ap (λ (a : Said O (State M)). a.next.line.last) is.same ∙ steps_last p (at t u) s
      ∙ at_last t s.line.last u (omega (arith, length-take-le (call p verdict s t room piece).taken piece is.most))
