-- Induction over an accepted call: what holds where it ends, where a reply does not fit, at an order, and one byte further, holds of the call.
use Prim.Native.Nat.{ℕ, ◌-◌, ◌<◌, ◌≤◌}
use mathlib.Core.Path.{◌≡◌}
use mathlib.Core.List.{List, [], ◌∷◌}
use lib.Dec.{leb}
use lib.ListN.{length}
use borrow.Author.Tests.{leb-true, leb-false}
use Rattle.rule.specs.Rule.{State, Protocol}
use Rattle.rule.specs.Calls.{Called, none, ending, going, accept}
use Rattle.rule.specs.Facts.{says}
use Rattle.rule.proofs.Choice.{either_by, either_none_by}

module _ {E O M : Type 0} (p : Protocol E O M) (t : ℕ) (P : State M → ℕ → List ℕ → Called O M → Type 0) where
  -- the piece has ended; the next reply does not fit; the next byte completes an order; the next byte is taken, and the call c follows
  pub record Ways : Type 0 where
    pub at_end : (s : State M) (room : ℕ) → P s room [] (none 0 s)
    pub at_full : (s : State M) (room x : ℕ) (piece : List ℕ) → room < length (says p t s x).reply → P s room (x ∷ piece) (none 0 s)
    pub at_order : (s : State M) (room x : ℕ) (piece : List ℕ) (o : O) (os : List O) → length (says p t s x).reply ≤ room
        → (says p t s x).orders ≡ o ∷ os → P s room (x ∷ piece) (ending (says p t s x))
    pub at_next : (s : State M) (room x : ℕ) (piece : List ℕ) (c : Called O M) → length (says p t s x).reply ≤ room
        → (says p t s x).orders ≡ [] → P (says p t s x).next (room - length (says p t s x).reply) piece c → P s room (x ∷ piece) (going (says p t s x) c)

  pub accept_by : Ways → (piece : List ℕ) (s : State M) (room : ℕ) → P s room piece (accept p s t room piece)
  unfolding accept
  accept_by w [] s room = w.at_end s room
  accept_by w (x ∷ piece) s room =
      let n = length (says p t s x).reply in
      let Q = P s room (x ∷ piece) in
      let ih = accept_by w piece (says p t s x).next (room - n) in
      either_by Q (leb n room) _ _
      (λ e.
      let fits = leb-true n room e in
      either_none_by Q (says p t s x).orders _ _ (λ none. w.at_next s room x piece _ fits none ih) (λ o os some. w.at_order s room x piece o os fits some))
      (λ e. w.at_full s room x piece (leb-false n room e))
