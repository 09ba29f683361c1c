-- What pins the count of bytes taken down: a call takes bytes up to the first count at which one of the three causes holds, and there is one such count.
use Prim.Native.Nat.{ℕ, zero, suc, ◌-◌, ◌<◌, ◌≤◌}
use mathlib.Core.Path.{◌≡◌, refl, subst}
use mathlib.Core.Bool.{Bool, true, false}
use mathlib.Core.List.{List, [], ◌∷◌}
use native.Mathlib.Omega.{arith}
use lib.Dec.{leb}
use lib.ListN.{length, take, length-append}
use borrow.Author.Tests.{leb-true, leb-false}
use Rattle.rule.specs.Run.{at}
use Rattle.rule.specs.Rule.{State, Protocol}
use Rattle.rule.specs.Step.{steps}
use Rattle.rule.specs.Calls.{Called, ending, going, accept}
use Rattle.rule.specs.Facts.{says, Stopped, ended, ordered, full, reached, Largest}
use Rattle.rule.proofs.Accept.{accept_by}
use Rattle.rule.proofs.Calls.{accept_steps}
use Rattle.rule.proofs.Loop.{accept_number}
use Rattle.rule.proofs.Progress.{accept_stops}

module _ {E O M : Type 0} (p : Protocol E O M) where
  -- a call is what its own count of bytes reaches
  pub accept_reached : (s : State M) (t room : ℕ) (piece : List ℕ) → accept p s t room piece ≡ reached p s t piece (accept p s t room piece).taken
  accept_reached s t room piece =
      let c = accept p s t room piece in
      λ i. record { number = accept_number p s t room piece i; taken = c.taken; said = (accept_steps p piece s t room).same i }

  -- none of the causes holds before c has taken its bytes
  abbrev Free : ℕ → State M → ℕ → List ℕ → Called O M → Type 0
  Free t s room piece c = (k : ℕ) → k < c.taken → Stopped p t room piece (reached p s t piece k) → ⊥

  -- the next byte is x, and its reply fits
  module _ (t : ℕ) (s : State M) (room x : ℕ) (piece : List ℕ) (fits : length (says p t s x).reply ≤ room) where
    none_first : Stopped p t room (x ∷ piece) (reached p s t (x ∷ piece) 0) → ⊥
    unfolding steps
    none_first (ended e) = omega arith
    none_first (ordered o os e) = let z : ◌≡◌ {A = ℕ} 0 1 = cc in omega arith
    none_first (full y rest e l) =
        let same : x ≡ y = cc in
        let f : length (says p t s y).reply ≤ room = rw same at fits in
        omega arith

    -- a cause that holds k bytes behind x holds for the call on the rest
    for_rest : (k : ℕ) → (says p t s x).orders ≡ [] → Stopped p t room (x ∷ piece) (reached p s t (x ∷ piece) (suc k))
        → Stopped p t (room - length (says p t s x).reply) piece (reached p (says p t s x).next t piece k)
    unfolding steps
    for_rest k none (ended e) = ended (omega arith)
    for_rest k none (ordered o os e) = ordered o os (rw none at e)
    for_rest k none (full y rest e l) =
        full y rest e (omega (arith, length-append (says p t s x).reply (steps p (says p t s x).next (at t (take k piece))).reply))

    free_ending : Free t s room (x ∷ piece) (ending (says p t s x))
    free_ending zero h d = none_first d
    free_ending (suc k) h d = omega arith

    free_going : (c : Called O M) → (says p t s x).orders ≡ [] → Free t (says p t s x).next (room - length (says p t s x).reply) piece c
        → Free t s room (x ∷ piece) (going (says p t s x) c)
    free_going c none ih zero h d = none_first d
    free_going c none ih (suc k) h d = ih k (omega arith) (for_rest k none d)

  -- THE CALL TAKES BYTES UP TO THE FIRST CAUSE
  pub accept_largest : (s : State M) (t room : ℕ) (piece : List ℕ) → Largest p s t room piece (accept p s t room piece).taken
  accept_largest s t room piece =
      record {
        stopped = subst (Stopped p t room piece) (accept_reached s t room piece) (accept_stops p piece s t room);
        before = accept_by p t (Free t) (record {
          at_end = λ _ _ k h d. omega arith;
          at_full = λ _ _ _ _ _ k h d. omega arith;
          at_order = λ s room x piece _ _ fits _. free_ending t s room x piece fits;
          at_next = λ s room x piece c fits none ih. free_going t s room x piece fits c none ih;
        }) piece s room;
      }

  module _ {s : State M} {t room : ℕ} {piece : List ℕ} where
    no_more : {n k : ℕ} → Largest p s t room piece n → Largest p s t room piece k → n ≤ k
    no_more {n} {k} f g = by (leb n k) refl
      where
        by : (b : Bool) → leb n k ≡ b → n ≤ k
        by true e = leb-true n k e
        by false e = absurd (f.before k (leb-false n k e) g.stopped)

    -- AND THERE IS ONE SUCH COUNT
    pub largest_one : {n k : ℕ} → Largest p s t room piece n → Largest p s t room piece k → n ≡ k
    largest_one f g = omega (arith, no_more f g, no_more g f)
