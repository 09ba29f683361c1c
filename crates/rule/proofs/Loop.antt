-- How `accept` goes on byte by byte: the wait is met once, before the first byte, and `later` says what is taken and what is to come.
use Prim.Native.Nat.{ℕ, suc, ◌+◌, ◌-◌, ◌<◌, ◌≤◌}
use mathlib.Core.Path.{◌≡◌, refl, ap, sym, subst, ◌∙◌}
use mathlib.Core.Bool.{Bool, true, false}
use mathlib.Core.List.{List, [], ◌∷◌, ◌++◌, append_assoc, append-nil}
use native.Mathlib.Omega.{arith}
use native.Mathlib.Nat.{add-zero, zero-add, sub-zero}
use lib.Dec.{leb, ltb}
use lib.ListN.{length, take, length-append}
use borrow.Author.Tests.{le-leb, lt-leb, ltb-true, ltb-false}
use Rattle.rule.specs.Run.{byte, at, late}
use Rattle.rule.specs.Framing.{Needs, whole}
use Rattle.rule.specs.Rule.{Said, quiet, then, State, with_line, Protocol, deal, state_at}
use Rattle.rule.specs.Step.{settle, feed, feed_on, step, steps}
use Rattle.rule.specs.Calls.{Called, accept}
use Rattle.rule.specs.Ready.{ready}
use Rattle.rule.specs.Facts.{says, Silent}
use Rattle.rule.proofs.Said.{then_quiet}
use Rattle.rule.proofs.Framing.{settle_whole, settle_part}
use Rattle.rule.proofs.Accept.{accept_by}
use Rattle.rule.proofs.Waits.{late_self}

-- k bytes are taken, `out` is said, and the call is over
abbrev pub over : {O M : Type 0} → ℕ → List ℕ → List O → State M → Called O M
over k out os s = record { number = 0; taken = k; said = record { reply = out; orders = os; next = s } }

-- THE LOOP'S INVARIANT: k bytes are taken and `out` is said, with no order, and the call from s on the rest is to come; this is the whole call
abbrev pub later : {E O M : Type 0} (p : Protocol E O M) → ℕ → List ℕ → State M → ℕ → ℕ → List ℕ → Called O M
later p k out s t room piece =
    let c = accept p s t room piece in
    over (k + c.taken) (out ++ c.said.reply) c.said.orders c.said.next

next_count : (k n : ℕ) → k + suc n ≡ k + 1 + n
next_count k n = omega arith

-- the front of a true beginning is one
prefix_begun : {need : List ℕ → ℕ} → Needs need → (v w : List ℕ) → length (v ++ w) < need (v ++ w) → length v < need v
prefix_begun {need} law v w h = by (ltb (length v) (need v)) refl
  where
    by : (y : Bool) → ltb (length v) (need v) ≡ y → length v < need v
    by true e = ltb-true (length v) (need v) e
    by false e =
        let settled = law.settled v w (ltb-false (length v) (need v) e) in
        absurd (omega (arith, ltb-false (length v) (need v) e, settled, h, length-append v w))

module _ {E O M : Type 0} (p : Protocol E O M) where
  -- a byte x at the stamp of the byte before it: no wait is met
  module _ (m : M) (u : List ℕ) (t x : ℕ) where
    abbrev here : State M
    here = state_at m u t

    abbrev on : List ℕ
    on = u ++ x ∷ []

    step_settle : let f = settle p.cuts p.need on t in step p here (byte t x) ≡ with_line f.line (deal p m f.tokens)
    unfolding step feed feed_on
    step_settle = by u
      where
        by : (w : List ℕ) → let f = settle p.cuts p.need (w ++ x ∷ []) t in
            step p (state_at m w t) (byte t x) ≡ with_line f.line (deal p m f.tokens)
        by [] = refl
        by (a ∷ w) = rw (late_self t)

    -- the unit goes on
    pub step_joins : length on < p.need on → step p here (byte t x) ≡ quiet (state_at m on t)
    unfolding deal
    step_joins h = step_settle ∙ rw (settle_part p.cuts p.need on t h)

    -- the unit ends
    pub step_ends : p.need on ≤ length on → step p here (byte t x) ≡ with_line (record { unfinished = []; last = t }) (p.act m (whole on))
    unfolding deal
    step_ends h =
        step_settle ∙ rw (settle_whole p.cuts p.need on t h) (ap (with_line (record { unfinished = []; last = t })) (then_quiet (p.act m (whole on))))

  -- bytes at one stamp that leave a true beginning are joined to what was unfinished, and say nothing
  pub steps_join : Needs p.need → (m : M) (t : ℕ) (w v : List ℕ) → length (v ++ w) < p.need (v ++ w) → steps p (state_at m v t) (at t w) ≡ quiet (state_at m (v ++ w) t)
  unfolding steps
  steps_join law m t [] v h = ap (λ (u : List ℕ). quiet (state_at m u t)) (sym (append-nil v))
  steps_join law m t (x ∷ w) v h =
      let on = v ++ x ∷ [] in
      let same : on ++ w ≡ v ++ x ∷ w = append_assoc v (x ∷ []) w in
      let all : length (on ++ w) < p.need (on ++ w) = subst (λ (u : List ℕ). length u < p.need u) (sym same) h in
      let joins : length on < p.need on = prefix_begun law on w all in
      ap (λ (a : Said O (State M)). then a (steps p a.next (at t w))) (step_joins m v t x joins)
      ∙ steps_join law m t w on all ∙ ap (λ (u : List ℕ). quiet (state_at m u t)) same

  -- the first byte of a call finds the state ready
  pub step_ready : Silent p → (s : State M) (t x : ℕ) → step p s (byte t x) ≡ step p (ready p s t) (byte t x)
  unfolding step feed feed_on ready deal
  step_ready quiets s t x = by s.line.unfinished (late t s.line.last) refl
    where
      held : List ℕ → State M
      held u = state_at s.memory u s.line.last

      by : (u : List ℕ) (y : Bool) → late t s.line.last ≡ y → step p (held u) (byte t x) ≡ step p (ready p (held u) t) (byte t x)
      by [] true e = rw e
      by [] false e = rw e
      by (a ∷ u) true e = rw (e, quiets.reply s.memory (a ∷ u), quiets.orders s.memory (a ∷ u))
      by (a ∷ u) false e = rw (e, late_self t)

  pub accept_ready : Silent p → (s : State M) (t room x : ℕ) (piece : List ℕ) → length (says p t s x).reply ≤ room
      → accept p s t room (x ∷ piece) ≡ accept p (ready p s t) t room (x ∷ piece)
  unfolding accept
  accept_ready quiets s t room x piece h =
      let k : leb (length (says p t s x).reply) room ≡ true = le-leb (length (says p t s x).reply) room h in
      rw (k, ← step_ready quiets s t x, k)

  pub accept_number : (s : State M) (t room : ℕ) (piece : List ℕ) → (accept p s t room piece).number ≡ 0
  accept_number s t room piece =
      accept_by p t (λ _ _ _ c. c.number ≡ 0) (record {
        at_end = λ _ _. refl;
        at_full = λ _ _ _ _ _. refl;
        at_order = λ _ _ _ _ _ _ _ _. refl;
        at_next = λ _ _ _ _ _ _ _ _. refl;
      }) piece s room

  pub later_start : (s : State M) (t room : ℕ) (piece : List ℕ) → accept p s t room piece ≡ later p 0 [] s t room piece
  later_start s t room piece =
      let c = accept p s t room piece in
      λ i. record { number = accept_number s t room piece i; taken = sym (zero-add c.taken) i; said = c.said }

  module _ (k : ℕ) (out : List ℕ) (s : State M) (t room : ℕ) where
    none_later : ◌≡◌ {A = Called O M} (over (k + 0) (out ++ []) [] s) (over k out [] s)
    none_later = λ i. over (add-zero k i) (append-nil out i) [] s

    pub later_end : later p k out s t room [] ≡ over k out [] s
    unfolding accept
    later_end = none_later

    -- the next byte is x
    module _ (x : ℕ) (piece : List ℕ) where
      pub later_full : room < length (says p t s x).reply → later p k out s t room (x ∷ piece) ≡ over k out [] s
      unfolding accept
      later_full h = rw (lt-leb (length (says p t s x).reply) room h) none_later

      pub later_turn : length (says p t s x).reply ≤ room → (says p t s x).orders ≡ []
          → later p k out s t room (x ∷ piece) ≡ later p (k + 1) (out ++ (says p t s x).reply) (says p t s x).next t (room - length (says p t s x).reply) piece
      unfolding accept
      later_turn h e =
          let c = accept p (says p t s x).next t (room - length (says p t s x).reply) piece in
          rw (le-leb (length (says p t s x).reply) room h, e)
          (λ i. over (next_count k c.taken i) (sym (append_assoc out (says p t s x).reply c.said.reply) i) c.said.orders c.said.next)

      pub later_stop : length (says p t s x).reply ≤ room → (o : O) (os : List O) → (says p t s x).orders ≡ o ∷ os
          → later p k out s t room (x ∷ piece) ≡ over (k + 1) (out ++ (says p t s x).reply) (says p t s x).orders (says p t s x).next
      unfolding accept
      later_stop h o os e = rw (le-leb (length (says p t s x).reply) room h, e)

  -- bytes that end no unit, all at once
  pub later_joins : (k : ℕ) (out : List ℕ) (m : M) (t room : ℕ) (w piece u : List ℕ)
      → ((n : ℕ) → n < length w → length (u ++ take (suc n) w) < p.need (u ++ take (suc n) w))
      → later p k out (state_at m u t) t room (w ++ piece) ≡ later p (k + length w) out (state_at m (u ++ w) t) t room piece
  later_joins k out m t room [] piece u h = rw (add-zero k, append-nil u)
  later_joins k out m t room (x ∷ w) piece u h =
      let s : State M = state_at m u t in
      let e = step_joins m u t x (h 0 (omega arith)) in
      let l : length (step p s (byte t x)).reply ≤ room = rw e (omega arith) in
      let one = later_turn k out s t room x (w ++ piece) l (rw e) in
      let ih = later_joins (k + 1) out m t room w piece (u ++ x ∷ []) (λ n g. rw append_assoc (h (suc n) (omega arith))) in
      one ∙ rw (e, append-nil out, sub-zero room) (ih ∙ rw (append_assoc, ← next_count k (length w)))
