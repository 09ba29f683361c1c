-- The table of one call, over any protocol: which number answers it, and what a number says of it. In quotation marks: sheet 01, "One call".
-- Assumes nothing.
use Prim.Native.Nat.{ℕ, ◌<◌, ◌≤◌}
use mathlib.Core.Path.{◌≡◌, refl, sym, ◌∙◌}
use mathlib.Core.Bool.{cond}
use mathlib.Core.List.{List, [], ◌∷◌}
use native.Mathlib.Omega.{arith}
use lib.Dec.{eqb, ltb}
use lib.ListN.{length}
use borrow.Author.Tests.{lt-ltb, le-ltb, ltb-true, ltb-false, eq-eqb, ne_eqb, eqb-true, eqb-false}
use Rattle.rule.specs.Rule.{State, Protocol}
use Rattle.rule.specs.Calls.{Called, none, accept, call}
use Rattle.rule.proofs.Choice.{either_by}
use Rattle.rule.proofs.Loop.{accept_number}
use Rattle.rule.proofs.Progress.{accept_fits}

module _ {E O M : Type 0} (p : Protocol E O M) where
  -- "When, tested in this sequence", the verdict last, which is 0 "otherwise"; "Taken" is 0 beside every other number
  pub record Numbered (verdict room : ℕ) (piece : List ℕ) (c : Called O M) : Type 0 where
    pub number : c.number ≡ cond (ltb p.longest_piece (length piece)) 1 (cond (ltb room p.least_room) 2 verdict)
    pub refused : (c.number ≡ 0 → ⊥) → c.taken ≡ 0

  -- what stands behind the number 0
  pub record Accepted (verdict : ℕ) (s : State M) (t room : ℕ) (piece : List ℕ) (c : Called O M) : Type 0 where
    pub same : c ≡ accept p s t room piece
    pub fits : length piece ≤ p.longest_piece
    pub wide : p.least_room ≤ room
    pub sound : verdict ≡ 0

  module _ (verdict : ℕ) (s : State M) (t room : ℕ) (piece : List ℕ) where
    -- ---- row by row

    -- 1 "piece longer than 250"
    pub call_long : p.longest_piece < length piece → call p verdict s t room piece ≡ none 1 s
    unfolding call
    call_long h = rw (lt-ltb p.longest_piece (length piece) h)

    module _ (fits : length piece ≤ p.longest_piece) where
      -- 2 "reply room under 48", 93 since 02's P6
      pub call_room : room < p.least_room → call p verdict s t room piece ≡ none 2 s
      unfolding call
      call_room h = rw (le-ltb p.longest_piece (length piece) fits, lt-ltb room p.least_room h)

      module _ (wide : p.least_room ≤ room) where
        -- 3 "the state is not sound"
        pub call_unsound : (verdict ≡ 0 → ⊥) → call p verdict s t room piece ≡ none verdict s
        unfolding call
        call_unsound h = rw (le-ltb p.longest_piece (length piece) fits, le-ltb room p.least_room wide, ne_eqb verdict 0 h)

        -- 0 "otherwise"
        pub call_accepted : verdict ≡ 0 → call p verdict s t room piece ≡ accept p s t room piece
        unfolding call
        call_accepted h = rw (le-ltb p.longest_piece (length piece) fits, le-ltb room p.least_room wide, eq-eqb verdict 0 h)

    -- ---- the rows together

    -- what holds in each row holds of the call
    pub call_by : (P : Called O M → Type 0) → (p.longest_piece < length piece → P (none 1 s)) → (length piece ≤ p.longest_piece → room < p.least_room → P (none 2 s))
        → (length piece ≤ p.longest_piece → p.least_room ≤ room → (verdict ≡ 0 → ⊥) → P (none verdict s))
        → (length piece ≤ p.longest_piece → p.least_room ≤ room → verdict ≡ 0 → P (accept p s t room piece)) → P (call p verdict s t room piece)
    unfolding call
    call_by P long narrow unsound taken =
        either_by P (ltb p.longest_piece (length piece)) _ _ (λ e. long (ltb-true p.longest_piece (length piece) e))
        (λ e.
        let fits = ltb-false p.longest_piece (length piece) e in
        either_by P (ltb room p.least_room) _ _ (λ f. narrow fits (ltb-true room p.least_room f))
        (λ f. let wide = ltb-false room p.least_room f in either_by P (eqb verdict 0) _ _ (λ z. taken fits wide (eqb-true verdict 0 z)) (λ z. unsound fits wide (eqb-false verdict 0 z))))

    -- THE NUMBER, BY THE CAUSES IN THEIR SEQUENCE
    pub call_number : Numbered verdict room piece (call p verdict s t room piece)
    call_number =
        call_by (Numbered verdict room piece)
        (λ h. record { number = rw (lt-ltb p.longest_piece (length piece) h); refused = λ _. refl })
        (λ h k. record { number = rw (le-ltb p.longest_piece (length piece) h, lt-ltb room p.least_room k); refused = λ _. refl })
        (λ h k _. record { number = rw (le-ltb p.longest_piece (length piece) h, le-ltb room p.least_room k); refused = λ _. refl })
        (λ h k e.
        let n = accept_number p s t room piece in
        record { number = rw (le-ltb p.longest_piece (length piece) h, le-ltb room p.least_room k) (n ∙ sym e); refused = λ other. absurd (other n) })

    -- THE NUMBER 0 IS AN ACCEPTED CALL'S
    pub call_zero : (call p verdict s t room piece).number ≡ 0 → Accepted verdict s t room piece (call p verdict s t room piece)
    call_zero =
        call_by (λ (c : Called O M). c.number ≡ 0 → Accepted verdict s t room piece c) (λ _ z. absurd (omega arith)) (λ _ _ z. absurd (omega arith))
        (λ _ _ other z. absurd (other z)) (λ fits wide sound _. record { same = refl; fits = fits; wide = wide; sound = sound })

    -- what a call says fits its room
    pub call_fits : length (call p verdict s t room piece).said.reply ≤ room
    call_fits =
        call_by (λ (c : Called O M). length c.said.reply ≤ room) (λ _. omega arith) (λ _ _. omega arith) (λ _ _ _. omega arith)
        (λ _ _ _. accept_fits p piece s t room)

  -- "An empty piece changes nothing, the last stamp included."
  pub call_empty : (verdict : ℕ) (s : State M) (t room : ℕ) (piece : List ℕ) → p.least_room ≤ room → verdict ≡ 0 → length piece ≡ 0
      → call p verdict s t room piece ≡ none 0 s
  unfolding accept
  call_empty verdict s t room [] wide sound e = call_accepted verdict s t room [] (omega arith) wide sound
  call_empty verdict s t room (x ∷ piece) wide sound e = absurd (omega arith)
