-- A main loop comes to its end: any pieces, with any rooms that are enough. In quotation marks: sheet 01, "One call". Assumes nothing.
use Prim.Native.Nat.{ℕ, zero, suc, ◌+◌, ◌≤◌, ◌<◌}
use mathlib.Core.Path.{◌≡◌, refl, ap, ◌∙◌}
use mathlib.Core.Bool.{true}
use mathlib.Core.List.{List, [], ◌∷◌, ◌++◌, append_assoc}
use native.Mathlib.Omega.{arith}
use lib.ListN.{length, take, drop, replicate, length-append, length-drop, length-replicate}
use borrow.Author.Tests.{le-ltb}
use Rattle.sheet.specs.Lengths.{longest_frame, longest_piece}
use Rattle.rule.specs.Run.{Item, byte, at}
use Rattle.rule.specs.Rule.{Said, quiet}
use Rattle.orders.specs.declared.Order.{Order}
use Rattle.unit.specs.Unit.{Event}
use Rattle.state.specs.Sound.{sound_board}
use Rattle.state.specs.declared.Board.{Board}
use Rattle.state.specs.Call.{Call}
use Rattle.demands.specs.Calls.{Answers}
use Rattle.demands.specs.Runs.{called, done, next, Offered}
use Rattle.demands.specs.Work.{Piece, run_of, bytes_in, Short, Worked, over, past, call}
use Rattle.demands.proofs.Calls.{receive_some, numbered, takes, keeps_sound}

-- the parts of a piece, one after the other
at_parts : (t k : ℕ) (p : List ℕ) → ◌≡◌ {A = List (Item Event)} (at t p) (at t (take k p) ++ at t (drop k p))
at_parts t zero p = refl
at_parts t (suc k) [] = refl
at_parts t (suc k) (c ∷ p) = ap (λ (r : List (Item Event)). byte t c ∷ r) (at_parts t k p)

-- some answer that the contract allows
some_answer : (b : Board) (t : ℕ) (p before : List ℕ) → (r : Call) × (after : List ℕ) × Answers b t p before r after
some_answer b t p before = (_, _, receive_some b t p before)

module _ (room : ℕ → ℕ) where
  -- the pieces are offered, as one run, in the cutting that the loop made
  pub worked_offered : {k n : ℕ} {b : Board} {qs : List Piece} {x : Said Order Board} → Worked room k b qs n x → Offered b (run_of qs) x
  worked_offered (over k b) = done b
  worked_offered (past t qs w) = worked_offered w
  worked_offered (call {b = b} {r = r} t c p qs long got w) =
      next b (at t (take r.taken (c ∷ p))) (at t (drop r.taken (c ∷ p)) ++ run_of qs) _ _ _ (called got) (worked_offered w)
      (ap (λ (l : List (Item Event)). l ++ run_of qs) (at_parts t r.taken (c ∷ p)) ∙ append_assoc (at t (take r.taken (c ∷ p))) (at t (drop r.taken (c ∷ p))) (run_of qs))

  module _ (wide : (k : ℕ) → longest_frame ≤ room k) where
    -- a call of the loop: "With a piece that is not empty, an accepted call takes at least one byte."
    module _ {k : ℕ} {b : Board} {before after : List ℕ} {r : Call} {t c : ℕ} {p : List ℕ} (sound : sound_board b ≡ true) (short : length (c ∷ p) ≤ longest_piece)
        (long : length before ≡ room k) (got : Answers b t (c ∷ p) before r after) where
      zero_number : r.number ≡ 0
      zero_number = numbered got ∙ rw (le-ltb longest_piece (length (c ∷ p)) short, le-ltb (length before) longest_frame (omega (arith, long, wide k)), sound)

      some_taken : 0 < r.taken
      some_taken = takes got zero_number (omega arith)

      rest_short : length (drop r.taken (c ∷ p)) ≤ longest_piece
      rest_short = omega (arith, length-drop r.taken (c ∷ p))

    -- AT MOST ONE CALL FOR EACH BYTE
    pub worked_most : {k n : ℕ} {b : Board} {qs : List Piece} {x : Said Order Board} → sound_board b ≡ true → Short qs → Worked room k b qs n x → n ≤ k + length (bytes_in qs)
    worked_most sound short (over k b) = omega arith
    worked_most sound short (past t qs w) = worked_most sound short.1 w
    worked_most sound short (call {k} {n} {r = r} t c p qs long got w) =
        let ih = worked_most (keeps_sound got sound) (rest_short sound short.0 long got, short.1) w in
        omega (arith, ih, some_taken sound short.0 long got, length-append (c ∷ p) (bytes_in qs), length-append (drop r.taken (c ∷ p)) (bytes_in qs), length-drop r.taken (c ∷ p))

    -- AND EVERY LIST OF PIECES IS OFFERED TO ITS END: the piece in front, of at most f bytes, and then the rest
    abbrev Ends : List Piece → Type 0
    Ends qs = (k : ℕ) (b : Board) → sound_board b ≡ true → (n : ℕ) × (x : Said Order Board) × Worked room k b qs n x

    abbrev Front : ℕ → List Piece → ℕ → Type 0
    Front t qs f = (p : List ℕ) → length p ≤ f → length p ≤ longest_piece → Ends (record { stamp = t; bytes = p } ∷ qs)

    one_call : (t : ℕ) (qs : List Piece) (f : ℕ) → Ends qs → Front t qs f → Front t qs (suc f)
    one_call t qs f rest less [] few short k b sound = let w = rest k b sound in (w.0, w.1, past t qs w.2)
    one_call t qs f rest less (c ∷ p) few short k b sound =
        let before : List ℕ = replicate (room k) 0 in
        let long : length before ≡ room k = length-replicate (room k) 0 in
        let answered = some_answer b t (c ∷ p) before in
        let taken = answered.0.taken in
        let got = answered.2 in
        let few_left : length (drop taken (c ∷ p)) ≤ f = omega (arith, some_taken sound short long got, length-drop taken (c ∷ p)) in
        let w = less (drop taken (c ∷ p)) few_left (rest_short sound short long got) (suc k) _ (keeps_sound got sound) in
        (w.0, _, call t c p qs long got w.2)

    piece_ends : (f t : ℕ) (qs : List Piece) → Ends qs → Front t qs f
    piece_ends zero t qs rest [] few short k b sound = let w = rest k b sound in (w.0, w.1, past t qs w.2)
    piece_ends zero t qs rest (c ∷ p) few short k b sound = absurd (omega arith)
    piece_ends (suc f) t qs rest p few short k b sound = one_call t qs f rest (piece_ends f t qs rest) p few short k b sound

    pub workable : (qs : List Piece) → Short qs → (k : ℕ) (b : Board) → sound_board b ≡ true → (n : ℕ) × (x : Said Order Board) × Worked room k b qs n x
    workable [] short k b sound = (k, quiet b, over k b)
    workable (q ∷ qs) short k b sound = piece_ends (length q.bytes) q.stamp qs (workable qs short.1) q.bytes (omega arith) short.0 k b sound
