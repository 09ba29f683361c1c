-- The line of a call: the bytes held that the wait leaves, and the piece behind them. Assumes nothing.
use mathlib.Core.Path.{◌≡◌, refl, ap, sym, subst, ◌∙◌}
use mathlib.Core.Bool.{Bool, true, false, cond}
use mathlib.Core.List.{List, [], ◌∷◌, ◌++◌}
use Prim.Native.Nat.{ℕ, ◌+◌, ◌-◌, ◌≤◌, ◌<◌}
use native.Mathlib.Nat.{zero-add}
use native.Mathlib.Omega.{arith}
use lib.Dec.{T, eqb, ltb}
use lib.ListN.{length, get_or, take, replicate, length-append, length-replicate}
use lib.Seq.{sets, length-take-le}
use borrow.Author.Tests.{eq-eqb, ne_eqb, eqb-false, ltb-true}
use Rattle.rule.specs.Run.{late}
use Rattle.rule.specs.Calls.{Called, accept}
use Rattle.rule.specs.Rule.{state_at}
use Rattle.rule.specs.Ready.{lose, ready}
use Rattle.rule.proofs.Loop.{over, later, accept_number, later_start}
use Rattle.rule.proofs.Units.{on_line, unit_open}
use Rattle.sheet.specs.Lengths.{longest_frame, longest_piece}
use Rattle.names.specs.Names.{need}
use Rattle.orders.specs.declared.Order.{Order}
use Rattle.orders.specs.declared.Order.TheVariants.{Nothing}
use Rattle.names.proofs.Need.{need_law, need_some, need_most, need_zero, need_name, need_more}
use Rattle.unit.specs.Unit.{act}
use Rattle.unit.specs.Protocol.{protocol}
use Rattle.unit.specs.declared.Memory.{Memory}
use Rattle.state.specs.State.{state_of, padded}
use Rattle.state.specs.Returned.{Returned}
use Rattle.state.specs.declared.Board.{Board}
use Rattle.state.specs.Call.{Call}
use Rattle.line.specs.Line.{ran, holding}
use Rattle.receiver.proofs.Lists.{line_long, line_is as line_at}

-- a line of n bytes in front of a buffer
pub record LaidOut (buffer line : List ℕ) (n : ℕ) : Type 0 where
  pub fits : n ≤ longest_frame + longest_piece
  pub room : n ≤ length buffer
  pub exact : take n buffer ≡ line

-- "without reply or flag": bytes that are dropped leave the memory
lose_is : (m : Memory) (u : List ℕ) → lose protocol m u ≡ m
unfolding act
lose_is m [] = refl
lose_is m (a ∷ u) = refl

module _ (b : Board) (t had : ℕ) (begun : b.count < need (take b.count b.held)) (is : had ≡ cond (late t b.stamp) 0 b.count) where
  abbrev u : List ℕ
  u = take had b.held

  abbrev m : Memory
  m = b.memory

  -- the wait drops them, or it does not
  pub had_cases : (P : ℕ → Type 0) → P 0 → P b.count → P had
  had_cases P none all = rw is (by (late t b.stamp))
    where
      by : (y : Bool) → P (cond y 0 b.count)
      by true = none
      by false = all

  pub had_short : had < longest_frame
  had_short = had_cases (λ (n : ℕ). n < longest_frame) (omega arith) (omega (arith, need_most (take b.count b.held)))

  -- the first byte of the piece finds the state ready
  readied : ready protocol (state_of b) t ≡ state_at m u t
  unfolding ready
  readied = by (late t b.stamp) refl
    where
      by : (y : Bool) → late t b.stamp ≡ y → ready protocol (state_of b) t ≡ state_at m u t
      by true e = let n : had ≡ 0 = is ∙ rw e in rw (e, n, lose_is m (take b.count b.held))
      by false e = let n : had ≡ b.count = is ∙ rw e in rw (e, n)

  -- where none are held, the call on the piece is the call from its front
  pub on_piece : had ≡ 0 → (piece before after : List ℕ) (r : Call) → Returned ran (accept protocol (state_at m [] t) t (length before) piece) before r after
      → Returned ran (accept protocol (ready protocol (state_of b) t) t (length before) piece) before r after
  on_piece none piece before after r got = rw (readied, none) got

  module _ (full : length b.held ≡ longest_frame) where
    pub had_long : length u ≡ had
    had_long = length-take-le had b.held (omega (arith, had_short))

    pub begins : length u < need u
    begins = rw had_long (had_cases (λ (n : ℕ). n < need (take n b.held)) (need_some []) begun)

    -- they and the piece are laid out
    pub laid : (piece one two : List ℕ) → one ≡ sets (replicate (longest_frame + longest_piece) 0) 0 b.held → two ≡ sets one had piece
        → length piece ≤ longest_piece → LaidOut two (u ++ piece) (had + length piece)
    laid piece one two first second few =
        let zeros = replicate {A = ℕ} (longest_frame + longest_piece) 0 in
        let wide = length-replicate {A = ℕ} (longest_frame + longest_piece) 0 in
        let long = line_long zeros b.held piece one two had first second in
        let fits : had + length piece ≤ longest_frame + longest_piece = omega (arith, had_short) in
        record {
          fits = fits;
          room = omega (arith, long, wide);
          exact = line_at zeros b.held piece one two had first second (omega (arith, had_short)) (omega (arith, wide)) (omega (arith, wide));
        }

    -- the call on the piece, by the call on the line
    module _ (line piece before after : List ℕ) (whole : line ≡ u ++ piece) (r : Call) (got : Returned ran (accept protocol (state_at m [] t) t (length before) line) before r after) where
      abbrev c : Called Order Memory
      c = accept protocol (ready protocol (state_of b) t) t (length before) piece

      line_is : accept protocol (state_at m [] t) t (length before) line ≡ later protocol had [] (ready protocol (state_of b) t) t (length before) piece
      line_is = rw (whole, readied) (on_line protocol need_law m u piece t (length before) begins ∙ rw had_long)

      on : Returned ran (later protocol had [] (ready protocol (state_of b) t) t (length before) piece) before r after
      on = rw line_is at got

      pub had_taken : had ≤ r.taken
      had_taken = rw (ap (λ (x : Call). x.taken) on.result) (omega arith)

      pub less_had : Returned ran c before (record { number = r.number; taken = r.taken - had; written = r.written; order = r.order; board = r.board }) after
      less_had =
          let k : had + c.taken - had ≡ c.taken = omega arith in
          record {
            result =
                (λ i. record { number = (on.result i).number; taken = (on.result i).taken - had; written = (on.result i).written; order = (on.result i).order; board = (on.result i).board })
                ∙ (λ i. record { number = sym (accept_number protocol (ready protocol (state_of b) t) t (length before) piece) i; taken = k i; written = (ran c).written; order = (ran c).order; board = (ran c).board });
            reply = on.reply;
          }

    -- a piece that ends no unit: all of it is held
    pub stays_open : (piece before held : List ℕ) (count : ℕ) → held ≡ padded (u ++ piece) → count ≡ had + length piece → length (u ++ piece) < need (u ++ piece)
        → Returned ran (accept protocol (ready protocol (state_of b) t) t (length before) piece) before
        (record { board = record { memory = m; held = held; count = count; stamp = t }; taken = length piece; written = 0; number = 0; order = Nothing }) before
    stays_open piece before held count laid counts h =
        let d = u ++ piece in
        let room = length before in
        let long : length d ≡ had + length piece = length-append u piece ∙ ap (λ (k : ℕ). k + length piece) had_long in
        let stays : accept protocol (state_at m [] t) t room d ≡ over (length d) [] [] (state_at m d t) =
        later_start protocol (state_at m [] t) t room d ∙ unit_open protocol need_law 0 [] m t room d h ∙ rw (zero-add (length d)) in
        let all : Returned ran (accept protocol (state_at m [] t) t room d) before (holding m Nothing t d (length d) 0) before = rw stays (record { result = refl; reply = refl }) in
        let taken : length d - had ≡ length piece = omega (arith, long) in
        let got = less_had d piece before before refl (holding m Nothing t d (length d) 0) all in
        record {
          result = (λ i. record { board = record { memory = m; held = laid i; count = (counts ∙ sym long) i; stamp = t }; taken = sym taken i; written = 0; number = 0; order = Nothing }) ∙ got.result;
          reply = got.reply;
        }

-- what `is_open` says of a beginning u, which wants n bytes where it has one, and the piece behind it
pub opens : (u piece : List ℕ) (had n : ℕ) → length u ≡ had → length u < need u → ((had ≡ 0 → ⊥) → n ≡ need u)
    → cond (eqb had 0) (cond (eqb (get_or piece 0 0) 0) false (ltb (length piece) 4)) (ltb (had + length piece) n) ≡ true → length (u ++ piece) < need (u ++ piece)
opens [] piece had n l h is e = by (eqb (get_or piece 0 0) 0) refl (rw (eq-eqb had 0 (sym l)) at e)
  where
    by : (y : Bool) → eqb (get_or piece 0 0) 0 ≡ y → cond y false (ltb (length piece) 4) ≡ true → length piece < need piece
    by true z f = absurd (subst T (sym f) tt)
    by false z f = let short = ltb-true (length piece) 4 f in omega (arith, short, need_name piece (eqb-false (get_or piece 0 0) 0 z) short)
opens (a ∷ u) piece had n l h is e =
    let some : had ≡ 0 → ⊥ = λ z. omega arith in
    need_more (a ∷ u) piece (λ z. omega (arith, need_zero (a ∷ u) z))
    (omega (arith, is some, length-append (a ∷ u) piece, ltb-true (had + length piece) n (rw (ne_eqb had 0 some) at e)))

-- so a piece behind what the wait leaves begins a unit still, by what `is_open` says, and there is room for it
module _ (b : Board) (t had : ℕ) (begun : b.count < need (take b.count b.held)) (is : had ≡ cond (late t b.stamp) 0 b.count) (full : length b.held ≡ longest_frame) where
  abbrev left : List ℕ
  left = take had b.held

  module _ (piece : List ℕ) (wants : ℕ) (told : wants ≡ need (take b.count b.held))
      (says : cond (eqb had 0) (cond (eqb (get_or piece 0 0) 0) false (ltb (length piece) 4)) (ltb (had + length piece) wants) ≡ true) where
    pub still : length (left ++ piece) < need (left ++ piece)
    still =
        opens left piece had wants (had_long b t had begun is full) (begins b t had begun is full)
        (had_cases b t had begun is (λ (n : ℕ). (n ≡ 0 → ⊥) → wants ≡ need (take n b.held)) (λ none. absurd (none refl)) (λ _. told)) says

    pub still_fits : had + length piece ≤ longest_frame
    still_fits = omega (arith, still, need_most (left ++ piece), length-append left piece, had_long b t had begun is full)
