-- The demands of one call, over what the contract of `receive` itself says. In quotation marks: sheet 01, "One call", and the demands by number.
-- Assumes nothing.
use Prim.Native.Nat.{ℕ, ◌<◌, ◌≤◌}
use mathlib.Core.Path.{◌≡◌, refl, ap, sym, ◌∙◌}
use mathlib.Core.Bool.{true, cond}
use mathlib.Core.List.{List, [], ◌∷◌, ◌++◌}
use native.Mathlib.Omega.{arith}
use denote.Ref.{Bor, MutBor}
use lib.Dec.{eqb, ltb}
use lib.ListN.{length, take, drop}
use lib.Seq.{take-append_seam, drop-append_seam}
use Rattle.sheet.specs.Lengths.{longest_frame, longest_piece}
use Rattle.rule.specs.Rule.{Said, quiet, State}
use Rattle.rule.specs.Calls.{Called, call}
use Rattle.rule.specs.Facts as facts
use Rattle.rule.specs.Facts.{Stopped, Largest}
use Rattle.rule.proofs.Calls.{call_steps, call_none, call_stamp}
use Rattle.rule.proofs.Progress.{accept_stops}
use Rattle.rule.proofs.Largest.{accept_largest, largest_one}
use Rattle.rule.proofs.Numbered.{Accepted, call_number, call_zero, call_fits}
use Rattle.orders.specs.Orders.{given}
use Rattle.orders.specs.declared.Order.{Order}
use Rattle.orders.specs.declared.Order.TheVariants.{Nothing}
use Rattle.unit.specs.Unit.{order_of}
use Rattle.unit.specs.Protocol.{protocol, sound_state}
use Rattle.unit.specs.declared.Memory.{Memory}
use Rattle.unit.proofs.Sound.{call_sound}
use Rattle.state.specs.State.{state_of, board_of}
use Rattle.state.specs.Sound.{sound_board, refusal_of}
use Rattle.state.specs.Returned.{Returned}
use Rattle.state.specs.declared.Board.{Board}
use Rattle.state.specs.Call.{Call}
use Rattle.receiver.specs.Receive.{answer}
use Rattle.receiver.proofs.Calls.{answer_given, call_order, call_state, accept_some}
use Rattle.demands.specs.Calls.{Answers, allowed, Untouched, Cause, ended, ordered, full}

-- ---- what the contract allows

-- what it says
pub promise : {b : Board} {t : ℕ} {p before after : List ℕ} {r : Call} → Answers b t p before r after
    → Returned (answer b) (call protocol (refusal_of b) (state_of b) t (length before) p) before r after
promise (allowed κs a x s got e f g h l k) = rw (← l, ← e, ← f, ← g, ← h, ← k) got

-- "that promise leaves one possible answer: number, state and each byte of the reply buffer, refusals too"
pub receive_one : {b : Board} {t : ℕ} {p before after after' : List ℕ} {r r' : Call} → Answers b t p before r after → Answers b t p before r' after'
    → (r ≡ r') × (after ≡ after')
receive_one x y = ((promise x).result ∙ sym (promise y).result, (promise x).reply ∙ sym (promise y).reply)

-- a reference to a list, and one by which it may be changed, to show an answer with
abbrev pub ref_to : List ℕ → Bor (List ℕ)
ref_to l = record { ref_ptr = (0, 0); now = l }

abbrev pub lent_to : List ℕ → MutBor (List ℕ)
lent_to l = record { ref_ptr = (0, 0); ghost_name = 0; now = l }

-- Demand 1: "Every board state, piece of bytes, time stamp and reply buffer gets an answer."
pub receive_some : (b : Board) (t : ℕ) (p before : List ℕ) → let c = call protocol (refusal_of b) (state_of b) t (length before) p in
    Answers b t p before (answer b c) (c.said.reply ++ drop (length c.said.reply) before)
receive_some b t p before =
    let c = call protocol (refusal_of b) (state_of b) t (length before) p in
    let after = c.said.reply ++ drop (length c.said.reply) before in
    let given = answer_given b t (length before) p in
    allowed ([], ([], tt)) (b, (ref_to p, (t, (lent_to before, tt)))) given.0 (b, (ref_to p, (t, (lent_to after, tt)))) (record { result = given.1; reply = refl })
    refl refl refl refl given.1 refl

-- ---- one call

module _ {b : Board} {t : ℕ} {p before after : List ℕ} {r : Call} (got : Answers b t p before r after) where
  -- the rule's call
  abbrev pub rules : Called Order Memory
  rules = call protocol (refusal_of b) (state_of b) t (length before) p

  pub is_number : r.number ≡ rules.number
  is_number = ap (λ (y : Call). y.number) (promise got).result

  pub is_taken : r.taken ≡ rules.taken
  is_taken = ap (λ (y : Call). y.taken) (promise got).result

  pub is_written : r.written ≡ length rules.said.reply
  is_written = ap (λ (y : Call). y.written) (promise got).result

  pub is_order : r.order ≡ order_of rules.said.orders
  is_order = ap (λ (y : Call). y.order) (promise got).result

  -- whatever the board's spare bytes
  pub is_state : state_of r.board ≡ rules.said.next
  is_state = ap (λ (y : Call). state_of y.board) (promise got).result ∙ call_state b t (length before) p

  -- "A fresh board is sound and each call keeps it so"
  pub keeps_sound : sound_board b ≡ true → sound_board r.board ≡ true
  keeps_sound h = ap sound_state is_state ∙ call_sound (refusal_of b) (state_of b) t (length before) p h

  -- Demand 1: "A piece over 250 bytes, a reply room under 48 or an unsound board state is refused by number" (93 since 02's P6); "When, tested in
  -- this sequence"
  pub numbered : r.number ≡ cond (ltb longest_piece (length p)) 1 (cond (ltb (length before) longest_frame) 2 (cond (sound_board b) 0 3))
  numbered = is_number ∙ (call_number protocol (refusal_of b) (state_of b) t (length before) p).number

  -- a call that takes nothing changes nothing
  pub untouched : r.taken ≡ 0 → Untouched b before r after
  untouched h =
      let k : rules.taken ≡ 0 = sym is_taken ∙ h in
      let n : rules.said ≡ quiet (state_of b) = call_none protocol (refusal_of b) (state_of b) t (length before) p k in
      record {
        taken = h;
        written = is_written ∙ ap (λ (x : Said Order (State Memory)). length x.reply) n;
        order = is_order ∙ ap (λ (x : Said Order (State Memory)). order_of x.orders) n;
        board = ap (λ (y : Call). y.board) (promise got).result ∙ ap (λ (m : ℕ). cond (eqb m 0) b (board_of rules.said.next)) k;
        buffer = (promise got).reply ∙ ap (λ (x : Said Order (State Memory)). x.reply ++ drop (length x.reply) before) n;
      }

  -- Demand 1: "refused by number: no byte is taken, the state and the reply buffer stay"
  pub refused_untouched : (r.number ≡ 0 → ⊥) → Untouched b before r after
  refused_untouched h = untouched (is_taken ∙ (call_number protocol (refusal_of b) (state_of b) t (length before) p).refused (λ e. h (is_number ∙ e)))

  -- "An empty piece changes nothing, the last stamp included."
  pub empty : length p ≡ 0 → Untouched b before r after
  empty h = untouched (is_taken ∙ omega (arith, (call_steps protocol (refusal_of b) p (state_of b) t (length before)).most))

  -- "Each byte taken sets the last stamp."
  pub sets_stamp : 0 < r.taken → r.board.stamp ≡ t
  sets_stamp h = ap (λ (y : State Memory). y.line.last) is_state ∙ call_stamp protocol (refusal_of b) (state_of b) t (length before) p (rw is_taken at h)

  -- "Each reply is written straight behind the one before it in the same buffer": what is written is what the rule says, and it fits
  pub written_is : take r.written after ≡ rules.said.reply
  written_is = rw (is_written, (promise got).reply) (take-append_seam rules.said.reply (drop (length rules.said.reply) before))

  pub written_fits : r.written ≤ length before
  written_fits = rw is_written (call_fits protocol (refusal_of b) (state_of b) t (length before) p)

  -- "every byte past the written part keeps its value"
  pub past_kept : drop r.written after ≡ drop r.written before
  past_kept = rw (is_written, (promise got).reply) (drop-append_seam rules.said.reply (drop (length rules.said.reply) before))

  -- the number 0: an accepted call
  module _ (zero : r.number ≡ 0) where
    accepted : Accepted protocol (refusal_of b) (state_of b) t (length before) p rules
    accepted = call_zero protocol (refusal_of b) (state_of b) t (length before) p (sym is_number ∙ zero)

    -- "With a piece that is not empty, an accepted call takes at least one byte."
    pub takes : 0 < length p → 0 < r.taken
    takes some = rw (is_taken, accepted.same) (accept_some (state_of b) t (length before) p accepted.wide some)

    -- "An accepted call takes bytes from the front until one of three things", "It stops for no other cause."
    pub stops : Cause t p before r
    stops =
        by rules (call_order (refusal_of b) (state_of b) t (length before) p) (promise got).result is_state
        (rw accepted.same (accept_stops protocol p (state_of b) t (length before)))
      where
        by : (c : Called Order Memory) → given (order_of c.said.orders) ≡ c.said.orders → r ≡ answer b c → state_of r.board ≡ c.said.next
            → Stopped protocol t (length before) p c → Cause t p before r
        by c one same next (facts.ended e) = ended (ap (λ (y : Call). y.taken) same ∙ e)
        by c one same next (facts.ordered o os e) =
            ordered
            (λ n.
            let z : given Nothing ≡ o ∷ os = ap given (sym n ∙ ap (λ (y : Call). y.order) same) ∙ one ∙ e in
            let k : ◌≡◌ {A = ℕ} 0 1 = cc in
            omega arith)
        by c one same next (facts.full x rest e k) =
            full x rest (rw (ap (λ (y : Call). y.taken) same) e) (rw (ap (λ (y : Call). y.written) same, next) k)

    -- the exact count: "takes bytes from the front until one of three things", so at the count taken one holds, and at no count before it
    pub largest : Largest protocol (state_of b) t (length before) p r.taken
    largest = rw (is_taken, accepted.same) (accept_largest protocol (state_of b) t (length before) p)

    -- and no other count is the answer: shut out is "one that invents the count of bytes taken"
    pub only_count : (n : ℕ) → Largest protocol (state_of b) t (length before) p n → r.taken ≡ n
    only_count n h = largest_one protocol largest h
