-- What a call is at this protocol and this board: an accepted call as the loop makes it, and what its answer leaves.
-- The table of refusals is the rule's (Numbered). Assumes nothing.
use Prim.Native.Nat.{ℕ, ◌≤◌, ◌<◌}
use mathlib.Core.Path.{◌≡◌, refl, ap, sym, subst, ◌∙◌}
use mathlib.Core.Bool.{cond}
use mathlib.Core.List.{List, [], ◌∷◌}
use native.Mathlib.Omega.{arith}
use lib.Dec.{eqb}
use lib.ListN.{length}
use borrow.Author.Tests.{eq-eqb, ne_eqb, eqb-true}
use Rattle.std.specs.Prelude.{Result, Ok, Err}
use Rattle.rule.specs.Rule.{Said, State}
use Rattle.rule.specs.Calls.{Called, accept, call}
use Rattle.rule.specs.Ready.{ready}
use Rattle.rule.proofs.Choice.{either_by}
use Rattle.rule.proofs.Calls.{call_none}
use Rattle.rule.proofs.Loop.{accept_ready, accept_number}
use Rattle.rule.proofs.Progress.{step_says, accept_takes, accept_orders}
use Rattle.rule.proofs.Numbered.{call_by, call_accepted, call_long, call_room, call_unsound, call_empty}
use Rattle.sheet.specs.Lengths.{longest_frame, longest_piece}
use Rattle.orders.specs.Orders.{given}
use Rattle.orders.specs.declared.Order.{Order}
use Rattle.orders.specs.declared.Order.TheVariants.{Nothing}
use Rattle.unit.specs.Unit.{order_of}
use Rattle.unit.specs.Protocol.{protocol}
use Rattle.unit.specs.declared.Memory.{Memory}
use Rattle.unit.proofs.Replies.{act_order, silent, reply_most}
use Rattle.state.specs.State.{state_of, board_of}
use Rattle.state.specs.Sound.{refusal_of}
use Rattle.state.specs.declared.Board.{Board}
use Rattle.state.specs.declared.Rest.{Rest}
use Rattle.state.specs.declared.Done.{Done}
use Rattle.state.specs.declared.Refusal.{Refusal}
use Rattle.state.specs.declared.Refusal.TheVariants.{Length, Room, Unsound}
use Rattle.state.specs.Parts.{board_at, rest_of}
use Rattle.state.specs.Refused.{number_of}
use Rattle.state.proofs.Refused.{number_some}
use Rattle.state.specs.Call.{Call, refused_call, call_in, call_lent}
use Rattle.state.proofs.Boards.{state_board, refusal_three}
use Rattle.state.specs.Returned.{Returned}
use Rattle.line.specs.Line.{ran}
use Rattle.receiver.specs.Receive.{answer, Receives}

-- ---- an accepted call

-- "With a piece that is not empty, an accepted call takes at least one byte."
pub accept_some : (s : State Memory) (t room : ℕ) (piece : List ℕ) → longest_frame ≤ room → 0 < length piece → 0 < (accept protocol s t room piece).taken
accept_some s t room [] h k = absurd (omega arith)
accept_some s t room (x ∷ piece) h k = accept_takes protocol s t room x piece (omega (arith, reply_most s t x))

-- its first byte finds the state ready
pub accept_readied : (s : State Memory) (t room : ℕ) (piece : List ℕ) → longest_frame ≤ room → 0 < length piece
    → accept protocol s t room piece ≡ accept protocol (ready protocol s t) t room piece
accept_readied s t room [] h k = absurd (omega arith)
accept_readied s t room (x ∷ piece) h k = accept_ready protocol silent s t room x piece (omega (arith, reply_most s t x))

-- what the loop makes of it is the call
pub ran_call : (b : Board) (t : ℕ) (piece before after : List ℕ) (r : Call) → length piece ≤ longest_piece → longest_frame ≤ length before → refusal_of b ≡ 0
    → 0 < length piece → Returned ran (accept protocol (ready protocol (state_of b) t) t (length before) piece) before r after
    → Returned (answer b) (call protocol (refusal_of b) (state_of b) t (length before) piece) before r after
ran_call b t piece before after r fits wide sound some got =
    let room = length before in
    let is = call_accepted protocol (refusal_of b) (state_of b) t room piece fits wide sound in
    let takes : 0 < (call protocol (refusal_of b) (state_of b) t room piece).taken = rw is (accept_some (state_of b) t room piece wide some) in
    let done = rw (sym (is ∙ accept_readied (state_of b) t room piece wide some)) at got in
    record { result = done.result ∙ rw (ne_eqb (call protocol (refusal_of b) (state_of b) t room piece).taken 0 (λ e. omega arith)); reply = done.reply }

-- ---- a call that takes nothing

module _ (b : Board) (t : ℕ) (piece before : List ℕ) where
  pub too_long : longest_piece < length piece → Receives b t piece before (refused_call b Length) before
  too_long long = rw (call_long protocol (refusal_of b) (state_of b) t (length before) piece long) (record { result = refl; reply = refl })

  module _ (fits : length piece ≤ longest_piece) where
    pub too_little_room : length before < longest_frame → Receives b t piece before (refused_call b Room) before
    too_little_room narrow = rw (call_room protocol (refusal_of b) (state_of b) t (length before) piece fits narrow) (record { result = refl; reply = refl })

    pub unsound : longest_frame ≤ length before → (e : Refusal) → number_of e ≡ refusal_of b → Receives b t piece before (refused_call b e) before
    unsound wide e is =
        rw (call_unsound protocol (refusal_of b) (state_of b) t (length before) piece fits wide (λ z. number_some e (is ∙ z)), ← is)
        (record { result = refl; reply = refl })

  pub empty : longest_frame ≤ length before → refusal_of b ≡ 0 → length piece ≡ 0
      → Receives b t piece before (record { number = 0; taken = 0; written = 0; order = Nothing; board = b }) before
  empty wide sound none = rw (call_empty protocol (refusal_of b) (state_of b) t (length before) piece wide sound none) (record { result = refl; reply = refl })

-- every call gets some answer of the code's
pub answer_given : (b : Board) (t room : ℕ) (piece : List ℕ)
    → (x : Result (Done Board) Refusal) × (call_in b x ≡ answer b (call protocol (refusal_of b) (state_of b) t room piece))
answer_given b t room piece =
    call_by protocol (refusal_of b) (state_of b) t room piece (λ (c : Called Order Memory). (x : Result (Done Board) Refusal) × (call_in b x ≡ answer b c))
    (λ _. (Err Length, refl)) (λ _ _. (Err Room, refl))
    (λ _ _ other. (Err Unsound, let three = refusal_three b other in λ i. record { number = sym three i; taken = 0; written = 0; order = Nothing; board = b }))
    (λ _ _ _.
    let c = accept protocol (state_of b) t room piece in
    let a = answer b c in
    let none = accept_number protocol (state_of b) t room piece in (
      Ok (record { board = a.board; taken = a.taken; written = a.written; order = a.order }),
      λ i. record { number = sym none i; taken = a.taken; written = a.written; order = a.order; board = a.board },
    ))

-- ---- a call on a board is a call on its parts

module _ (b : Board) (t : ℕ) (piece before after table held : List ℕ) (rest : Rest) (same : rest ≡ rest_of b) where
  abbrev Lent : Result (Done Rest) Refusal → Type 0
  Lent r = Receives (board_at b.memory.settings.bytes b.held rest) t piece before (call_lent table held rest r) after

  abbrev on : (r : Result (Done Rest) Refusal) → Lent r → Receives b t piece before (call_lent table held (rest_of b) r) after
  on r got = subst (λ (x : Rest). Receives (board_at b.memory.settings.bytes b.held x) t piece before (call_lent table held x r) after) same got

  -- its answer in parts is put together again
  pub together : (end : Board) (d : Done Rest) → end ≡ board_at table held d.board → Lent (Ok d)
      → Receives b t piece before (call_in b (Ok (record { board = end; taken = d.taken; written = d.written; order = d.order }))) after
  together end d is got =
      let whole = on (Ok d) got in
      record {
        result = (λ i. record { number = 0; taken = d.taken; written = d.written; order = d.order; board = is i }) ∙ whole.result;
        reply = whole.reply;
      }

  -- and a refusal leaves the board, as it takes nothing
  pub refused_whole : (e : Refusal) → Lent (Err e) → Receives b t piece before (call_in b (Err e)) after
  refused_whole e got =
      let whole = on (Err e) got in
      let p = whole.result in
      let none : (call protocol (refusal_of b) (state_of b) t (length before) piece).taken ≡ 0 = sym (ap (λ (x : Call). x.taken) p) in
      let stays : b ≡ (answer b (call protocol (refusal_of b) (state_of b) t (length before) piece)).board = rw (eq-eqb _ 0 none) in
      record { result = λ i. record { number = (p i).number; taken = (p i).taken; written = (p i).written; order = (p i).order; board = stays i }; reply = whole.reply }

-- ---- what an answer leaves

-- a call gives one order at most, and its answer's order tells it
abbrev Told : List Order → Type 0
Told os = given (order_of os) ≡ os

one_order : (piece : List ℕ) (s : State Memory) (t room : ℕ) → Told (accept protocol s t room piece).said.orders
one_order = accept_orders protocol Told refl (step_says protocol silent (λ _ os. Told os) refl act_order)

module _ (verdict : ℕ) (s : State Memory) (t room : ℕ) (piece : List ℕ) where
  abbrev c : Called Order Memory
  c = call protocol verdict s t room piece

  pub call_order : given (order_of c.said.orders) ≡ c.said.orders
  call_order =
      call_by protocol verdict s t room piece (λ (d : Called Order Memory). Told d.said.orders) (λ _. refl) (λ _ _. refl) (λ _ _ _. refl)
      (λ _ _ _. one_order piece s t room)

  -- the board that an answer leaves stands for what the rule leaves
  pub call_board : cond (eqb c.taken 0) (board_of s) (board_of c.said.next) ≡ board_of c.said.next
  call_board =
      either_by (λ (x : Board). x ≡ board_of c.said.next) (eqb c.taken 0) _ _
      (λ e. ap (λ (a : Said Order (State Memory)). board_of a.next) (sym (call_none protocol verdict s t room piece (eqb-true c.taken 0 e)))) (λ _. refl)

-- the same of the states, whatever the board's spare bytes
pub call_state : (b : Board) (t room : ℕ) (piece : List ℕ)
    → let c = call protocol (refusal_of b) (state_of b) t room piece in state_of (answer b c).board ≡ c.said.next
call_state b t room piece =
    let c = call protocol (refusal_of b) (state_of b) t room piece in
    either_by (λ (x : Board). state_of x ≡ c.said.next) (eqb c.taken 0) _ _
    (λ e. ap (λ (a : Said Order (State Memory)). a.next) (sym (call_none protocol (refusal_of b) (state_of b) t room piece (eqb-true c.taken 0 e))))
    (λ _. state_board c.said.next)
