-- One whole unit, offered alone to a sound board with nothing unfinished: over `receive`'s own promise. Assumes nothing.
use mathlib.Core.Path.{◌≡◌, refl, ap, ◌∙◌}
use mathlib.Core.List.{List, []}
use Prim.Native.Nat.{ℕ, ◌≤◌, ◌<◌}
use native.Mathlib.Omega.{arith}
use lib.ListN.{length, take}
use borrow.Author.Tests.{ne_eqb}
use Rattle.rule.specs.Run.{late}
use Rattle.rule.specs.Framing.{whole}
use Rattle.rule.specs.Rule.{State, state_at}
use Rattle.rule.specs.Calls.{Called, accept, call}
use Rattle.rule.specs.Ready.{ready}
use Rattle.rule.proofs.Loop.{over}
use Rattle.rule.proofs.Choice.{either}
use Rattle.rule.proofs.Numbered.{call_accepted}
use Rattle.rule.proofs.Units.{unit_alone}
use Rattle.orders.specs.Orders.{given}
use Rattle.names.specs.Names.{need}
use Rattle.orders.specs.declared.Order.{Order}
use Rattle.names.proofs.Need.{need_law}
use Rattle.unit.specs.Unit.{act}
use Rattle.unit.specs.Protocol.{protocol}
use Rattle.unit.specs.declared.Memory.{Memory}
use Rattle.unit.proofs.Replies.{act_order, act_most}
use Rattle.state.specs.State.{state_of, board_of}
use Rattle.state.specs.Sound.{refusal_of}
use Rattle.state.specs.declared.Board.{Board}
use Rattle.state.specs.Call.{Call}
use Rattle.state.proofs.Boards.{refusal_none}
use Rattle.receiver.specs.Receive.{answer}
use Rattle.receiver.proofs.Calls.{accept_readied}
use Rattle.demands.specs.Calls.{Answers}
use Rattle.demands.proofs.Calls.{promise, written_is}
use Rattle.link.specs.Asking.{Ready}

-- a wait drops nothing where nothing is unfinished
idle_ready : (m : Memory) (t later : ℕ) → ready protocol (state_at m [] t) later ≡ state_at m [] later
unfolding ready
idle_ready m t later = either (λ (s : State Memory). s ≡ state_at m [] later) (late later t) _ _ refl refl

-- a whole unit alone, whatever the last stamp
alone_accepted : (m : Memory) (t later room : ℕ) (u : List ℕ) → protocol.least_room ≤ room → 0 < length u → need u ≡ length u
    → let a = act m (whole u) in accept protocol (state_at m [] t) later room u ≡ over (length u) a.reply a.orders (state_at a.next [] later)
alone_accepted m t later room u wide some is =
    accept_readied (state_at m [] t) later room u wide some ∙ ap (λ (s : State Memory). accept protocol s later room u) (idle_ready m t later)
    ∙ unit_alone protocol need_law m later room u is (omega (arith, act_most m u))

-- the unit u is accepted and taken whole, and the call says what the unit does
pub record Taken (b : Board) (t : ℕ) (u : List ℕ) (r : Call) (after : List ℕ) : Type 0 where
  pub number : r.number ≡ 0
  pub taken : r.taken ≡ length u
  pub written : r.written ≡ length (act b.memory (whole u)).reply
  pub reply : take r.written after ≡ (act b.memory (whole u)).reply
  pub order : given r.order ≡ (act b.memory (whole u)).orders
  pub board : r.board ≡ board_of (state_at (act b.memory (whole u)).next [] t)

pub taken_alone : {b : Board} {t : ℕ} {u before after : List ℕ} {r : Call} → Answers b t u before r after → Ready b → protocol.least_room ≤ length before
    → length u ≤ protocol.longest_piece → 0 < length u → need u ≡ length u → Taken b t u r after
taken_alone {b} {t} {u} {before} {after} {r} got can wide fits some is =
    let m = b.memory in
    let a = act m (whole u) in
    let at_rest = ap (λ (n : ℕ). state_at m (take n b.held) b.stamp) can.idle in
    let call_is : call protocol (refusal_of b) (state_of b) t (length before) u ≡ over (length u) a.reply a.orders (state_at a.next [] t) =
    call_accepted protocol (refusal_of b) (state_of b) t (length before) u fits wide (refusal_none b can.sound)
    ∙ ap (λ (s : State Memory). accept protocol s t (length before) u) at_rest
    ∙ alone_accepted m b.stamp t (length before) u wide some is in
    let answer-is = (promise got).result ∙ ap (answer b) call_is in
    record {
      number = ap (λ (y : Call). y.number) answer-is;
      taken = ap (λ (y : Call). y.taken) answer-is;
      written = ap (λ (y : Call). y.written) answer-is;
      reply = written_is got ∙ ap (λ (y : Called Order Memory). y.said.reply) call_is;
      order = ap (λ (y : Call). given y.order) answer-is ∙ act_order m u;
      board = ap (λ (y : Call). y.board) answer-is ∙ rw (ne_eqb (length u) 0 (λ e. omega arith));
    }
