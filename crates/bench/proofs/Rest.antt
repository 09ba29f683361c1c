-- What is left of a run, and the board that it will leave. Assumes nothing.
use Prim.Native.Nat.{ℕ, suc, ◌+◌, ◌-◌, ◌≤◌, ◌<◌}
use mathlib.Core.Bool.{true}
use mathlib.Core.List.{List, [], ◌++◌}
use mathlib.Core.Path.{◌≡◌, ap, sym, ◌∙◌}
use native.Mathlib.Omega.{arith}
use lib.ListN.{length, take, drop, take-append-drop, length-drop, drop_of_length-le}
use lib.Seq.{take_all}
use Rattle.rule.specs.Run.{Item, at}
use Rattle.rule.specs.Rule.{Said, State, whole_run}
use Rattle.rule.specs.Step.{steps}
use Rattle.rule.specs.Calls.{Called, call}
use Rattle.rule.specs.Facts.{TakesSteps}
use Rattle.rule.proofs.Steps.{steps_append, steps_is_whole}
use Rattle.rule.proofs.Calls.{at_append, call_steps}
use Rattle.sheet.specs.Lengths.{longest_piece}
use Rattle.orders.specs.declared.Order.{Order}
use Rattle.names.proofs.Need.{need_law}
use Rattle.unit.specs.Unit.{Event, fresh_memory}
use Rattle.unit.specs.Protocol.{protocol, sound_state, fresh_state}
use Rattle.unit.specs.declared.Memory.{Memory}
use Rattle.unit.proofs.Sound.{steps_sound, fresh_sound}
use Rattle.state.specs.State.{state_of, board_of}
use Rattle.state.specs.Sound.{sound_board, refusal_of}
use Rattle.state.specs.declared.Board.{Board}
use Rattle.state.specs.Call.{Call}
use Rattle.state.proofs.Boards.{state_board, refusal_none}
use Rattle.receiver.specs.Receive.{answer}
use Rattle.receiver.proofs.Calls.{call_board}
use Rattle.bench.specs.Trace.{reply_room, calls_for}
use Rattle.bench.proofs.Calls.{calls_some, calls_most, call_takes, calls_last, calls_next}

-- the board b is sound, with zeros behind its unfinished bytes, and the run r leads from it to `end`
pub record Leads (end : State Memory) (b : Board) (r : List (Item Event)) : Type 0 where
  pub sound : sound_board b ≡ true
  pub form : b ≡ board_of (state_of b)
  pub ends : (steps protocol (state_of b) r).next ≡ end

-- a fresh board, and any run
pub starts : {b : Board} (r : List (Item Event)) → b ≡ board_of fresh_state → Leads (whole_run protocol fresh_memory 0 r).next b r
starts {b} r e =
    let s : state_of b ≡ fresh_state = ap state_of e ∙ state_board fresh_state in
    record {
      sound = ap sound_state s ∙ fresh_sound;
      form = e ∙ ap board_of (sym s);
      ends = ap (λ (x : State Memory). (steps protocol x r).next) s
          ∙ ap (λ (a : Said Order (State Memory)). a.next) (steps_is_whole protocol need_law fresh_memory 0 r);
    }

-- nothing is left
pub arrived : {end : State Memory} {b : Board} {r : List (Item Event)} → Leads end b r → r ≡ [] → b ≡ board_of end
unfolding steps
arrived {end} {b} l e = l.form ∙ ap (λ (q : List (Item Event)). board_of (steps protocol (state_of b) q).next) (sym e) ∙ ap board_of l.ends

-- bytes from the front that share a stamp are passed by the byte steps
pub passed : {end : State Memory} {b next : Board} (t : ℕ) (u : List ℕ) (r : List (Item Event)) → Leads end b (at t u ++ r)
    → next ≡ board_of (steps protocol (state_of b) (at t u)).next → Leads end next r
passed {end} {b} {next} t u r l e =
    let s : state_of next ≡ (steps protocol (state_of b) (at t u)).next = ap state_of e ∙ state_board _ in
    record {
      sound = ap sound_state s ∙ steps_sound (state_of b) t u l.sound;
      form = e ∙ ap board_of (sym s);
      ends = ap (λ (x : State Memory). (steps protocol x r).next) s
          ∙ ap (λ (a : Said Order (State Memory)). a.next) (sym (steps_append protocol (at t u) r (state_of b))) ∙ l.ends;
    }

-- a part of p from the place k on, as the code takes it
abbrev pub from : ℕ → List ℕ → List ℕ
from k p = take (length p - k) (drop k p)

pub tail : (k : ℕ) (p : List ℕ) → from k p ≡ drop k p
tail k p = take_all (length p - k) (drop k p) (omega (arith, length-drop k p))

pub length_tail : (k : ℕ) (p : List ℕ) → length (from k p) ≡ length p - k
length_tail k p = ap length (tail k p) ∙ length-drop k p

-- the piece p is taken up to the bytes `rest`, by n calls from the state x, and left the board b
pub record Partly (x : State Memory) (t : ℕ) (p rest : List ℕ) (b : Board) (n : ℕ) : Type 0 where
  pub within : length rest ≤ length p
  pub leads : Leads (steps protocol x (at t p)).next b (at t rest)
  pub counts : n + calls_for (state_of b) t rest ≡ calls_for x t p

-- one more call answers r
pub record Turn (x : State Memory) (t : ℕ) (p rest : List ℕ) (n : ℕ) (r : Call) : Type 0 where
  pub room : n ≤ longest_piece
  pub fits : r.taken ≤ length rest
  pub last : length (from r.taken rest) ≡ 0 → (r.board ≡ board_of (steps protocol x (at t p)).next) × (n + 1 ≡ calls_for x t p)
  pub less : 0 < length (from r.taken rest) → length (from r.taken rest) < length rest
  pub next : 0 < length (from r.taken rest) → Partly x t p (from r.taken rest) r.board (n + 1)

module _ {x : State Memory} {b : Board} {n : ℕ} {r : Call} (t : ℕ) (p rest : List ℕ) (few : length p ≤ longest_piece) (l : Partly x t p rest b n)
    (is : r ≡ answer b (call protocol (refusal_of b) (state_of b) t reply_room rest)) where
  abbrev c : Called Order Memory
  c = call protocol 0 (state_of b) t reply_room rest

  -- a call is the byte steps over what it took
  taken_steps : TakesSteps protocol (state_of b) t rest c
  taken_steps = call_steps protocol 0 rest (state_of b) t reply_room

  called : r ≡ answer b c
  called = rw (refusal_none b l.leads.sound) at is

  taken_is : r.taken ≡ c.taken
  taken_is = ap (λ (y : Call). y.taken) called

  left_is : r.board ≡ board_of c.said.next
  left_is =
      ap (λ (y : Call). y.board) called ∙ ap (λ (y : Board). (answer y c).board) l.leads.form ∙ call_board 0 (state_of b) t reply_room rest

  rest_leads : Leads (steps protocol x (at t p)).next r.board (at t (drop r.taken rest))
  rest_leads =
      let front = take r.taken rest in
      let back = drop r.taken rest in
      let split : at {E = Event} t rest ≡ at t front ++ at t back = ap (at t) (sym (take-append-drop r.taken rest)) ∙ at_append t front back in
      let same : c.said ≡ steps protocol (state_of b) (at t front) =
      taken_steps.same ∙ ap (λ (m : ℕ). steps protocol (state_of b) (at t (take m rest))) (sym taken_is) in
      passed t front (at t back) (rw split at l.leads) (left_is ∙ ap (λ (a : Said Order (State Memory)). board_of a.next) same)

  few_left : length rest ≤ longest_piece
  few_left = omega (arith, l.within)

  -- the calls for what was left are this one and those for what it leaves
  counted : r.taken < length rest → calls_for (state_of b) t rest ≡ suc (calls_for (state_of r.board) t (drop r.taken rest))
  counted h =
      let left : drop c.taken rest ≡ drop r.taken rest = ap (λ (m : ℕ). drop m rest) (sym taken_is) in
      let state : c.said.next ≡ state_of r.board = sym (ap state_of left_is ∙ state_board _) in
      calls_next t (state_of b) rest few_left (omega (arith, taken_is)) ∙ rw (left, state)

  all : length (from r.taken rest) ≡ 0 → length rest ≤ r.taken
  all h = omega (arith, h, length_tail r.taken rest)

  more : 0 < length (from r.taken rest) → r.taken < length rest
  more h = omega (arith, h, length_tail r.taken rest)

  some : 0 < length rest → 0 < r.taken
  some h = rw taken_is (call_takes t (state_of b) rest few_left h)

  pub turn : Turn x t p rest n r
  turn =
      record {
        room = omega (arith, l.counts, calls_some t (length rest) (state_of b) rest, calls_most t (length p) x p);
        fits = omega (arith, taken_is, taken_steps.most);
        last = λ h. (
          arrived rest_leads (ap (at t) (drop_of_length-le rest (all h))),
          omega (arith, l.counts, calls_last t (state_of b) rest few_left (omega (arith, taken_is, all h))),
        );
        less = λ h. omega (arith, length_tail r.taken rest, some (omega (arith, more h)));
        next = λ h. rw (tail r.taken rest) (record {
          within = omega (arith, l.within, length-drop r.taken rest);
          leads = rest_leads;
          counts = omega (arith, l.counts, counted (more h));
        });
      }
