-- A report of the time is the rule's event: what it does to a state, and in a run. In quotation marks: sheet 02, P3. Assumes nothing.
use Rattle.std.proofs.Common.{◌≡◌, ℕ, Bool, true, false, List, [], ◌∷◌, ◌++◌, length, sym, refl, ap, ◌∙◌, arith, lt-ltb}
use Rattle.rule.specs.Run.{Item, byte, event, late}
use Rattle.rule.specs.Rule.{Said, quiet, then, State, deal, whole_run, state_at}
use Rattle.rule.specs.Step.{feed_on, feed, step, steps}
use Rattle.rule.specs.TrueTime.{Entry, Watched, WholeClose, TrueDrops}
use Rattle.rule.proofs.Choice.{either}
use Rattle.rule.proofs.Steps.{steps_append, steps_is_whole}
use Rattle.rule.proofs.TrueTime.{true_time}
use Rattle.rule.proofs.Dropped.{true_drops}
use Rattle.orders.specs.declared.Order.{Order}
use Rattle.names.proofs.Need.{need_law}
use Rattle.unit.specs.Unit.{Event, clock, position, act}
use Rattle.unit.specs.Protocol.{protocol, sound_state}
use Rattle.unit.specs.declared.Memory.{Memory}
use Rattle.unit.proofs.Sound.{none_begun, sound_memory_lem, sound_from}
use Rattle.clock.specs.Clock.{overdue, dropped, clocked}
use Rattle.clock.specs.Timely.{NoneOverdue, without_clock}

-- THE RULE'S EVENT: "it is dropped; the last stamp stays", without a word
pub clock_step : (s : State Memory) (now : ℕ) → step protocol s (event (clock now)) ≡ quiet (clocked s now)
unfolding step feed feed_on deal act
clock_step s now = by s.line.unfinished (late now s.line.last) refl
  where
    by : (u : List ℕ) (y : Bool) → late now s.line.last ≡ y
        → let held : State Memory = state_at s.memory u s.line.last in step protocol held (event (clock now)) ≡ quiet (clocked held now)
    by [] y e = refl
    by (a ∷ u) true e = rw (e, lt-ltb 0 (length (a ∷ u)) (omega arith))
    by (a ∷ u) false e = rw (e, lt-ltb 0 (length (a ∷ u)) (omega arith))

-- a sound state stays sound
pub clock_sound : (s : State Memory) (now : ℕ) → sound_state s ≡ true → sound_state (clocked s now) ≡ true
clock_sound s now h =
    either (λ (x : State Memory). sound_state x ≡ true) (overdue s now) (dropped s) s (sound_from (dropped s) none_begun (sound_memory_lem s h)) h

-- ---- in a run: the bytes and reports q, then a report of the time, then r

module _ (m : Memory) (last now : ℕ) (q r : List (Item Event)) where
  -- what q left is reported to, and the run goes on
  pub run_clock : whole_run protocol m last (q ++ event (clock now) ∷ r)
      ≡ then (whole_run protocol m last q) (steps protocol (clocked (whole_run protocol m last q).next now) r)
  unfolding steps
  run_clock =
      let start : State Memory = state_at m [] last in
      sym (steps_is_whole protocol need_law m last (q ++ event (clock now) ∷ r)) ∙ steps_append protocol q (event (clock now) ∷ r) start
      ∙ (λ i.
      let a = steps_is_whole protocol need_law m last q i in
      let b = clock_step a.next now i in
      then a (then b (steps protocol b.next r)))

  -- A REPORT INSIDE A UNIT AT A WAIT OF AT MOST 400, OR WITH NOTHING UNFINISHED, IS TRANSPARENT
  pub transparent : overdue (whole_run protocol m last q).next now ≡ false
      → whole_run protocol m last (q ++ event (clock now) ∷ r) ≡ whole_run protocol m last (q ++ r)
  transparent e =
      let start : State Memory = state_at m [] last in
      run_clock ∙ rw e
      (ap (λ (a : Said Order (State Memory)). then a (steps protocol a.next r)) (sym (steps_is_whole protocol need_law m last q))
      ∙ sym (steps_append protocol q r start) ∙ steps_is_whole protocol need_law m last (q ++ r))

-- any number of them, none overdue where it comes: the run says and leaves what it does without them
pub none_overdue : (r : List (Item Event)) (s : State Memory) → NoneOverdue s r → steps protocol s r ≡ steps protocol s (without_clock r)
unfolding steps
none_overdue [] s h = refl
none_overdue (byte t b ∷ r) s h =
    let a = step protocol s (byte t b) in
    ap (then a) (none_overdue r a.next h)
none_overdue (event (clock now) ∷ r) s h =
    ap (λ (a : Said Order (State Memory)). then a (steps protocol a.next r)) (clock_step s now) ∙ rw h.0 (none_overdue r s h.1)
none_overdue (event (position p) ∷ r) s h =
    let a = step protocol s (event (position p)) in
    ap (then a) (none_overdue r a.next h)

-- ---- WHY THE TIME IS REPORTED
-- A run in true time whose main loop does its part, with reports of the position, `other (position p) (λ last. refl)`, anywhere in it: however often the
-- counter came round
module _ (run : List (Entry protocol.cuts)) (w : Watched clock protocol.cuts protocol.need run) where
  -- each whole unit that the rule finds in it came without a wait of more than 400 ms of true time,
  pub in_true_time : WholeClose clock protocol.cuts protocol.need run
  in_true_time = true_time clock protocol.cuts protocol.need need_law (λ last now. refl) run w

  -- and a beginning is dropped exactly where the next byte or report of the time came after such a wait
  pub dropped_in_true_time : TrueDrops clock protocol.cuts protocol.need run
  dropped_in_true_time = true_drops clock protocol.cuts protocol.need need_law (λ last now. refl) run w
