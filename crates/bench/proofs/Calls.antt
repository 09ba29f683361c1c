-- How many calls a record and a trace get: at least, at most, and without the number that bounds them. Assumes nothing.
use Prim.Native.Nat.{ℕ, zero, suc, ◌+◌, ◌≤◌, ◌<◌}
use mathlib.Core.List.{List, [], ◌∷◌}
use Rattle.std.specs.Prelude.{Result, Ok, Err, IfOk}
use mathlib.Core.Path.{◌≡◌, refl, sym, ap, ◌∙◌}
use native.Mathlib.Omega.{arith}
use lib.ListN.{length, take, drop, length-take, length-drop}
use Rattle.rule.specs.Run.{at}
use Rattle.rule.specs.Rule.{State}
use Rattle.rule.specs.Step.{steps}
use Rattle.rule.specs.Calls.{Called, if_none, call}
use Rattle.rule.proofs.Choice.{either_none}
use Rattle.rule.proofs.Numbered.{call_accepted}
use Rattle.sheet.specs.Lengths.{longest_piece}
use Rattle.orders.specs.declared.Order.{Order}
use Rattle.unit.specs.Protocol.{protocol, fresh_state}
use Rattle.unit.specs.declared.Memory.{Memory}
use Rattle.receiver.proofs.Calls.{accept_some}
use Rattle.trace.specs.Record.{reading}
use Rattle.trace.specs.declared.Head.{Head}
use Rattle.trace.specs.declared.NoRecord.{NoRecord}
use Rattle.trace.proofs.Records.{record_fits}
use Rattle.bench.specs.Trace.{reply_room, Recorded, offered, records, records_in, calls, calls_for, calls_of, calls_in}
use Rattle.bench.specs.declared.Ran.{Ran}
use Rattle.bench.proofs.run.Reads as run

-- ---- one record

-- what is counted for the bytes l: nothing where there are none
counted_none : (l : List ℕ) (k : ℕ) → length l ≡ 0 → if_none l 0 k ≡ 0
counted_none [] k h = refl
counted_none (a ∷ l) k h = absurd (omega arith)

counted_some : (l : List ℕ) (k : ℕ) → 0 < length l → if_none l 0 k ≡ k
counted_some [] k h = absurd (omega arith)
counted_some (a ∷ l) k h = refl

module _ (t : ℕ) where
  abbrev c : State Memory → List ℕ → Called Order Memory
  c x u = call protocol 0 x t reply_room u

  -- what a call leaves of the bytes u
  abbrev left : State Memory → List ℕ → List ℕ
  left x u = drop (c x u).taken u

  -- "at least once"
  pub calls_some : (n : ℕ) (x : State Memory) (u : List ℕ) → 0 < calls n x t u
  unfolding calls
  calls_some zero x u = omega arith
  calls_some (suc n) x u = omega arith

  pub calls_most : (n : ℕ) (x : State Memory) (u : List ℕ) → calls n x t u ≤ suc n
  unfolding calls
  calls_most zero x u = omega arith
  calls_most (suc n) x u =
      let rest = calls n (c x u).said.next t (left x u) in
      omega (arith, either_none (λ (k : ℕ). k ≤ suc n) (left x u) 0 rest (omega arith) (calls_most n (c x u).said.next (left x u)))

  -- "With a piece that is not empty, an accepted call takes at least one byte."
  pub call_takes : (x : State Memory) (u : List ℕ) → length u ≤ longest_piece → 0 < length u → 0 < (c x u).taken
  call_takes x u few some = rw (call_accepted protocol 0 x t reply_room u few (omega arith) refl) (accept_some x t reply_room u (omega arith) some)

  -- of the calls for the rest it matters only what they are where there is one, of fewer bytes
  alike : (x : State Memory) (u : List ℕ) (k m : ℕ) → length u ≤ longest_piece → (length (left x u) < length u → k ≡ m)
      → if_none (left x u) 0 k ≡ if_none (left x u) 0 m
  alike x u k m few same = by (left x u) refl
    where
      by : (l : List ℕ) → left x u ≡ l → if_none l 0 k ≡ if_none l 0 m
      by [] e = refl
      by (a ∷ l) e =
          let some : length (left x u) ≡ suc (length l) = ap length e in
          let less = length-drop (c x u).taken u in
          same (omega (arith, call_takes x u few (omega arith)))

  -- no bytes: one call
  empty : (n : ℕ) (x : State Memory) (u : List ℕ) → length u ≡ 0 → calls n x t u ≡ 1
  unfolding calls
  empty zero x u z = refl
  empty (suc n) x u z = ap suc (counted_none (left x u) _ (omega (arith, length-drop (c x u).taken u)))

  -- any number from the length on bounds the calls
  enough : (n m : ℕ) (x : State Memory) (u : List ℕ) → length u ≤ longest_piece → length u ≤ n → length u ≤ m → calls n x t u ≡ calls m x t u
  unfolding calls
  enough zero m x u few h k = sym (empty m x u (omega arith))
  enough (suc n) zero x u few h k = empty (suc n) x u (omega arith)
  enough (suc n) (suc m) x u few h k =
      ap suc (alike x u _ _ few (λ l. enough n m (c x u).said.next (left x u) (omega arith) (omega arith) (omega arith)))

  -- THE CALLS, WITHOUT THE NUMBER: one, and where it leaves something, those for that
  pub calls_are : (x : State Memory) (u : List ℕ) → length u ≤ longest_piece
      → calls_for x t u ≡ suc (if_none (left x u) 0 (calls_for (c x u).said.next t (left x u)))
  unfolding calls
  calls_are x u few =
      enough (length u) (suc (length u)) x u few (omega arith) (omega arith)
      ∙ ap suc (alike x u _ _ few (λ l. enough (length u) (length (left x u)) _ (left x u) (omega arith) (omega arith) (omega arith)))

  -- the call that takes all is the last one
  pub calls_last : (x : State Memory) (u : List ℕ) → length u ≤ longest_piece → length u ≤ (c x u).taken → calls_for x t u ≡ 1
  calls_last x u few all = calls_are x u few ∙ ap suc (counted_none (left x u) _ (omega (arith, length-drop (c x u).taken u)))

  pub calls_next : (x : State Memory) (u : List ℕ) → length u ≤ longest_piece → (c x u).taken < length u
      → calls_for x t u ≡ suc (calls_for (c x u).said.next t (left x u))
  calls_next x u few more = calls_are x u few ∙ ap suc (counted_some (left x u) _ (omega (arith, length-drop (c x u).taken u)))

-- ---- a trace

each : (x : State Memory) (rs : List Recorded) → length rs ≤ calls_of x rs
unfolding calls_of
each x [] = omega arith
each x (r ∷ rs) = omega (arith, calls_some r.stamp (length r.bytes) x r.bytes, each (steps protocol x (at r.stamp r.bytes)).next rs)

-- EACH RECORD GETS A CALL: a trace gets no fewer calls than it has records
pub each_called : (s : List ℕ) → length (records_in s) ≤ calls_in s
each_called s = each fresh_state (records_in s)

-- what follows of the value of an answer
if_ok : {T E : Type 0} {P Q : T → Type 0} (r : Result T E) → ((x : T) → P x → Q x) → IfOk r P → IfOk r Q
if_ok (Ok x) f p = f x p
if_ok (Err e) f p = p

-- and so it is in every answer that the contract of `run` allows, at any writer
pub run_calls_each : (w : _) (l : _) (g : _) (d : _) (κs : _) (a : _) (r : _) (s : _) → run.Post w l g d κs a r s
    → IfOk r (λ (ran : Ran). length (records_in a.1.0.now) ≤ ran.calls)
run_calls_each w l g d κs a r s is = if_ok r (λ ran p. omega (arith, each_called a.1.0.now, p.1)) is.0

fewer : (n : ℕ) (x : State Memory) (s : List ℕ) → calls_of x (records n s) ≤ length s
unfolding records calls_of
fewer zero x s = omega arith
fewer (suc n) x s = by (reading s) refl (λ y q. fewer n y q)
  where
    by : (v : Result Head NoRecord) → reading s ≡ v → ((y : State Memory) (q : List ℕ) → calls_of y (records n q) ≤ length q)
        → calls_of x (offered (records n) s v) ≤ length s
    by (Ok h) e behind =
        let u = take h.count (drop 7 s) in
        let q = drop (7 + h.count) s in
        omega (
          arith,
          (record_fits s h e).0,
          calls_most h.stamp (length u) x u,
          length-take h.count (drop 7 s),
          length-drop (7 + h.count) s,
          behind (steps protocol x (at h.stamp u)).next q,
        )
    by (Err n) e behind = omega arith

-- no more calls than bytes: a record has 7 besides those that it offers
pub calls_fewer : (s : List ℕ) → calls_in s ≤ length s
calls_fewer s = fewer (length s) fresh_state s
