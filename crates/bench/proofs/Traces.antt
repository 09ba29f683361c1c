-- The records that a trace holds, one by one, and where a run of them stands. Assumes nothing.
use Prim.Native.Nat.{ℕ, zero, suc, ◌+◌, ◌≤◌}
use mathlib.Core.List.{List, [], ◌∷◌}
use mathlib.Core.Path.{◌≡◌, refl, sym, ap, ◌∙◌}
use native.Mathlib.Omega.{arith}
use Rattle.std.specs.Prelude.{Result, Ok, Err}
use lib.ListN.{length, take, drop, length-take, length-drop}
use lib.Seq.{drop-drop}
use Rattle.rule.specs.Run.{at}
use Rattle.rule.specs.Rule.{State, whole_run}
use Rattle.rule.specs.Step.{steps}
use Rattle.sheet.specs.Lengths.{longest_piece}
use Rattle.unit.specs.Unit.{fresh_memory}
use Rattle.unit.specs.declared.Memory.{Memory}
use Rattle.unit.specs.Protocol.{protocol, fresh_state}
use Rattle.trace.specs.Record.{longest_record, reading}
use Rattle.trace.specs.declared.Head.{Head}
use Rattle.trace.specs.declared.NoRecord.{NoRecord}
use Rattle.trace.proofs.Records.{record_fits}
use Rattle.state.specs.State.{state_of, board_of}
use Rattle.state.specs.declared.Board.{Board}
use Rattle.state.proofs.Boards.{state_board}
use Rattle.bench.specs.Trace.{Recorded, offered, records, records_in, run_of, run_in, calls_for, calls_of, calls_in}
use Rattle.bench.proofs.Rest.{Leads, starts, arrived, passed, from, tail, length_tail}
use Rattle.bench.proofs.Calls.{calls_fewer}

-- no bytes hold no record
none : (n : ℕ) (s : List ℕ) → length s ≡ 0 → records n s ≡ []
unfolding records
none zero s z = refl
none (suc n) s z = by (reading s) refl
  where
    by : (r : Result Head NoRecord) → reading s ≡ r → offered (records n) s r ≡ []
    by (Ok h) e = absurd (omega (arith, (record_fits s h e).0))
    by (Err n) e = refl

-- of the rest it matters only what it is behind the record in front
alike : (f g : List ℕ → List Recorded) (s : List ℕ)
    → ((h : Head) → reading s ≡ Ok h → f (drop (7 + h.count) s) ≡ g (drop (7 + h.count) s))
    → offered f s (reading s) ≡ offered g s (reading s)
alike f g s same = by (reading s) refl
  where
    by : (r : Result Head NoRecord) → reading s ≡ r → offered f s r ≡ offered g s r
    by (Ok h) e = ap (λ (l : List Recorded). record { stamp = h.stamp; bytes = take h.count (drop 7 s) } ∷ l) (same h e)
    by (Err n) e = refl

-- any number from the length on bounds the records
enough : (n m : ℕ) (s : List ℕ) → length s ≤ n → length s ≤ m → records n s ≡ records m s
unfolding records
enough zero m s l k = sym (none m s (omega arith))
enough (suc n) zero s l k = none (suc n) s (omega arith)
enough (suc n) (suc m) s l k =
    alike (records n) (records m) s
    (λ h e.
    let fits = (record_fits s h e).0 in
    let short = length-drop (7 + h.count) s in
    enough n m (drop (7 + h.count) s) (omega arith) (omega arith))

-- THE RECORDS, WITHOUT THE NUMBER: the one in front, and those behind it
pub records_are : (s : List ℕ) → records_in s ≡ offered records_in s (reading s)
unfolding records
records_are s =
    enough (length s) (suc (length s)) s (omega arith) (omega arith)
    ∙ alike (records (length s)) records_in s
    (λ h e. enough (length s) (length (drop (7 + h.count) s)) (drop (7 + h.count) s) (omega (arith, length-drop (7 + h.count) s)) (omega arith))

-- no bytes hold none
pub records_none : (s : List ℕ) → length s ≡ 0 → records_in s ≡ []
records_none s z = none (length s) s z

-- a part that reads as no record holds none
unread : (s : List ℕ) (v : Result Head NoRecord) → ((h : Head) → v ≡ Ok h → ⊥) → offered records_in s v ≡ []
unread s (Ok h) w = absurd (w h refl)
unread s (Err n) w = refl

-- the records of the trace s in front of the bytes `rest` are run, by n calls, and left the board b
pub record SoFar (s rest : List ℕ) (b : Board) (n : ℕ) : Type 0 where
  pub within : length rest ≤ length s
  pub leads : Leads (whole_run protocol fresh_memory 0 (run_in s)).next b (run_in rest)
  pub counts : n + calls_of (state_of b) (records_in rest) ≡ calls_in s

-- on a fresh board, nothing is run
pub none_run : (s : List ℕ) {b : Board} → b ≡ board_of fresh_state → SoFar s s b 0
none_run s e =
    record {
      within = omega arith;
      leads = starts (run_in s) e;
      counts = omega (arith, ap (λ (x : State Memory). calls_of x (records_in s)) (ap state_of e ∙ state_board fresh_state));
    }

-- no record is left
pub all_run : {s rest : List ℕ} {b : Board} {n : ℕ} → SoFar s rest b n → records_in rest ≡ []
    → (b ≡ board_of (whole_run protocol fresh_memory 0 (run_in s)).next) × (n ≡ calls_in s)
unfolding run_of calls_of
all_run {s} {rest} {b} {n} l e =
    (arrived l.leads (ap run_of e), omega (arith, l.counts, ap (calls_of (state_of b)) e))

-- a record of the stamp t and the bytes u is offered to the board b, after n calls, and q is left; `next` and m are the board and the calls that it
-- comes to
pub record Passes (s : List ℕ) (b : Board) (n t : ℕ) (u q : List ℕ) : Type 0 where
  pub few : length u ≤ longest_piece
  pub room : n + calls_for (state_of b) t u ≤ length s
  pub left : {next : Board} {m : ℕ} → next ≡ board_of (steps protocol (state_of b) (at t u)).next → m ≡ calls_for (state_of b) t u → SoFar s q next (n + m)

-- v is what the reader says of the bytes that are left
module _ {b : Board} {n : ℕ} {v : Result Head NoRecord} (s rest : List ℕ) (l : SoFar s rest b n) (is : v ≡ reading rest) where
  here : records_in rest ≡ offered records_in rest v
  here = records_are rest ∙ ap (offered records_in rest) (sym is)

  -- no record: none is left
  pub stops : ((h : Head) → v ≡ Ok h → ⊥) → records_in rest ≡ []
  stops w = here ∙ unread rest v w

  module _ {h : Head} (e : v ≡ Ok h) where
    -- it stands there whole
    fit : (7 + h.count ≤ length rest) × (h.count ≤ longest_record)
    fit = record_fits rest h (sym is ∙ e)

    pub head_fits : 7 ≤ length rest
    head_fits = omega (arith, fit.0)

    pub piece_fits : h.count ≤ length (from 7 rest)
    piece_fits = omega (arith, fit.0, length_tail 7 rest)

    -- its bytes, and what is behind it
    module _ {u q : List ℕ} (front : u ≡ take h.count (from 7 rest)) (back : q ≡ drop h.count (from 7 rest)) where
      split : records_in rest ≡ record { stamp = h.stamp; bytes = u } ∷ records_in q
      split = here ∙ ap (offered records_in rest) e ∙ rw (front, back, tail 7 rest, drop-drop h.count 7 rest)

      counted : n + (calls_for (state_of b) h.stamp u + calls_of (steps protocol (state_of b) (at h.stamp u)).next (records_in q)) ≡ calls_in s
      unfolding calls_of
      counted = ap (λ (rs : List Recorded). n + calls_of (state_of b) rs) (sym split) ∙ l.counts

      rest_run : {next : Board} {m : ℕ} → next ≡ board_of (steps protocol (state_of b) (at h.stamp u)).next → m ≡ calls_for (state_of b) h.stamp u
          → SoFar s q next (n + m)
      unfolding run_of
      rest_run f g =
          let state = ap state_of f ∙ state_board _ in
          record {
            within = omega (arith, l.within, ap length back, length-drop h.count (from 7 rest), length_tail 7 rest);
            leads = passed h.stamp u (run_in q) (rw (ap run_of split) at l.leads) f;
            counts = omega (arith, counted, g, ap (λ (x : State Memory). calls_of x (records_in q)) state);
          }

      pub passes : Passes s b n h.stamp u q
      passes =
          record {
            few = omega (arith, fit.1, ap length front, length-take h.count (from 7 rest));
            room = omega (arith, counted, calls_fewer s);
            left = rest_run;
          }
