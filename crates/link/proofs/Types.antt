-- A fresh board is of bytes, and whatever the contracts allow keeps it so: a premise that every board meets. Assumes nothing.
use mathlib.Core.Path.{◌≡◌, sym, ap, subst, ◌∙◌}
use mathlib.Core.List.{List}
use Prim.Native.Nat.{ℕ, ◌-◌}
use native.Mathlib.Omega.{arith}
use lib.Dec.{eqb}
use lib.ListN.{length, take}
use Rattle.wire.proofs.Numbers.{append_low}
use Rattle.frame.specs.Frame.{data_in}
use Rattle.sheet.specs.Sheet.{sheet}
use Rattle.table.specs.declared.Table.{Table}
use Rattle.table.proofs.Laws.{put_low, fresh_low}
use Rattle.rule.specs.Run.{Item, bytes, at}
use Rattle.rule.specs.Framing.{Token, whole, lost, seen}
use Rattle.rule.specs.Rule.{Said, State}
use Rattle.rule.specs.Step.{steps}
use Rattle.rule.specs.Facts.{OfBytes, TokenOfBytes}
use Rattle.rule.proofs.Choice.{either}
use Rattle.rule.proofs.Calls.{call_steps}
use Rattle.rule.proofs.Bytes.{bytes_append, bytes_at_lem}
use Rattle.rule.proofs.Whole.{part_bytes}
use Rattle.rule.proofs.OfBytes.{front_bytes, behind_bytes, bytes_keep, bytes_stay}
use Rattle.orders.specs.declared.Order.{Order}
use Rattle.unit.specs.Unit.{Event, clock, position, act}
use Rattle.unit.specs.Protocol.{protocol, fresh_state}
use Rattle.unit.specs.declared.Memory.{Memory}
use Rattle.unit.specs.Kept.{Ends, stores, keeps}
use Rattle.unit.proofs.Kept.{accepted, unit_ends}
use Rattle.state.specs.State.{state_of}
use Rattle.state.specs.Sound.{refusal_of}
use Rattle.state.specs.declared.Board.{Board}
use Rattle.state.specs.Call.{Call}
use Rattle.state.proofs.Boards.{state_board}
use Rattle.state.proofs.Board.fresh.Reads as state-fresh
use Rattle.clock.specs.Clock.{overdue, dropped}
use Rattle.drive.specs.Report.{position_refusal}
use Rattle.position.specs.declared.Position.{Position}
use Rattle.demands.proofs.Positions.{place_promise}
use Rattle.state.specs.declared.Report.{Report}
use Rattle.demands.specs.Calls.{Answers}
use Rattle.demands.proofs.Calls.{is_taken, is_state}
use Rattle.demands.specs.Reports.{Reports, Locates, time, place}
use Rattle.demands.proofs.Reports.{report_promise}
use Rattle.demands.specs.Runs.{Step, called, told, Offered, done, next}
use Rattle.link.specs.Types.{TypedState, TypedBoard}

-- ---- a unit

abbrev Held : Memory → Type 0
Held m = OfBytes m.settings.bytes

act_typed : (m : Memory) (x : Token Event) → TokenOfBytes x → Held m → Held (act m x).next
unfolding act
act_typed m (whole u) low h = by (unit_ends m u)
  where
    by : Ends m u → Held (act m (whole u)).next
    by (stores k a) =
        subst Held (sym (ap (λ (y : Said Order Memory). y.next) (accepted m u k a)))
        (put_low sheet m.settings.bytes k (data_in u) h (part_bytes u (length u - 6) 4 low))
    by (keeps e) = subst (λ (t : Table). OfBytes t.bytes) (sym e) h
act_typed m (lost u) low h = h
act_typed m (seen (clock now)) low h = h
act_typed m (seen (position p)) low h = h

steps_typed : (r : List (Item Event)) (s : State Memory) → OfBytes (bytes r) → TypedState s → TypedState (steps protocol s r).next
steps_typed r s low h =
    let all = append_low s.line.unfinished (bytes r) h.bytes low in
    record { table = bytes_keep protocol r s all Held act_typed h.table; bytes = bytes_stay protocol r s all }

-- ---- A FRESH BOARD

-- what `state::fresh` promises
pub fresh_typed : (κs : _) (a : _) (b s : _) → state-fresh.Post κs a b s → TypedBoard b
fresh_typed κs a b s is =
    subst TypedState (sym (ap state_of is ∙ state_board fresh_state)) (record { table = fresh_low sheet; bytes = λ i. omega arith })

-- ---- IT IS KEPT, by whatever the contracts allow. A piece is bytes by its type; the numbers of larger ones need not fit (wire, `le_at`)

pub call_typed : {b : Board} {t : ℕ} {p before after : List ℕ} {r : Call} → Answers b t p before r after → OfBytes (take r.taken p)
    → TypedBoard b → TypedBoard r.board
call_typed {b} {t} {p} {before} {r = r} got low h =
    let taken = at t (take r.taken p) in
    let is : state_of r.board ≡ (steps protocol (state_of b) taken).next =
    is_state got ∙ ap (λ (y : Said Order (State Memory)). y.next) (call_steps protocol (refusal_of b) p (state_of b) t (length before)).same
    ∙ ap (λ (n : ℕ). (steps protocol (state_of b) (at t (take n p))).next) (sym (is_taken got)) in
    subst TypedState (sym is) (steps_typed taken (state_of b) (subst OfBytes (sym (bytes_at_lem Event t (take r.taken p))) low) h)

pub report_typed : {b : Board} {now : ℕ} {r : Report} → Reports b now r → TypedBoard b → TypedBoard r.board
report_typed {b} {now} {r} got h =
    let empty : TypedState (dropped (state_of b)) = record { table = h.table; bytes = λ i. omega arith } in
    subst (λ (y : Report). TypedBoard y.board) (sym (report_promise got))
    (either TypedBoard (eqb (refusal_of b) 0) _ _
    (either TypedBoard (overdue (state_of b) now) _ _ (subst TypedState (sym (state_board (dropped (state_of b)))) empty) h) h)

pub place_typed : {b : Board} {p : Position} {r : Report} → Locates b p r → TypedBoard b → TypedBoard r.board
place_typed {b} {p} got h =
    subst (λ (y : Report). TypedBoard y.board) (sym (place_promise got))
    (either TypedBoard (eqb (position_refusal b p) 0) _ _ (record { table = h.table; bytes = h.bytes }) h)

step_typed : {b : Board} {items : List (Item Event)} {y : Said Order Board} → Step b items y → OfBytes (bytes items) → TypedBoard b → TypedBoard y.next
step_typed (called {t = t} {p = p} {r = r} got) low h = call_typed got (subst OfBytes (bytes_at_lem Event t (take r.taken p)) low) h
step_typed (told (time got)) low h = report_typed got h
step_typed (told (place got)) low h = place_typed got h

-- so over any run, in any cutting
pub run_typed : {b : Board} {run : List (Item Event)} {x : Said Order Board} → Offered b run x → OfBytes (bytes run) → TypedBoard b → TypedBoard x.next
run_typed (done b) low h = h
run_typed (next b items rest run y x one more e) low h =
    let parts = subst OfBytes (ap bytes e ∙ bytes_append items rest) low in
    run_typed more (behind_bytes (bytes items) (bytes rest) parts) (step_typed one (front_bytes (bytes items) (bytes rest) parts) h)

-- so every board that comes of a fresh one meets the premise
pub ever_typed : (κs : _) (a : _) (b s : _) → state-fresh.Post κs a b s → {run : List (Item Event)} {x : Said Order Board} → Offered b run x → OfBytes (bytes run)
    → TypedBoard x.next
ever_typed κs a b s is offered low = run_typed offered low (fresh_typed κs a b s is)
