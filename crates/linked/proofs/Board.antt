-- The demands, of the functions that C and Rust link: each allows what the function behind it allows. In quotation marks: the demands by number.
-- Assumes nothing.
use Prim.Native.Nat.{ℕ}
use Rattle.std.specs.Prelude.{Ok}
use mathlib.Core.Path.{◌≡◌, refl, ap, sym, subst, ◌∙◌}
use mathlib.Core.Bool.{Bool, true, false, cond}
use mathlib.Core.List.{List, [], ◌∷◌, ◌++◌, map, map-append}
use lib.Dec.{eqb}
use lib.ListN.{length, take}
use Rattle.frame.specs.Frame.{data_in, intact}
use Rattle.rule.specs.Run.{Item, at}
use Rattle.rule.specs.Framing.{Token, whole}
use Rattle.rule.specs.Rule.{Said, quiet, then, deal, whole_run}
use Rattle.rule.specs.Calls.{call}
use Rattle.sheet.specs.Sheet.{sheet}
use Rattle.sheet.specs.Rows.{row_at, numbers_in, first_out}
use Rattle.table.specs.Places.{whole_of}
use Rattle.position.specs.declared.Position.{Position}
use Rattle.orders.specs.Orders.{order_number, given}
use Rattle.names.specs.Names.{kind_at}
use Rattle.names.specs.declared.Kind.TheVariants.{Set, Finds}
use Rattle.orders.specs.declared.Order.{Order}
use Rattle.unit.specs.Unit.{Event, fresh_memory, out_of_range}
use Rattle.unit.specs.Protocol.{protocol, fresh_state}
use Rattle.unit.specs.Touched.{steps_part, microsteps_part, count_part, stands_at, position_reply}
use Rattle.state.specs.State.{state_of, board_of}
use Rattle.state.specs.Parts.{rest_of}
use Rattle.state.specs.Sound.{refusal_of}
use Rattle.state.specs.declared.Board.{Board}
use Rattle.state.specs.Call.{Call}
use Rattle.state.specs.declared.Report.{Report}
use Rattle.flash.specs.Flash.{with_settings}
use Rattle.flash.proofs.Back.{back_is, taken_sound}
use Rattle.receiver.specs.Receive.{answer}
use Rattle.demands.specs.Calls.{Answers}
use Rattle.demands.specs.Reports as reports
use Rattle.demands.specs.Reports.{Reports}
use Rattle.demands.specs.Runs as runs
use Rattle.demands.specs.Runs.{in_state, on_board, From, tokens_of, memory_behind, done, next}
use Rattle.demands.proofs.Calls.{promise, ref_to, lent_to, receive_some}
use Rattle.demands.proofs.Reports.{report_promise, report_some}
use Rattle.demands.proofs.Positions.{place_promise, place_some}
use Rattle.demands.proofs.Runs.{from_fresh, any_cutting, position_steps, position_microsteps, position_count, gpos_sends, range_recorded, rule_recorded}
use Rattle.board.specs.Answer.{Left, flat, Answered}
use Rattle.linked.specs.Board.{Starts, Receives, Hears, Locates, HandsOut, TakesBack, allowed, time, place, OrderSeen, order_seen, said_by, numbered, Step, called, told, Offered}

-- ---- each export allows what the function behind it allows, and nothing else

module _ {b : Board} {t : ℕ} {p before after : List ℕ} where
  -- what it says
  receives_promise : {r : Left} → Receives b t p before r after → Answered b t p before r after
  receives_promise (allowed κs a x s got e f g h k l) = rw (← e, ← f, ← g, ← h, ← k, ← l) got

  pub receives : {r : Left} → Receives b t p before r after → (c : Call) × Answers b t p before c after × (r ≡ flat c)
  receives got =
      let said = receives_promise got in
      let c = answer b (call protocol (refusal_of b) (state_of b) t (length before) p) in
      (c, subst (λ (l : List ℕ). Answers b t p before c l) (sym said.reply) (receive_some b t p before), said.result)

  pub receives_all : {c : Call} → Answers b t p before c after → Receives b t p before (flat c) after
  receives_all {c} got =
      let said = promise got in
      let d = c.board in
      allowed ([], ([], ([], ([], tt))))
      (lent_to b.memory.settings.bytes, (lent_to b.held, (rest_of b, (ref_to p, (t, (lent_to before, tt))))))
      (flat c).answer
      (lent_to d.memory.settings.bytes, (lent_to d.held, (rest_of b, (ref_to p, (t, (lent_to after, tt))))))
      (record { result = ap flat said.result; reply = said.reply })
      refl refl refl refl refl refl

module _ {b : Board} {time : ℕ} {r : Report} where
  pub hears : Hears b time r → Reports b time r
  hears (allowed κs a s got e f) = subst (Reports b time) (sym (rw (← e, ← f) got)) (report_some b time)

  pub hears_all : Reports b time r → Hears b time r
  hears_all got = allowed tt (b, (time, tt)) (b, (time, tt)) (report_promise got) refl refl

module _ {b : Board} {p : Position} {r : Report} where
  pub locates : Locates b p r → reports.Locates b p r
  locates (allowed κs a s got e f) = subst (reports.Locates b p) (sym (rw (← e, ← f) got)) (place_some b p)

  pub locates_all : reports.Locates b p r → Locates b p r
  locates_all got = allowed tt (b, (p, tt)) (b, (p, tt)) (place_promise got) refl refl

-- ---- a run

pub given_seen : (o : Order) → map order_seen (given o) ≡ cond (eqb (order_number o) 0) [] (order_seen o ∷ [])
given_seen o = by (eqb (order_number o) 0)
  where
    by : (y : Bool) → map order_seen (cond y [] (o ∷ [])) ≡ cond y [] (order_seen o ∷ [])
    by true = refl
    by false = refl

-- a step by the exports is a step, with the orders by their numbers and values
step_is : {b : Board} {items : List (Item Event)} {x : Said OrderSeen Board} → Step b items x → (y : Said Order Board) × runs.Step b items y × (x ≡ numbered y)
step_is {b} (called {t = t} {p} {before} {after} {r} got) =
    let c = receives got in
    let same : r ≡ flat c.0 = c.2 in
    let said : said_by r after ≡ numbered (runs.said_by c.0 after) =
    ap (λ (y : Left). said_by y after) same ∙ (λ i. record { reply = take c.0.written after; orders = sym (given_seen c.0.order) i; next = c.0.board }) in
    (runs.said_by c.0 after, subst (λ (k : ℕ). runs.Step b (at t (take k p)) (runs.said_by c.0 after)) (ap (λ (y : Left). y.answer.taken) (sym same)) (runs.called c.1), said)
step_is (told {next = after} (time got)) = (quiet after, runs.told (reports.time (hears got)), refl)
step_is (told {next = after} (place got)) = (quiet after, runs.told (reports.place (locates got)), refl)

-- and so is a run offered by them
pub offered_is : {b : Board} {run : List (Item Event)} {x : Said OrderSeen Board} → Offered b run x → (y : Said Order Board) × runs.Offered b run y × (x ≡ numbered y)
offered_is (done b) = (quiet b, done b, refl)
offered_is (next b items rest run x z one more e) =
    let first = step_is one in
    let behind = offered_is more in
    let y = first.0 in
    let w = behind.0 in
    let said : then x z ≡ numbered (then y w) =
    (λ i. then (first.2 i) (behind.2 i)) ∙ (λ i. record { reply = y.reply ++ w.reply; orders = sym (map-append order_seen y.orders w.orders) i; next = w.next }) in
    (then y w, next b items rest run y w first.1 (subst (λ (c : Board). runs.Offered c rest w) (ap (λ (q : Said OrderSeen Board). q.next) first.2) behind.1) e, said)

-- DEMAND 3, of what C and Rust link: "Once all is taken, the replies joined, the orders in sequence, the settings, flags, last refused field, unfinished
-- bytes and last stamp are those that sheet 01's rule gives for the whole run at once."
pub linked_cutting : {b : Board} {run : List (Item Event)} {x : Said OrderSeen Board} → Starts b → Offered b run x → x ≡ numbered (on_board (whole_run protocol fresh_memory 0 run))
linked_cutting (allowed κs a s is) h = let y = offered_is h in y.2 ∙ ap numbered (from_fresh tt tt _ tt is y.1)

-- Of a run from any board with nothing unfinished and from any sound one: demand 3; where the drive stands at the end, part by part; "gpos, which sends
-- the position as it then stands" (02, P5); what is recorded of a set that is refused for a range or for a rule (02, P6)
module _ {b : Board} {run all : List (Item Event)} {x : Said OrderSeen Board} (h : Offered b run x) (from : From b run all) where
  abbrev y : (y : Said Order Board) × runs.Offered b run y × (x ≡ numbered y)
  y = offered_is h

  pub linked_start : (z : Said Order Board) × (x ≡ numbered z) × (in_state z ≡ whole_run protocol b.memory b.stamp all)
  linked_start = (y.0, y.2, any_cutting y.1 from)

  pub linked_steps : x.next.memory.position.steps ≡ stands_at steps_part b.memory.position (tokens_of all)
  linked_steps = ap (λ (z : Said OrderSeen Board). z.next.memory.position.steps) y.2 ∙ position_steps y.1 from

  pub linked_microsteps : x.next.memory.position.microsteps ≡ stands_at microsteps_part b.memory.position (tokens_of all)
  linked_microsteps = ap (λ (z : Said OrderSeen Board). z.next.memory.position.microsteps) y.2 ∙ position_microsteps y.1 from

  pub linked_count : x.next.memory.position.count ≡ stands_at count_part b.memory.position (tokens_of all)
  linked_count = ap (λ (z : Said OrderSeen Board). z.next.memory.position.count) y.2 ∙ position_count y.1 from

  pub linked_gpos : (before after : List (Token Event)) (g : List ℕ) → tokens_of all ≡ before ++ whole g ∷ after → kind_at g ≡ Finds
      → let m = memory_behind b.memory before in x.reply ≡ (deal protocol b.memory before).reply ++ (position_reply m.position ++ (deal protocol m after).reply)
  linked_gpos before after g cut e = ap (λ (z : Said OrderSeen Board). z.reply) y.2 ∙ gpos_sends y.1 from before after g cut e

  -- "the two rules come after all ranges, recorded as field 99" (02, P6)
  pub linked_range : (before after : List (Token Event)) (u : List ℕ) → tokens_of all ≡ before ++ whole u ∷ after → (k : ℕ) → kind_at u ≡ Set k → intact u ≡ true
      → let bad = first_out (row_at k) (numbers_in (row_at k) (data_in u)) in
      (bad ≡ 0 → ⊥) → x.next.memory ≡ (deal protocol (out_of_range (memory_behind b.memory before) k bad).next after).next
  linked_range before after u cut k set crc out = ap (λ (z : Said OrderSeen Board). z.next.memory) y.2 ∙ range_recorded y.1 from before after u cut k set crc out

  pub linked_rule : (before after : List (Token Event)) (u : List ℕ) → tokens_of all ≡ before ++ whole u ∷ after → (k : ℕ) → kind_at u ≡ Set k → intact u ≡ true
      → let ns = numbers_in (row_at k) (data_in u) in
      first_out (row_at k) ns ≡ 0 → (row_at k).rule ns ≡ false → x.next.memory ≡ (deal protocol (out_of_range (memory_behind b.memory before) k 99).next after).next
  linked_rule before after u cut k set crc none broken = ap (λ (z : Said OrderSeen Board). z.next.memory) y.2 ∙ rule_recorded y.1 from before after u cut k set crc none broken

-- ---- the flash writer's table

-- WHAT WAS HANDED OUT COMES BACK, of what C and Rust link: a fresh board with the same settings
pub linked_back : {b : Board} {before after : List ℕ} {r : Report} → HandsOut b before 0 after → TakesBack (take (whole_of sheet) after) r
    → r ≡ record { number = 0; board = with_settings (board_of fresh_state) b.memory.settings }
linked_back (allowed κs a s got e f g) (allowed κs' a' s' is stored) =
    is ∙ back_is κs a (Ok tt) s got refl a'.0.now (stored ∙ ap (take (whole_of sheet)) (sym g))
    ∙ ap (λ (x : Board). record { number = 0; board = with_settings (board_of fresh_state) x.memory.settings }) e

-- A BOARD THAT IS TAKEN BACK IS SOUND, refused or not, of what C and Rust link: a refused table leaves them a board too
pub linked_sound : {bytes : List ℕ} {r : Report} → TakesBack bytes r → refusal_of r.board ≡ 0
linked_sound (allowed κs a s is stored) = ap (λ (r : Report). refusal_of r.board) is ∙ taken_sound a.0.now
