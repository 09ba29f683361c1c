-- The demands of a run, in any cutting, over what the contracts of the public functions themselves say. In quotation marks: sheet 01, and the demands
-- by number. Assumes nothing.
use Prim.Native.Nat.{ℕ, ◌<◌}
use mathlib.Core.Path.{◌≡◌, refl, ap, sym, subst, ◌∙◌}
use mathlib.Core.Bool.{Bool, true, false, cond}
use mathlib.Core.List.{List, [], ◌∷◌, ◌++◌}
use native.Mathlib.Omega.{arith}
use lib.Dec.{eqb}
use lib.ListN.{length, take, drop, replicate}
use lib.Seq.{take-append_seam, drop-append_seam}
use borrow.Author.Tests.{eqb-true, eqb-false}
use Rattle.wire.specs.Numbers.{le_bytes}
use Rattle.frame.specs.Frame.{data_in, intact}
use Rattle.sheet.specs.Lengths.{longest_frame}
use Rattle.sheet.specs.Rows.{row_at, numbers_in, first_out, canonical}
use Rattle.sheet.specs.Sheet.{set_table}
use Rattle.rule.specs.Run.{Item, byte, event, bytes, at}
use Rattle.rule.specs.Framing.{Token, whole}
use Rattle.rule.specs.Rule.{Said, quiet, then, State, deal, whole_run, state_at}
use Rattle.rule.specs.Step.{step, steps}
use Rattle.rule.specs.Calls.{Called, call}
use Rattle.rule.specs.Facts.{spent, EventsOf}
use Rattle.rule.proofs.Choice.{either}
use Rattle.rule.proofs.Said.{deal_append}
use Rattle.rule.proofs.Steps.{steps_append, steps_is_whole}
use Rattle.rule.proofs.Calls.{call_steps}
use Rattle.rule.proofs.Loop.{steps_join}
use Rattle.rule.proofs.Bytes.{units_bytes}
use Rattle.rule.proofs.Numbered.{call_accepted}
use Rattle.orders.specs.Orders.{given}
use Rattle.names.specs.Names.{kind_at, name_in}
use Rattle.orders.specs.declared.Order.{Order}
use Rattle.names.specs.declared.Kind.{Kind}
use Rattle.names.specs.declared.Kind.TheVariants.{Set, Get, Finds}
use Rattle.names.proofs.Need.{need_law}
use Rattle.unit.specs.Unit.{Event, clock, position, fresh_memory, out_of_range, does, act}
use Rattle.unit.specs.Protocol.{protocol, fresh_state}
use Rattle.unit.specs.Kept.{Refused, Echoed, Without, get_reply, FlagsStay}
use Rattle.unit.specs.Touched.{steps_part, microsteps_part, count_part, stands_at, position_reply}
use Rattle.unit.specs.declared.Memory.{Memory}
use Rattle.unit.proofs.Kept.{refused_set_keeps}
use Rattle.unit.proofs.Settings.{settings_alone}
use Rattle.unit.proofs.Replies.{does_length}
use Rattle.unit.proofs.Flags.{flags_stay}
use Rattle.unit.proofs.Events.{position_step}
use Rattle.unit.proofs.Touched.{steps_last, microsteps_last, count_last, found}
use Rattle.unit.proofs.Rules.{range_first, rule_behind}
use Rattle.unit.proofs.Runs.{run_get_after_set}
use Rattle.unit.proofs.Sound.{SoundEvent, sound_begun}
use Rattle.state.specs.State.{state_of, board_of}
use Rattle.state.specs.Sound.{sound_board, refusal_of}
use Rattle.state.specs.declared.Board.{Board}
use Rattle.state.specs.Call.{Call}
use Rattle.state.proofs.Boards.{state_board, refusal_none}
use Rattle.state.proofs.Board.fresh.Reads as fresh
use Rattle.clock.specs.Clock.{overdue, dropped}
use Rattle.clock.specs.Report.{reported}
use Rattle.state.specs.declared.Report.{Report}
use Rattle.clock.proofs.Clock.{clock_step}
use Rattle.clock.proofs.Reports.{clocked_state}
use Rattle.drive.specs.Report as drive
use Rattle.drive.specs.Report.{placed_board, position_refusal}
use Rattle.receiver.specs.Receive.{answer}
use Rattle.receiver.proofs.Calls.{call_order, accept_some}
use Rattle.demands.specs.Calls.{Answers}
use Rattle.demands.specs.Reports.{Tells, time, place}
use Rattle.demands.specs.Runs.{said_by, in_state, on_board, heard, started, From, idle, sound, tokens_of, memory_behind, word_behind, Step, called, told, done, next, Offered}
use Rattle.demands.proofs.Calls.{promise, rules, is_taken, is_order, is_state, written_is, keeps_sound, receive_some}
use Rattle.demands.proofs.Reports.{report_promise, report_refused, report_accepted, report_keeps_sound, report_some}
use Rattle.demands.proofs.Positions.{place_promise, place_numbered, place_refused, place_accepted, place_keeps_sound, place_some}

-- ---- each step is the rule's

-- a call says and leaves what the byte steps over the bytes taken do, whatever the board's spare bytes
module _ {b : Board} {t : ℕ} {p before after : List ℕ} {r : Call} (got : Answers b t p before r after) where
  abbrev c : Called Order Memory
  c = rules got

  got_said : in_state (said_by r after) ≡ c.said
  got_said =
      let o : given r.order ≡ c.said.orders = ap given (is_order got) ∙ call_order (refusal_of b) (state_of b) t (length before) p in
      λ i. record { reply = written_is got i; orders = o i; next = is_state got i }

  got_steps : in_state (said_by r after) ≡ steps protocol (state_of b) (at t (take r.taken p))
  got_steps =
      got_said ∙ (call_steps protocol (refusal_of b) p (state_of b) t (length before)).same
      ∙ ap (λ (k : ℕ). steps protocol (state_of b) (at t (take k p))) (sym (is_taken got))

-- so does a report: heard it is the rule's event, refused it is none
heard_steps : {b c : Board} {number : ℕ} (e : Event) → (number ≡ 0 → quiet (state_of c) ≡ step protocol (state_of b) (event e)) → ((number ≡ 0 → ⊥) → c ≡ b)
    → in_state (quiet c) ≡ steps protocol (state_of b) (heard number e)
unfolding steps
heard_steps {b} {c} {number} e accepted refused = by (eqb number 0) refl
  where
    by : (y : Bool) → eqb number 0 ≡ y → in_state (quiet c) ≡ steps protocol (state_of b) (cond y (event e ∷ []) [])
    by true n = ap (λ (a : Said Order (State Memory)). then a (quiet a.next)) (accepted (eqb-true number 0 n))
    by false n = ap (λ (z : Board). quiet (state_of z)) (refused (eqb-false number 0 n))

told_steps : {b c : Board} {e : Event} {number : ℕ} → Tells b e number c → in_state (quiet c) ≡ steps protocol (state_of b) (heard number e)
told_steps {b} (time {now} got) =
    heard_steps (clock now) (λ z. ap quiet (ap state_of (report_accepted got z) ∙ clocked_state b now) ∙ sym (clock_step (state_of b) now)) (report_refused got)
told_steps {b} (place {p} got) =
    heard_steps (position p) (λ z. ap (λ (y : Board). quiet (state_of y)) (place_accepted got z) ∙ sym (position_step (state_of b) p)) (place_refused got)

step_steps : {b : Board} {items : List (Item Event)} {y : Said Order Board} → Step b items y → in_state y ≡ steps protocol (state_of b) items
step_steps (called got) = got_steps got
step_steps (told report) = told_steps report

-- EVERY OFFERED RUN says and leaves what the byte steps over it do, from whatever board
pub offered_state : {b : Board} {run : List (Item Event)} {x : Said Order Board} → Offered b run x → in_state x ≡ steps protocol (state_of b) run
unfolding steps
offered_state (done b) = refl
offered_state (next b items rest run y x one more e) =
    let first = step_steps one in
    let behind = offered_state more ∙ ap (λ (z : Said Order (State Memory)). steps protocol z.next rest) first in
    (λ i. then (first i) (behind i)) ∙ sym (steps_append protocol items rest (state_of b)) ∙ ap (steps protocol (state_of b)) (sym e)

-- ---- spare bytes that are zero stay so

abbrev Tidy : Board → Type 0
Tidy b = b ≡ board_of (state_of b)

tidy_board : (s : State Memory) → Tidy (board_of s)
tidy_board s = ap board_of (sym (state_board s))

step_tidy : {b : Board} {items : List (Item Event)} {y : Said Order Board} → Step b items y → Tidy b → Tidy y.next
step_tidy {b} (called got) tidy =
    subst Tidy (ap (λ (z : Call). z.board) (sym (promise got).result)) (either Tidy (eqb (rules got).taken 0) b _ tidy (tidy_board (rules got).said.next))
step_tidy {b} (told (time {now} got)) tidy =
    subst Tidy (ap (λ (z : Report). z.board) (sym (report_promise got)))
    (either Tidy (eqb (refusal_of b) 0) _ b (either Tidy (overdue (state_of b) now) _ b (tidy_board (dropped (state_of b))) tidy) tidy)
step_tidy {b} (told (place {p} got)) tidy =
    subst Tidy (ap (λ (z : Report). z.board) (sym (place_promise got)))
    (either Tidy (eqb (position_refusal b p) 0) _ b (λ i. placed_board (tidy i) p) tidy)

offered_tidy : {b : Board} {run : List (Item Event)} {x : Said Order Board} → Offered b run x → Tidy b → Tidy x.next
offered_tidy (done b) tidy = tidy
offered_tidy (next b items rest run y x one more e) tidy = offered_tidy more (step_tidy one tidy)

-- so from such a board the board at the end is known to its last byte
pub offered_steps : {b : Board} {run : List (Item Event)} {x : Said Order Board} → Offered b run x → (s : State Memory) → b ≡ board_of s
    → x ≡ on_board (steps protocol s run)
offered_steps {run = run} {x = x} h s is =
    let at-s = ap state_of is ∙ state_board s in
    let tidy = offered_tidy h (subst Tidy (sym is) (tidy_board s)) in
    (λ i. record { reply = x.reply; orders = x.orders; next = tidy i }) ∙ ap on_board (offered_state h ∙ ap (λ (z : State Memory). steps protocol z run) at-s)

-- ---- THE DEMANDS, from any board with nothing unfinished and from any sound one, at its memory and its last stamp: what the board holds unfinished
-- counts as the front of the whole run

-- Demand 3: "Once all is taken, the replies joined, the orders in sequence, the settings, flags, last refused field, unfinished bytes and last
-- stamp are those that sheet 01's rule gives for the whole run at once."
-- 02, P3: "Demand 3's run and the whole-run rule then hold bytes and clock reports in their order."
pub any_cutting : {b : Board} {run all : List (Item Event)} {x : Said Order Board} → Offered b run x → From b run all
    → in_state x ≡ whole_run protocol b.memory b.stamp all
any_cutting {b} {run} h (idle e) =
    offered_state h ∙ ap (λ (n : ℕ). steps protocol (state_at b.memory (take n b.held) b.stamp) run) e
    ∙ steps_is_whole protocol need_law b.memory b.stamp run
any_cutting {b} {run} h (sound e) =
    let u = take b.count b.held in
    let joined = steps_join protocol need_law b.memory b.stamp u [] (sound_begun (state_of b) e) in
    offered_state h ∙ ap (λ (a : Said Order (State Memory)). then a (steps protocol a.next run)) (sym joined)
    ∙ sym (steps_append protocol (at b.stamp u) run (state_at b.memory [] b.stamp))
    ∙ steps_is_whole protocol need_law b.memory b.stamp (started b run)

module _ {b : Board} {run all : List (Item Event)} {x : Said Order Board} (h : Offered b run x) (from : From b run all) where
  abbrev said : in_state x ≡ whole_run protocol b.memory b.stamp all
  said = any_cutting h from

  -- by the tokens of the run
  dealt : (x.reply ≡ (deal protocol b.memory (tokens_of all)).reply) × (x.next.memory ≡ memory_behind b.memory (tokens_of all))
  unfolding whole_run
  dealt = (ap (λ (y : Said Order (State Memory)). y.reply) said, ap (λ (y : Said Order (State Memory)). y.next.memory) said)

  -- no byte is lost or invented: the run is the bytes of the units that were dealt with or dropped, in sequence, and then "Bytes of an unfinished unit
  -- at the end of the run stay unfinished", on the board at the end
  pub conserved : bytes all ≡ spent (tokens_of all) ++ take x.next.count x.next.held
  unfolding whole_run
  conserved =
      units_bytes protocol.cuts protocol.need need_law all
      ∙ ap (λ (y : Said Order (State Memory)). spent (tokens_of all) ++ y.next.line.unfinished) (sym said)

  -- a unit u of the run, behind the tokens `before`: what it meets, and its answer
  module _ (before after : List (Token Event)) (u : List ℕ) (cut : tokens_of all ≡ before ++ whole u ∷ after) where
    abbrev pub m : Memory
    m = memory_behind b.memory before

    abbrev pub a : Said Order Memory
    a = act m (whole u)

    -- its reply stands behind the replies of what came before it, and the run goes on from the memory that it leaves
    pub answered : x.reply ≡ (deal protocol b.memory before).reply ++ (a.reply ++ (deal protocol a.next after).reply)
    unfolding deal
    answered = dealt.0 ∙ ap (λ (ks : List (Token Event)). (deal protocol b.memory ks).reply) cut ∙ ap (λ (y : Said Order Memory). y.reply) (deal_append protocol before (whole u ∷ after) b.memory)

    pub goes_on : x.next.memory ≡ (deal protocol a.next after).next
    unfolding deal
    goes_on = dealt.1 ∙ ap (λ (ks : List (Token Event)). (deal protocol b.memory ks).next) cut ∙ ap (λ (y : Said Order Memory). y.next) (deal_append protocol before (whole u ∷ after) b.memory)

    -- where it is a set, what is heard there is its reply, whole: so what `Without` asks of sets in between can be heard too
    pub heard_is : (k : ℕ) → kind_at u ≡ Set k → word_behind b.memory before x.reply ≡ a.reply
    unfolding act
    heard_is k e =
        let long : length a.reply ≡ 4 = ap (λ (κ : Kind). length (does m u κ).reply) e ∙ does_length m u (Set k) in
        let more = (deal protocol a.next after).reply in
        ap (λ (r : List ℕ). take 4 (drop (length (deal protocol b.memory before).reply) r)) answered
        ∙ ap (take 4) (drop-append_seam (deal protocol b.memory before).reply (a.reply ++ more))
        ∙ ap (λ (n : ℕ). take n (a.reply ++ more)) (sym long) ∙ take-append_seam a.reply more

    -- Demand 1: "A command refused on the wire (errc, errd, errv) alters no setting.": a unit at whose place a refusal is heard leaves all settings
    -- as they were before it, and at the end they are those of the run without it
    pub refused_alters_none : Refused (word_behind b.memory before x.reply)
        → (a.next.settings ≡ m.settings) × (x.next.memory.settings ≡ (memory_behind b.memory (before ++ after)).settings)
    refused_alters_none r =
        let keeps : a.next.settings ≡ m.settings = refused_set_keeps m u (λ k e. subst Refused (heard_is k e) r) in
        let without = ap (λ (y : Said Order Memory). y.next.settings) (deal_append protocol before after b.memory) in
        (keeps, ap (λ (y : Memory). y.settings) goes_on ∙ settings_alone after a.next m keeps ∙ sym without)

    -- 02, P6: "the two rules come after all ranges, recorded as field 99": a set that is whole and has a field out of its range is refused for that field,
    -- whatever its rule says; one with a broken rule alone for field 99
    pub range_recorded : (k : ℕ) → kind_at u ≡ Set k → intact u ≡ true → let bad = first_out (row_at k) (numbers_in (row_at k) (data_in u)) in
        (bad ≡ 0 → ⊥) → x.next.memory ≡ (deal protocol (out_of_range m k bad).next after).next
    range_recorded k set crc out = goes_on ∙ ap (λ (y : Said Order Memory). (deal protocol y.next after).next) (range_first m u k set crc out)

    pub rule_recorded : (k : ℕ) → kind_at u ≡ Set k → intact u ≡ true → let ns = numbers_in (row_at k) (data_in u) in
        first_out (row_at k) ns ≡ 0 → (row_at k).rule ns ≡ false → x.next.memory ≡ (deal protocol (out_of_range m k 99).next after).next
    rule_recorded k set crc none broken = goes_on ∙ ap (λ (y : Said Order Memory). (deal protocol y.next after).next) (rule_behind m u k set crc none broken)

    -- 02, P5: "gpos, which sends the position as it then stands": that behind the tokens before it
    pub gpos_sends : kind_at u ≡ Finds → x.reply ≡ (deal protocol b.memory before).reply ++ (position_reply m.position ++ (deal protocol m after).reply)
    gpos_sends e = answered ∙ ap (λ (y : Said Order Memory). (deal protocol b.memory before).reply ++ (y.reply ++ (deal protocol y.next after).reply)) (found m u e)

  -- 02, P5: where the drive stands at the end, part by part: where the last report, spos or zero left it that touched that part
  pub position_steps : x.next.memory.position.steps ≡ stands_at steps_part b.memory.position (tokens_of all)
  position_steps = ap (λ (y : Memory). y.position.steps) dealt.1 ∙ steps_last (tokens_of all) b.memory

  pub position_microsteps : x.next.memory.position.microsteps ≡ stands_at microsteps_part b.memory.position (tokens_of all)
  position_microsteps = ap (λ (y : Memory). y.position.microsteps) dealt.1 ∙ microsteps_last (tokens_of all) b.memory

  pub position_count : x.next.memory.position.count ≡ stands_at count_part b.memory.position (tokens_of all)
  position_count = ap (λ (y : Memory). y.position.count) dealt.1 ∙ count_last (tokens_of all) b.memory

  -- Demand 2: "After an accepted set, the get of that block returns the same fields, reserved bytes zero, until the next accepted set of that block":
  -- in a run, the set u, at whose place its own name is heard, then the get g of its block with no set of the block so answered between
  pub get_after_set : (before between after : List (Token Event)) (u g : List ℕ) (k : ℕ)
      → tokens_of all ≡ before ++ (whole u ∷ between ++ (whole g ∷ after))
      → kind_at u ≡ Set k → word_behind b.memory before x.reply ≡ le_bytes 4 (name_in set_table k)
      → Without k (act (memory_behind b.memory before) (whole u)).next between
      → kind_at g ≡ Get k
      → let y = deal protocol b.memory (before ++ (whole u ∷ between)) in
      x.reply ≡ y.reply ++ (get_reply k (canonical (row_at k) (data_in u)) ++ (deal protocol y.next after).reply)
  get_after_set before between after u g k cut set word w get =
      let e : Echoed (memory_behind b.memory before) u k = record { kind = set; reply = sym (heard_is before (between ++ (whole g ∷ after)) u cut k set) ∙ word } in
      ap (λ (y : Said Order (State Memory)). y.reply) said ∙ run_get_after_set b.memory b.stamp all before between after u g k cut e w get

-- "Flags stay set until a fresh board." (01): over any offered run, and so over one call and over one report
pub flags_kept : {b : Board} {run : List (Item Event)} {x : Said Order Board} → Offered b run x → FlagsStay b.memory x.next.memory
flags_kept {b} {run} h = subst (λ (y : Said Order (State Memory)). FlagsStay b.memory y.next.memory) (sym (offered_state h)) (flags_stay run (state_of b))

-- Demand 3 from a fresh board: the board at the end is the rule's to its last byte
pub from_fresh : (κs : _) (a : _) (b : Board) (s : _) → fresh.Post κs a b s → {run : List (Item Event)} {x : Said Order Board} → Offered b run x
    → x ≡ on_board (whole_run protocol fresh_memory 0 run)
from_fresh κs a b s is {run} h = offered_steps h fresh_state is ∙ ap on_board (steps_is_whole protocol need_law fresh_memory 0 run)

-- ---- every run can be offered to its end

-- one byte, in a call with the least room
module _ (b : Board) (t x : ℕ) (sound : sound_board b ≡ true) where
  abbrev room : List ℕ
  room = replicate longest_frame 0

  abbrev one : Called Order Memory
  one = call protocol (refusal_of b) (state_of b) t (length room) (x ∷ [])

  one_taken : one.taken ≡ 1
  one_taken =
      let e = call_accepted protocol (refusal_of b) (state_of b) t longest_frame (x ∷ []) (omega arith) (omega arith) (refusal_none b sound) in
      let some : 0 < one.taken = rw e (accept_some (state_of b) t longest_frame (x ∷ []) (omega arith) (omega arith)) in
      omega (arith, (call_steps protocol (refusal_of b) (x ∷ []) (state_of b) t longest_frame).most)

  one_more : (run : List (Item Event)) (y : Said Order Board) → Offered (answer b one).board run y → (z : Said Order Board) × Offered b (byte t x ∷ run) z
  one_more run y h =
      let front : byte t x ∷ run ≡ at t (take one.taken (x ∷ [])) ++ run = ap (λ (k : ℕ). at t (take k (x ∷ [])) ++ run) (sym one_taken) in
      (_, next b _ run (byte t x ∷ run) _ y (called (receive_some b t (x ∷ []) room)) h front)

-- one report, which a sound board hears
tells_some : (e : Event) (b : Board) → SoundEvent e → sound_board b ≡ true → (after : Board) × Tells b e 0 after × (sound_board after ≡ true)
tells_some (position p) b in-range h =
    let got = place_some b p in
    let zero : (drive.reported b p).number ≡ 0 = place_numbered got ∙ rw (h, in-range) in
    ((drive.reported b p).board, subst (λ (n : ℕ). Tells b (position p) n (drive.reported b p).board) zero (place got), place_keeps_sound got h)
tells_some (clock now) b _ h =
    let got = report_some b now in
    ((reported b now).board, subst (λ (n : ℕ). Tells b (clock now) n (reported b now).board) (refusal_none b h) (time got), report_keeps_sound got h)

-- Demand 3 speaks of every run: "With a piece that is not empty, an accepted call takes at least one byte", and a sound board hears each report (one of
-- microsteps outside -255..255 is no event), so each run can be offered to its end
pub offerable : (run : List (Item Event)) → EventsOf SoundEvent run → (b : Board) → sound_board b ≡ true → (x : Said Order Board) × Offered b run x
offerable [] es b h = (quiet b, done b)
offerable (byte t x ∷ run) es b h =
    let rest = offerable run es (answer b (one b t x h)).board (keeps_sound (receive_some b t (x ∷ []) (room b t x h)) h) in
    one_more b t x h run rest.0 rest.1
offerable (event e ∷ run) es b h =
    let got = tells_some e b es.0 h in
    let rest = offerable run es.1 got.0 got.2 in
    (_, next b _ run (event e ∷ run) _ rest.0 (told got.1) rest.1 refl)

-- a call that stops, then a report, then the untaken rest of its piece: offered as they came, one cutting of the run that has them in that order
pub report_between : (b c : Board) (t number : ℕ) (e : Event) (p before after : List ℕ) (r : Call) (run : List (Item Event)) (x : Said Order Board)
    → Answers b t p before r after → Tells r.board e number c → Offered c (at t (drop r.taken p) ++ run) x
    → Offered b (at t (take r.taken p) ++ (heard number e ++ (at t (drop r.taken p) ++ run))) (then (said_by r after) (then (quiet c) x))
report_between b c t number e p before after r run x got report h =
    next b _ _ _ _ _ (called got) (next r.board _ (at t (drop r.taken p) ++ run) _ _ x (told report) h refl) refl
