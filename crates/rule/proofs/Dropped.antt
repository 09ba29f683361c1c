-- Why the time is reported (02, P3), the other half: what is dropped has truly waited, and what has is dropped. Assumes nothing.
use Prim.Native.Nat.{ℕ, ◌+◌, ◌<◌, ◌≤◌}
use mathlib.Core.Path.{◌≡◌, refl, ap, sym, subst, ◌∙◌}
use mathlib.Core.Bool.{Bool, true}
use mathlib.Core.List.{List, [], ◌∷◌, ◌++◌, append_assoc}
use native.Mathlib.Omega.{arith}
use lib.ListN.{length}
use borrow.Author.Tests.{ltb-true, lt-ltb}
use Rattle.rule.specs.Run.{byte, event, wait, late, last_stamp}
use Rattle.rule.specs.Framing.{Needs, Token, whole, lost, seen, Cut, units_of}
use Rattle.rule.specs.Rule.{Line}
use Rattle.rule.specs.Step.{Fed, cut_of, settle, feed_on, feed, feeds}
use Rattle.rule.specs.TrueTime.{Timed, byte_at, report_at, time_of, Entry, dated, other, byte_time, entry_time, last_byte, TooLong, longest_silence, shown, stamp, stamped, Watched, Waited, Dropped, TrueDrops}
use Rattle.rule.proofs.Choice.{either_by}
use Rattle.rule.proofs.Framing.{settle_either, feed_last, feeds_is_units}
use Rattle.rule.proofs.TrueTime.{wait_true, not_late, idle, passed, Due, WatchedFrom, watched_from}

-- a counter that comes round shows no wait longer than the true one
truly_late : (later earlier : ℕ) → earlier ≤ later → late (shown later) (shown earlier) ≡ true → TooLong later earlier
unfolding late wait
truly_late later earlier h e = omega (arith, ltb-true 400 (wait (shown later) (shown earlier)) e)

-- ---- what holds of each dropped beginning in tokens: P of the tokens before it, and of it
abbrev Fact : Type 0 → Type 1
Fact E = List (Token E) → List ℕ → Type 0

module _ {E : Type 0} where
  -- of what stands behind the token k
  abbrev behind : Token E → Fact E → Fact E
  behind k P ks u = P (k ∷ ks) u

  abbrev IfLost : Fact E → Token E → Type 0
  IfLost P (whole u) = Unit {0}
  IfLost P (lost u) = P [] u
  IfLost P (seen e) = Unit {0}

  abbrev EachLost : Fact E → List (Token E) → Type 0
  EachLost P [] = Unit {0}
  EachLost P (k ∷ ks) = IfLost P k × EachLost (behind k P) ks

  one_lost : (P : Fact E) (ks ls : List (Token E)) (u : List ℕ) → EachLost P (ks ++ lost u ∷ ls) → P ks u
  one_lost P [] ls u h = h.0
  one_lost P (k ∷ ks) ls u h = one_lost (behind k P) ks ls u h.1

  lost_append : (P : Fact E) (ks ls : List (Token E)) → EachLost P ks → EachLost (λ js u. P (ks ++ js) u) ls → EachLost P (ks ++ ls)
  lost_append P [] ls h k = k
  lost_append P (j ∷ ks) ls h k = (h.0, lost_append (behind j P) ks ls h.1 k)

  if_map : (P Q : Fact E) → ((ks : List (Token E)) (u : List ℕ) → P ks u → Q ks u) → (k : Token E) → IfLost P k → IfLost Q k
  if_map P Q f (whole u) h = tt
  if_map P Q f (lost u) h = f [] u h
  if_map P Q f (seen e) h = tt

  lost_map : (P Q : Fact E) → ((ks : List (Token E)) (u : List ℕ) → P ks u → Q ks u) → (ls : List (Token E)) → EachLost P ls → EachLost Q ls
  lost_map P Q f [] h = tt
  lost_map P Q f (k ∷ ls) h = (if_map P Q f k h.0, lost_map (behind k P) (behind k Q) (λ ks u. f (k ∷ ks) u) ls h.1)

module _ {E : Type 0} (clock : ℕ → E) (cuts : ℕ → E → Bool) (need : List ℕ → ℕ) where
  -- from the line l, the last byte at b, the run comes to a place where ks are complete and u is unfinished, and the next byte or report comes too
  -- long after the last byte
  abbrev Place : Line → ℕ → List (Entry cuts) → Fact E
  Place l b run ks u =
      (q : List (Entry cuts)) × (x : Timed) × (r : List (Entry cuts)) × (run ≡ q ++ dated x ∷ r)
      × (cut_of (feeds cuts need l (stamped clock q)) ≡ record { tokens = ks; unfinished = u }) × (0 < length u) × TooLong (time_of x) (last_byte b q)

  -- such a place behind the entry y is one of the run with y
  place_on : (l : Line) (b : ℕ) (y : Entry cuts) (r : List (Entry cuts)) → let f = feed cuts need l (stamp clock y) in
      (ks : List (Token E)) (u : List ℕ) → Place f.line (byte_time b y) r ks u → Place l b (y ∷ r) (f.tokens ++ ks) u
  unfolding feeds
  place_on l b y r ks u (q, x, s, e, c, k, h) =
      let front = (feed cuts need l (stamp clock y)).tokens in
      (y ∷ q, x, s, ap (λ (z : List (Entry cuts)). y ∷ z) e, ap (λ (d : Cut E). record { tokens = front ++ d.tokens; unfinished = d.unfinished }) c, k, h)

  -- the first entry may be the one
  place_first : (l : Line) (b : ℕ) (x : Timed) (r : List (Entry cuts)) → 0 < length l.unfinished → TooLong (time_of x) b
      → Place l b (dated x ∷ r) [] l.unfinished
  unfolding feeds
  place_first l b x r k h = ([], x, r, refl, refl, k, h)

  -- the last stamp is the last byte's time, as shown
  shown_on : (l : Line) (b : ℕ) (x : Entry cuts) → l.last ≡ shown b → (feed cuts need l (stamp clock x)).line.last ≡ shown (byte_time b x)
  unfolding feed last_stamp
  shown_on l b (dated (byte_at s y)) is = feed_last cuts need l.unfinished l.last (byte (shown s) y)
  shown_on l b (dated (report_at s)) is = feed_last cuts need l.unfinished l.last (event (clock (shown s))) ∙ is
  shown_on l b (other e still) is = feed_last cuts need l.unfinished l.last (event e) ∙ is

  module _ (law : Needs need) (clocks : (last now : ℕ) → cuts last (clock now) ≡ late now last) where
    -- from the line l, the last byte at b, a step of the run comes to f, and what it drops is dropped at such a place
    abbrev DropsHere : Line → ℕ → List (Entry cuts) → Fed E → Type 0
    DropsHere l b run f = EachLost (Place l b run) f.tokens

    settle_none : (P : Fact E) (u : List ℕ) (t : ℕ) → EachLost P (settle cuts need u t).tokens
    settle_none P u t = settle_either cuts need (λ (f : Fed E). EachLost P f.tokens) u t (λ _. (tt, tt)) (λ _. tt)

    place_step : (x : Entry cuts) (r : List (Entry cuts)) (u : List ℕ) (t b p : ℕ) → t ≡ shown b
        → let l : Line = record { unfinished = u; last = t } in
        Due clock cuts need l b p x → DropsHere l b (x ∷ r) (feed_on cuts need u t (stamp clock x))
    unfolding feed_on
    place_step (dated (byte_at s y)) r [] t b p is w = settle_none _ (y ∷ []) (shown s)
    place_step (dated (report_at s)) r [] t b p is w = (tt, tt)
    place_step (dated (byte_at s y)) r (a ∷ u) t b p is w =
        let l : Line = record { unfinished = a ∷ u; last = t } in
        either_by (DropsHere l b (dated (byte_at s y) ∷ r)) (late (shown s) t) _ _
        (λ e. (place_first l b (byte_at s y) r (omega arith) (truly_late s b (w (omega arith)).0 (rw (← is) e)), settle_none _ (y ∷ []) (shown s)))
        (λ e. settle_none _ (a ∷ u ++ y ∷ []) (shown s))
    place_step (dated (report_at s)) r (a ∷ u) t b p is w =
        let l : Line = record { unfinished = a ∷ u; last = t } in
        either_by (DropsHere l b (dated (report_at s) ∷ r)) (cuts t (clock (shown s))) _ _
        (λ e. (place_first l b (report_at s) r (omega arith) (truly_late s b (w (omega arith)).0 (rw (← is) (sym (clocks t (shown s)) ∙ e))), (tt, tt)))
        (λ e. (tt, tt))
    place_step (other e still) r u t b p is w =
        subst (DropsHere (record { unfinished = u; last = t }) b (other e still ∷ r)) (sym (passed clock cuts need u t e (still t))) (tt, tt)

    places : (r : List (Entry cuts)) (l : Line) (b p : ℕ) → l.last ≡ shown b → WatchedFrom clock cuts need l b p r
        → EachLost (Place l b r) (feeds cuts need l (stamped clock r)).tokens
    unfolding feeds feed
    places [] l b p is w = tt
    places (x ∷ r) l b p is w =
        let f = feed cuts need l (stamp clock x) in
        let rest = (feeds cuts need f.line (stamped clock r)).tokens in
        let later = places r f.line (byte_time b x) (entry_time p x) (shown_on l b x is) w.1 in
        lost_append (Place l b (x ∷ r)) f.tokens rest (place_step x r l.unfinished l.last b p is w.0)
        (lost_map (Place f.line (byte_time b x) r) _ (place_on l b x r) rest later)

    -- ---- the other way. While something is unfinished, the last byte or report p came no more than 400 ms after the last byte b
    abbrev Near : Line → ℕ → ℕ → Type 0
    Near l b p = 0 < length l.unfinished → p ≤ b + 400

    near_step : (x : Entry cuts) (u : List ℕ) (t b p : ℕ) → t ≡ shown b → let l : Line = record { unfinished = u; last = t } in
        Near l b p → Due clock cuts need l b p x → Near (feed_on cuts need u t (stamp clock x)).line (byte_time b x) (entry_time p x)
    unfolding feed_on
    near_step (dated (byte_at s y)) u t b p is near w = λ some. omega arith
    near_step (dated (report_at s)) [] t b p is near w = λ some. absurd (omega arith)
    near_step (dated (report_at s)) (a ∷ u) t b p is near w =
        let due = w (omega arith) in
        let k : p ≤ b + 400 = near (omega arith) in
        either_by (λ (f : Fed E). Near f.line b s) (cuts t (clock (shown s))) _ _ (λ e some. absurd (omega arith))
        (λ e some. not_late s b due.0 (omega (arith, due.1)) (rw (← is) (sym (clocks t (shown s)) ∙ e)))
    near_step (other e still) u t b p is near w = subst (λ (f : Fed E). Near f.line b p) (sym (passed clock cuts need u t e (still t))) near

    -- so the counter shows the next wait as it is
    shows_late : (later earlier p : ℕ) → earlier ≤ later → later ≤ p + longest_silence → p ≤ earlier + 400 → TooLong later earlier
        → late (shown later) (shown earlier) ≡ true
    unfolding late
    shows_late later earlier p h k n far = lt-ltb 400 (wait (shown later) (shown earlier)) (omega (arith, wait_true later earlier h (omega arith)))

    drop_first : (x : Timed) (u : List ℕ) (t : ℕ) → 0 < length u → late (shown (time_of x)) t ≡ true
        → (ls : List (Token E)) × ((feed_on cuts need u t (stamp {cuts = cuts} clock (dated x))).tokens ≡ lost u ∷ ls)
    unfolding feed_on
    drop_first (byte_at s y) [] t some e = absurd (omega arith)
    drop_first (report_at s) [] t some e = absurd (omega arith)
    drop_first (byte_at s y) (a ∷ u) t some e = ((settle cuts need (y ∷ []) (shown s)).tokens, rw e)
    drop_first (report_at s) (a ∷ u) t some e = (seen (clock (shown s)) ∷ [], rw (clocks t (shown s) ∙ e))

    drop_there : (q : List (Entry cuts)) (x : Timed) (r : List (Entry cuts)) (l : Line) (b p : ℕ) → l.last ≡ shown b → Near l b p
        → WatchedFrom clock cuts need l b p (q ++ dated x ∷ r) → let c = cut_of (feeds cuts need l (stamped clock q)) in
        0 < length c.unfinished → TooLong (time_of x) (last_byte b q)
        → (ls : List (Token E)) × ((feeds cuts need l (stamped clock (q ++ dated x ∷ r))).tokens ≡ c.tokens ++ lost c.unfinished ∷ ls)
    unfolding feeds feed
    drop_there [] x r l b p is near w some far =
        let due = w.0 some in
        let now = drop_first x l.unfinished l.last some (rw is (shows_late (time_of x) b p due.0 due.1 (near some) far)) in
        let rest = (feeds cuts need (feed cuts need l (stamp {cuts = cuts} clock (dated x))).line (stamped clock r)).tokens in
        (now.0 ++ rest, ap (λ (ks : List (Token E)). ks ++ rest) now.1)
    drop_there (y ∷ q) x r l b p is near w some far =
        let f = feed cuts need l (stamp clock y) in
        let nearer = near_step y l.unfinished l.last b p is near w.0 in
        let later = drop_there q x r f.line (byte_time b y) (entry_time p y) (shown_on l b y is) nearer w.1 some far in
        (later.0, ap (λ (ks : List (Token E)). f.tokens ++ ks) later.1 ∙ sym (append_assoc f.tokens _ _))

    module _ (run : List (Entry cuts)) (w : Watched clock cuts need run) (ks : List (Token E)) (u : List ℕ) where
      abbrev start : Line
      start = idle clock cuts need 0

      place_waited : Place start 0 run ks u → Waited clock cuts need run ks u
      place_waited (q, x, r, e, c, k, h) =
          record { before = q; next = x; behind = r; place = e; held = sym (feeds_is_units cuts need law (stamped clock q) 0) ∙ c; some = k; long = h }

      tokens_are : (feeds cuts need start (stamped clock run)).tokens ≡ (units_of cuts need (stamped clock run)).tokens
      tokens_are = ap (λ (c : Cut E). c.tokens) (feeds_is_units cuts need law (stamped clock run) 0)

      true_wait : Dropped clock cuts need run ks u → Waited clock cuts need run ks u
      unfolding feeds
      true_wait (ls, e) =
          let each = places run start 0 0 refl (watched_from clock cuts need law run [] w) in
          place_waited (one_lost (Place start 0 run) ks ls u (subst (EachLost (Place start 0 run)) (tokens_are ∙ e) each))

      true_drop : Waited clock cuts need run ks u → Dropped clock cuts need run ks u
      unfolding feeds
      true_drop there =
          let q = there.before in
          let rest = dated there.next ∷ there.behind in
          let is = feeds_is_units cuts need law (stamped clock q) 0 ∙ there.held in
          let watched = watched_from clock cuts need law (q ++ rest) [] (subst (Watched clock cuts need) there.place w) in
          let some = subst (λ (c : Cut E). 0 < length c.unfinished) (sym is) there.some in
          let now = drop_there q there.next there.behind start 0 0 refl (λ none. absurd (omega arith)) watched some there.long in (
            now.0,
            sym tokens_are ∙ ap (λ (z : List (Entry cuts)). (feeds cuts need start (stamped clock z)).tokens) there.place ∙ now.1
                ∙ ap (λ (c : Cut E). c.tokens ++ lost c.unfinished ∷ now.0) is,
          )

    -- WHAT IS UNFINISHED IS DROPPED EXACTLY AFTER A WAIT OF MORE THAN 400 MS OF TRUE TIME
    pub true_drops : (run : List (Entry cuts)) → Watched clock cuts need run → TrueDrops clock cuts need run
    true_drops run w ks u = (true_wait run w ks u, true_drop run w ks u)
