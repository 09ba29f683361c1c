-- Why the time is reported (02, P3): with a report often enough, the counter coming round completes no unit. Assumes nothing.
use Prim.Native.Nat.{ℕ, suc, ◌+◌, ◌-◌, ◌<◌, ◌≤◌}
use mathlib.Core.Path.{◌≡◌, refl, ap, sym, subst, ◌∙◌}
use mathlib.Core.Bool.{Bool, false}
use mathlib.Core.List.{List, [], ◌∷◌, ◌++◌, append_assoc}
use native.Mathlib.Omega.{arith}
use lib.ListN.{length, take, drop, length-append}
use lib.Seq.{take-append_seam, drop-append_seam, drop-drop}
use borrow.Author.Tests.{ltb-false}
use Rattle.rule.specs.Run.{event, wait, late}
use Rattle.rule.specs.Framing.{Needs, Token, whole, lost, seen, Cut}
use Rattle.rule.specs.Rule.{Line}
use Rattle.rule.specs.Step.{Fed, join, settle, feed_on, feed, feeds}
use Rattle.rule.specs.Facts.{spent}
use Rattle.rule.specs.TrueTime.{byte_at, report_at, time_of, Entry, dated, other, times, byte_time, entry_time, last_byte, last_time, Close, longest_silence, shown, stamp, stamped, Watched, WholeClose}
use Rattle.rule.proofs.Choice.{either_by}
use Rattle.rule.proofs.Framing.{settle_either, feeds_is_units}

-- ---- times

-- less than a turn of the counter apart, the wait is the true one
pub wait_true : (later earlier : ℕ) → earlier ≤ later → later < earlier + 4294967296 → wait (shown later) (shown earlier) ≡ later - earlier
unfolding wait
wait_true later earlier h k = omega arith

-- what is not late is close
pub not_late : (later earlier : ℕ) → earlier ≤ later → later < earlier + 4294967296 → late (shown later) (shown earlier) ≡ false → later ≤ earlier + 400
unfolding late
not_late later earlier h k e = omega (arith, ltb-false 400 (wait (shown later) (shown earlier)) e, wait_true later earlier h k)

-- the last of the times t ∷ ts
abbrev last_of : ℕ → List ℕ → ℕ
last_of t [] = t
last_of t (s ∷ ts) = last_of s ts

close_on : (t : ℕ) (ts : List ℕ) (s : ℕ) → Close (t ∷ ts) → s ≤ last_of t ts + 400 → Close (t ∷ ts ++ s ∷ [])
close_on t [] s h k = (k, tt)
close_on t (x ∷ ts) s h k = (h.0, close_on x ts s h.1 k)

last_on : (t : ℕ) (ts : List ℕ) (s : ℕ) → last_of t (ts ++ s ∷ []) ≡ s
last_on t [] s = refl
last_on t (x ∷ ts) s = last_on x ts s

-- what lies behind w, behind v, lies behind v ++ w
on_past : (u v w ts : List ℕ) → Close (take (length u) (drop (length w) (drop (length v) ts))) → Close (take (length u) (drop (length (v ++ w)) ts))
on_past u v w ts h = rw (length-append v w, ← drop-drop (length w) (length v) ts) h

-- tokens, and the times ts of the bytes that they spend: those of each whole unit are close
module _ {E : Type 0} where
  abbrev SpentClose : List (Token E) → List ℕ → Type 0
  SpentClose [] ts = Unit {0}
  SpentClose (whole u ∷ ks) ts = Close (take (length u) ts) × SpentClose ks (drop (length u) ts)
  SpentClose (lost u ∷ ks) ts = SpentClose ks (drop (length u) ts)
  SpentClose (seen e ∷ ks) ts = SpentClose ks ts

  -- so are those of the unit u behind ks
  one_close : (ks ls : List (Token E)) (u ts : List ℕ) → SpentClose (ks ++ whole u ∷ ls) ts → Close (take (length u) (drop (length (spent ks)) ts))
  one_close [] ls u ts h = h.0
  one_close (whole v ∷ ks) ls u ts h = on_past u v (spent ks) ts (one_close ks ls u (drop (length v) ts) h.1)
  one_close (lost v ∷ ks) ls u ts h = on_past u v (spent ks) ts (one_close ks ls u (drop (length v) ts) h)
  one_close (seen e ∷ ks) ls u ts h = one_close ks ls u ts h

-- a unit u whose bytes came at us, before ts
module _ {E : Type 0} (u us ts : List ℕ) (same : length u ≡ length us) (ks : List (Token E)) where
  unit_close : Close us → SpentClose ks ts → SpentClose (whole u ∷ ks) (us ++ ts)
  unit_close h k = rw (same, take-append_seam us ts, drop-append_seam us ts) (h, k)

  behind : SpentClose ks ts → SpentClose ks (drop (length u) (us ++ ts))
  behind k = rw (same, drop-append_seam us ts) k

module _ {E : Type 0} (clock : ℕ → E) (cuts : ℕ → E → Bool) (need : List ℕ → ℕ) where
  -- nothing is unfinished, the last stamp is t
  abbrev pub idle : ℕ → Line
  idle t = record { unfinished = []; last = t }

  -- an event that drops nothing leaves the line as it is
  pub passed : (u : List ℕ) (t : ℕ) (e : E) → cuts t e ≡ false
      → feed_on cuts need u t (event e) ≡ record { tokens = seen e ∷ []; line = record { unfinished = u; last = t } }
  unfolding feed_on
  passed [] t e still = refl
  passed (a ∷ u) t e still = rw still

  -- ---- the main loop's part, entry by entry: from the line l, the last byte came at b and the last byte or report at p
  abbrev pub Due : Line → ℕ → ℕ → Entry cuts → Type 0
  Due l b p (dated x) = 0 < length l.unfinished → (b ≤ time_of x) × (time_of x ≤ p + longest_silence)
  Due l b p (other e still) = Unit {0}

  abbrev pub WatchedFrom : Line → ℕ → ℕ → List (Entry cuts) → Type 0
  WatchedFrom l b p [] = Unit {0}
  WatchedFrom l b p (x ∷ r) = Due l b p x × WatchedFrom (feed cuts need l (stamp clock x)).line (byte_time b x) (entry_time p x) r

  -- the line after one entry more
  feeds_on : (l : Line) (q : List (Entry cuts)) (x : Entry cuts)
      → (feeds cuts need l (stamped clock (q ++ x ∷ []))).line ≡ (feed cuts need (feeds cuts need l (stamped clock q)).line (stamp clock x)).line
  unfolding feeds
  feeds_on l [] x = refl
  feeds_on l (y ∷ q) x = feeds_on (feed cuts need l (stamp clock y)).line q x

  byte_on : (t : ℕ) (q : List (Entry cuts)) (x : Entry cuts) → last_byte t (q ++ x ∷ []) ≡ byte_time (last_byte t q) x
  byte_on t [] x = refl
  byte_on t (y ∷ q) x = byte_on (byte_time t y) q x

  time_on : (t : ℕ) (q : List (Entry cuts)) (x : Entry cuts) → last_time t (q ++ x ∷ []) ≡ entry_time (last_time t q) x
  time_on t [] x = refl
  time_on t (y ∷ q) x = time_on (entry_time t y) q x

  module _ (law : Needs need) where
    due_from : (x : Entry cuts) (r q : List (Entry cuts)) → Watched clock cuts need (q ++ x ∷ r)
        → Due (feeds cuts need (idle 0) (stamped clock q)).line (last_byte 0 q) (last_time 0 q) x
    due_from (dated x) r q w =
        let unfinished = ap (λ (c : Cut E). length c.unfinished) (feeds_is_units cuts need law (stamped clock q) 0) in
        λ some. w q r x refl (rw (← unfinished) some)
    due_from (other e still) r q w = tt

    pub watched_from : (r q : List (Entry cuts)) → Watched clock cuts need (q ++ r)
        → WatchedFrom (feeds cuts need (idle 0) (stamped clock q)).line (last_byte 0 q) (last_time 0 q) r
    watched_from [] q w = tt
    watched_from (x ∷ r) q w =
        let next = watched_from r (q ++ x ∷ []) (rw append_assoc w) in
        (due_from x r q w, rw (← feeds_on (idle 0) q x, ← byte_on 0 q x, ← time_on 0 q x) next)

    module _ (clocks : (last now : ℕ) → cuts last (clock now) ≡ late now last) where
      -- ---- what the proof goes by, for a run r: with nothing unfinished, and within a unit whose bytes a ∷ u came at t ∷ ts, the last at b
      Idle : List (Entry cuts) → Type 0
      Idle r = (s b p : ℕ) → WatchedFrom (idle s) b p r → SpentClose (feeds cuts need (idle s) (stamped clock r)).tokens (times r)

      Within : List (Entry cuts) → Type 0
      Within r =
          (a t b p : ℕ) (u ts : List ℕ) → length u ≡ length ts → Close (t ∷ ts) → last_of t ts ≡ b → p ≤ b + 400
          → let l : Line = record { unfinished = a ∷ u; last = shown b } in
          WatchedFrom l b p r → SpentClose (feeds cuts need l (stamped clock r)).tokens (t ∷ ts ++ times r)

      -- the step has come to f, the last byte at b and the last byte or report at p, and the run goes on with r
      abbrev on_to : List (Entry cuts) → Fed E → List (Token E)
      on_to r f = (join f.tokens (feeds cuts need f.line (stamped clock r))).tokens

      abbrev Meets : ℕ → ℕ → List ℕ → List (Entry cuts) → Fed E → Type 0
      Meets b p ts r f = WatchedFrom f.line b p r → SpentClose (on_to r f) ts

      abbrev nothing : ℕ → Fed E
      nothing t = record { tokens = []; line = idle t }

      settled : (r : List (Entry cuts)) → Idle r → Within r → (a t b : ℕ) (u ts : List ℕ) → length u ≡ length ts → Close (t ∷ ts) → last_of t ts ≡ b
          → Meets b b (t ∷ ts ++ times r) r (settle cuts need (a ∷ u) (shown b))
      unfolding Idle Within
      settled r out inside a t b u ts long close last =
          settle_either cuts need (Meets b b (t ∷ ts ++ times r) r) (a ∷ u) (shown b)
          (λ _ w. unit_close (a ∷ u) (t ∷ ts) (times r) (ap suc long) (on_to r (nothing (shown b))) close (out (shown b) b b w))
          (λ _ w. inside a t b b u ts long close last (omega arith) w)

      idle_step : (x : Entry cuts) (r : List (Entry cuts)) → Idle r → Within r → Idle (x ∷ r)
      unfolding Idle feeds feed feed_on
      idle_step (dated (byte_at s x)) r out inside t b p w = settled r out inside x s s [] [] refl tt refl w.1
      idle_step (dated (report_at s)) r out inside t b p w = out t b s w.1
      idle_step (other e still) r out inside t b p w = out t b p w.1

      within_step : (x : Entry cuts) (r : List (Entry cuts)) → Idle r → Within r → Within (x ∷ r)
      unfolding Idle Within feeds feed feed_on
      within_step (dated (byte_at s x)) r out inside a t b p u ts long close last near w =
          let due = w.0 (omega arith) in
          either_by (Meets s s (t ∷ ts ++ s ∷ times r) r) (late (shown s) (shown b)) _ _
          (λ _ v. behind (a ∷ u) (t ∷ ts) (s ∷ times r) (ap suc long) (on_to r (settle cuts need (x ∷ []) (shown s))) (settled r out inside x s s [] [] refl tt refl v))
          (λ e v.
          let k = not_late s b due.0 (omega (arith, due.1)) e in
          rw (← append_assoc ts (s ∷ []) (times r))
          (settled r out inside a t s (u ++ x ∷ []) (ts ++ s ∷ []) (omega (arith, length-append u (x ∷ []), length-append ts (s ∷ []))) (close_on t ts s close (omega arith)) (last_on t ts s) v))
          w.1
      within_step (dated (report_at s)) r out inside a t b p u ts long close last near w =
          let due = w.0 (omega arith) in
          either_by (Meets b s (t ∷ ts ++ times r) r) (cuts (shown b) (clock (shown s))) _ _
          (λ _ v. behind (a ∷ u) (t ∷ ts) (times r) (ap suc long) (on_to r (nothing (shown b))) (out (shown b) b s v))
          (λ e v. inside a t b s u ts long close last (not_late s b due.0 (omega (arith, due.1)) (sym (clocks (shown b) (shown s)) ∙ e)) v)
          w.1
      within_step (other e still) r out inside a t b p u ts long close last near w =
          subst (Meets b p (t ∷ ts ++ times r) r) (sym (passed (a ∷ u) (shown b) e (still (shown b)))) (inside a t b p u ts long close last near) w.1

      both : (r : List (Entry cuts)) → Idle r × Within r
      unfolding Idle Within feeds
      both [] = ((λ s b p w. tt), (λ a t b p u ts long close last near w. tt))
      both (x ∷ r) =
          let ih = both r in
          (idle_step x r ih.0 ih.1, within_step x r ih.0 ih.1)

      -- NO UNIT IS COMPLETED BY A BYTE THAT CAME MORE THAN 400 MS OF TRUE TIME AFTER THE ONE BEFORE IT, and none holds such a byte
      pub true_time : (run : List (Entry cuts)) → Watched clock cuts need run → WholeClose clock cuts need run
      unfolding Idle feeds
      true_time run w ks ls u e =
          let same = ap (λ (c : Cut E). c.tokens) (feeds_is_units cuts need law (stamped clock run) 0) ∙ e in
          one_close ks ls u (times run) (subst (λ (js : List (Token E)). SpentClose js (times run)) same ((both run).0 0 0 0 (watched_from run [] w)))
