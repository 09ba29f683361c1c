-- The byte step over a run cuts it as the whole-run rule does, and any bound from the run's length on does.
use Prim.Native.Nat.{ℕ, zero, suc, ◌<◌, ◌≤◌}
use mathlib.Core.Path.{◌≡◌, refl, ap, sym, ◌∙◌}
use mathlib.Core.Bool.{Bool}
use mathlib.Core.List.{List, [], ◌∷◌, ◌++◌}
use native.Mathlib.Omega.{arith}
use lib.Dec.{leb}
use borrow.Author.Tests.{leb-true, leb-false, le-leb, lt-leb}
use lib.ListN.{length, length-append}
use Rattle.rule.specs.Run.{Item, byte, event, late, last_stamp}
use Rattle.rule.specs.Framing.{Needs, whole, lost, seen, Front, put, after, front, units, units_of}
use Rattle.rule.specs.Rule.{Line}
use Rattle.rule.specs.Step.{Fed, join, cut_of, settle, feed_on, feed, feeds}
use Rattle.rule.proofs.Choice.{either, either_by}
use Rattle.rule.proofs.Front.{after_event, front_whole, front_end, front_late, front_cut, front_on, front_event}

module _ {E : Type 0} (cuts : ℕ → E → Bool) (need : List ℕ → ℕ) where
  pub settle_whole : (u : List ℕ) (t : ℕ) → need u ≤ length u
      → settle cuts need u t ≡ record { tokens = whole u ∷ []; line = record { unfinished = []; last = t } }
  unfolding settle
  settle_whole u t h = rw (le-leb (need u) (length u) h)

  pub settle_part : (u : List ℕ) (t : ℕ) → length u < need u → settle cuts need u t ≡ record { tokens = []; line = record { unfinished = u; last = t } }
  unfolding settle
  settle_part u t h = rw (lt-leb (need u) (length u) h)

  -- what holds of a whole unit and of a part holds of what is settled
  pub settle_either : (P : Fed E → Type 0) (u : List ℕ) (t : ℕ)
      → (need u ≤ length u → P (record { tokens = whole u ∷ []; line = record { unfinished = []; last = t } }))
      → (length u < need u → P (record { tokens = []; line = record { unfinished = u; last = t } }))
      → P (settle cuts need u t)
  unfolding settle
  settle_either P u t h k =
      either_by P (leb (need u) (length u)) _ _ (λ e. h (leb-true (need u) (length u) e)) (λ e. k (leb-false (need u) (length u) e))

  -- the last stamp, whatever is unfinished
  settle_last : (u : List ℕ) (t : ℕ) → (settle cuts need u t).line.last ≡ t
  settle_last u t = settle_either (λ (f : Fed E). f.line.last ≡ t) u t (λ _. refl) (λ _. refl)

  pub feed_last : (u : List ℕ) (t : ℕ) (x : Item E) → (feed_on cuts need u t x).line.last ≡ last_stamp t (x ∷ [])
  unfolding feed_on last_stamp
  feed_last [] t (byte s b) = settle_last (b ∷ []) s
  feed_last [] t (event e) = refl
  feed_last (a ∷ u) t (byte s b) =
      either (λ (f : Fed E). f.line.last ≡ s) (late s t) _ _ (settle_last _ s) (settle_last _ s)
  feed_last (a ∷ u) t (event e) = either (λ (f : Fed E). f.line.last ≡ t) (cuts t e) _ _ refl refl

  last_cons : (t : ℕ) (x : Item E) (r : List (Item E)) → last_stamp (last_stamp t (x ∷ [])) r ≡ last_stamp t (x ∷ r)
  unfolding last_stamp
  last_cons t (byte s b) r = refl
  last_cons t (event e) r = refl

  pub feeds_last : (r : List (Item E)) (l : Line) → (feeds cuts need l r).line.last ≡ last_stamp l.last r
  unfolding feeds feed last_stamp
  feeds_last [] l = refl
  feeds_last (x ∷ r) l =
      feeds_last r (feed cuts need l x).line ∙ ap (λ (t : ℕ). last_stamp t r) (feed_last l.unfinished l.last x) ∙ last_cons l.last x r

  module _ (law : Needs need) where
    -- what the proof goes by, for a run r: with nothing unfinished, and within a unit that began with u
    Fresh : List (Item E) → Type 0
    Fresh r = (n t : ℕ) → length r ≤ n → cut_of (feeds cuts need (record { unfinished = []; last = t }) r) ≡ units cuts need n r

    Within : List (Item E) → Type 0
    Within r =
        (n t a : ℕ) (u : List ℕ) → length (a ∷ u) < need (a ∷ u) → length r ≤ n
        → cut_of (feeds cuts need (record { unfinished = a ∷ u; last = t }) r) ≡ after (λ q. units cuts need n q) (front cuts need (a ∷ u) t r)

    -- the step has come to f, and the run goes on with r: what the rule makes of the front x
    abbrev Meets : ℕ → List (Item E) → Front E → Fed E → Type 0
    Meets n r x f = cut_of (join f.tokens (feeds cuts need f.line r)) ≡ after (λ q. units cuts need n q) x

    -- the bytes u have come, the last at t, and are settled
    go_on : (r : List (Item E)) → Fresh r → Within r → (n t a : ℕ) (u : List ℕ) → length (a ∷ u) ≤ need (a ∷ u) → length r ≤ n
        → Meets n r (front cuts need (a ∷ u) t r) (settle cuts need (a ∷ u) t)
    unfolding Fresh Within
    go_on r fresh within n t a u h k =
        settle_either (Meets n r (front cuts need (a ∷ u) t r)) (a ∷ u) t
        (λ g. rw (front_whole cuts need law (a ∷ u) t r (omega arith)) (ap (put (whole (a ∷ u))) (fresh n t k))) (λ g. within n t a u g k)

    -- what is pending at u has at least one byte more
    longer : (u : List ℕ) (b : ℕ) → length u < need u → length (u ++ b ∷ []) ≤ need (u ++ b ∷ [])
    longer u b h = omega (arith, law.pending u (b ∷ []) h, length-append u (b ∷ []))

    fresh_step : (x : Item E) (r : List (Item E)) → Fresh r → Within r → Fresh (x ∷ r)
    unfolding Fresh feeds feed feed_on units
    fresh_step (byte s b) r fresh within zero t h = absurd (omega arith)
    fresh_step (event e) r fresh within zero t h = absurd (omega arith)
    fresh_step (byte s b) r fresh within (suc n) t h = go_on r fresh within n s b [] (longer [] b law.starts) (omega arith)
    fresh_step (event e) r fresh within (suc n) t h = ap (put (seen e)) (fresh n t (omega arith))

    within_step : (x : Item E) (r : List (Item E)) → Fresh r → Within r → Within (x ∷ r)
    unfolding Fresh Within feeds feed feed_on
    within_step (byte s b) r fresh within n t a u g h =
        either_by (Meets n r (front cuts need (a ∷ u) t (byte s b ∷ r))) (late s t) _ _
        (λ e. rw (front_late cuts need law (a ∷ u) t g s b r e) (ap (put (lost (a ∷ u))) (fresh_step (byte s b) r fresh within n t h)))
        (λ e. rw (front_on cuts need law (a ∷ u) t g s b r e) (go_on r fresh within n s a (u ++ b ∷ []) (longer (a ∷ u) b g) (omega arith)))
    within_step (event x) r fresh within n t a u g h =
        either_by (Meets n r (front cuts need (a ∷ u) t (event x ∷ r))) (cuts t x) _ _
        (λ e. rw (front_cut cuts need law (a ∷ u) t g x r e) (ap (put (lost (a ∷ u))) (fresh_step (event x) r fresh within n t h)))
        (λ e.
        rw (front_event cuts need law (a ∷ u) t g x r e, after_event (λ q. units cuts need n q) x (front cuts need (a ∷ u) t r))
        (ap (put (seen x)) (within n t a u g (omega arith))))

    both : (r : List (Item E)) → Fresh r × Within r
    unfolding Fresh Within feeds units
    both [] = ((λ n t h. elim n as (λ k. cut_of (feeds cuts need (record { unfinished = []; last = t }) []) ≡ units cuts need k []) [ zero ↦ refl | suc m ↦ refl ]), (λ n t a u g h. rw (front_end cuts need law (a ∷ u) t g)))
    both (x ∷ r) =
        let ih = both r in
        (fresh_step x r ih.0 ih.1, within_step x r ih.0 ih.1)

    -- THE BYTE STEP OVER A RUN IS THE WHOLE-RUN RULE
    pub feeds_is_units : (r : List (Item E)) (t : ℕ) → cut_of (feeds cuts need (record { unfinished = []; last = t }) r) ≡ units_of cuts need r
    unfolding Fresh
    feeds_is_units r t = (both r).0 (length r) t (omega arith)

    -- the run's length is bound enough
    pub units_enough : (r : List (Item E)) (n : ℕ) → length r ≤ n → units cuts need n r ≡ units_of cuts need r
    unfolding Fresh
    units_enough r n h = sym ((both r).0 n 0 h) ∙ feeds_is_units r 0
