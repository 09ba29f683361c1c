-- What an accepted call does for certain: it takes a byte, stops for three causes only, says what fits, gives one unit's orders at most, and leaves
-- a state of which whatever byte steps keep is true.
use Prim.Native.Nat.{ℕ, suc, ◌-◌, ◌<◌, ◌≤◌}
use mathlib.Core.Path.{◌≡◌, refl, ap}
use mathlib.Core.Bool.{true}
use mathlib.Core.List.{List, [], ◌∷◌, ◌++◌, append-nil}
use native.Mathlib.Omega.{arith}
use lib.ListN.{length, length-append}
use borrow.Author.Tests.{lt-ltb, le-leb}
use Rattle.rule.specs.Run.{Item, byte, event, at, late}
use Rattle.rule.specs.Framing.{Needs, begun, Token, whole, lost}
use Rattle.rule.specs.Rule.{State, Protocol, deal}
use Rattle.rule.specs.Step.{Fed, settle, feed_on, feed, step, steps}
use Rattle.rule.specs.Calls.{Called, going, accept}
use Rattle.rule.specs.Facts.{TokenOf, EventsOf, says, Silent, Stopped, ended, ordered, full}
use Rattle.rule.proofs.Choice.{either, either_none}
use Rattle.rule.proofs.Framing.{settle_either}
use Rattle.rule.proofs.Accept.{accept_by}

module _ {E O M : Type 0} (p : Protocol E O M) where
  -- the line's unfinished bytes are a true beginning
  abbrev Open : Fed E → Type 0
  Open f = begun p.need f.line.unfinished ≡ true

  settle_begun : Needs p.need → (u : List ℕ) (t : ℕ) → Open (settle p.cuts p.need u t)
  unfolding begun
  settle_begun law u t = settle_either p.cuts p.need Open u t (λ _. lt-ltb 0 (p.need []) law.starts) (λ h. lt-ltb (length u) (p.need u) h)

  -- after a byte they always are, whatever they were before
  pub step_begun : Needs p.need → (s : State M) (t x : ℕ) → begun p.need (step p s (byte t x)).next.line.unfinished ≡ true
  unfolding step feed feed_on
  step_begun law s t x = by s.line.unfinished
    where
      by : (u : List ℕ) → Open (feed_on p.cuts p.need u s.line.last (byte t x))
      by [] = settle_begun law (x ∷ []) t
      by (a ∷ u) =
          either Open (late t s.line.last) _ _ (settle_begun law (x ∷ []) t) (settle_begun law (a ∷ u ++ x ∷ []) t)

  pub steps_begun : Needs p.need → (t : ℕ) (piece : List ℕ) (s : State M) → begun p.need s.line.unfinished ≡ true
      → begun p.need (steps p s (at t piece)).next.line.unfinished ≡ true
  unfolding steps
  steps_begun law t [] s h = h
  steps_begun law t (x ∷ piece) s h = steps_begun law t piece (step p s (byte t x)).next (step_begun law s t x)

  -- what tokens keep true of the memory, where each event is one of Q
  module _ (P : M → Type 0) (Q : E → Type 0) (keeps : (m : M) (k : Token E) → TokenOf Q k → P m → P (p.act m k).next) where
    abbrev Each : List (Token E) → Type 0
    Each [] = Unit {0}
    Each (k ∷ ks) = TokenOf Q k × Each ks

    deal_keeps : (ks : List (Token E)) (m : M) → Each ks → P m → P (deal p m ks).next
    unfolding deal
    deal_keeps [] m f h = h
    deal_keeps (k ∷ ks) m f h = deal_keeps ks (p.act m k).next f.1 (keeps m k f.0 h)

    -- the tokens of one item
    abbrev Fine : Fed E → Type 0
    Fine f = Each f.tokens

    settle_fine : (u : List ℕ) (t : ℕ) → Fine (settle p.cuts p.need u t)
    settle_fine u t = settle_either p.cuts p.need Fine u t (λ _. (tt, tt)) (λ _. tt)

    byte_fine : (u : List ℕ) (last t x : ℕ) → Fine (feed_on p.cuts p.need u last (byte t x))
    unfolding feed_on
    byte_fine [] last t x = settle_fine (x ∷ []) t
    byte_fine (a ∷ u) last t x = either Fine (late t last) _ _ (tt, settle_fine (x ∷ []) t) (settle_fine (a ∷ u ++ x ∷ []) t)

    event_fine : (u : List ℕ) (last : ℕ) (e : E) → Q e → Fine (feed_on p.cuts p.need u last (event e))
    unfolding feed_on
    event_fine [] last e q = (q, tt)
    event_fine (a ∷ u) last e q = either Fine (p.cuts last e) _ _ (tt, (q, tt)) (q, tt)

    pub steps_keep : (r : List (Item E)) (s : State M) → EventsOf Q r → P s.memory → P (steps p s r).next.memory
    unfolding steps step feed
    steps_keep [] s q h = h
    steps_keep (byte t x ∷ r) s q h =
        steps_keep r (step p s (byte t x)).next q (deal_keeps _ s.memory (byte_fine s.line.unfinished s.line.last t x) h)
    steps_keep (event e ∷ r) s q h =
        steps_keep r (step p s (event e)).next q.1 (deal_keeps _ s.memory (event_fine s.line.unfinished s.line.last e q.0) h)

-- bytes have no event, and any event is one
pub no_events : {E : Type 0} (Q : E → Type 0) (t : ℕ) (u : List ℕ) → EventsOf Q (at t u)
no_events Q t [] = tt
no_events Q t (x ∷ u) = no_events Q t u

pub any_events : {E : Type 0} (r : List (Item E)) → EventsOf (λ _. Unit {0}) r
any_events [] = tt
any_events (byte t x ∷ r) = any_events r
any_events (event e ∷ r) = (tt, any_events r)

module _ {E O M : Type 0} (p : Protocol E O M) where
  -- what a byte says is nothing, or what one whole unit says
  module _ (quiets : Silent p) (P : List ℕ → List O → Type 0) (nothing : P [] [])
      (unit : (m : M) (u : List ℕ) → P (p.act m (whole u)).reply (p.act m (whole u)).orders) where
    abbrev Says : M → Fed E → Type 0
    Says m f = P (deal p m f.tokens).reply (deal p m f.tokens).orders

    settle_says : (m : M) (u : List ℕ) (t : ℕ) → Says m (settle p.cuts p.need u t)
    unfolding deal
    settle_says m u t =
        settle_either p.cuts p.need (Says m) u t
        (λ _. rw (append-nil (p.act m (whole u)).reply, append-nil (p.act m (whole u)).orders) (unit m u)) (λ _. nothing)

    pub step_says : (s : State M) (t x : ℕ) → P (step p s (byte t x)).reply (step p s (byte t x)).orders
    unfolding step feed feed_on deal
    step_says s t x = by s.line.unfinished
      where
        by : (u : List ℕ) → Says s.memory (feed_on p.cuts p.need u s.line.last (byte t x))
        by [] = settle_says s.memory (x ∷ []) t
        by (a ∷ u) =
            either (Says s.memory) (late t s.line.last) _ _
            (rw (quiets.reply s.memory (a ∷ u), quiets.orders s.memory (a ∷ u)) (settle_says (p.act s.memory (lost (a ∷ u))).next (x ∷ []) t))
            (settle_says s.memory (a ∷ u ++ x ∷ []) t)

  -- AN ACCEPTED CALL STOPS FOR ONE OF THE THREE CAUSES
  pub accept_stops : (piece : List ℕ) (s : State M) (t room : ℕ) → Stopped p t room piece (accept p s t room piece)
  accept_stops piece s t room =
      accept_by p t (λ _ room piece c. Stopped p t room piece c) (record {
        at_end = λ _ _. ended refl;
        at_full = λ _ _ x piece h. full x piece refl (omega arith);
        at_order = λ _ _ _ _ o os _ some. ordered o os some;
        at_next = λ s room x piece c _ none ih. more s room x piece c none ih;
      }) piece s room
    where
      more : (s : State M) (room x : ℕ) (piece : List ℕ) (c : Called O M) → (says p t s x).orders ≡ []
          → Stopped p t (room - length (says p t s x).reply) piece c → Stopped p t room (x ∷ piece) (going (says p t s x) c)
      more s room x piece c none (ended h) = ended (ap suc h)
      more s room x piece c none (ordered o os h) = ordered o os (rw none h)
      more s room x piece c none (full y rest h l) = full y rest h (rw (length-append (says p t s x).reply c.said.reply) (omega arith))

  -- what is said fits the room
  pub accept_fits : (piece : List ℕ) (s : State M) (t room : ℕ) → length (accept p s t room piece).said.reply ≤ room
  accept_fits piece s t room =
      accept_by p t (λ _ room _ c. length c.said.reply ≤ room) (record {
        at_end = λ _ _. omega arith;
        at_full = λ _ _ _ _ _. omega arith;
        at_order = λ _ _ _ _ _ _ fits _. fits;
        at_next = λ s room x _ c fits _ ih. omega (arith, length-append (says p t s x).reply c.said.reply);
      }) piece s room

  -- a byte whose reply fits is taken: "With a piece that is not empty, an accepted call takes at least one byte."
  pub accept_takes : (s : State M) (t room x : ℕ) (piece : List ℕ) → length (says p t s x).reply ≤ room → 0 < (accept p s t room (x ∷ piece)).taken
  unfolding accept
  accept_takes s t room x piece h =
      let a = says p t s x in
      rw (le-leb (length a.reply) room h) (either_none (λ (c : Called O M). 0 < c.taken) a.orders _ _ (omega arith) (omega arith))

  -- a call gives no order, or those of one byte
  pub accept_orders : (P : List O → Type 0) → P [] → ((s : State M) (t x : ℕ) → P (step p s (byte t x)).orders)
      → (piece : List ℕ) (s : State M) (t room : ℕ) → P (accept p s t room piece).said.orders
  accept_orders P nothing one piece s t room =
      accept_by p t (λ _ _ _ c. P c.said.orders) (record {
        at_end = λ _ _. nothing;
        at_full = λ _ _ _ _ _. nothing;
        at_order = λ s _ x _ _ _ _ _. one s t x;
        at_next = λ _ _ _ _ _ _ none ih. rw none ih;
      }) piece s room
