-- No byte is lost or counted twice: a run's bytes are those of its units and dropped beginnings, in sequence, and then the unfinished ones.
use Prim.Native.Nat.{ℕ}
use mathlib.Core.Path.{◌≡◌, refl, ap, sym, ◌∙◌}
use mathlib.Core.Bool.{Bool}
use mathlib.Core.List.{List, [], ◌∷◌, ◌++◌, append_assoc, append-nil}
use Rattle.rule.specs.Run.{Item, byte, event, bytes, at, late}
use Rattle.rule.specs.Framing.{Needs, Token, whole, lost, seen, units_of}
use Rattle.rule.specs.Rule.{Line}
use Rattle.rule.specs.Step.{Fed, cut_of, settle, feed_on, feed, feeds}
use Rattle.rule.specs.Facts.{spent, all_bytes}
use Rattle.rule.proofs.Choice.{either}
use Rattle.rule.proofs.Framing.{settle_either, feeds_is_units}

module _ {E : Type 0} where
  pub spent_append : (ks ls : List (Token E)) → spent (ks ++ ls) ≡ spent ks ++ spent ls
  spent_append [] ls = refl
  spent_append (whole u ∷ ks) ls = rw (spent_append ks ls, append_assoc)
  spent_append (lost u ∷ ks) ls = rw (spent_append ks ls, append_assoc)
  spent_append (seen e ∷ ks) ls = spent_append ks ls

  pub bytes_append : (q r : List (Item E)) → bytes (q ++ r) ≡ bytes q ++ bytes r
  bytes_append [] r = refl
  bytes_append (byte t b ∷ q) r = ap (λ (u : List ℕ). b ∷ u) (bytes_append q r)
  bytes_append (event e ∷ q) r = bytes_append q r

pub bytes_at_lem : (E : Type 0) (t : ℕ) (u : List ℕ) → bytes {E = E} (at t u) ≡ u
bytes_at_lem E t [] = refl
bytes_at_lem E t (b ∷ u) = ap (λ (w : List ℕ). b ∷ w) (bytes_at_lem E t u)

module _ {E : Type 0} (cuts : ℕ → E → Bool) (need : List ℕ → ℕ) where
  settle_held : (u : List ℕ) (t : ℕ) → all_bytes (cut_of (settle cuts need u t)) ≡ u
  settle_held u t = settle_either cuts need (λ (f : Fed E). all_bytes (cut_of f) ≡ u) u t (λ _. append-nil (u ++ []) ∙ append-nil u) (λ _. refl)

  feed_held : (u : List ℕ) (t : ℕ) (x : Item E) → all_bytes (cut_of (feed_on cuts need u t x)) ≡ u ++ bytes (x ∷ [])
  unfolding feed_on
  feed_held [] t (byte s b) = settle_held (b ∷ []) s
  feed_held [] t (event e) = refl
  feed_held (a ∷ u) t (byte s b) =
      either (λ (f : Fed E). all_bytes (cut_of f) ≡ a ∷ u ++ b ∷ []) (late s t) _ _
      (rw append_assoc (ap (λ (w : List ℕ). a ∷ u ++ w) (settle_held (b ∷ []) s))) (settle_held (a ∷ u ++ b ∷ []) s)
  feed_held (a ∷ u) t (event e) =
      either (λ (f : Fed E). all_bytes (cut_of f) ≡ a ∷ u ++ []) (cuts t e) _ _ (append-nil (a ∷ u ++ [])) (sym (append-nil (a ∷ u)))

  -- byte by byte, whatever is unfinished at first
  pub feeds_held : (r : List (Item E)) (l : Line) → all_bytes (cut_of (feeds cuts need l r)) ≡ l.unfinished ++ bytes r
  unfolding feeds feed
  feeds_held [] l = sym (append-nil l.unfinished)
  feeds_held (x ∷ r) l =
      let f = feed cuts need l x in
      let g = feeds cuts need f.line r in
      rw (spent_append f.tokens g.tokens, append_assoc (spent f.tokens) (spent g.tokens) g.line.unfinished, feeds_held r f.line, bytes_append (x ∷ []) r)
      (sym (append_assoc (spent f.tokens) f.line.unfinished (bytes r))
      ∙ ap (λ (w : List ℕ). w ++ bytes r) (feed_held l.unfinished l.last x) ∙ append_assoc l.unfinished (bytes (x ∷ [])) (bytes r))

  module _ (law : Needs need) (r : List (Item E)) where
    -- NO BYTE IS LOST
    pub units_bytes : let c = units_of cuts need r in bytes r ≡ spent c.tokens ++ c.unfinished
    units_bytes = sym (feeds_held r (record { unfinished = []; last = 0 })) ∙ ap all_bytes (feeds_is_units cuts need law r 0)
