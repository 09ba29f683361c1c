-- What tokens of bytes keep true of a memory, a run of bytes keeps true of it; and what stays unfinished is of bytes. Assumes nothing.
use mathlib.Core.Path.{sym, subst}
use mathlib.Core.List.{List, [], ◌∷◌, ◌++◌}
use Prim.Native.Nat.{ℕ, ◌+◌, ◌<◌}
use lib.ListN.{length}
use lib.Seq.{take-append_seam, get_or-append-add}
use Rattle.rule.specs.Run.{Item, bytes}
use Rattle.rule.specs.Framing.{Token, whole, lost, seen}
use Rattle.rule.specs.Rule.{State, Protocol, deal}
use Rattle.rule.specs.Step.{feeds, steps}
use Rattle.rule.specs.Facts.{OfBytes, TokenOfBytes, spent}
use Rattle.rule.proofs.Steps.{steps_feeds}
use Rattle.rule.proofs.Bytes.{feeds_held}
use Rattle.rule.proofs.Whole.{part_bytes}

-- two parts, one behind the other
module _ (u w : List ℕ) (h : OfBytes (u ++ w)) where
  pub front_bytes : OfBytes u
  front_bytes = subst OfBytes (take-append_seam u w) (part_bytes (u ++ w) (length u) 0 h)

  pub behind_bytes : OfBytes w
  behind_bytes i = subst (λ (n : ℕ). n < 256) (get_or-append-add u w i 0) (h (length u + i))

module _ {E O M : Type 0} (p : Protocol E O M) where
  -- what tokens of bytes keep true of the memory
  abbrev pub Keeps : (M → Type 0) → Type 0
  Keeps P = (m : M) (k : Token E) → TokenOfBytes k → P m → P (p.act m k).next

  deal_keeps : (P : M → Type 0) → Keeps P → (ks : List (Token E)) (m : M) → OfBytes (spent ks) → P m → P (deal p m ks).next
  unfolding deal
  deal_keeps P keeps [] m b h = h
  deal_keeps P keeps (whole u ∷ ks) m b h = deal_keeps P keeps ks _ (behind_bytes u (spent ks) b) (keeps m (whole u) (front_bytes u (spent ks) b) h)
  deal_keeps P keeps (lost u ∷ ks) m b h = deal_keeps P keeps ks _ (behind_bytes u (spent ks) b) (keeps m (lost u) (front_bytes u (spent ks) b) h)
  deal_keeps P keeps (seen e ∷ ks) m b h = deal_keeps P keeps ks _ b (keeps m (seen e) tt h)

  -- the unfinished bytes and the run behind them are bytes
  module _ (r : List (Item E)) (s : State M) (low : OfBytes (s.line.unfinished ++ bytes r)) where
    all_bytes_lem : let f = feeds p.cuts p.need s.line r in OfBytes (spent f.tokens ++ f.line.unfinished)
    all_bytes_lem = subst OfBytes (sym (feeds_held p.cuts p.need r s.line)) low

    pub bytes_keep : (P : M → Type 0) → Keeps P → P s.memory → P (steps p s r).next.memory
    bytes_keep P keeps h =
        let f = feeds p.cuts p.need s.line r in
        rw (steps_feeds p r s) (deal_keeps P keeps f.tokens s.memory (front_bytes (spent f.tokens) f.line.unfinished all_bytes_lem) h)

    pub bytes_stay : OfBytes (steps p s r).next.line.unfinished
    bytes_stay =
        let f = feeds p.cuts p.need s.line r in
        rw (steps_feeds p r s) (behind_bytes (spent f.tokens) f.line.unfinished all_bytes_lem)
