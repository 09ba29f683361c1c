-- What the settings keep: only an accepted set alters them, and a block keeps its data until the next accepted set of it. Assumes nothing.
use mathlib.Core.Path.{◌≡◌, refl, sym, ap, subst, ◌∙◌}
use mathlib.Core.Bool.{Bool, true, false, not}
use mathlib.Core.List.{List, [], ◌∷◌}
use Prim.Native.Nat.{ℕ}
use lib.Dec.{T, eqb, T_not}
use lib.ListN.{get_or}
use borrow.Author.Tests.{eqb-true, eqb-false}
use Rattle.wire.specs.Numbers.{le_bytes}
use Rattle.frame.specs.Frame.{data_in, intact}
use Rattle.keyed.proofs.Values.{value_all}
use Rattle.sheet.specs.Sheet.{set_table}
use Rattle.sheet.specs.Rows.{row_at}
use Rattle.sheet.specs.Sections.{bad_in}
use Rattle.table.specs.Table.{data_at}
use Rattle.table.proofs.Keep.{get_other}
use Rattle.rule.specs.Framing.{Token, whole, lost, seen}
use Rattle.rule.specs.Rule.{Said, deal}
use Rattle.names.specs.Names.{kind_at, name_in, numbers_of, names_of}
use Rattle.orders.specs.declared.Order.{Order}
use Rattle.names.specs.declared.Kind.{Kind}
use Rattle.names.specs.declared.Kind.TheVariants.{Zero, Set, Get, Gives, Moves, Places, Finds, Clears, Unknown}
use Rattle.names.proofs.Named.{set_unit}
use Rattle.unit.specs.Unit.{Event, clock, position, checked, puts, gets, stored, moves, places, finds, does, act}
use Rattle.unit.specs.Protocol.{protocol}
use Rattle.unit.specs.Kept.{Refused, errc, errd, errv, Accepts, Ends, stores, keeps, Echoed, Takes, Without}
use Rattle.unit.specs.declared.Memory.{Memory}
use Rattle.unit.proofs.Sets.{checked_damaged, checked_refused, checked_done, checked_cases}
use Rattle.unit.proofs.Replies.{act_kind}

-- ---- accepted sets

-- it is stored, "and the set name is the reply"
pub accepted : (m : Memory) (u : List ℕ) (k : ℕ) → Accepts m u k → act m (whole u) ≡ stored m (name_in set_table k) k (data_in u)
unfolding does puts
accepted m u k a =
    act_kind m u (Set k) a.kind ∙ checked_done m u k _ _ a.crc a.good
    ∙ ap (λ (n : ℕ). stored m n k (data_in u)) (set_unit u k a.kind)

-- a refusal begins with the letter e, and no set name does
refused_first : (reply : List ℕ) → Refused reply → get_or reply 0 0 ≡ 101
unfolding le_bytes
refused_first reply (errc e) = ap (λ (r : List ℕ). get_or r 0 0) e
refused_first reply (errd e) = ap (λ (r : List ℕ). get_or r 0 0) e
refused_first reply (errv e) = ap (λ (r : List ℕ). get_or r 0 0) e

set_first : (k : ℕ) → get_or (le_bytes 4 (name_in set_table k)) 0 0 ≡ 101 → ⊥
unfolding le_bytes
set_first k e =
    T_not (eqb (get_or (le_bytes 4 (name_in set_table k)) 0 0) 101)
    (value_all (λ n. not (eqb (get_or (le_bytes 4 n) 0 0) 101)) k 0 (numbers_of set_table) (names_of set_table) tt tt) (subst (λ (b : ℕ). T (eqb b 101)) (sym e) tt)

module _ (m : Memory) (u : List ℕ) where
  -- an answer that keeps the settings
  Keeps : Type 0
  Keeps = (act m (whole u)).next.settings ≡ m.settings

  same : (a : Said Order Memory) → act m (whole u) ≡ a → a.next.settings ≡ m.settings → Keeps
  unfolding Keeps
  same a e k = ap (λ (x : Said Order Memory). x.next.settings) e ∙ k

  -- A SET of block k is accepted, or refused and nothing is stored
  data SetEnds (k : ℕ) : Type 0 where
    accepts : Accepts m u k → SetEnds k
    refuses : Refused (act m (whole u)).reply → Keeps → SetEnds k

  set_ends : (k : ℕ) → kind_at u ≡ Set k → SetEnds k
  unfolding does puts
  set_ends k e = by (intact u) (eqb (bad_in (row_at k) (data_in u)) 0) refl refl
    where
      by : (b c : Bool) → intact u ≡ b → eqb (bad_in (row_at k) (data_in u)) 0 ≡ c → SetEnds k
      by true true i g = accepts (record { kind = e; crc = i; good = eqb-true _ 0 g })
      by true false i g =
          let said = act_kind m u (Set k) e ∙ checked_refused m u k _ _ i (eqb-false _ 0 g) in
          refuses (errv (ap (λ (x : Said Order Memory). x.reply) said)) (same _ said refl)
      by false c i g =
          let said = act_kind m u (Set k) e ∙ checked_damaged m u k _ _ i in
          refuses (errd (ap (λ (x : Said Order Memory). x.reply) said)) (same _ said refl)

  -- A SET WHOSE REPLY WAS ITS OWN NAME WAS ACCEPTED, and an accepted one is echoed
  pub echoed : (k : ℕ) → Echoed m u k → Accepts m u k
  echoed k h = by (set_ends k h.kind)
    where
      by : SetEnds k → Accepts m u k
      by (accepts a) = a
      by (refuses r _) = absurd (set_first k (ap (λ (l : List ℕ). get_or l 0 0) (sym h.reply) ∙ refused_first _ r))

  pub accepts_echoed : (k : ℕ) → Accepts m u k → Echoed m u k
  accepts_echoed k a = record { kind = a.kind; reply = ap (λ (x : Said Order Memory). x.reply) (accepted m u k a) }

  -- what is checked as a set is keeps the settings, if it does so where all is well
  checked_keeps : (k bad : ℕ) (done : Said Order Memory) → done.next.settings ≡ m.settings → (checked m u k bad done).next.settings ≡ m.settings
  checked_keeps k bad done e = checked_cases m u k bad done (λ (a : Said Order Memory). a.next.settings ≡ m.settings) refl refl (λ _. e)

  unit_kind : (κ : Kind) → kind_at u ≡ κ → Ends m u
  unfolding does gets moves places finds Keeps
  unit_kind Zero e = keeps (same _ (act_kind m u Zero e) refl)
  unit_kind (Set k) e = by (set_ends k e)
    where
      by : SetEnds k → Ends m u
      by (accepts a) = stores k a
      by (refuses r h) = keeps h
  unit_kind (Get k) e = keeps (same _ (act_kind m u (Get k) e) refl)
  unit_kind (Gives o) e = keeps (same _ (act_kind m u (Gives o) e) refl)
  unit_kind (Moves k) e = keeps (same _ (act_kind m u (Moves k) e) (checked_keeps _ _ _ refl))
  unit_kind Places e = keeps (same _ (act_kind m u Places e) (checked_keeps _ _ _ refl))
  unit_kind Finds e = keeps (same _ (act_kind m u Finds e) refl)
  unit_kind Clears e = keeps (same _ (act_kind m u Clears e) refl)
  unit_kind Unknown e = keeps (same _ (act_kind m u Unknown e) refl)

  -- WHAT A UNIT DOES TO THE SETTINGS: it is an accepted set, or it alters none
  pub unit_ends : Ends m u
  unit_ends = unit_kind (kind_at u) refl

-- ---- DEMAND 1: "A command refused on the wire (errc, errd, errv) alters no setting"

-- it is enough to know it of sets: nothing else stores anything
pub refused_set_keeps : (m : Memory) (u : List ℕ) → ((k : ℕ) → kind_at u ≡ Set k → Refused (act m (whole u)).reply)
    → (act m (whole u)).next.settings ≡ m.settings
refused_set_keeps m u r = by (unit_ends m u)
  where
    by : Ends m u → (act m (whole u)).next.settings ≡ m.settings
    by (stores k a) =
        let e = ap (λ (x : Said Order Memory). get_or x.reply 0 0) (accepted m u k a) in
        absurd (set_first k (sym e ∙ refused_first (act m (whole u)).reply (r k a.kind)))
    by (keeps e) = e

pub refused_keeps : (m : Memory) (u : List ℕ) → Refused (act m (whole u)).reply → (act m (whole u)).next.settings ≡ m.settings
refused_keeps m u r = refused_set_keeps m u (λ k e. r)

-- ---- a block keeps its data until the next accepted set of it

-- over one token: another block's set does not touch this one
pub kept_one : (m : Memory) (x : Token Event) (k : ℕ) → (Takes m x k → ⊥) → data_at (act m x).next.settings k ≡ data_at m.settings k
unfolding act
kept_one m (whole u) k out = by (unit_ends m u)
  where
    by : Ends m u → data_at (act m (whole u)).next.settings k ≡ data_at m.settings k
    by (stores j a) =
        ap (λ (x : Said Order Memory). data_at x.next.settings k) (accepted m u j a)
        ∙ get_other m.settings k j (data_in u) (λ e. out (accepts_echoed m u k (rw e a)))
    by (keeps e) = ap (λ s. data_at s k) e
kept_one m (lost u) k out = refl
kept_one m (seen (clock now)) k out = refl
kept_one m (seen (position p)) k out = refl

-- over any number of them
pub kept : (k : ℕ) (ks : List (Token Event)) (m : Memory) → Without k m ks → data_at (deal protocol m ks).next.settings k ≡ data_at m.settings k
unfolding deal
kept k [] m w = refl
kept k (x ∷ ks) m w = kept k ks (act m x).next w.1 ∙ kept_one m x k w.0
