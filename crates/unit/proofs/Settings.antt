-- The settings go by the settings alone: flags, last refused field and position play no part in what is stored. Assumes nothing.
use mathlib.Core.Path.{◌≡◌, refl, ap, ◌∙◌}
use mathlib.Core.Bool.{Bool, true, false, cond}
use mathlib.Core.List.{List, [], ◌∷◌}
use Prim.Native.Nat.{ℕ}
use lib.Dec.{eqb}
use Rattle.frame.specs.Frame.{intact}
use Rattle.position.specs.declared.Position.{Position}
use Rattle.table.specs.declared.Table.{Table}
use Rattle.rule.specs.Framing.{Token, whole, lost, seen}
use Rattle.rule.specs.Rule.{Said, deal}
use Rattle.names.specs.Names.{kind_at}
use Rattle.orders.specs.declared.Order.{Order}
use Rattle.names.specs.declared.Kind.{Kind}
use Rattle.names.specs.declared.Kind.TheVariants.{Zero, Set, Get, Gives, Moves, Places, Finds, Clears, Unknown}
use Rattle.unit.specs.Unit.{Event, clock, position, damaged, out_of_range, checked, puts, gets, moves, places, finds, does, act}
use Rattle.unit.specs.Protocol.{protocol}
use Rattle.unit.specs.declared.Memory.{Memory}
use Rattle.unit.specs.declared.Notes.{Notes}

module _ (s : Table) (p q : Notes) (x y : Position) where
  -- two memories that have the settings alone in common
  abbrev one : Memory
  one = record { settings = s; notes = p; position = x }

  abbrev two : Memory
  two = record { settings = s; notes = q; position = y }

  -- what is checked as a set is, with one first field out of range
  set_settings : (u : List ℕ) (k bad : ℕ) (d e : Said Order Memory) → d.next.settings ≡ e.next.settings
      → (checked one u k bad d).next.settings ≡ (checked two u k bad e).next.settings
  unfolding checked
  set_settings u k bad d e h = by (intact u) (eqb bad 0)
    where
      by : (y z : Bool)
          → (cond y (cond z d (out_of_range one k bad)) (damaged one)).next.settings
          ≡ (cond y (cond z e (out_of_range two k bad)) (damaged two)).next.settings
      by true true = h
      by true false = refl
      by false z = refl

  does_settings : (u : List ℕ) (κ : Kind) → (does one u κ).next.settings ≡ (does two u κ).next.settings
  unfolding does puts gets moves places finds
  does_settings u Zero = refl
  does_settings u (Set k) = set_settings u _ _ _ _ refl
  does_settings u (Get k) = refl
  does_settings u (Gives o) = refl
  does_settings u (Moves k) = set_settings u _ _ _ _ refl
  does_settings u Places = set_settings u _ _ _ _ refl
  does_settings u Finds = refl
  does_settings u Clears = refl
  does_settings u Unknown = refl

  act_settings : (t : Token Event) → (act one t).next.settings ≡ (act two t).next.settings
  unfolding act
  act_settings (whole u) = does_settings u (kind_at u)
  act_settings (lost u) = refl
  act_settings (seen (clock now)) = refl
  act_settings (seen (position r)) = refl

pub settings_alone : (ks : List (Token Event)) (m n : Memory) → m.settings ≡ n.settings → (deal protocol m ks).next.settings ≡ (deal protocol n ks).next.settings
unfolding deal
settings_alone [] m n e = e
settings_alone (x ∷ ks) m n e =
    settings_alone ks (act m x).next (act n x).next
    (ap (λ (s : Table). (act (record { settings = s; notes = m.notes; position = m.position }) x).next.settings) e
    ∙ act_settings n.settings m.notes n.notes m.position n.position x)
