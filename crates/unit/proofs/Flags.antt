-- "Flags stay set until a fresh board." (01, "How a run of bytes is read"): over a unit, and over the byte steps. Assumes nothing.
use mathlib.Core.Path.{◌≡◌, refl, sym, ap, subst, ◌∙◌}
use mathlib.Core.List.{List}
use Prim.Native.Nat.{ℕ, ◌/◌, ◌%◌, ◌^◌, max}
use native.Mathlib.Nat.{max-eq_left}
use native.Mathlib.Omega.{arith}
use lib.Bits.{bit_or, or_shr, or_step}
use Rattle.ranges.specs.Tests.{bit}
use Rattle.rule.specs.Run.{Item}
use Rattle.rule.specs.Framing.{Token, whole, lost, seen}
use Rattle.rule.specs.Rule.{Said, State}
use Rattle.rule.specs.Step.{steps}
use Rattle.rule.proofs.Progress.{steps_keep, any_events}
use Rattle.names.specs.Names.{kind_at}
use Rattle.orders.specs.declared.Order.{Order}
use Rattle.names.specs.declared.Kind.{Kind}
use Rattle.names.specs.declared.Kind.TheVariants.{Zero, Set, Get, Gives, Moves, Places, Finds, Clears, Unknown}
use Rattle.unit.specs.Unit.{Event, clock, position, checked, puts, gets, moves, places, finds, does, act}
use Rattle.unit.specs.Protocol.{protocol}
use Rattle.unit.specs.Kept.{FlagsStay}
use Rattle.unit.specs.declared.Memory.{Memory}
use Rattle.unit.specs.declared.Notes.{Notes}
use Rattle.unit.proofs.Sets.{checked_cases}

-- a flag more clears none
or_stays : (f more k : ℕ) → bit f k ≡ 1 → bit (bit_or f more) k ≡ 1
or_stays f more k set =
    let x = f / 2 ^ k in
    let y = more / 2 ^ k in
    let one : max (x % 2) (y % 2) ≡ 1 = max-eq_left (omega (arith, set)) ∙ set in
    ap (λ (n : ℕ). n % 2) (or_shr f more k) ∙ omega (arith, or_step x y, one)

module _ (m : Memory) where
  abbrev Stay : Said Order Memory → Type 0
  Stay a = FlagsStay m a.next

  set_stay : (u : List ℕ) (k bad : ℕ) (done : Said Order Memory) → done.next.notes ≡ m.notes → Stay (checked m u k bad done)
  set_stay u k bad done e =
      checked_cases m u k bad done Stay (or_stays m.notes.flags 2) (or_stays m.notes.flags 4)
      (λ _ j set. subst (λ (n : Notes). bit n.flags j ≡ 1) (sym e) set)

  does_stay : (u : List ℕ) (k : Kind) → Stay (does m u k)
  unfolding does puts gets moves places finds
  does_stay u Zero = λ k set. set
  does_stay u (Set k) = set_stay u _ _ _ refl
  does_stay u (Get k) = λ k set. set
  does_stay u (Gives o) = λ k set. set
  does_stay u (Moves k) = set_stay u _ _ _ refl
  does_stay u Places = set_stay u _ _ _ refl
  does_stay u Finds = λ k set. set
  does_stay u Clears = λ k set. set
  does_stay u Unknown = or_stays m.notes.flags 1

  act_stay : (x : Token Event) → FlagsStay m (act m x).next
  unfolding act
  act_stay (whole u) = does_stay u (kind_at u)
  act_stay (lost u) = λ k set. set
  act_stay (seen (clock now)) = λ k set. set
  act_stay (seen (position p)) = λ k set. set

-- no byte and no event clears a flag
pub flags_stay : (r : List (Item Event)) (s : State Memory) → FlagsStay s.memory (steps protocol s r).next.memory
flags_stay r s = steps_keep protocol (FlagsStay s.memory) (λ _. Unit {0}) (λ m x _ h k set. act_stay m x k (h k set)) r s (any_events r) (λ k set. set)
