-- The position at the end of a run is that of the last report, spos or zero that touched it, part by part; and gpos sends it. Assumes nothing.
use mathlib.Core.Path.{◌≡◌, refl, ap, ◌∙◌}
use mathlib.Core.Bool.{Bool, true, false, cond}
use mathlib.Core.List.{List, [], ◌∷◌, map}
use Prim.Native.Nat.{ℕ}
use lib.Dec.{eqb}
use Rattle.wire.specs.Numbers.{le_bytes}
use Rattle.frame.specs.Frame.{intact}
use Rattle.sheet.specs.Sheet.{spos_row}
use Rattle.sheet.specs.Rows.{first_bad}
use Rattle.position.specs.Position.{spos_numbers, placed, cleared}
use Rattle.position.specs.declared.Spos.{Spos}
use Rattle.position.specs.declared.Position.{Position}
use Rattle.rule.specs.Framing.{Token, whole, lost, seen}
use Rattle.rule.specs.Rule.{Said, deal}
use Rattle.names.specs.Names.{kind_at, name_of}
use Rattle.orders.specs.declared.Order.{Order}
use Rattle.names.specs.declared.Kind.{Kind}
use Rattle.names.specs.declared.Kind.TheVariants.{Zero, Set, Get, Gives, Moves, Places, Finds, Clears, Unknown}
use Rattle.names.proofs.Named.{gpos_unit}
use Rattle.unit.specs.Unit.{Event, clock, position, stands, damaged, out_of_range, checked, puts, gets, moves, places, finds, does, act}
use Rattle.unit.specs.Protocol.{protocol}
use Rattle.unit.specs.Touched.{Touch, stays, becomes, Part, steps_part, microsteps_part, count_part, spos_in, touched_as, touched, last_of, stands_at, position_reply}
use Rattle.unit.specs.declared.Memory.{Memory}
use Rattle.unit.proofs.Sets.{checked_cases}
use Rattle.unit.proofs.Replies.{act_kind}

-- one touch, and behind it others
last_one : {A : Type 0} (a : A) (t : Touch A) (ts : List (Touch A)) → last_of (last_of a (t ∷ [])) ts ≡ last_of a (t ∷ ts)
last_one a stays ts = refl
last_one a (becomes b) ts = refl

-- a part says of spos and zero what they do to it
record Lawful {A : Type 0} (part : Part A) : Type 0 where
  placed_is : (s : Spos) (p : Position) → part.of (placed s p) ≡ cond (part.left s) (part.of p) (part.of s.position)
  cleared_is : (p : Position) → part.of (cleared p) ≡ last_of (part.of p) (part.zeroed ∷ [])

module _ {A : Type 0} (part : Part A) (law : Lawful part) (m : Memory) where
  -- the part that an answer leaves
  abbrev left : Said Order Memory → A
  left a = part.of a.next.position

  -- a set that leaves the position where all is well leaves it always
  set_left : (u : List ℕ) (k bad : ℕ) (done : Said Order Memory) → left done ≡ part.of m.position → left (checked m u k bad done) ≡ part.of m.position
  set_left u k bad done e = checked_cases m u k bad done (λ (a : Said Order Memory). left a ≡ part.of m.position) refl refl (λ _. e)

  spos_left : (u : List ℕ) → left (places m u) ≡ last_of (part.of m.position) (touched_as part u Places ∷ [])
  unfolding places checked
  spos_left u = by (intact u) (eqb bad 0) (part.left s) refl
    where
      s : Spos
      s = spos_in u

      bad : ℕ
      bad = first_bad spos_row (spos_numbers s)

      done : Said Order Memory
      done = record { reply = le_bytes 4 (name_of u); orders = []; next = stands m (placed s m.position) }

      -- as the checks come out, and the flag
      by : (i g l : Bool) → part.left s ≡ l
          → left (cond i (cond g done (out_of_range m 10 bad)) (damaged m))
          ≡ last_of (part.of m.position) (cond (cond i g false) (cond (part.left s) stays (becomes (part.of s.position))) stays ∷ [])
      by true true true e = law.placed_is s m.position ∙ rw e
      by true true false e = law.placed_is s m.position ∙ rw e
      by true false l e = refl
      by false g l e = refl

  does_left : (u : List ℕ) (k : Kind) → left (does m u k) ≡ last_of (part.of m.position) (touched_as part u k ∷ [])
  unfolding does puts gets moves finds
  does_left u Zero = refl
  does_left u (Set k) = set_left u _ _ _ refl
  does_left u (Get k) = refl
  does_left u (Gives o) = refl
  does_left u (Moves k) = set_left u _ _ _ refl
  does_left u Places = spos_left u
  does_left u Finds = refl
  does_left u Clears = law.cleared_is m.position
  does_left u Unknown = refl

  act_left : (x : Token Event) → left (act m x) ≡ last_of (part.of m.position) (touched part x ∷ [])
  unfolding act
  act_left (whole u) = does_left u (kind_at u)
  act_left (lost u) = refl
  act_left (seen (clock now)) = refl
  act_left (seen (position p)) = refl

part_last : {A : Type 0} (part : Part A) → Lawful part → (ks : List (Token Event)) (m : Memory) → part.of (deal protocol m ks).next.position ≡ stands_at part m.position ks
unfolding deal
part_last part law [] m = refl
part_last part law (x ∷ ks) m =
    part_last part law ks (act m x).next ∙ ap (λ a. last_of a (map (touched part) ks)) (act_left part law m x)
    ∙ last_one (part.of m.position) (touched part x) (map (touched part) ks)

-- THE POSITION BEHIND TOKENS, part by part
module _ (ks : List (Token Event)) (m : Memory) where
  pub steps_last : (deal protocol m ks).next.position.steps ≡ stands_at steps_part m.position ks
  steps_last = part_last steps_part (record { placed_is = λ s p. refl; cleared_is = λ p. refl }) ks m

  pub microsteps_last : (deal protocol m ks).next.position.microsteps ≡ stands_at microsteps_part m.position ks
  microsteps_last = part_last microsteps_part (record { placed_is = λ s p. refl; cleared_is = λ p. refl }) ks m

  pub count_last : (deal protocol m ks).next.position.count ≡ stands_at count_part m.position ks
  count_last = part_last count_part (record { placed_is = λ s p. refl; cleared_is = λ p. refl }) ks m

-- gpos sends the position that it meets, and alters nothing
pub found : (m : Memory) (g : List ℕ) → kind_at g ≡ Finds → act m (whole g) ≡ record { reply = position_reply m.position; orders = []; next = m }
unfolding does finds
found m g e = act_kind m g Finds e ∙ ap (finds m) (gpos_unit g e)
