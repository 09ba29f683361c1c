-- Which report, spos or zero touched the position last, part by part. In quotation marks: sheet 02, P5.
use Rattle.std.specs.Prelude.{Bool, false, cond, List, [], ◌∷◌, map, ℕ, eqb, pos}
use Rattle.frame.specs.Frame.{framed, data_in, intact}
use Rattle.sheet.specs.Sheet.{spos_row, gpos_row, gpos}
use Rattle.sheet.specs.Rows.{numbers_in, data_of, first_bad}
use Rattle.position.specs.Position.{spos_of, spos_numbers, position_numbers, leaves_travel, leaves_count}
use Rattle.position.specs.declared.Steps.{Steps}
use Rattle.position.specs.declared.Microsteps.{Microsteps}
use Rattle.position.specs.declared.Count.{Count}
use Rattle.position.specs.declared.Spos.{Spos}
use Rattle.position.specs.declared.Position.{Position}
use Rattle.rule.specs.Framing.{Token, whole, lost, seen}
use Rattle.names.specs.Names.{kind_at}
use Rattle.names.specs.declared.Kind.{Kind}
use Rattle.names.specs.declared.Kind.TheVariants.{Zero, Set, Get, Gives, Moves, Places, Finds, Clears, Unknown}
use Rattle.unit.specs.Unit.{Event, clock, position}

-- what becomes of a part of the position
pub data Touch (A : Type 0) : Type 0 where
  stays : Touch A
  becomes : A → Touch A

-- a part of the position: which it is, which spos leaves it, and what zero makes of it
pub record Part (A : Type 0) : Type 0 where
  pub of : Position → A
  pub left : Spos → Bool
  pub zeroed : Touch A

-- "In spos's flags 0x01 leaves steps and microsteps, 0x02 leaves the encoder count"; "zero clears steps and microsteps and, by our rule, keeps the count."
abbrev pub steps_part : Part Steps
steps_part = record { of = λ p. p.steps; left = leaves_travel; zeroed = becomes (record { 0 = pos 0 }) }

abbrev pub microsteps_part : Part Microsteps
microsteps_part = record { of = λ p. p.microsteps; left = leaves_travel; zeroed = becomes (record { 0 = pos 0 }) }

abbrev pub count_part : Part Count
count_part = record { of = λ p. p.count; left = leaves_count; zeroed = stays }

-- what a spos carries, and whether its checks pass
abbrev pub spos_in : List ℕ → Spos
spos_in u = spos_of (numbers_in spos_row (data_in u))

abbrev pub passes : List ℕ → Bool
passes u = cond (intact u) (eqb (first_bad spos_row (spos_numbers (spos_in u))) 0) false

module _ {A : Type 0} (part : Part A) where
  -- by a unit of this kind
  abbrev pub touched_as : List ℕ → Kind → Touch A
  touched_as u Zero = stays
  touched_as u (Set k) = stays
  touched_as u (Get k) = stays
  touched_as u (Gives o) = stays
  touched_as u (Moves k) = stays
  touched_as u Places = cond (passes u) (cond (part.left (spos_in u)) stays (becomes (part.of (spos_in u).position))) stays
  touched_as u Finds = stays
  touched_as u Clears = part.zeroed
  touched_as u Unknown = stays

  -- by a token
  abbrev pub touched : Token Event → Touch A
  touched (whole u) = touched_as u (kind_at u)
  touched (lost u) = stays
  touched (seen (clock now)) = stays
  touched (seen (position p)) = becomes (part.of p)

-- what the last touch made of the value a
abbrev pub last_of : {A : Type 0} → A → List (Touch A) → A
last_of a [] = a
last_of a (stays ∷ ts) = last_of a ts
last_of a (becomes b ∷ ts) = last_of b ts

-- THE PART WHERE THESE TOKENS END, from where it stood at the position p: that of the last report, spos or zero that touched it
abbrev pub stands_at : {A : Type 0} → Part A → Position → List (Token Event) → A
stands_at part p ks = last_of (part.of p) (map (touched part) ks)

-- "gpos, which sends the position as it then stands"
abbrev pub position_reply : Position → List ℕ
position_reply p = framed gpos.name (data_of gpos_row (position_numbers p))
