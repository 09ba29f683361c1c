-- The names of 01 and 02, what the first bytes of a unit say that it is, and how long it is. In quotation marks, where nothing else is said: sheet 01.
use Rattle.std.specs.Prelude.{cond, List, [], ◌∷◌, map, ℕ, eqb, ltb, get_or, length}
use Rattle.wire.specs.Numbers.{le_at}
use Rattle.keyed.specs.Keyed.{value_in}
use Rattle.sheet.specs.Names.{named}
use Rattle.sheet.specs.Sheet.{Command, set_table, get_table, move_row, spos_row, gpos_row, move, movr, spos, gpos}
use Rattle.sheet.specs.Rows.{total}
use Rattle.orders.specs.Orders.{order_at}
use Rattle.names.specs.declared.Kind.{Kind}
use Rattle.names.specs.declared.Kind.TheVariants.{Zero, Set, Get, Gives, Moves, Places, Finds, Clears, Unknown}

-- ---- the tables by name and by number

abbrev pub names_of : List Command → List ℕ
names_of cs = map (λ c. c.name) cs

abbrev pub numbers_of : List Command → List ℕ
numbers_of cs = map (λ c. c.row.number) cs

abbrev pub totals_of : List Command → List ℕ
totals_of cs = map (λ c. total c.row) cs

-- the number that has this name, or 0
abbrev pub number_in : List Command → ℕ → ℕ
number_in cs n = value_in n (names_of cs) (numbers_of cs) 0

-- the name of a number; of no number it is 0
abbrev pub name_in : List Command → ℕ → ℕ
name_in cs k = value_in k (numbers_of cs) (names_of cs) 0

-- the total length of a number; of no number it is that of name and CRC
abbrev pub total_in : List Command → ℕ → ℕ
total_in cs k = value_in k (numbers_of cs) (totals_of cs) 6

-- ---- orders

-- "its number 0x74676972 spells rigt: the number decides"
abbrev pub order_names : List ℕ
order_names = named "stop" ∷ named "sstp" ∷ named "pwof" ∷ named "left" ∷ named "rigt" ∷ named "home" ∷ named "loft" ∷ []

-- the number of the order that has this name, or 0
abbrev pub order_in : ℕ → ℕ
order_in n = value_in n order_names (1 ∷ 2 ∷ 3 ∷ 4 ∷ 5 ∷ 6 ∷ 7 ∷ []) 0

-- ---- kinds

-- 02, P5: "Add move and movr .., spos and gpos .. and zero."
unfoldable pub position_kind : ℕ → Kind
position_kind n =
    cond (eqb n move.name) (Moves move.row.number)
    (cond (eqb n movr.name) (Moves movr.row.number)
    (cond (eqb n spos.name) Places
    (cond (eqb n gpos.name) Finds
    (cond (eqb n (named "zero")) Clears
    Unknown))))

-- what a name says that its unit is
unfoldable pub kind_of : ℕ → Kind
kind_of n =
    cond (ltb 0 (number_in set_table n)) (Set (number_in set_table n))
    (cond (ltb 0 (number_in get_table n)) (Get (number_in get_table n))
    (cond (ltb 0 (order_in n)) (Gives (order_at (order_in n)))
    (position_kind n)))

-- the name of the unit that begins with u
abbrev pub name_of : List ℕ → ℕ
name_of u = le_at 4 0 u

-- what a unit is by its first byte and its name: "A first byte of zero is a unit by itself."
unfoldable pub kind_from : ℕ → ℕ → Kind
kind_from first name = cond (eqb first 0) Zero (kind_of name)

-- what the unit that begins with u is
abbrev pub kind_at : List ℕ → Kind
kind_at u = kind_from (get_or u 0 0) (name_of u)

-- "Set: the unit is the total length of its block", and so "move and movr (18 bytes" and "spos .. (26 bytes" (02, P5); any other name is its unit
abbrev pub span : Kind → ℕ
span Zero = 1
span (Set k) = total_in set_table k
span (Get k) = 4
span (Gives o) = 4
span (Moves k) = total move_row
span Places = total spos_row
span Finds = 4
span Clears = 4
span Unknown = 4

-- the length of its answer: "one zero byte", "the get name, data, CRC", or four letters
abbrev pub replied : Kind → ℕ
replied Zero = 1
replied (Set k) = 4
replied (Get k) = total_in get_table k
replied (Gives o) = 4
replied (Moves k) = 4
replied Places = 4
replied Finds = total gpos_row
replied Clears = 4
replied Unknown = 4

-- The length of the unit that begins with u, as far as u tells. "A first byte of zero is a unit by itself." "Otherwise four bytes form an
-- identifier", and the identifier tells the rest. Of nothing it tells that a byte is to come.
unfoldable pub need : List ℕ → ℕ
need u = cond (eqb (get_or u 0 0) 0) 1 (cond (ltb (length u) 4) 4 (span (kind_of (name_of u))))
