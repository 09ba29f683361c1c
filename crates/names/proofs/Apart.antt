-- No two names are one: each is of its own kind, by computation over the tables. Assumes nothing.
use mathlib.Core.Path.{◌≡◌, refl}
use mathlib.Core.List.{[], ◌∷◌, map}
use Rattle.keyed.specs.Keyed.{value_in}
use Rattle.sheet.specs.Names.{named}
use Rattle.sheet.specs.Sheet.{set_table, get_table, move, movr, spos, gpos}
use Rattle.orders.specs.Orders.{orders, order_number, order_at}
use Rattle.names.specs.Names.{names_of, numbers_of, order_names, position_kind, kind_of}
use Rattle.names.specs.declared.Kind.TheVariants.{Set, Get, Gives, Moves, Places, Finds, Clears}

pub set_kinds : map kind_of (names_of set_table) ≡ map Set (numbers_of set_table)
unfolding kind_of value_in
set_kinds = refl

pub get_kinds : map kind_of (names_of get_table) ≡ map Get (numbers_of get_table)
unfolding kind_of value_in
get_kinds = refl

pub order_kinds : map kind_of order_names ≡ map (λ k. Gives (order_at k)) (1 ∷ 2 ∷ 3 ∷ 4 ∷ 5 ∷ 6 ∷ 7 ∷ [])
unfolding kind_of value_in
order_kinds = refl

pub position_kinds : map kind_of (move.name ∷ movr.name ∷ spos.name ∷ gpos.name ∷ named "zero" ∷ []) ≡ Moves 8 ∷ Moves 9 ∷ Places ∷ Finds ∷ Clears ∷ []
unfolding kind_of position_kind value_in
position_kinds = refl

-- an order's number is its place among the orders
pub order_numbers : map order_number orders ≡ 0 ∷ 1 ∷ 2 ∷ 3 ∷ 4 ∷ 5 ∷ 6 ∷ 7 ∷ []
order_numbers = refl
