-- The orders by their numbers, and what they carry. In quotation marks, where nothing else is said: sheet 01.
use Rattle.std.specs.Prelude.{cond, List, [], ◌∷◌, ℕ, eqb, get_or}
use Rattle.position.specs.Position.{travel_of}
use Rattle.position.specs.declared.Travel.{Travel}
use Rattle.orders.specs.declared.Order.{Order}
use Rattle.orders.specs.declared.Order.TheVariants.{Nothing, Stop, Sstp, Pwof, Left, Rigt, Home, Loft, Move, Movr}

-- "Orders: 1 stop, 2 sstp, 3 pwof, 4 left, 5 rigt, 6 home, 7 loft. 0 means no order." 02, P5: "Orders 8 and 9"
abbrev pub order_number : Order → ℕ
order_number Nothing = 0
order_number Stop = 1
order_number Sstp = 2
order_number Pwof = 3
order_number Left = 4
order_number Rigt = 5
order_number Home = 6
order_number Loft = 7
order_number (Move t) = 8
order_number (Movr t) = 9

-- 02, P5: "Orders 8 and 9 carry their steps and microsteps"; any other carries 0 and 0
abbrev pub order_travel : Order → Travel
order_travel Nothing = travel_of []
order_travel Stop = travel_of []
order_travel Sstp = travel_of []
order_travel Pwof = travel_of []
order_travel Left = travel_of []
order_travel Rigt = travel_of []
order_travel Home = travel_of []
order_travel Loft = travel_of []
order_travel (Move t) = t
order_travel (Movr t) = t

-- those that a name alone gives
abbrev pub orders : List Order
orders = Nothing ∷ Stop ∷ Sstp ∷ Pwof ∷ Left ∷ Rigt ∷ Home ∷ Loft ∷ []

-- the order of a number
abbrev pub order_at : ℕ → Order
order_at k = get_or orders k Nothing

-- the orders that the order of an answer stands for
abbrev pub given : Order → List Order
given o = cond (eqb (order_number o) 0) [] (o ∷ [])
