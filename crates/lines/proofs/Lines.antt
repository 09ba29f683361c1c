-- What an order looks like, how long the lines are, and a line that stands whole in its buffer. Assumes nothing.
use mathlib.Core.Bool.{Bool, true, false, cond}
use mathlib.Core.List.{List, [], ◌++◌, append-nil}
use mathlib.Core.Path.{◌≡◌, refl}
use mathlib.Core.Logic.{◌⊎◌, inl, inr}
use Prim.Native.Nat.{ℕ, suc, ◌+◌, ◌*◌, ◌≤◌, ◌<◌}
use native.Mathlib.Omega.{arith}
use lib.Dec.{ltb, lit<}
use lib.ListN.{length, take, length-append}
use Rattle.text.specs.Texts.{decimal, Written}
use Rattle.text.proofs.Texts.{decimal_digit, decimal_most, signed_most, shown_most, whole_text}
use Rattle.position.specs.declared.Travel.{Travel}
use Rattle.orders.specs.declared.Order.{Order}
use Rattle.orders.specs.declared.Order.TheVariants.{Nothing, Stop, Sstp, Pwof, Left, Rigt, Home, Loft, Move, Movr}
use Rattle.orders.specs.Orders.{order_number, order_travel}
use Rattle.lines.specs.Lines.{travel_shown, order_shown, line_of, bad_of, end_of}

-- ---- an order, by whether it carries a travel

pub shown_bare : (o : Order) → ((t : Travel) → o ≡ Move t → ⊥) → ((t : Travel) → o ≡ Movr t → ⊥) → order_shown o ≡ decimal (order_number o)
unfolding order_shown
shown_bare Nothing h k = append-nil _
shown_bare Stop h k = append-nil _
shown_bare Sstp h k = append-nil _
shown_bare Pwof h k = append-nil _
shown_bare Left h k = append-nil _
shown_bare Rigt h k = append-nil _
shown_bare Home h k = append-nil _
shown_bare Loft h k = append-nil _
shown_bare (Move t) h k = absurd (h t refl)
shown_bare (Movr t) h k = absurd (k t refl)

pub shown_travel : (o : Order) (t : Travel) → (o ≡ Move t) ⊎ (o ≡ Movr t) → order_shown o ≡ decimal (order_number o) ++ travel_shown t
unfolding order_shown
shown_travel o t (inl e) = rw e
shown_travel o t (inr e) = rw e

-- ---- lengths

travel_most : (t : Travel) → length (travel_shown t) ≤ 44
unfolding travel_shown
travel_most t = simp length-append (omega (arith, signed_most t.steps.0, signed_most t.microsteps.0))

-- a number of one digit
order_digit : (o : Order) → order_number o < 10
order_digit Nothing = lit< tt
order_digit Stop = lit< tt
order_digit Sstp = lit< tt
order_digit Pwof = lit< tt
order_digit Left = lit< tt
order_digit Rigt = lit< tt
order_digit Home = lit< tt
order_digit Loft = lit< tt
order_digit (Move t) = lit< tt
order_digit (Movr t) = lit< tt

order_most : (o : Order) → length (order_shown o) ≤ 45
unfolding order_shown
order_most o = rw (decimal_digit (order_number o) (order_digit o)) (split (ltb (order_number o) 8))
  where
    split : (t : Bool) → suc (length (cond t [] (travel_shown (order_travel o)))) ≤ 45
    split true = omega arith
    split false = omega (arith, travel_most (order_travel o))

-- the most bytes of each line
pub line_most : (stamp taken : ℕ) (order : Order) (reply : List ℕ) → length (line_of stamp taken order reply) ≤ 90 + 2 * length reply
unfolding line_of
line_most stamp taken order reply =
    simp length-append (omega (arith, decimal_most stamp, decimal_most taken, order_most order, shown_most reply))

pub bad_most : (place : ℕ) → length (bad_of place) ≤ 25
unfolding bad_of
bad_most place = simp length-append (omega (arith, decimal_most place))

pub end_most : (flags unfinished : ℕ) → length (end_of flags unfinished) ≤ 59
unfolding end_of
end_most flags unfinished = simp length-append (omega (arith, decimal_most flags, decimal_most unfinished))

-- the line of a call with at most 250 reply bytes stands whole in a buffer of 590
pub whole_line : {before after : List ℕ} {r : ℕ} (stamp taken : ℕ) (order : Order) (reply : List ℕ) → Written before 0 (line_of stamp taken order reply) r after
    → length reply ≤ 250 → 590 ≤ length before → (r ≡ length (line_of stamp taken order reply)) × (take r after ≡ line_of stamp taken order reply)
whole_line stamp taken order reply w h l = whole_text w (omega (arith, line_most stamp taken order reply))
