-- The lines of the bench. In quotation marks, where nothing else is said: sheet 01, "The bench program".
use Rattle.std.specs.Prelude.{cond, List, [], ◌++◌, ℕ, ltb}
use Rattle.wire.specs.Letters.{ascii}
use Rattle.text.specs.Texts.{decimal, signed, shown}
use Rattle.position.specs.declared.Travel.{Travel}
use Rattle.orders.specs.declared.Order.{Order}
use Rattle.orders.specs.Orders.{order_number, order_travel}

-- a number, "with single spaces" behind
abbrev spaced : ℕ → List ℕ
spaced n = decimal n ++ ascii " "

unfoldable pub travel_shown : Travel → List ℕ
travel_shown t = ascii ":" ++ (signed t.steps.0 ++ (ascii ":" ++ signed t.microsteps.0))

-- 02, P5: "Orders 8 and 9 carry their steps and microsteps; the bench line prints them as 8:steps:microsteps."
unfoldable pub order_shown : Order → List ℕ
order_shown o = decimal (order_number o) ++ cond (ltb (order_number o) 8) [] (travel_shown (order_travel o))

-- "One line a call: stamp, taken, order, reply"
unfoldable pub line_of : ℕ → ℕ → Order → List ℕ → List ℕ
line_of stamp taken order reply = spaced stamp ++ (spaced taken ++ (order_shown order ++ (ascii " " ++ (shown reply ++ ascii "\n"))))

-- "prints `bad`, a space and the place of that record's first byte"
unfoldable pub bad_of : ℕ → List ℕ
bad_of place = ascii "bad " ++ (decimal place ++ ascii "\n")

-- "The last line always names flags and the count of unfinished bytes"
unfoldable pub end_of : ℕ → ℕ → List ℕ
end_of flags unfinished = ascii "flags " ++ (decimal flags ++ (ascii " unfinished " ++ (decimal unfinished ++ ascii "\n")))
