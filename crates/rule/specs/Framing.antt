-- THE RULE, 2 of 3: how a run falls into units, with no memory and no reply. In quotation marks: sheet 01, "How a run of bytes is read".
-- `need u` is the length of the unit that begins with the bytes u, as far as u tells: more than u has while the unit is unfinished.
use Rattle.std.specs.Prelude.{ℕ, zero, suc, ◌-◌, ◌<◌, ◌≤◌, ◌≡◌, Bool, cond, List, [], ◌∷◌, ◌++◌, leb, ltb, length, take, drop}
use Rattle.rule.specs.Run.{Item, byte, event, bytes, events, among, past, onward}

-- what is true of `need`: a unit has a byte; the length that u settles no later byte changes; and what u leaves unfinished goes past u
pub record Needs (need : List ℕ → ℕ) : Type 0 where
  pub starts : 0 < need []
  pub settled : (u w : List ℕ) → need u ≤ length u → need (u ++ w) ≡ need u
  pub pending : (u w : List ℕ) → length u < need u → length u < need (u ++ w)

-- the bytes u are none or "a true beginning of one unit" (01, "One call")
unfoldable pub begun : (List ℕ → ℕ) → List ℕ → Bool
begun need u = ltb (length u) (need u)

-- what a run falls into: a whole unit; "the unit's bytes so far" where a wait, or an event that cuts, drops them; an event
pub data Token (E : Type 0) : Type 0 where
  whole : List ℕ → Token E
  lost : List ℕ → Token E
  seen : E → Token E

-- what becomes of the first unit of a run: it ends; "the unit's bytes so far" are dropped; or the run ends, and they "stay unfinished".
-- Before its bytes stand the events that came inside the unit, behind them the run that is left
pub data Front (E : Type 0) : Type 0 where
  ends : List E → List ℕ → List (Item E) → Front E
  drops : List E → List ℕ → List (Item E) → Front E
  stays : List E → List ℕ → Front E

-- a run, cut up: "Bytes of an unfinished unit at the end of the run stay unfinished."
pub record Cut (E : Type 0) : Type 0 where
  pub tokens : List (Token E)
  pub unfinished : List ℕ

module _ {E : Type 0} where
  -- one token more in front, or some events
  abbrev pub put : Token E → Cut E → Cut E
  put k c = record { tokens = k ∷ c.tokens; unfinished = c.unfinished }

  abbrev pub puts : List E → Cut E → Cut E
  puts [] c = c
  puts (e ∷ es) c = put (seen e) (puts es c)

  -- a beginning u that does not end in time: "a new unit starts at the byte after the wait"; with nothing after it, u stays unfinished
  abbrev pub broken : List E → List ℕ → List (Item E) → Front E
  broken es u [] = stays es u
  broken es u (x ∷ r) = drops es u (x ∷ r)

  -- the first unit, and then `rest` of the run behind it
  abbrev pub after : (List (Item E) → Cut E) → Front E → Cut E
  after rest (ends es u r) = puts es (put (whole u) (rest r))
  after rest (drops es u r) = puts es (put (lost u) (rest r))
  after rest (stays es u) = puts es (record { tokens = []; unfinished = u })

module _ {E : Type 0} (cuts : ℕ → E → Bool) (need : List ℕ → ℕ) where
  -- a unit has begun with the bytes u, the last at t, and the run goes on with r. v is all that comes in time, and n the unit's length:
  -- "A first byte of zero is a unit by itself", "those four bytes", or "the total length of its block"
  unfoldable pub front : List ℕ → ℕ → List (Item E) → Front E
  front u t r =
      let v = u ++ bytes (onward cuts t r) in
      let n = need v in
      cond (leb n (length v)) (ends (among (n - length u) r) (take n v) (past (n - length u) r))
      (broken (events (onward cuts t r)) v (drop (length (onward cuts t r)) r))

  -- "its definition takes unit after unit off the run". A byte begins a unit whatever its stamp: "Between units no wait matters."
  -- The number bounds the units: the run's length is enough (`rule_first` of proofs/First gives the equation without it)
  unfoldable pub units : ℕ → List (Item E) → Cut E
  units zero r = record { tokens = []; unfinished = [] }
  units (suc n) [] = record { tokens = []; unfinished = [] }
  units (suc n) (byte t b ∷ r) = after (λ q. units n q) (front (b ∷ []) t r)
  units (suc n) (event e ∷ r) = put (seen e) (units n r)

  -- "The rule for a whole run, from its front, with nothing unfinished"
  abbrev pub units_of : List (Item E) → Cut E
  units_of r = units (length r) r
