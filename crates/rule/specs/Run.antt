-- THE RULE, 1 of 3: a run, which is stamped bytes and events of other kinds between them.
-- In quotation marks: sheet 01, "How a run of bytes is read", or 02 where it is named. Knows no call, piece or room and no byte step.
use Rattle.std.specs.Prelude.{ℕ, zero, suc, ◌+◌, ◌-◌, ◌%◌, Bool, cond, List, [], ◌∷◌, map, ltb}

-- "The wait is the later stamp minus the earlier one, modulo 4,294,967,296." Both are below that number. "A clock that runs back by less than
-- 4,294,966,896 therefore reads as a long wait; a step back of that much or more is the same as the counter coming round."
unfoldable pub wait : ℕ → ℕ → ℕ
wait later earlier = (later + 4294967296 - earlier) % 4294967296

-- "A wait inside a unit of more than 400 ms drops the unit's bytes so far"; "A wait of exactly 400 drops nothing."
unfoldable pub late : ℕ → ℕ → Bool
unfolding wait
late later earlier = ltb 400 (wait later earlier)

-- a byte behind its stamp, or an event. 02, P3: "Demand 3's run and the whole-run rule then hold bytes and clock reports in their order."
pub data Item (E : Type 0) : Type 0 where
  byte : ℕ → ℕ → Item E
  event : E → Item E

module _ {E : Type 0} where
  -- the bytes of a run, and its events
  abbrev pub bytes : List (Item E) → List ℕ
  bytes [] = []
  bytes (byte t b ∷ r) = b ∷ bytes r
  bytes (event e ∷ r) = bytes r

  abbrev pub events : List (Item E) → List E
  events [] = []
  events (byte t b ∷ r) = events r
  events (event e ∷ r) = e ∷ events r

  -- the events before the k-th byte of a run
  abbrev pub among : ℕ → List (Item E) → List E
  among zero r = []
  among (suc k) [] = []
  among (suc k) (byte t b ∷ r) = among k r
  among (suc k) (event e ∷ r) = e ∷ among (suc k) r

  -- the run after its k-th byte
  abbrev pub past : ℕ → List (Item E) → List (Item E)
  past zero r = r
  past (suc k) [] = []
  past (suc k) (byte t b ∷ r) = past k r
  past (suc k) (event e ∷ r) = past (suc k) r

  -- the stamp of a run's last byte, or t where there is none ("One call": "Each byte taken sets the last stamp."; 02, P3: "the last stamp stays")
  unfoldable pub last_stamp : ℕ → List (Item E) → ℕ
  last_stamp t [] = t
  last_stamp t (byte s b ∷ r) = last_stamp s r
  last_stamp t (event e ∷ r) = last_stamp t r

  -- bytes that share one stamp
  abbrev pub at : ℕ → List ℕ → List (Item E)
  at t u = map (λ b. byte t b) u

  -- `cuts t e`: an event e drops what is unfinished, its last byte at t (02, P3: "the wait since the last byte exceeds 400"). Other events are
  -- passed over: the wait goes on from the last byte
  module _ (cuts : ℕ → E → Bool) where
    -- the front of a run that comes in time after a byte at t: each item no "more than 400 ms" after the byte before it
    unfoldable pub onward : ℕ → List (Item E) → List (Item E)
    onward t [] = []
    onward t (byte s b ∷ r) = cond (late s t) [] (byte s b ∷ onward s r)
    onward t (event e ∷ r) = cond (cuts t e) [] (event e ∷ onward t r)
