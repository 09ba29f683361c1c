-- A run in true time, which never comes round, and as the board is shown it. No part of the rule: the words of the two laws that say why the time is
-- reported (`true_time` of proofs/TrueTime, `true_drops` of proofs/Dropped). In quotation marks: sheet 02, P3, or 01 where it is named.
-- A report is here one of the time; other events may stand anywhere between.
use Rattle.std.specs.Prelude.{ℕ, ◌+◌, ◌%◌, ◌<◌, ◌≤◌, ◌≡◌, Bool, false, List, [], ◌∷◌, ◌++◌, map, length, take, drop}
use Rattle.rule.specs.Run.{Item, byte, event}
use Rattle.rule.specs.Framing.{Token, whole, lost, units_of}
use Rattle.rule.specs.Facts.{spent}

-- a byte, or a report of the time, and the millisecond it came at
pub data Timed : Type 0 where
  byte_at : ℕ → ℕ → Timed
  report_at : ℕ → Timed

abbrev pub time_of : Timed → ℕ
time_of (byte_at t b) = t
time_of (report_at t) = t

-- what a run in true time holds: a byte or a report of the time; or an event of another kind, which tells no time and drops nothing
pub data Entry {E : Type 0} (cuts : ℕ → E → Bool) : Type 0 where
  dated : Timed → Entry cuts
  other : (e : E) → ((last : ℕ) → cuts last e ≡ false) → Entry cuts

module _ {E : Type 0} {cuts : ℕ → E → Bool} where
  -- the times of a run's bytes
  abbrev pub times : List (Entry cuts) → List ℕ
  times [] = []
  times (dated (byte_at t b) ∷ r) = t ∷ times r
  times (dated (report_at t) ∷ r) = times r
  times (other e still ∷ r) = times r

  -- when the last byte of a run came, and its last byte or report; t where there is none
  abbrev pub byte_time : ℕ → Entry cuts → ℕ
  byte_time t (dated (byte_at s b)) = s
  byte_time t (dated (report_at s)) = t
  byte_time t (other e still) = t

  abbrev pub entry_time : ℕ → Entry cuts → ℕ
  entry_time t (dated x) = time_of x
  entry_time t (other e still) = t

  abbrev pub last_byte : ℕ → List (Entry cuts) → ℕ
  last_byte t [] = t
  last_byte t (x ∷ r) = last_byte (byte_time t x) r

  abbrev pub last_time : ℕ → List (Entry cuts) → ℕ
  last_time t [] = t
  last_time t (x ∷ r) = last_time (entry_time t x) r

-- times: none more than 400 ms after the one before it
abbrev pub Close : List ℕ → Type 0
Close [] = Unit {0}
Close (t ∷ []) = Unit {0}
Close (t ∷ s ∷ ts) = (s ≤ t + 400) × Close (s ∷ ts)

-- from t to s is a wait of more than 400 ms
abbrev pub TooLong : ℕ → ℕ → Type 0
TooLong s t = t + 400 < s

-- 2^32 - 401 ms, the longest that the main loop may be silent while something is unfinished
abbrev pub longest_silence : ℕ
longest_silence = 4294966895

-- the board's counter shows a time modulo 4,294,967,296
abbrev pub shown : ℕ → ℕ
shown t = t % 4294967296

module _ {E : Type 0} {cuts : ℕ → E → Bool} where
  -- when the bytes u that stand behind the tokens ks came: a run's tokens spend its bytes in sequence (`units_bytes`)
  abbrev pub times_of : List (Entry cuts) → List (Token E) → List ℕ → List ℕ
  times_of run ks u = take (length u) (drop (length (spent ks)) (times run))

  -- a run as the board is shown it; `clock s` is the report of the stamp s
  abbrev pub stamp : (ℕ → E) → Entry cuts → Item E
  stamp clock (dated (byte_at t b)) = byte (shown t) b
  stamp clock (dated (report_at t)) = event (clock (shown t))
  stamp clock (other e still) = event e

  abbrev pub stamped : (ℕ → E) → List (Entry cuts) → List (Item E)
  stamped clock r = map (stamp clock) r

module _ {E : Type 0} (clock : ℕ → E) (cuts : ℕ → E → Bool) (need : List ℕ → ℕ) (run : List (Entry cuts)) where
  -- WHAT THE MAIN LOOP HAS TO DO: while something is unfinished, it hands the board no byte or report from before the last byte, and the next one
  -- within `longest_silence` of the last one; other events when it likes
  abbrev pub Watched : Type 0
  Watched =
      (q r : List (Entry cuts)) (x : Timed) → run ≡ q ++ dated x ∷ r → 0 < length (units_of cuts need (stamped clock q)).unfinished
      → (last_byte 0 q ≤ time_of x) × (time_of x ≤ last_time 0 q + longest_silence)

  -- NONE IS COMPLETED AFTER A TRUE WAIT: of a whole unit u, behind the tokens ks, no byte came more than 400 ms after the one before it.
  -- 01: "A wait inside a unit of more than 400 ms drops the unit's bytes so far"
  abbrev pub WholeClose : Type 0
  WholeClose = (ks ls : List (Token E)) (u : List ℕ) → (units_of cuts need (stamped clock run)).tokens ≡ ks ++ whole u ∷ ls → Close (times_of run ks u)

  -- at a place of the run the tokens ks are complete and u is unfinished, and the next byte or report comes more than 400 ms after the last byte:
  -- "If something is unfinished and the wait since the last byte exceeds 400,
  pub record Waited (ks : List (Token E)) (u : List ℕ) : Type 0 where
    pub before : List (Entry cuts)
    pub next : Timed
    pub behind : List (Entry cuts)
    pub place : run ≡ before ++ dated next ∷ behind
    pub held : units_of cuts need (stamped clock before) ≡ record { tokens = ks; unfinished = u }
    pub some : 0 < length u
    pub long : TooLong (time_of next) (last_byte 0 before)

  -- it is dropped"
  abbrev pub Dropped : List (Token E) → List ℕ → Type 0
  Dropped ks u = (ls : List (Token E)) × ((units_of cuts need (stamped clock run)).tokens ≡ ks ++ lost u ∷ ls)

  -- AND IT IS DROPPED EXACTLY THEN
  abbrev pub TrueDrops : Type 0
  TrueDrops = (ks : List (Token E)) (u : List ℕ) → (Dropped ks u → Waited ks u) × (Waited ks u → Dropped ks u)
