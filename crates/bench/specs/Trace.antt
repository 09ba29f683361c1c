-- What a trace holds, the run of its bytes, and the calls that it gets. In quotation marks: sheet 01, "The bench program".
use Rattle.std.specs.Prelude.{ℕ, zero, suc, ◌+◌, List, [], ◌∷◌, ◌++◌, length, take, drop, Result, Ok, Err}
use Rattle.rule.specs.Run.{Item, at}
use Rattle.rule.specs.Rule.{State}
use Rattle.rule.specs.Step.{steps}
use Rattle.rule.specs.Calls.{if_none, call}
use Rattle.unit.specs.Unit.{Event}
use Rattle.unit.specs.Protocol.{protocol, fresh_state}
use Rattle.unit.specs.declared.Memory.{Memory}
use Rattle.trace.specs.Record.{reading}
use Rattle.trace.specs.declared.Head.{Head}
use Rattle.trace.specs.declared.NoRecord.{NoRecord}

-- "Reply room is 250."
abbrev pub reply_room : ℕ
reply_room = 250

-- what a record holds: "stamp (4 bytes)", and "that many bytes"
pub record Recorded : Type 0 where
  pub stamp : ℕ
  pub bytes : List ℕ

-- the records of the bytes s, whose front reads as the third argument: "stamp (4 bytes), count (1 byte, 0 to 250), that many bytes", and then `rest`
-- of what stands behind them. "A wrong mark, a count over 250 or a cut record": "none of that record's bytes is offered, and reading stops."
abbrev pub offered : (List ℕ → List Recorded) → List ℕ → Result Head NoRecord → List Recorded
offered rest s (Ok h) = record { stamp = h.stamp; bytes = take h.count (drop 7 s) } ∷ rest (drop (7 + h.count) s)
offered rest s (Err e) = []

-- record after record. The number bounds them. Where no bytes are left, they read as a cut record, and the records end
unfoldable pub records : ℕ → List ℕ → List Recorded
records zero s = []
records (suc n) s = offered (λ q. records n q) s (reading s)

-- "It reads a trace": the bytes' length is enough (`records_are` of proofs/Traces gives the equation without it)
abbrev pub records_in : List ℕ → List Recorded
records_in s = records (length s) s

-- their run of stamped bytes: each record whole
unfoldable pub run_of : List Recorded → List (Item Event)
run_of [] = []
run_of (r ∷ rs) = at r.stamp r.bytes ++ run_of rs

abbrev pub run_in : List ℕ → List (Item Event)
run_in s = run_of (records_in s)

-- "until all is taken, at least once": how many calls the bytes u get, stamped t, from the sound state x: one, and those for what it leaves.
-- The number bounds those behind the first
unfoldable pub calls : ℕ → State Memory → ℕ → List ℕ → ℕ
calls zero x t u = 1
calls (suc n) x t u =
    let c = call protocol 0 x t reply_room u in
    let left = drop c.taken u in
    suc (if_none left 0 (calls n c.said.next t left))

-- the bytes' length is enough (`calls_are` of proofs/Calls gives the equation without it)
abbrev pub calls_for : State Memory → ℕ → List ℕ → ℕ
calls_for x t u = calls (length u) x t u

-- "For each record it calls until all is taken, at least once.": each from the state that those before it leave
unfoldable pub calls_of : State Memory → List Recorded → ℕ
calls_of x [] = 0
calls_of x (r ∷ rs) = calls_for x r.stamp r.bytes + calls_of (steps protocol x (at r.stamp r.bytes)).next rs

abbrev pub calls_in : List ℕ → ℕ
calls_in s = calls_of fresh_state (records_in s)
