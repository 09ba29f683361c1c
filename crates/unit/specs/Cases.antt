-- The starred cases of sheet 01, "Frames on the bench": all thirteen in one table. In quotation marks: 01. Behind them 02's P3, seven weeks of
-- standstill, and 02's P5, positions and travel, in tables of their own.
use Rattle.std.specs.Prelude.{◌≡◌, List, [], ◌∷◌, ◌++◌, map, ℕ, ℤ, pos, negsuc, replicate}
use Rattle.crc.specs.Crc.{crc_of}
use Rattle.wire.specs.Letters.{ascii}
use Rattle.position.specs.Position.{fresh_position}
use Rattle.position.specs.declared.Travel.{Travel}
use Rattle.position.specs.declared.Position.{Position}
use Rattle.table.specs.Table.{numbers_at}
use Rattle.rule.specs.Run.{Item, event, at}
use Rattle.rule.specs.Rule.{whole_run}
use Rattle.orders.specs.Orders.{order_number}
use Rattle.orders.specs.declared.Order.{Order}
use Rattle.orders.specs.declared.Order.TheVariants.{Move, Movr}
use Rattle.unit.specs.Unit.{Event, clock, position, fresh_memory}
use Rattle.unit.specs.Protocol.{protocol}

-- ---- what a case says

-- what a run comes to: the whole reply, the orders by number, the bytes that stay unfinished, the flags, the last refused block and field, and the
-- numbers that a block holds
pub record Outcome : Type 0 where
  pub reply : List ℕ
  pub orders : List ℕ
  pub unfinished : List ℕ
  pub flags : ℕ
  pub block : ℕ
  pub field : ℕ
  pub holds : List ℕ

-- the rule's outcome of a run on a fresh board, with the numbers of block k
abbrev pub outcome : List (Item Event) → ℕ → Outcome
outcome run k =
    let a = whole_run protocol fresh_memory 0 run in
    record {
      reply = a.reply;
      orders = map order_number a.orders;
      unfinished = a.next.line.unfinished;
      flags = a.next.memory.notes.flags;
      block = a.next.memory.notes.block;
      field = a.next.memory.notes.field;
      holds = numbers_at a.next.memory.settings k;
    }

-- bytes and their CRC; a run on a fresh board, a block to look at, and what the run comes to; or such a run, the whole reply, the orders, and the
-- position where it ends
pub data Case : Type 0 where
  crc : List ℕ → ℕ → Case
  frame : List (Item Event) → ℕ → Outcome → Case
  travel : List (Item Event) → List ℕ → List Order → Position → Case

abbrev pub Holds : Case → Type 0
Holds (crc bytes register) = crc_of bytes ≡ register
Holds (frame run k o) = outcome run k ≡ o
Holds (travel run reply orders p) = let a = whole_run protocol fresh_memory 0 run in (a.reply ≡ reply) × (a.orders ≡ orders) × (a.next.memory.position ≡ p)

-- every case of a table holds
pub data Each : List Case → Type 0 where
  none : Each []
  row : {c : Case} {cs : List Case} → Holds c → Each cs → Each (c ∷ cs)

-- ---- the table

abbrev pub zeros : ℕ → List ℕ
zeros n = replicate n 0

-- a set of block 6 with t1 65535, and this CRC behind it
abbrev pub brake : List ℕ → List ℕ
brake check = ascii "sbrk" ++ (0xFF ∷ 0xFF ∷ zeros 17 ++ check)

abbrev pub cases : List Case
cases =
    -- "CRC of nothing 0xFFFF;
    crc [] 0xFFFF
    -- of 00: 0x40BF;
    ∷ crc (0x00 ∷ []) 0x40BF
    -- of FF: 0x00FF;
    ∷ crc (0xFF ∷ []) 0x00FF
    -- of FF FF: 0x0000;
    ∷ crc (0xFF ∷ 0xFF ∷ []) 0x0000
    -- of the nine digits 123456789: 0x4B37 (five cases)."
    ∷ crc (ascii "123456789") 0x4B37
    -- "sbrk, FF FF, 17 zeros, CRC 00 00: reply sbrk, t1 is 65535."
    ∷ frame (at 0 (brake (0x00 ∷ 0x00 ∷ []))) 6
    (record { reply = ascii "sbrk"; orders = []; unfinished = []; flags = 0; block = 0; field = 0; holds = 65535 ∷ 0 ∷ 0 ∷ 0 ∷ 0 ∷ [] })
    -- "Then gbrk: gbrk, FF FF, 17 zeros, 00 00."
    ∷ frame (at 0 (brake (0x00 ∷ 0x00 ∷ [])) ++ at 0 (ascii "gbrk")) 6
    (record {
      reply = ascii "sbrk" ++ (ascii "gbrk" ++ (0xFF ∷ 0xFF ∷ zeros 17 ++ (0x00 ∷ 0x00 ∷ [])));
      orders = [];
      unfinished = [];
      flags = 0;
      block = 0;
      field = 0;
      holds = 65535 ∷ 0 ∷ 0 ∷ 0 ∷ 0 ∷ [];
    })
    -- "The same set with CRC 01 00: errd, block 6 as before."
    ∷ frame (at 0 (brake (0x01 ∷ 0x00 ∷ []))) 6
    (record { reply = ascii "errd"; orders = []; unfinished = []; flags = 2; block = 0; field = 0; holds = 0 ∷ 0 ∷ 0 ∷ 0 ∷ 0 ∷ [] })
    -- "smov, FF FF, 22 zeros, 00 00: errv, block 1 field 3, Speed still 0 on a fresh board."
    ∷ frame (at 0 (ascii "smov" ++ (0xFF ∷ 0xFF ∷ zeros 22 ++ (0x00 ∷ 0x00 ∷ [])))) 1
    (record { reply = ascii "errv"; orders = []; unfinished = []; flags = 4; block = 1; field = 3; holds = 0 ∷ 0 ∷ 1 ∷ 1 ∷ 0 ∷ 0 ∷ [] })
    -- "righ then t: errc, one byte unfinished."
    ∷ frame (at 0 (ascii "righ") ++ at 0 (ascii "t")) 1
    (record { reply = ascii "errc"; orders = []; unfinished = ascii "t"; flags = 1; block = 0; field = 0; holds = 0 ∷ 0 ∷ 1 ∷ 1 ∷ 0 ∷ 0 ∷ [] })
    -- "s and four zeros: errc, then one zero byte."
    ∷ frame (at 0 (ascii "s" ++ zeros 4)) 1
    (record { reply = ascii "errc" ++ (0x00 ∷ []); orders = []; unfinished = []; flags = 1; block = 0; field = 0; holds = 0 ∷ 0 ∷ 1 ∷ 1 ∷ 0 ∷ 0 ∷ [] })
    -- "st at stamp 4294967200, op at 304 (wait 400): order 1."
    ∷ frame (at 4294967200 (ascii "st") ++ at 304 (ascii "op")) 1
    (record { reply = ascii "stop"; orders = 1 ∷ []; unfinished = []; flags = 0; block = 0; field = 0; holds = 0 ∷ 0 ∷ 1 ∷ 1 ∷ 0 ∷ 0 ∷ [] })
    -- "At 305: dropped, op unfinished."
    ∷ frame (at 4294967200 (ascii "st") ++ at 305 (ascii "op")) 1
    (record { reply = []; orders = []; unfinished = ascii "op"; flags = 0; block = 0; field = 0; holds = 0 ∷ 0 ∷ 1 ∷ 1 ∷ 0 ∷ 0 ∷ [] })
    ∷ []

-- ---- reports of the time (02, P3)

-- st, what comes then, and op at the stamp t: the order stop is given, or only op is there, unfinished
abbrev pub standstill : ℕ → List (Item Event) → ℕ → List (Item Event)
standstill s between t = at s (ascii "st") ++ (between ++ at t (ascii "op"))

abbrev pub resumed : Outcome
resumed = record { reply = ascii "stop"; orders = 1 ∷ []; unfinished = []; flags = 0; block = 0; field = 0; holds = 0 ∷ 0 ∷ 1 ∷ 1 ∷ 0 ∷ 0 ∷ [] }

abbrev pub cut_short : Outcome
cut_short = record { reply = []; orders = []; unfinished = ascii "op"; flags = 0; block = 0; field = 0; holds = 0 ∷ 0 ∷ 1 ∷ 1 ∷ 0 ∷ 0 ∷ [] }

abbrev pub reports : List Case
reports =
    -- op comes 2^32 + 100 ms behind st, and the counter has come round: no report; a report a day after st
    frame (standstill 0 [] 100) 1 resumed
    ∷ frame (standstill 0 (event (clock 86400000) ∷ []) 100) 1 cut_short
    -- a report 400 ms after st drops nothing, at 401 it does; and so do reports at 300 and 500: a report does not restart the wait
    ∷ frame (standstill 0 (event (clock 400) ∷ []) 100) 1 resumed
    ∷ frame (standstill 0 (event (clock 401) ∷ []) 100) 1 cut_short
    ∷ frame (standstill 0 (event (clock 300) ∷ event (clock 500) ∷ []) 100) 1 cut_short
    -- the same across the wrap: st at 4294967200, op 2^32 + 100 ms later
    ∷ frame (standstill 4294967200 (event (clock 304) ∷ []) 4) 1 resumed
    ∷ frame (standstill 4294967200 (event (clock 305) ∷ []) 4) 1 cut_short
    -- `Watched` bounds the time between reports sharply: 400 ms, and then 2^32 - 400 ms with no report, are a turn of the counter
    ∷ frame (standstill 0 (event (clock 400) ∷ []) 0) 1 resumed
    ∷ []

-- ---- positions and travel (02, P5)

-- steps, microsteps and count
abbrev pub standing : ℤ → ℤ → ℤ → Position
standing steps microsteps count = record { steps = record { 0 = steps }; microsteps = record { 0 = microsteps }; count = record { 0 = count } }

abbrev pub far : ℤ → ℤ → Travel
far steps microsteps = record { steps = record { 0 = steps }; microsteps = record { 0 = microsteps } }

-- where it stands before each spos and zero: 5 steps, -3 microsteps, a count of 7
abbrev pub stood : Item Event
stood = event (position (standing (pos 5) (negsuc 2) (pos 7)))

-- a spos of 10 steps, -255 microsteps and a count of -1, with these flags and this CRC
abbrev pub spos : ℕ → List ℕ → List (Item Event)
spos flags check =
    at 0 (ascii "spos" ++ (0x0A ∷ 0x00 ∷ 0x00 ∷ 0x00 ∷ 0x01 ∷ 0xFF ∷ (replicate 8 0xFF ++ (flags ∷ zeros 5 ++ check))))

abbrev pub travels : List Case
travels =
    -- 004's worked movr frame carries the CRC of other bytes; and with its own
    travel (at 0 (ascii "movr" ++ (0xC8 ∷ zeros 11 ++ (0x53 ∷ 0xC7 ∷ [])))) (ascii "errd") [] fresh_position
    ∷ travel (at 0 (ascii "movr" ++ (0xC8 ∷ zeros 11 ++ (0x86 ∷ 0x9C ∷ [])))) (ascii "movr") (Movr (far (pos 200) (pos 0)) ∷ []) fresh_position
    -- a move to -1 steps and 255 microsteps stores nothing; to 256 microsteps it is refused
    ∷ travel (at 0 (ascii "move" ++ (0xFF ∷ 0xFF ∷ 0xFF ∷ 0xFF ∷ 0xFF ∷ 0x00 ∷ zeros 6 ++ (0x3F ∷ 0x03 ∷ [])))) (ascii "move")
    (Move (far (negsuc 0) (pos 255)) ∷ []) fresh_position
    ∷ travel (at 0 (ascii "move" ++ (0xFF ∷ 0xFF ∷ 0xFF ∷ 0xFF ∷ 0x00 ∷ 0x01 ∷ zeros 6 ++ (0x60 ∷ 0xC7 ∷ [])))) (ascii "errv") [] fresh_position
    -- a report inside gpos acts before its end
    ∷ travel (at 0 (ascii "gp") ++ (stood ∷ at 0 (ascii "os")))
    (ascii "gpos" ++ (0x05 ∷ 0x00 ∷ 0x00 ∷ 0x00 ∷ 0xFD ∷ 0xFF ∷ 0x07 ∷ zeros 13 ++ (0xD1 ∷ 0x18 ∷ []))) [] (standing (pos 5) (negsuc 2) (pos 7))
    -- spos by its flags
    ∷ travel (stood ∷ spos 0x00 (0x3D ∷ 0x6F ∷ [])) (ascii "spos") [] (standing (pos 10) (negsuc 254) (negsuc 0))
    ∷ travel (stood ∷ spos 0x01 (0x3C ∷ 0xBE ∷ [])) (ascii "spos") [] (standing (pos 5) (negsuc 2) (negsuc 0))
    ∷ travel (stood ∷ spos 0x02 (0x3C ∷ 0x8D ∷ [])) (ascii "spos") [] (standing (pos 10) (negsuc 254) (pos 7))
    ∷ travel (stood ∷ spos 0x03 (0x3D ∷ 0x5C ∷ [])) (ascii "spos") [] (standing (pos 5) (negsuc 2) (pos 7))
    ∷ travel (stood ∷ spos 0x04 (0x3C ∷ 0xEB ∷ [])) (ascii "errv") [] (standing (pos 5) (negsuc 2) (pos 7))
    -- zero keeps the count
    ∷ travel (stood ∷ at 0 (ascii "zero")) (ascii "zero") [] (standing (pos 0) (pos 0) (pos 7))
    ∷ []
