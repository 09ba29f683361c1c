-- Sheet 01's table of blocks, row by row in its sequence, and behind it 02's. Above each row stands what 01 says, and what 02 says of its flags; totals
-- are derived (Rows, `total`).
use Rattle.std.specs.Prelude.{Bool, true, not, ◌&&◌, List, [], ◌∷◌, ◌++◌, ℕ, eqb, leb, get_or, replicate}
use Rattle.ranges.specs.Tests.{any, within, signed_within, finite, only_bits}
use Rattle.sheet.specs.Names.{named}

-- "U = unsigned, S = signed, F = 32-bit float,
pub data Sort : Type 0 where
  unsigned signed float : Sort

-- a field: what its number stands for, its width in bytes, and the test of its number as it stands on the wire, where it is unsigned
pub record Field : Type 0 where
  pub sort : Sort
  pub width : ℕ
  pub test : ℕ → Bool

-- a data section: the number of its block, its fields, how many reserved bytes follow them, and its rule over the fields' numbers together
pub record Row : Type 0 where
  pub number : ℕ
  pub fields : List Field
  pub reserved : ℕ
  pub rule : List ℕ → Bool

-- most have none
abbrev pub no_rule : List ℕ → Bool
no_rule ns = true

-- a command that carries data, or is answered with data: its name, and the row of that data
pub record Command : Type 0 where
  pub name : ℕ
  pub row : Row

-- with widths in bits."
abbrev U8 : (ℕ → Bool) → Field
U8 t = record { sort = unsigned; width = 1; test = t }

abbrev U16 : (ℕ → Bool) → Field
U16 t = record { sort = unsigned; width = 2; test = t }

abbrev U32 : (ℕ → Bool) → Field
U32 t = record { sort = unsigned; width = 4; test = t }

abbrev S16 : (ℕ → Bool) → Field
S16 t = record { sort = signed; width = 2; test = t }

abbrev S32 : (ℕ → Bool) → Field
S32 t = record { sort = signed; width = 4; test = t }

abbrev S64 : (ℕ → Bool) → Field
S64 t = record { sort = signed; width = 8; test = t }

-- "each must be finite"
abbrev F : Field
F = record { sort = float; width = 4; test = finite }

-- | 1 | mov | 30 | Speed U32 0..100000, uSpeed U8, Accel U16 1..65535, Decel U16 1..65535, AntiplaySpeed U32 0..100000, uAntiplaySpeed U8 | 10 |
abbrev pub mov_row : Row
mov_row =
    record {
      number = 1;
      fields =
          U32 (within 0 100000)  -- Speed
          ∷ U8 any  -- uSpeed
          ∷ U16 (within 1 65535)  -- Accel
          ∷ U16 (within 1 65535)  -- Decel
          ∷ U32 (within 0 100000)  -- AntiplaySpeed
          ∷ U8 any  -- uAntiplaySpeed
          ∷ [];
      reserved = 10;
      rule = no_rule;
    }

-- | 2 | eng | 34 | NomVoltage U16, NomCurrent U16 15..8000, NomSpeed U32 1..100000, uNomSpeed U8, EngineFlags U16, Antiplay S16,
--                  MicrostepMode U8 1..9, StepsPerRev U16 1..65535 | 12 |
-- 02, P2: "Known bits: EngineFlags 0xFF"
abbrev pub eng_row : Row
eng_row =
    record {
      number = 2;
      fields =
          U16 any  -- NomVoltage
          ∷ U16 (within 15 8000)  -- NomCurrent
          ∷ U32 (within 1 100000)  -- NomSpeed
          ∷ U8 any  -- uNomSpeed
          ∷ U16 (only_bits 0xFF)  -- EngineFlags
          ∷ S16 any  -- Antiplay
          ∷ U8 (within 1 9)  -- MicrostepMode
          ∷ U16 (within 1 65535)  -- StepsPerRev
          ∷ [];
      reserved = 12;
      rule = no_rule;
    }

-- | 3 | pwr | 20 | HoldCurrent U8 0..100, CurrReductDelay U16, PowerOffDelay U16, CurrentSetTime U16, PowerFlags U8 | 6 |
-- 02, P2: "PowerFlags 0x07"
abbrev pub pwr_row : Row
pwr_row =
    record {
      number = 3;
      fields =
          U8 (within 0 100)  -- HoldCurrent
          ∷ U16 any  -- CurrReductDelay
          ∷ U16 any  -- PowerOffDelay
          ∷ U16 any  -- CurrentSetTime
          ∷ U8 (only_bits 0x07)  -- PowerFlags
          ∷ [];
      reserved = 6;
      rule = no_rule;
    }

-- | 4 | eds | 26 | BorderFlags U8, EnderFlags U8, LeftBorder S32, uLeftBorder S16 -255..255, RightBorder S32, uRightBorder S16 -255..255 | 6 |
-- 02, P2: "BorderFlags 0x0F, EnderFlags 0x07"
abbrev pub eds_row : Row
eds_row =
    record {
      number = 4;
      fields =
          U8 (only_bits 0x0F)  -- BorderFlags
          ∷ U8 (only_bits 0x07)  -- EnderFlags
          ∷ S32 any  -- LeftBorder
          ∷ S16 (signed_within 255)  -- uLeftBorder
          ∷ S32 any  -- RightBorder
          ∷ S16 (signed_within 255)  -- uRightBorder
          ∷ [];
      reserved = 6;
      rule = no_rule;
    }

-- | 5 | hom | 33 | FastHome U32 0..100000, uFastHome U8, SlowHome U32 0..100000, uSlowHome U8, HomeDelta S32, uHomeDelta S16 -255..255,
--                  HomeFlags U16 | 9 |
-- 02, P2: "HomeFlags 0x1FF"
abbrev pub hom_row : Row
hom_row =
    record {
      number = 5;
      fields =
          U32 (within 0 100000)  -- FastHome
          ∷ U8 any  -- uFastHome
          ∷ U32 (within 0 100000)  -- SlowHome
          ∷ U8 any  -- uSlowHome
          ∷ S32 any  -- HomeDelta
          ∷ S16 (signed_within 255)  -- uHomeDelta
          ∷ U16 (only_bits 0x1FF)  -- HomeFlags
          ∷ [];
      reserved = 9;
      rule = no_rule;
    }

-- | 6 | brk | 25 | t1 U16, t2 U16, t3 U16, t4 U16, BrakeFlags U8 | 10 |
-- 02, P2: "BrakeFlags 0x03"
abbrev pub brk_row : Row
brk_row =
    record {
      number = 6;
      fields =
          U16 any  -- t1
          ∷ U16 any  -- t2
          ∷ U16 any  -- t3
          ∷ U16 any  -- t4
          ∷ U8 (only_bits 0x03)  -- BrakeFlags
          ∷ [];
      reserved = 10;
      rule = no_rule;
    }

-- | 7 | pid | 48 | KpU U16, KiU U16, KdU U16, Kpf F, Kif F, Kdf F | 24 |
abbrev pub pid_row : Row
pid_row =
    record {
      number = 7;
      fields =
          U16 any  -- KpU
          ∷ U16 any  -- KiU
          ∷ U16 any  -- KdU
          ∷ F  -- Kpf
          ∷ F  -- Kif
          ∷ F  -- Kdf
          ∷ [];
      reserved = 24;
      rule = no_rule;
    }

-- ---- 02, P5: "The blocks are numbered 8 move, 9 movr, 10 spos." The board keeps none of them as a setting

-- "move and movr (18 bytes: S32 steps, S16 microsteps -255..255, 6 reserved)"
abbrev travel_fields : List Field
travel_fields =
    S32 any  -- steps
    ∷ S16 (signed_within 255)  -- microsteps
    ∷ []

abbrev pub move_row : Row
move_row = record { number = 8; fields = travel_fields; reserved = 6; rule = no_rule }

abbrev pub movr_row : Row
movr_row = record { number = 9; fields = travel_fields; reserved = 6; rule = no_rule }

-- "spos and gpos (26 bytes: S32 steps, S16 microsteps, S64 encoder counts; spos then has flags U8 and 5 reserved, gpos 6 reserved)"; "In spos's flags
-- 0x01 leaves steps and microsteps, 0x02 leaves the encoder count; other bits are refused as in P2."
abbrev pub spos_row : Row
spos_row =
    record {
      number = 10;
      fields =
          S32 any  -- steps
          ∷ S16 (signed_within 255)  -- microsteps
          ∷ S64 any  -- encoder counts
          ∷ U8 (only_bits 0x03)  -- flags
          ∷ [];
      reserved = 5;
      rule = no_rule;
    }

abbrev pub gpos_row : Row
gpos_row =
    record {
      number = 10;
      fields =
          S32 any  -- steps
          ∷ S16 (signed_within 255)  -- microsteps
          ∷ S64 any  -- encoder counts
          ∷ [];
      reserved = 6;
      rule = no_rule;
    }

-- ---- 02, P6: "blocks 11 ctl and 12 joy"

-- "ctl, 93 bytes: ten U32 speeds 0..100000, ten U8 parts, nine U16 timeouts, U16 click time, U16 flags (known bits 0x0F), S32 shift, S16 micro shift
-- -255..255, 9 reserved; array elements count as fields one by one"; "first speed and its part are not both zero"
abbrev pub ctl_row : Row
ctl_row =
    record {
      number = 11;
      fields =
          replicate 10 (U32 (within 0 100000))  -- MaxSpeed
          ++ replicate 10 (U8 any)  -- uMaxSpeed
          ++ replicate 9 (U16 any)  -- Timeout
          ++ U16 any  -- MaxClickTime
          ∷ U16 (only_bits 0x0F)  -- Flags
          ∷ S32 any  -- DeltaPosition
          ∷ S16 (signed_within 255)  -- uDeltaPosition
          ∷ [];
      reserved = 9;
      rule = λ ns. not (eqb (get_or ns 0 0) 0 && eqb (get_or ns 10 0) 0);
    }

-- "joy, 22 bytes: three U16 0..10000 (low, centre, high), U8 factor, U8 dead zone, U8 flags (known bit 0x01), 7 reserved"; "low ≤ centre ≤ high"
abbrev pub joy_row : Row
joy_row =
    record {
      number = 12;
      fields =
          U16 (within 0 10000)  -- JoyLowEnd
          ∷ U16 (within 0 10000)  -- JoyCenter
          ∷ U16 (within 0 10000)  -- JoyHighEnd
          ∷ U8 any  -- ExpFactor
          ∷ U8 any  -- DeadZone
          ∷ U8 (only_bits 0x01)  -- JoyFlags
          ∷ [];
      reserved = 7;
      rule = λ ns. leb (get_or ns 0 0) (get_or ns 1 0) && leb (get_or ns 1 0) (get_or ns 2 0);
    }

-- the blocks that a board keeps
abbrev pub sheet : List Row
sheet = mov_row ∷ eng_row ∷ pwr_row ∷ eds_row ∷ hom_row ∷ brk_row ∷ pid_row ∷ ctl_row ∷ joy_row ∷ []

-- ---- "The set begins with s, the get with g." Sets and gets are two tables: a later command may have no partner, or one with another section

abbrev pub smov : Command
smov = record { name = named "smov"; row = mov_row }

abbrev pub seng : Command
seng = record { name = named "seng"; row = eng_row }

abbrev pub spwr : Command
spwr = record { name = named "spwr"; row = pwr_row }

abbrev pub seds : Command
seds = record { name = named "seds"; row = eds_row }

abbrev pub shom : Command
shom = record { name = named "shom"; row = hom_row }

abbrev pub sbrk : Command
sbrk = record { name = named "sbrk"; row = brk_row }

abbrev pub spid : Command
spid = record { name = named "spid"; row = pid_row }

abbrev pub sctl : Command
sctl = record { name = named "sctl"; row = ctl_row }

abbrev pub sjoy : Command
sjoy = record { name = named "sjoy"; row = joy_row }

abbrev pub gmov : Command
gmov = record { name = named "gmov"; row = mov_row }

abbrev pub geng : Command
geng = record { name = named "geng"; row = eng_row }

abbrev pub gpwr : Command
gpwr = record { name = named "gpwr"; row = pwr_row }

abbrev pub geds : Command
geds = record { name = named "geds"; row = eds_row }

abbrev pub ghom : Command
ghom = record { name = named "ghom"; row = hom_row }

abbrev pub gbrk : Command
gbrk = record { name = named "gbrk"; row = brk_row }

abbrev pub gpid : Command
gpid = record { name = named "gpid"; row = pid_row }

abbrev pub gctl : Command
gctl = record { name = named "gctl"; row = ctl_row }

abbrev pub gjoy : Command
gjoy = record { name = named "gjoy"; row = joy_row }

abbrev pub set_table : List Command
set_table = smov ∷ seng ∷ spwr ∷ seds ∷ shom ∷ sbrk ∷ spid ∷ sctl ∷ sjoy ∷ []

abbrev pub get_table : List Command
get_table = gmov ∷ geng ∷ gpwr ∷ geds ∷ ghom ∷ gbrk ∷ gpid ∷ gctl ∷ gjoy ∷ []

-- the sets of 02, P5, and the get of the position
abbrev pub move : Command
move = record { name = named "move"; row = move_row }

abbrev pub movr : Command
movr = record { name = named "movr"; row = movr_row }

abbrev pub spos : Command
spos = record { name = named "spos"; row = spos_row }

abbrev pub gpos : Command
gpos = record { name = named "gpos"; row = gpos_row }
