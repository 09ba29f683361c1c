-- The names of 01, for the host: seven blocks and seven orders, each by its number. What joins the board later has no place here (02, P1:
-- "later commands stay outside").
use Rattle.std.specs.Prelude.{List, [], ◌∷◌, map, ℕ, get_or, Option, Some, None}
use Rattle.keyed.specs.Keyed.{value_in}
use Rattle.sheet.specs.Names.{named}
use Rattle.sheet.specs.Sheet.{Row, mov_row, eng_row, pwr_row, eds_row, hom_row, brk_row, pid_row}
use Rattle.sheet.specs.Sheet.{Command, smov, seng, spwr, seds, shom, sbrk, spid, gmov, geng, gpwr, geds, ghom, gbrk, gpid}
use Rattle.host.specs.declared.Block.{Block}
use Rattle.host.specs.declared.Block.TheVariants.{Mov, Eng, Pwr, Eds, Hom, Brk, Pid}
use Rattle.host.specs.declared.Order.{Order}
use Rattle.host.specs.declared.Order.TheVariants.{Stop, Sstp, Pwof, Left, Rigt, Home, Loft}

-- ---- blocks

-- in the sequence of their numbers, which are 1 to 7
abbrev pub block_list : List Block
block_list = Mov ∷ Eng ∷ Pwr ∷ Eds ∷ Hom ∷ Brk ∷ Pid ∷ []

abbrev pub row_of : Block → Row
row_of Mov = mov_row
row_of Eng = eng_row
row_of Pwr = pwr_row
row_of Eds = eds_row
row_of Hom = hom_row
row_of Brk = brk_row
row_of Pid = pid_row

abbrev pub set_of : Block → Command
set_of Mov = smov
set_of Eng = seng
set_of Pwr = spwr
set_of Eds = seds
set_of Hom = shom
set_of Brk = sbrk
set_of Pid = spid

abbrev pub get_of : Block → Command
get_of Mov = gmov
get_of Eng = geng
get_of Pwr = gpwr
get_of Eds = geds
get_of Hom = ghom
get_of Brk = gbrk
get_of Pid = gpid

abbrev pub block_number : Block → ℕ
block_number b = (row_of b).number

-- the block of a number; 0 and any other number are nobody's
abbrev pub block_at : ℕ → Option Block
block_at n = get_or (None ∷ map Some block_list) n None

-- ---- orders

abbrev pub order_list : List Order
order_list = Stop ∷ Sstp ∷ Pwof ∷ Left ∷ Rigt ∷ Home ∷ Loft ∷ []

abbrev pub order_name : Order → ℕ
order_name Stop = named "stop"
order_name Sstp = named "sstp"
order_name Pwof = named "pwof"
order_name Left = named "left"
order_name Rigt = named "rigt"
order_name Home = named "home"
order_name Loft = named "loft"

-- 01: "Orders: 1 stop, 2 sstp, 3 pwof, 4 left, 5 rigt, 6 home, 7 loft."
abbrev pub order_number : Order → ℕ
order_number Stop = 1
order_number Sstp = 2
order_number Pwof = 3
order_number Left = 4
order_number Rigt = 5
order_number Home = 6
order_number Loft = 7

abbrev pub order_at : ℕ → Option Order
order_at n = get_or (None ∷ map Some order_list) n None

-- ---- the number that has a name, or 0

abbrev pub set_named : ℕ → ℕ
set_named n = value_in n (map (λ b. (set_of b).name) block_list) (map block_number block_list) 0

abbrev pub get_named : ℕ → ℕ
get_named n = value_in n (map (λ b. (get_of b).name) block_list) (map block_number block_list) 0

abbrev pub order_named : ℕ → ℕ
order_named n = value_in n (map order_name order_list) (map order_number order_list) 0
