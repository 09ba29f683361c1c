-- Laws of the host's names and numbers. Assumes nothing.
use Rattle.std.specs.Prelude.{Some, None, map, nat_eq}
use mathlib.Core.Path.{◌≡◌, refl, sym, ap, ◌∙◌}
use mathlib.Core.List.{List, ◌∷◌}
use Prim.Native.Nat.{ℕ, zero, suc, ◌%◌, ◌^◌, ◌≤◌, ◌<◌}
use native.Mathlib.Omega.{arith}
use lib.Dec.{T, ltb, ltb→lt}
use lib.ListN.{length, get_or}
use Rattle.std.proofs.lemmas.List.{get_or_past}
use Rattle.sheet.specs.Rows.{row_at}
use Rattle.keyed.specs.Keyed.{value_in, value_beside}
use Rattle.keyed.proofs.Values.{value_as}
use Rattle.host.specs.Names.{row_of, set_of, get_of, block_list, block_number, block_at, order_list, order_name, order_number, order_at, order_named}
use Rattle.host.specs.declared.Block.{Block}
use Rattle.host.specs.declared.Block.TheVariants.{Mov, Eng, Pwr, Eds, Hom, Brk, Pid}
use Rattle.host.specs.declared.Order.{Order}
use Rattle.host.specs.declared.Order.TheVariants.{Stop, Sstp, Pwof, Left, Rigt, Home, Loft}

-- ---- blocks and orders by their numbers

pub block_back : (b : Block) → block_at (block_number b) ≡ Some b
block_back Mov = refl
block_back Eng = refl
block_back Pwr = refl
block_back Eds = refl
block_back Hom = refl
block_back Brk = refl
block_back Pid = refl

pub order_back : (o : Order) → order_at (order_number o) ≡ Some o
order_back Stop = refl
order_back Sstp = refl
order_back Pwof = refl
order_back Left = refl
order_back Rigt = refl
order_back Home = refl
order_back Loft = refl

same_known : {b c : Block} → Some b ≡ Some c → b ≡ c
same_known e = cc

pub number_one : (b c : Block) → block_number b ≡ block_number c → b ≡ c
number_one b c e = same_known (sym (block_back b) ∙ ap block_at e ∙ block_back c)

-- a number outside 1 to 7 is nobody's
outside_list : {X : Type 0} (xs : List X) (none : X) (n : ℕ) → (1 ≤ n → n ≤ length xs → ⊥) → get_or (none ∷ xs) n none ≡ none
outside_list xs none zero h = refl
outside_list xs none (suc n) h = get_or_past xs n none (omega arith)

module _ (n : ℕ) (outside : 1 ≤ n → n ≤ 7 → ⊥) where
  pub no_block : block_at n ≡ None
  no_block = outside_list (map Some block_list) None n outside

  pub no_order : order_at n ≡ None
  no_order = outside_list (map Some order_list) None n outside

pub row_numbered : (b : Block) → row_at (block_number b) ≡ row_of b
row_numbered Mov = refl
row_numbered Eng = refl
row_numbered Pwr = refl
row_numbered Eds = refl
row_numbered Hom = refl
row_numbered Brk = refl
row_numbered Pid = refl

-- ---- blocks and orders by their names: what stands beside a name is what has the number beside it

pub blocks_by : (name : Block → ℕ) (n : ℕ) → block_at (value_in n (map name block_list) (map block_number block_list) 0) ≡ value_beside nat_eq n (map (λ b. (name b, b)) block_list)
blocks_by name n = value_as block_at n 0 (map block_number block_list) (map (λ b. (name b, b)) block_list) refl refl

pub orders_by : (n : ℕ) → order_at (order_named n) ≡ value_beside nat_eq n (map (λ o. (order_name o, o)) order_list)
orders_by n = value_as order_at n 0 (map order_number order_list) (map (λ o. (order_name o, o)) order_list) refl refl

-- ---- "A command is a 4-byte identifier", and none begins with a zero

pub record Plain (n : ℕ) : Type 0 where
  pub fits : n < 256 ^ 4
  pub starts : n % 256 ≡ 0 → ⊥

pub plain : (n : ℕ) → T (ltb n (256 ^ 4)) → T (ltb 0 (n % 256)) → Plain n
plain n fits starts = record { fits = ltb→lt n (256 ^ 4) fits; starts = λ e. omega (arith, ltb→lt 0 (n % 256) starts) }

pub set_plain : (b : Block) → Plain (set_of b).name
set_plain Mov = plain _ tt tt
set_plain Eng = plain _ tt tt
set_plain Pwr = plain _ tt tt
set_plain Eds = plain _ tt tt
set_plain Hom = plain _ tt tt
set_plain Brk = plain _ tt tt
set_plain Pid = plain _ tt tt

pub get_plain : (b : Block) → Plain (get_of b).name
get_plain Mov = plain _ tt tt
get_plain Eng = plain _ tt tt
get_plain Pwr = plain _ tt tt
get_plain Eds = plain _ tt tt
get_plain Hom = plain _ tt tt
get_plain Brk = plain _ tt tt
get_plain Pid = plain _ tt tt

pub order_plain : (o : Order) → Plain (order_name o)
order_plain Stop = plain _ tt tt
order_plain Sstp = plain _ tt tt
order_plain Pwof = plain _ tt tt
order_plain Left = plain _ tt tt
order_plain Rigt = plain _ tt tt
order_plain Home = plain _ tt tt
order_plain Loft = plain _ tt tt
