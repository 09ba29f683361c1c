-- What a unit says: how long a reply is, and which orders are given. Assumes nothing.
use mathlib.Core.Path.{◌≡◌, refl, sym, ap, ◌∙◌}
use mathlib.Core.Bool.{Bool, true, false, cond}
use mathlib.Core.List.{List, [], ◌∷◌}
use Prim.Native.Nat.{ℕ, ◌-◌, ◌≤◌}
use native.Mathlib.Omega.{arith}
use lib.Dec.{eqb}
use lib.ListN.{length}
use Rattle.wire.proofs.Numbers.{length_le_bytes}
use Rattle.frame.specs.Frame.{framed}
use Rattle.frame.proofs.Frames.{frame_length}
use Rattle.sheet.specs.Lengths.{longest_frame}
use Rattle.sheet.specs.Names.{named}
use Rattle.sheet.specs.Sheet.{Row, gpos_row}
use Rattle.sheet.specs.Rows.{row_at, total, data_of}
use Rattle.sheet.proofs.Laws.{data_length}
use Rattle.position.specs.Position.{position_numbers}
use Rattle.position.specs.declared.Travel.{Travel}
use Rattle.table.specs.Table.{data_at}
use Rattle.table.proofs.Keep.{data_length as held-length}
use Rattle.rule.specs.Run.{byte}
use Rattle.rule.specs.Framing.{whole}
use Rattle.rule.specs.Rule.{Said, State}
use Rattle.rule.specs.Step.{step}
use Rattle.rule.specs.Facts.{Silent}
use Rattle.rule.proofs.Progress.{step_says}
use Rattle.orders.specs.Orders.{given}
use Rattle.names.specs.Names.{kind_at, name_of, replied}
use Rattle.orders.specs.declared.Order.{Order}
use Rattle.orders.specs.declared.Order.TheVariants.{Move, Movr}
use Rattle.names.specs.declared.Kind.{Kind}
use Rattle.names.specs.declared.Kind.TheVariants.{Zero, Set, Get, Gives, Moves, Places, Finds, Clears, Unknown}
use Rattle.names.proofs.Lengths.{get_total, replied_most}
use Rattle.names.proofs.Named.{Given, kind_given}
use Rattle.unit.specs.Unit.{checked, puts, gets, moves, places, finds, does, act, order_of}
use Rattle.unit.specs.Protocol.{protocol}
use Rattle.unit.specs.declared.Memory.{Memory}
use Rattle.unit.proofs.Sets.{checked_cases}

-- a unit of that kind
pub act_kind : (m : Memory) (u : List ℕ) (κ : Kind) → kind_at u ≡ κ → act m (whole u) ≡ does m u κ
unfolding act
act_kind m u κ e = ap (does m u) e

-- ---- how long a reply is

-- "the get name, data, CRC" is as long as the set
get_length : (r : Row) (d : List ℕ) (name : ℕ) → length d ≡ total r - 6 → length (framed name d) ≡ total r
get_length r d name e = omega (arith, frame_length name d)

-- an echo or a refusal is four letters
set_length : (m : Memory) (u : List ℕ) (k bad : ℕ) (done : Said Order Memory) → length done.reply ≡ 4 → length (checked m u k bad done).reply ≡ 4
set_length m u k bad done e =
    checked_cases m u k bad done (λ (a : Said Order Memory). length a.reply ≡ 4) (length_le_bytes 4 (named "errd")) (length_le_bytes 4 (named "errv")) (λ _. e)

pub does_length : (m : Memory) (u : List ℕ) (k : Kind) → length (does m u k).reply ≡ replied k
unfolding does puts gets moves places finds
does_length m u Zero = refl
does_length m u (Set k) = set_length m u _ _ _ (length_le_bytes 4 (name_of u))
does_length m u (Get k) = get_length (row_at k) (data_at m.settings k) (name_of u) (held-length m.settings k) ∙ sym (get_total k)
does_length m u (Gives o) = length_le_bytes 4 (name_of u)
does_length m u (Moves k) = set_length m u _ _ _ (length_le_bytes 4 (name_of u))
does_length m u Places = set_length m u _ _ _ (length_le_bytes 4 (name_of u))
does_length m u Finds = get_length gpos_row (data_of gpos_row (position_numbers m.position)) (name_of u) (data_length gpos_row (position_numbers m.position))
does_length m u Clears = length_le_bytes 4 (name_of u)
does_length m u Unknown = length_le_bytes 4 (named "errc")

pub act_most : (m : Memory) (u : List ℕ) → length (act m (whole u)).reply ≤ longest_frame
unfolding act
act_most m u = rw (does_length m u (kind_at u)) (replied_most (kind_at u))

-- ---- which orders are given

-- what is given is one order at most, and the order of an answer tells it
abbrev Told : Said Order Memory → Type 0
Told a = given (order_of a.orders) ≡ a.orders

set_order : (m : Memory) (u : List ℕ) (k bad : ℕ) (done : Said Order Memory) → Told done → Told (checked m u k bad done)
set_order m u k bad done e = checked_cases m u k bad done Told refl refl (λ _. e)

-- orders 8 and 9 are orders
move_order_lem : (b : Bool) (t : Travel) → let o = cond b (Move t) (Movr t) in given o ≡ o ∷ []
move_order_lem true t = refl
move_order_lem false t = refl

does_order : (m : Memory) (u : List ℕ) (k : Kind) → Given k → Told (does m u k)
unfolding does puts gets moves places finds
does_order m u Zero g = refl
does_order m u (Set k) g = set_order m u _ _ _ refl
does_order m u (Get k) g = refl
does_order m u (Gives o) g = g
does_order m u (Moves k) g = set_order m u _ _ _ (move_order_lem (eqb k 8) _)
does_order m u Places g = set_order m u _ _ _ refl
does_order m u Finds g = refl
does_order m u Clears g = refl
does_order m u Unknown g = refl

pub act_order : (m : Memory) (u : List ℕ) → given (order_of (act m (whole u)).orders) ≡ (act m (whole u)).orders
unfolding act
act_order m u = does_order m u (kind_at u) (kind_given u)

-- ---- what a byte says

-- bytes that a wait drops cause nothing
pub silent : Silent protocol
unfolding act
silent = record { reply = λ m u. refl; orders = λ m u. refl }

-- a reply of one byte's doing fits the least room
pub reply_most : (s : State Memory) (t x : ℕ) → length (step protocol s (byte t x)).reply ≤ longest_frame
reply_most s t x = step_says protocol silent (λ (r : List ℕ) (os : List Order). length r ≤ longest_frame) (omega arith) act_most s t x
