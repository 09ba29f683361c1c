-- How long a unit and its answer are, whatever the kind: one test over each table's totals. Assumes nothing.
use mathlib.Core.Path.{◌≡◌, refl}
use mathlib.Core.Bool.{Bool, true, false, cond}
use mathlib.Core.List.{List, [], ◌∷◌, map}
use Prim.Native.Nat.{ℕ, ◌≤◌, ◌<◌}
use native.Mathlib.Omega.{arith}
use lib.Dec.{eqb, leb, ltb, leb→le}
use borrow.Author.Tests.{eqb-true}
use Rattle.rule.proofs.Choice.{either, either_by}
use Rattle.keyed.specs.Keyed.{value_in}
use Rattle.keyed.proofs.Values.{value_all}
use Rattle.sheet.specs.Lengths.{longest_frame}
use Rattle.sheet.specs.Names.{named}
use Rattle.sheet.specs.Sheet.{Row, sheet, set_table, get_table, move, movr, spos, gpos}
use Rattle.sheet.specs.Rows.{total, row_in, row_at}
use Rattle.orders.specs.Orders.{order_at}
use Rattle.names.specs.Names.{numbers_of, totals_of, total_in, number_in, order_in, position_kind, kind_of, span, replied}
use Rattle.names.specs.declared.Kind.{Kind}
use Rattle.names.specs.declared.Kind.TheVariants.{Zero, Set, Get, Gives, Moves, Places, Finds, Clears, Unknown}

set_least : (k : ℕ) → 4 ≤ total_in set_table k
set_least k = leb→le 4 _ (value_all (λ t. leb 4 t) k 6 (numbers_of set_table) (totals_of set_table) tt tt)

pub span_some : (k : Kind) → 0 < span k
span_some Zero = omega arith
span_some (Set k) = omega (arith, set_least k)
span_some (Get k) = omega arith
span_some (Gives o) = omega arith
span_some (Moves k) = omega arith
span_some Places = omega arith
span_some Finds = omega arith
span_some Clears = omega arith
span_some Unknown = omega arith

pub span_most : (k : Kind) → span k ≤ longest_frame
span_most Zero = omega arith
span_most (Set k) = leb→le _ longest_frame (value_all (λ t. leb t longest_frame) k 6 (numbers_of set_table) (totals_of set_table) tt tt)
span_most (Get k) = omega arith
span_most (Gives o) = omega arith
span_most (Moves k) = omega arith
span_most Places = omega arith
span_most Finds = omega arith
span_most Clears = omega arith
span_most Unknown = omega arith

pub replied_most : (k : Kind) → replied k ≤ longest_frame
replied_most Zero = omega arith
replied_most (Set k) = omega arith
replied_most (Get k) = leb→le _ longest_frame (value_all (λ t. leb t longest_frame) k 6 (numbers_of get_table) (totals_of get_table) tt tt)
replied_most (Gives o) = omega arith
replied_most (Moves k) = omega arith
replied_most Places = omega arith
replied_most Finds = omega arith
replied_most Clears = omega arith
replied_most Unknown = omega arith

-- what holds of each kind that a name of 02, P5 has, and of no name, holds of a name's kind among them
pub position_kind_lem : (P : Kind → Type 0) (n : ℕ) → (n ≡ move.name → P (Moves 8)) → (n ≡ movr.name → P (Moves 9)) → (n ≡ spos.name → P Places)
    → (n ≡ gpos.name → P Finds) → (n ≡ named "zero" → P Clears) → P Unknown → P (position_kind n)
unfolding position_kind
position_kind_lem P n to by places finds clears unknown =
    either_by P (eqb n move.name) _ _ (λ e. to (eqb-true n _ e))
    (λ _. either_by P (eqb n movr.name) _ _ (λ e. by (eqb-true n _ e))
    (λ _. either_by P (eqb n spos.name) _ _ (λ e. places (eqb-true n _ e))
    (λ _. either_by P (eqb n gpos.name) _ _ (λ e. finds (eqb-true n _ e))
    (λ _. either_by P (eqb n (named "zero")) _ _ (λ e. clears (eqb-true n _ e)) (λ _. unknown)))))

-- what holds of every kind that a name can have, which is none of a zero, holds of a name's kind
pub name_kind : (P : Kind → Type 0) (n : ℕ) → ((k : ℕ) → P (Set k)) → ((k : ℕ) → P (Get k)) → ((k : ℕ) → P (Gives (order_at k))) → P (position_kind n) → P (kind_of n)
unfolding kind_of
name_kind P n set get order rest =
    either P (ltb 0 (number_in set_table n)) _ _ (set (number_in set_table n))
    (either P (ltb 0 (number_in get_table n)) _ _ (get (number_in get_table n))
    (either P (ltb 0 (order_in n)) _ _ (order (order_in n)) rest))

abbrev Long : Kind → Type 0
Long k = 4 ≤ span k

-- a unit that begins with a name has at least the name
pub span_least : (n : ℕ) → 4 ≤ span (kind_of n)
span_least n =
    name_kind Long n set_least (λ k. omega arith) (λ k. omega arith)
    (position_kind_lem Long n (λ _. omega arith) (λ _. omega arith) (λ _. omega arith) (λ _. omega arith) (λ _. omega arith) (omega arith))

-- ---- the tables' totals are those of the blocks that a board keeps

total_step : (b : Bool) (r q : Row) (n : ℕ) → n ≡ total q → cond b (total r) n ≡ total (cond b r q)
total_step true r q n e = refl
total_step false r q n e = e

total_rows : (k : ℕ) (rs : List Row) → value_in k (map (λ r. r.number) rs) (map total rs) 6 ≡ total (row_in rs k)
unfolding value_in
total_rows k [] = refl
total_rows k (r ∷ rs) = total_step (eqb k r.number) r (row_in rs k) (value_in k (map (λ q. q.number) rs) (map total rs) 6) (total_rows k rs)

pub set_total : (k : ℕ) → total_in set_table k ≡ total (row_at k)
set_total k = total_rows k sheet

pub get_total : (k : ℕ) → total_in get_table k ≡ total (row_at k)
get_total k = total_rows k sheet
