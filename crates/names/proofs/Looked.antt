-- A name's kind, by what the code looks up of it, table by table. Assumes nothing.
use Rattle.std.proofs.Common.{◌≡◌, ℕ, zero, suc, List, [], ◌∷◌, map, refl, ap, ◌∙◌, cond, arith, nat_eq}
use Rattle.std.specs.Prelude.{Option, Some, unwrap_or}
use Rattle.std.specs.Option.{option_map_or}
use lib.Dec.{ltb}
use borrow.Author.Tests.{lt-ltb}
use Rattle.ranges.specs.Tests.{found}
use Rattle.keyed.specs.Keyed.{value_in, value_beside}
use Rattle.keyed.proofs.Values.{value_as, value_zip}
use Rattle.sheet.specs.Sheet.{set_table, get_table}
use Rattle.orders.specs.Orders.{order_at}
use Rattle.names.specs.Names.{numbers_of, totals_of, total_in, position_kind, kind_of}
use Rattle.names.specs.declared.Kind.TheVariants.{Set, Get, Gives}
use Rattle.names.specs.declared.TheConstants.{SETS, GETS, ORDERS, TOTALS}

-- what is made of a number where it is not 0 is made of what it is found to be
by_found : {A : Type 0} (k : ℕ) (f : ℕ → A) (d : A) → cond (ltb 0 k) (f k) d ≡ option_map_or f (found k) d
by_found zero f d = refl
by_found (suc k) f d = rw (lt-ltb 0 (suc k) (omega arith))

-- so it is of a name's number, where the pairs are the table's and no number is 0
by_looked : {A : Type 0} (f : ℕ → A) (n : ℕ) (vs : List ℕ) (ps : List (ℕ × ℕ)) {d e : A} → map found vs ≡ map (λ p. Some p.1) ps → d ≡ e
    → let k = value_in n (map (λ p. p.0) ps) vs 0 in cond (ltb 0 k) (f k) d ≡ option_map_or f (value_beside nat_eq n ps) e
by_looked f n vs ps {d} some is =
    by_found (value_in n (map (λ p. p.0) ps) vs 0) f d
    ∙ ap (λ (o : Option ℕ). option_map_or f o d) (value_as found n 0 vs ps refl some)
    ∙ ap (option_map_or f (value_beside nat_eq n ps)) is

pub kind_looked : (n : ℕ) → kind_of n
    ≡ option_map_or Set (value_beside nat_eq n SETS)
    (option_map_or Get (value_beside nat_eq n GETS) (option_map_or (λ k. Gives (order_at k)) (value_beside nat_eq n ORDERS) (position_kind n)))
unfolding kind_of
kind_looked n =
    by_looked Set n (numbers_of set_table) SETS refl
    (by_looked Get n (numbers_of get_table) GETS refl
    (by_looked (λ k. Gives (order_at k)) n (1 ∷ 2 ∷ 3 ∷ 4 ∷ 5 ∷ 6 ∷ 7 ∷ []) ORDERS refl refl))

-- sets and gets have the same totals
pub total_looked : (k : ℕ) → total_in set_table k ≡ unwrap_or (value_beside nat_eq k TOTALS) 6
total_looked k = value_zip k 6 (numbers_of set_table) (totals_of set_table)
