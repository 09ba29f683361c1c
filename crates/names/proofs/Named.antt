-- What a kind says of its name: the name of a set is its set name, of a get its get name, and so on. Assumes nothing.
use mathlib.Core.Path.{◌≡◌, refl, sym, subst, ◌∙◌}
use mathlib.Core.List.{List, [], ◌∷◌, map}
use Prim.Native.Nat.{ℕ, ◌<◌}
use native.Mathlib.Omega.{arith}
use lib.Dec.{T, eqb, ltb, eqb→eq}
use lib.ListN.{get_or}
use borrow.Author.Tests.{ltb-true, ne_eqb}
use Rattle.rule.proofs.Choice.{either, either_by}
use Rattle.keyed.specs.Keyed.{value_in}
use Rattle.keyed.proofs.Every.{all}
use Rattle.keyed.proofs.Values.{value_key, value_all}
use Rattle.sheet.specs.Names.{named}
use Rattle.sheet.specs.Sheet.{Command, set_table, get_table, move, movr, spos, gpos}
use Rattle.orders.specs.Orders.{order_number, order_at, given}
use Rattle.names.specs.Names.{number_in, name_in, names_of, numbers_of, order_names, order_in, kind_of, kind_from, kind_at, name_of}
use Rattle.names.specs.declared.Kind.{Kind}
use Rattle.names.specs.declared.Kind.TheVariants.{Zero, Set, Get, Gives, Moves, Places, Finds, Clears, Unknown}
use Rattle.names.proofs.Lengths.{position_kind_lem}
use Rattle.names.proofs.Need.{kind_zero, kind_named}

-- THE TABLES: each name is its own number's, by computation
set_own : map (name_in set_table) (numbers_of set_table) ≡ names_of set_table
unfolding value_in
set_own = refl

get_own : map (name_in get_table) (numbers_of get_table) ≡ names_of get_table
unfolding value_in
get_own = refl

-- the name whose number was found is the number's name
found : (cs : List Command) (n : ℕ) → map (name_in cs) (numbers_of cs) ≡ names_of cs → 0 < number_in cs n → n ≡ name_in cs (number_in cs n)
found cs n own =
    subst (λ (ks : List ℕ). 0 < value_in n ks (numbers_of cs) 0 → n ≡ name_in cs (value_in n ks (numbers_of cs) 0)) own (value_key (name_in cs) n (numbers_of cs))

-- what a kind says of its name
abbrev Says : ℕ → Kind → Type 0
Says n Zero = Unit
Says n (Set k) = n ≡ name_in set_table k
Says n (Get k) = n ≡ name_in get_table k
Says n (Gives o) = Unit
Says n (Moves k) = n ≡ name_in (move ∷ movr ∷ []) k
Says n Places = n ≡ spos.name
Says n Finds = n ≡ gpos.name
Says n Clears = n ≡ named "zero"
Says n Unknown = Unit

kind_says : (n : ℕ) → Says n (kind_of n)
unfolding kind_of value_in
kind_says n =
    either_by (Says n) (ltb 0 (number_in set_table n)) (Set (number_in set_table n)) _ (λ e. found set_table n set_own (ltb-true 0 _ e))
    (λ _. either_by (Says n) (ltb 0 (number_in get_table n)) (Get (number_in get_table n)) _ (λ e. found get_table n get_own (ltb-true 0 _ e))
    (λ _. either_by (Says n) (ltb 0 (order_in n)) (Gives (order_at (order_in n))) _ (λ _. tt)
    (λ _. position_kind_lem (Says n) n (λ e. e) (λ e. e) (λ e. e) (λ e. e) (λ e. e) tt)))

-- the name of a set of number k is its set name, and of a get its get name
pub set_named_lem : (n k : ℕ) → kind_of n ≡ Set k → n ≡ name_in set_table k
set_named_lem n k e = rw e at (kind_says n)

pub get_named_lem : (n k : ℕ) → kind_of n ≡ Get k → n ≡ name_in get_table k
get_named_lem n k e = rw e at (kind_says n)

-- ---- units

-- a kind that begins with a name
abbrev pub Some : Kind → Type 0
Some Zero = ⊥
Some (Set k) = Unit {0}
Some (Get k) = Unit {0}
Some (Gives o) = Unit {0}
Some (Moves k) = Unit {0}
Some Places = Unit {0}
Some Finds = Unit {0}
Some Clears = Unit {0}
Some Unknown = Unit {0}

module _ (u : List ℕ) (some : Some (kind_at u)) where
  pub kind_starts : get_or u 0 0 ≡ 0 → ⊥
  kind_starts z = subst Some (kind_zero u z) some

  pub kind_name : kind_at u ≡ kind_of (name_of u)
  kind_name = kind_named u kind_starts

pub set_unit : (u : List ℕ) (k : ℕ) → kind_at u ≡ Set k → name_of u ≡ name_in set_table k
set_unit u k e = set_named_lem (name_of u) k (sym (kind_name u (subst Some (sym e) tt)) ∙ e)

pub get_unit : (u : List ℕ) (k : ℕ) → kind_at u ≡ Get k → name_of u ≡ name_in get_table k
get_unit u k e = get_named_lem (name_of u) k (sym (kind_name u (subst Some (sym e) tt)) ∙ e)

pub gpos_unit : (u : List ℕ) → kind_at u ≡ Finds → name_of u ≡ gpos.name
gpos_unit u e = rw (sym (kind_name u (subst Some (sym e) tt)) ∙ e) at (kind_says (name_of u))

-- ---- orders

-- no kind gives the order that means no order
abbrev pub Given : Kind → Type 0
Given Zero = Unit {0}
Given (Set k) = Unit {0}
Given (Get k) = Unit {0}
Given (Gives o) = given o ≡ o ∷ []
Given (Moves k) = Unit {0}
Given Places = Unit {0}
Given Finds = Unit {0}
Given Clears = Unit {0}
Given Unknown = Unit {0}

-- the number of an order's name is the order's own
order_given : (n : ℕ) → T (all (λ k. eqb (order_number (order_at k)) k) (1 ∷ 2 ∷ 3 ∷ 4 ∷ 5 ∷ 6 ∷ 7 ∷ [])) → 0 < order_in n → given (order_at (order_in n)) ≡ order_at (order_in n) ∷ []
order_given n all_own h =
    let own : order_number (order_at (order_in n)) ≡ order_in n = eqb→eq _ _ (value_all (λ k. eqb (order_number (order_at k)) k) n 0 order_names (1 ∷ 2 ∷ 3 ∷ 4 ∷ 5 ∷ 6 ∷ 7 ∷ []) tt all_own) in
    rw (ne_eqb (order_number (order_at (order_in n))) 0 (λ z. omega (arith, own, z)))

pub kind_given : (u : List ℕ) → Given (kind_at u)
unfolding kind_from kind_of
kind_given u =
    let n = name_of u in
    either Given (eqb (get_or u 0 0) 0) Zero _ tt
    (either Given (ltb 0 (number_in set_table n)) _ _ tt
    (either Given (ltb 0 (number_in get_table n)) _ _ tt
    (either_by Given (ltb 0 (order_in n)) _ _ (λ e. order_given n tt (ltb-true 0 _ e))
    (λ _. position_kind_lem Given n (λ _. tt) (λ _. tt) (λ _. tt) (λ _. tt) (λ _. tt) tt))))
