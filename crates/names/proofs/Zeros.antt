-- "No known identifier holds a zero byte" (01, "How a run of bytes is read"): by computation over the tables. Assumes nothing.
use mathlib.Core.Path.{◌≡◌, refl, sym, subst}
use mathlib.Core.Bool.{Bool, true, false, not}
use mathlib.Core.List.{[], ◌∷◌}
use Prim.Native.Nat.{ℕ, ◌<◌}
use native.Mathlib.Omega.{arith}
use lib.Dec.{T, eqb, ltb}
use lib.ListN.{get_or}
use borrow.Author.Tests.{ltb-true}
use Rattle.wire.specs.Numbers.{le_bytes}
use Rattle.keyed.proofs.Every.{all, inside}
use Rattle.keyed.proofs.Values.{key_all}
use Rattle.sheet.specs.Sheet.{set_table, get_table}
use Rattle.names.specs.Names.{number_in, names_of, numbers_of, order_names, order_in, kind_of}
use Rattle.names.specs.declared.Kind.TheVariants.{Unknown}
use Rattle.names.specs.declared.Kind.{Kind}
use Rattle.names.proofs.Lengths.{position_kind_lem}

-- none of a name's four bytes is zero
abbrev none_zero : ℕ → Bool
none_zero n = all (λ b. not (eqb b 0)) (le_bytes 4 n)

-- the test of a name is that of the name it is
holds : {n name : ℕ} → n ≡ name → T (none_zero name) → T (none_zero n)
holds e h = subst (λ (k : ℕ). T (none_zero k)) (sym e) h

-- a name that some table has
known : (n : ℕ) → (kind_of n ≡ Unknown → ⊥) → T (none_zero n)
unfolding kind_of le_bytes
known n some = by (ltb 0 (number_in set_table n)) (ltb 0 (number_in get_table n)) (ltb 0 (order_in n)) refl refl refl
  where
    by : (a b c : Bool) → ltb 0 (number_in set_table n) ≡ a → ltb 0 (number_in get_table n) ≡ b → ltb 0 (order_in n) ≡ c → T (none_zero n)
    by true b c e f g = key_all none_zero n 0 (names_of set_table) (numbers_of set_table) tt (λ z. omega (arith, ltb-true 0 (number_in set_table n) e))
    by false true c e f g = key_all none_zero n 0 (names_of get_table) (numbers_of get_table) tt (λ z. omega (arith, ltb-true 0 (number_in get_table n) f))
    by false false true e f g = key_all none_zero n 0 order_names (1 ∷ 2 ∷ 3 ∷ 4 ∷ 5 ∷ 6 ∷ 7 ∷ []) tt (λ z. omega (arith, ltb-true 0 (order_in n) g))
    by false false false e f g =
        position_kind_lem (λ (k : Kind). (k ≡ Unknown → ⊥) → T (none_zero n)) n (λ e _. holds e tt) (λ e _. holds e tt) (λ e _. holds e tt) (λ e _. holds e tt)
        (λ e _. holds e tt) (λ none. absurd (none refl)) (λ k. some (rw (e, f, g) k))

pub no_zero : (n : ℕ) → (kind_of n ≡ Unknown → ⊥) → (i : ℕ) → i < 4 → get_or (le_bytes 4 n) i 0 ≡ 0 → ⊥
unfolding le_bytes
no_zero n some i h z = subst (λ (b : ℕ). T (not (eqb b 0))) z (inside (λ b. not (eqb b 0)) 0 (le_bytes 4 n) (known n some) i h)
