-- Laws of the value beside a key: in two lists and in a list of pairs, and what a value found says. Assumes nothing.
use Rattle.std.specs.Prelude.{Option, Some, None, nat_eq, option_map, unwrap_or}
use Rattle.std.specs.List.{find, zip, AllWithin, HoldsAt}
use Rattle.std.specs.Option.{MatchOption}
use mathlib.Core.Path.{◌≡◌, refl, sym, ap, subst}
use mathlib.Core.Bool.{Bool, true, false, cond}
use mathlib.Core.List.{List, [], ◌∷◌, map}
use Prim.Native.Nat.{ℕ, zero, suc, ◌≤◌, ◌<◌, min}
use native.Mathlib.Omega.{arith}
use lib.Dec.{T, eqb}
use lib.ListN.{length, get_or, take}
use borrow.Author.Tests.{eq-eqb, ne_eqb, eqb-true}
use Rattle.keyed.specs.Keyed.{value_in, value_beside}
use Rattle.keyed.proofs.Every.{all, first, rest, same_first, same_rest}

-- the value in two lists is the one in the list of their pairs, which is as long as the shorter of them; or d
pub value_zip : (k d : ℕ) (ks vs : List ℕ) → value_in k ks vs d ≡ unwrap_or (value_beside nat_eq k (zip ks vs)) d
unfolding value_in
value_zip k d [] vs = refl
value_zip k d (a ∷ ks) [] = refl
value_zip k d (a ∷ ks) (v ∷ vs) = by (eqb k a) (value_zip k d ks vs)
  where
    by : (b : Bool) → value_in k ks vs d ≡ unwrap_or (value_beside nat_eq k (zip ks vs)) d
        → cond b v (value_in k ks vs d) ≡ unwrap_or (option_map (λ (p : ℕ × ℕ). p.1) (cond b (Some (a, v)) (find (λ p. nat_eq k p.0) (zip ks vs)))) d
    by true later = refl
    by false later = later

-- what f makes of a value in two lists is what stands beside the key in pairs, where f makes Some of each value and None of d
pub value_as : {V : Type 0} (f : ℕ → Option V) (k d : ℕ) (vs : List ℕ) (ps : List (ℕ × V)) → f d ≡ None → map f vs ≡ map (λ p. Some p.1) ps
    → f (value_in k (map (λ p. p.0) ps) vs d) ≡ value_beside nat_eq k ps
unfolding value_in
value_as f k d vs [] none e = none
value_as f k d [] (p ∷ ps) none e = cc
value_as f k d (v ∷ vs) (p ∷ ps) none e = by (eqb k p.0) (same_first e) (value_as f k d vs ps none (same_rest e))
  where
    by : (b : Bool) → f v ≡ Some p.1 → f (value_in k (map (λ p. p.0) ps) vs d) ≡ value_beside nat_eq k ps
        → f (cond b v (value_in k (map (λ p. p.0) ps) vs d)) ≡ option_map (λ p. p.1) (cond b (Some p) (find (λ p. nat_eq k p.0) ps))
    by true here later = here
    by false here later = later

-- ---- as `position` finds the key's place, from 0 on

abbrev pub PlaceOf : ℕ → List ℕ → Option ℕ → Type 0
PlaceOf k ks r = MatchOption r (AllWithin (λ a. k ≡ a → ⊥) ks 0 (length ks)) (λ i. (i < length ks) × HoldsAt (λ a. k ≡ a) ks i × AllWithin (λ a. k ≡ a → ⊥) ks 0 i)

pub value_none : (k d : ℕ) (ks vs : List ℕ) → AllWithin (λ a. k ≡ a → ⊥) ks 0 (length ks) → value_in k ks vs d ≡ d
unfolding value_in
value_none k d [] vs h = refl
value_none k d (a ∷ ks) [] h = refl
value_none k d (a ∷ ks) (v ∷ vs) h = rw (ne_eqb k a (h 0 0 (omega arith) (omega arith))) (value_none k d ks vs (λ i e l u. h (suc i) e (omega arith) (omega arith)))

pub value_here : (k d : ℕ) (ks vs : List ℕ) (i : ℕ) → i < length ks → HoldsAt (λ a. k ≡ a) ks i → AllWithin (λ a. k ≡ a → ⊥) ks 0 i
    → value_in k ks vs d ≡ get_or vs i d
unfolding value_in
value_here k d [] vs i h at before = absurd (omega arith)
value_here k d (a ∷ ks) [] i h at before = refl
value_here k d (a ∷ ks) (v ∷ vs) zero h at before = rw (eq-eqb k a (at 0))
value_here k d (a ∷ ks) (v ∷ vs) (suc i) h at before =
    rw (ne_eqb k a (before 0 0 (omega arith) (omega arith))) (value_here k d ks vs i (omega arith) at (λ j e l u. before (suc j) e (omega arith) (omega arith)))

-- a key past the values is as if it were not there
pub value_cut : (k d n : ℕ) (ks vs : List ℕ) → min (length ks) (length vs) ≤ n → value_in k (take n ks) vs d ≡ value_in k ks vs d
unfolding value_in
value_cut k d zero [] vs h = refl
value_cut k d (suc n) [] vs h = refl
value_cut k d zero (a ∷ ks) [] h = refl
value_cut k d (suc n) (a ∷ ks) [] h = refl
value_cut k d zero (a ∷ ks) (v ∷ vs) h = absurd (omega arith)
value_cut k d (suc n) (a ∷ ks) (v ∷ vs) h = ap (cond (eqb k a) v) (value_cut k d n ks vs (omega arith))

-- a test that passes of all values and of none's passes of the value found
pub value_all : (f : ℕ → Bool) (k d : ℕ) (ks vs : List ℕ) → T (f d) → T (all f vs) → T (f (value_in k ks vs d))
unfolding value_in
value_all f k d [] vs t u = t
value_all f k d (a ∷ ks) [] t u = t
value_all f k d (a ∷ ks) (v ∷ vs) t u =
    by (eqb k a) (first f v vs u) (value_all f k d ks vs t (rest f v vs u))
  where
    by : (b : Bool) → T (f v) → T (f (value_in k ks vs d)) → T (f (cond b v (value_in k ks vs d)))
    by true here later = here
    by false here later = later

-- where the keys are what g makes of the values, the key of a value that is not none's is what g makes of it
pub value_key : (g : ℕ → ℕ) (k : ℕ) (vs : List ℕ) → 0 < value_in k (map g vs) vs 0 → k ≡ g (value_in k (map g vs) vs 0)
unfolding value_in
value_key g k [] h = absurd (omega arith)
value_key g k (v ∷ vs) h = by (eqb k (g v)) refl (value_key g k vs) h
  where
    by : (b : Bool) → eqb k (g v) ≡ b → (0 < value_in k (map g vs) vs 0 → k ≡ g (value_in k (map g vs) vs 0))
        → 0 < cond b v (value_in k (map g vs) vs 0) → k ≡ g (cond b v (value_in k (map g vs) vs 0))
    by true e later h = eqb-true k (g v) e
    by false e later h = later h

-- a test that passes of all keys passes of a key that is found
pub key_all : (f : ℕ → Bool) (k d : ℕ) (ks vs : List ℕ) → T (all f ks) → (value_in k ks vs d ≡ d → ⊥) → T (f k)
unfolding value_in
key_all f k d [] vs u found = absurd (found refl)
key_all f k d (a ∷ ks) [] u found = absurd (found refl)
key_all f k d (a ∷ ks) (v ∷ vs) u found = by (eqb k a) refl (key_all f k d ks vs (rest f a ks u)) found
  where
    by : (b : Bool) → eqb k a ≡ b → ((value_in k ks vs d ≡ d → ⊥) → T (f k)) → (cond b v (value_in k ks vs d) ≡ d → ⊥) → T (f k)
    by true e later other = subst (λ (n : ℕ). T (f n)) (sym (eqb-true k a e)) (first f a ks u)
    by false e later other = later other
