-- What `array::from_fn` makes of a closure that its calls leave as it was, and what `map` makes of an array. Assumes nothing.
use mathlib.Core.Path.{◌≡◌, refl, sym, ◌∙◌, subst}
use mathlib.Core.List.{List, map}
use Prim.Native.Nat.{ℕ, zero, suc, ◌+◌, ◌<◌}
use native.Mathlib.Nat.{add-zero, zero-add}
use native.Mathlib.Omega.{arith}
use lib.ListN.{length, get_or}
use denote.Param.Members.{Mut, Called}
use Rattle.std.specs.Array.{IsFromFnResultFrom, IsFromFnResult, IsMapOf}
use Rattle.std.specs.List.{range_with_len}
use Rattle.std.proofs.lemmas.List.{ext_get_or}
use Rattle.std.proofs.lemmas.List.FromFn.{fill_by_all}

module _ {F B : Type 0} (g : Mut F (ℕ × Unit {0}) B) (f : F) (v : ℕ → B) (h : (i : ℕ) (y : B) (q : F) → Called g f (i, tt) y q → (y ≡ v i) × (q ≡ f)) where
  made_at : (n i : ℕ) (ys : List B) (p : F) → p ≡ f → IsFromFnResultFrom g p ys i n → (k : ℕ) (d : B) → k < n → get_or ys (i + k) d ≡ v (i + k)
  made_at zero i ys p e r k d l = absurd (omega arith)
  made_at (suc n) i ys p e r zero d l = rw add-zero (r.2.1 d ∙ (h i r.1 r.0 (subst (λ (x : F). Called g x (i, tt) r.1 r.0) e r.3)).0)
  made_at (suc n) i ys p e r (suc k) d l =
      let same = (h i r.1 r.0 (subst (λ (x : F). Called g x (i, tt) r.1 r.0) e r.3)).1 in
      let j : i + 1 + k ≡ i + suc k = omega arith in
      subst (λ (m : ℕ). get_or ys m d ≡ v m) j (made_at n (i + 1) ys r.0 same r.4 k d (omega arith))

  pub made_each : (ys : List B) (n : ℕ) → IsFromFnResult g f ys n → (k : ℕ) (d : B) → k < n → get_or ys k d ≡ v k
  made_each ys n r k d b = subst (λ (m : ℕ). get_or ys m d ≡ v m) (zero-add k) (made_at n 0 ys f refl r.each k d b)

  pub made : (ys : List B) (n : ℕ) (d : B) → IsFromFnResult g f ys n → ys ≡ map v (range_with_len 0 n)
  made ys n d r = fill_by_all v ys n d r.long (λ k b. made_each ys n r k d b)

-- an array whose elements `map` gives back as they were
pub mapped : {F : Type 0} (g : Mut F (ℕ × Unit {0}) ℕ) {f : F} {n : ℕ} (xs ys : List ℕ) → IsMapOf g f xs ys n → length xs ≡ n
    → ((p : F) (x y : ℕ) (q : F) → Called g p (x, tt) y q → y ≡ x) → ys ≡ xs
mapped g xs ys r l h =
    ext_get_or 0 ys xs (r.long ∙ sym l)
    (λ k b. let m = r.at k 0 0 (omega (arith, r.long)) in h m.0 (get_or xs k 0) (get_or ys k 0) m.1 m.2)
