-- "That promise leaves one possible answer" (01, "What the promises have to shut out").
use Rattle.std.specs.Prelude.{◌≡◌}

-- A function's `Post` speaks of its lifetimes κs, its arguments a, its result r and what it left behind the references it was lent, s.
-- The promise leaves one value of `what` where two answers that it allows to the same arguments agree in it.
abbrev pub Leaves {ℓk ℓa ℓr ℓs ℓp ℓx} : {K : Type ℓk} {A : K → Type ℓa} {R : K → Type ℓr} {S : K → Type ℓs} {X : K → Type ℓx}
    → ((κs : K) → A κs → R κs → S κs → Type ℓp) → ((κs : K) → R κs → S κs → X κs) → Type (ℓk ⊔ ℓa ⊔ ℓr ⊔ ℓs ⊔ ℓp ⊔ ℓx)
Leaves {K = K} {A = A} {R = R} {S = S} Post what = (κs : K) (a : A κs) (r r' : R κs) (s s' : S κs) → Post κs a r s → Post κs a r' s' → what κs r s ≡ what κs r' s'
