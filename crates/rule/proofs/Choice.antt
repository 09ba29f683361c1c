-- What holds of both branches of a choice holds of the choice; each branch may know which one it is.
use mathlib.Core.Path.{◌≡◌, refl}
use mathlib.Core.Bool.{Bool, true, false, cond}
use mathlib.Core.List.{List, [], ◌∷◌}
use Rattle.rule.specs.Calls.{if_none}

pub either_by : {A : Type 0} (P : A → Type 0) (b : Bool) (x y : A) → (b ≡ true → P x) → (b ≡ false → P y) → P (cond b x y)
either_by P true x y h k = h refl
either_by P false x y h k = k refl

pub either : {A : Type 0} (P : A → Type 0) (b : Bool) (x y : A) → P x → P y → P (cond b x y)
either P b x y h k = either_by P b x y (λ _. h) (λ _. k)

pub either_none_by : {A B : Type 0} (P : B → Type 0) (l : List A) (x y : B)
    → (l ≡ [] → P x) → ((a : A) (rest : List A) → l ≡ a ∷ rest → P y) → P (if_none l x y)
either_none_by P [] x y h k = h refl
either_none_by P (a ∷ l) x y h k = k a l refl

pub either_none : {A B : Type 0} (P : B → Type 0) (l : List A) (x y : B) → P x → P y → P (if_none l x y)
either_none P l x y h k = either_none_by P l x y (λ _. h) (λ _ _ _. k)
