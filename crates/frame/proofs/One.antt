-- Each public function's promise leaves one answer. Assumes nothing.
use mathlib.Core.Path.{◌≡◌, sym, ap, ◌∙◌}
use mathlib.Core.Bool.{Bool, true, false, cond}
use mathlib.Core.List.{List}
use Prim.Native.Nat.{ℕ}
use Rattle.std.specs.Prelude.{Option, Some, None, MatchOption}
use Rattle.std.specs.Option.{option_copied}
use Rattle.std.specs.Borrow.{Bor}
use Rattle.promise.specs.Promise.{Leaves}
use Rattle.frame.specs.Frame.{data_in, intact}
use Rattle.frame.proofs.put.Reads as put
use Rattle.frame.proofs.is_intact.Reads as is-intact
use Rattle.frame.proofs.section.Reads as section

pub put_one : Leaves put.Post (λ κs r s. s.0.now)
put_one κs a r r' s s' p q = p ∙ sym q

pub is_intact_one : Leaves is-intact.Post (λ κs r s. r)
is_intact_one κs a r r' s s' p q = p ∙ sym q

section_as : (o : Option (Bor (List ℕ))) (b : Bool) (d : List ℕ) → MatchOption o (b ≡ false) (λ part. (b ≡ true) × (part.now ≡ d))
    → option_copied o ≡ cond b (Some d) None
section_as None b d h = rw h
section_as (Some part) b d h = rw h.0 (ap Some h.1)

-- the bytes of the section, or that there is none
pub section_one : Leaves section.Post (λ κs r s. option_copied r)
section_one κs a r r' s s' p q = section_as r (intact a.0.now) (data_in a.0.now) p ∙ sym (section_as r' (intact a.0.now) (data_in a.0.now) q)
