-- Each public function's promise leaves one answer, whatever the keys and the values are. Assumes nothing.
use mathlib.Core.Path.{sym, ◌∙◌}
use Rattle.promise.specs.Promise.{Leaves}
use Rattle.keyed.proofs.value_of.Reads as value_of_lem
use Rattle.keyed.proofs.value_in.Reads as value_in_lem

-- K and V, with what the function's bounds say of them
module _ (K V : _) (K-laws : _) (V-laws : _) (K-copy : _) (V-copy : _) (K-Clone K-Clone-dict K-Eq K-Eq-dict K-PartialEq K-PartialEq-dict V-Clone V-Clone-dict : _) where
  pub value_of_one : Leaves (value_of_lem.Post K V K-laws V-laws K-copy V-copy K-Clone K-Clone-dict K-Eq K-Eq-dict K-PartialEq K-PartialEq-dict V-Clone V-Clone-dict) (λ κs r s. r)
  value_of_one κs a r r' s s' p q = p ∙ sym q

pub value_in_one : Leaves value_in_lem.Post (λ κs r s. r)
value_in_one κs a r r' s s' p q = p ∙ sym q
