-- Each public function's promise leaves one answer. Assumes nothing.
use mathlib.Core.Path.{sym, ◌∙◌}
use Rattle.promise.specs.Promise.{Leaves}
use Rattle.same.proofs.rivertosku_same_4.Reads as rivertosku-same

pub rivertosku_same_one : Leaves rivertosku-same.Post (λ κs r s. r)
rivertosku_same_one κs a r r' s s' p q = p ∙ sym q
