-- Each public function's promise leaves one answer. Assumes nothing.
use mathlib.Core.Path.{sym, ◌∙◌}
use Rattle.promise.specs.Promise.{Leaves}
use Rattle.table.proofs.bad_in.Reads as bad-in
use Rattle.table.proofs.part.Reads as part
use Rattle.table.proofs.is_sound.Reads as is-sound
use Rattle.table.proofs.Table.fresh.Reads as fresh
use Rattle.table.proofs.put.Reads as put
use Rattle.table.proofs.section.Reads as section
use Rattle.table.proofs.get.Reads as get

pub bad_in_one : Leaves bad-in.Post (λ κs r s. r)
bad_in_one κs a r r' s s' p q = p ∙ sym q

pub part_one : Leaves part.Post (λ κs r s. r.now)
part_one κs a r r' s s' p q = p ∙ sym q

pub is_sound_one : Leaves is-sound.Post (λ κs r s. r)
is_sound_one κs a r r' s s' p q = p ∙ sym q

pub fresh_one : Leaves fresh.Post (λ κs r s. r)
fresh_one κs a r r' s s' p q = p ∙ sym q

pub put_one : Leaves put.Post (λ κs r s. s.0.now)
put_one κs a r r' s s' p q = p ∙ sym q

pub section_one : Leaves section.Post (λ κs r s. r.now)
section_one κs a r r' s s' p q = p ∙ sym q

pub get_one : Leaves get.Post (λ κs r s. s.1.1.0.now)
get_one κs a r r' s s' p q = p ∙ sym q
