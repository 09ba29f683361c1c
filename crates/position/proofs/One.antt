-- Each public function's promise leaves one answer. Assumes nothing.
use mathlib.Core.Path.{sym, ◌∙◌}
use Rattle.promise.specs.Promise.{Leaves}
use Rattle.position.proofs.TravelSection.decode.Reads as travel-decode
use Rattle.position.proofs.TravelSection.first_bad.Reads as travel-first-bad
use Rattle.position.proofs.Position.fresh.Reads as fresh
use Rattle.position.proofs.Position.encode.Reads as encode
use Rattle.position.proofs.PositionSection.decode.Reads as position-decode
use Rattle.position.proofs.PositionSection.first_bad.Reads as position-first-bad
use Rattle.position.proofs.Position.cleared.Reads as cleared
use Rattle.position.proofs.SposSection.decode.Reads as spos-decode
use Rattle.position.proofs.SposSection.first_bad.Reads as spos-first-bad
use Rattle.position.proofs.Spos.placed.Reads as placed

pub travel_decode_one : Leaves travel-decode.Post (λ κs r s. r)
travel_decode_one κs a r r' s s' p q = p ∙ sym q

pub travel_first_bad_one : Leaves travel-first-bad.Post (λ κs r s. r)
travel_first_bad_one κs a r r' s s' p q = p ∙ sym q

pub fresh_one : Leaves fresh.Post (λ κs r s. r)
fresh_one κs a r r' s s' p q = p ∙ sym q

pub encode_one : Leaves encode.Post (λ κs r s. s.1.0.now)
encode_one κs a r r' s s' p q = p ∙ sym q

pub position_decode_one : Leaves position-decode.Post (λ κs r s. r)
position_decode_one κs a r r' s s' p q = p ∙ sym q

pub position_first_bad_one : Leaves position-first-bad.Post (λ κs r s. r)
position_first_bad_one κs a r r' s s' p q = p ∙ sym q

pub cleared_one : Leaves cleared.Post (λ κs r s. r)
cleared_one κs a r r' s s' p q = p ∙ sym q

pub spos_decode_one : Leaves spos-decode.Post (λ κs r s. r)
spos_decode_one κs a r r' s s' p q = p ∙ sym q

pub spos_first_bad_one : Leaves spos-first-bad.Post (λ κs r s. r)
spos_first_bad_one κs a r r' s s' p q = p ∙ sym q

pub placed_one : Leaves placed.Post (λ κs r s. r)
placed_one κs a r r' s s' p q = p ∙ sym q
