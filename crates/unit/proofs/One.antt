-- Each public function's promise leaves one answer. Assumes nothing.
use mathlib.Core.Path.{sym, ◌∙◌}
use mathlib.Core.List.{[]}
use Rattle.promise.specs.Promise.{Leaves}
use Rattle.unit.proofs.Sets.{judged_as}
use Rattle.unit.proofs.Slate.quiet.Reads as quiet
use Rattle.unit.proofs.Slate.flagged.Reads as flagged
use Rattle.unit.proofs.echo.Reads as echo
use Rattle.unit.proofs.Slate.refuse_crc.Reads as refuse-crc
use Rattle.unit.proofs.Slate.refuse_field.Reads as refuse-field

pub quiet_one : Leaves quiet.Post (λ κs r s. r)
quiet_one κs a r r' s s' p q = p ∙ sym q

pub flagged_one : Leaves flagged.Post (λ κs r s. r)
flagged_one κs a r r' s s' p q = p ∙ sym q

pub echo_one : Leaves echo.Post (λ κs r s. s.1.0.now)
echo_one κs a r r' s s' p q = p ∙ sym q

pub refuse_crc_one : Leaves refuse-crc.Post (λ κs r s. r)
refuse_crc_one κs a r r' s s' p q = judged_as ((p []).result ∙ sym (q []).result)

pub refuse_crc_bytes_one : Leaves refuse-crc.Post (λ κs r s. s.1.0.now)
refuse_crc_bytes_one κs a r r' s s' p q = (p []).reply ∙ sym (q []).reply

pub refuse_field_one : Leaves refuse-field.Post (λ κs r s. r)
refuse_field_one κs a r r' s s' p q = judged_as ((p []).result ∙ sym (q []).result)

pub refuse_field_bytes_one : Leaves refuse-field.Post (λ κs r s. s.1.1.1.0.now)
refuse_field_bytes_one κs a r r' s s' p q = (p []).reply ∙ sym (q []).reply
