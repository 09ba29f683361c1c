-- Each public function's promise leaves one answer. Assumes nothing.
use mathlib.Core.Path.{sym, ◌∙◌}
use Rattle.promise.specs.Promise.{Leaves}
use Rattle.views.proofs.rivertosku_mov_4.Reads as rivertosku-mov
use Rattle.views.proofs.rivertosku_eng_4.Reads as rivertosku-eng
use Rattle.views.proofs.rivertosku_pwr_4.Reads as rivertosku-pwr
use Rattle.views.proofs.rivertosku_eds_4.Reads as rivertosku-eds
use Rattle.views.proofs.rivertosku_hom_4.Reads as rivertosku-hom
use Rattle.views.proofs.rivertosku_brk_4.Reads as rivertosku-brk
use Rattle.views.proofs.rivertosku_pid_4.Reads as rivertosku-pid
use Rattle.views.proofs.rivertosku_ctl_4.Reads as rivertosku-ctl
use Rattle.views.proofs.rivertosku_joy_4.Reads as rivertosku-joy

pub rivertosku_mov_one : Leaves rivertosku-mov.Post (λ κs r s. r)
rivertosku_mov_one κs a r r' s s' p q = p ∙ sym q

pub rivertosku_eng_one : Leaves rivertosku-eng.Post (λ κs r s. r)
rivertosku_eng_one κs a r r' s s' p q = p ∙ sym q

pub rivertosku_pwr_one : Leaves rivertosku-pwr.Post (λ κs r s. r)
rivertosku_pwr_one κs a r r' s s' p q = p ∙ sym q

pub rivertosku_eds_one : Leaves rivertosku-eds.Post (λ κs r s. r)
rivertosku_eds_one κs a r r' s s' p q = p ∙ sym q

pub rivertosku_hom_one : Leaves rivertosku-hom.Post (λ κs r s. r)
rivertosku_hom_one κs a r r' s s' p q = p ∙ sym q

pub rivertosku_brk_one : Leaves rivertosku-brk.Post (λ κs r s. r)
rivertosku_brk_one κs a r r' s s' p q = p ∙ sym q

pub rivertosku_pid_one : Leaves rivertosku-pid.Post (λ κs r s. r)
rivertosku_pid_one κs a r r' s s' p q = p ∙ sym q

pub rivertosku_ctl_one : Leaves rivertosku-ctl.Post (λ κs r s. r)
rivertosku_ctl_one κs a r r' s s' p q = p ∙ sym q

pub rivertosku_joy_one : Leaves rivertosku-joy.Post (λ κs r s. r)
rivertosku_joy_one κs a r r' s s' p q = p ∙ sym q
