-- What C and Rust link promises what views does: an answer that an export's contract allows is one that the contract of views's function of the same name
-- allows, so what is proved of the one holds of the other. Assumes nothing.
use Rattle.views.proofs.rivertosku_mov_4.Reads as mov
use Rattle.views_c.proofs.rivertosku_mov_4.Reads as linked_mov
use Rattle.views.proofs.rivertosku_eng_4.Reads as eng
use Rattle.views_c.proofs.rivertosku_eng_4.Reads as linked_eng
use Rattle.views.proofs.rivertosku_pwr_4.Reads as pwr
use Rattle.views_c.proofs.rivertosku_pwr_4.Reads as linked_pwr
use Rattle.views.proofs.rivertosku_eds_4.Reads as eds
use Rattle.views_c.proofs.rivertosku_eds_4.Reads as linked_eds
use Rattle.views.proofs.rivertosku_hom_4.Reads as hom
use Rattle.views_c.proofs.rivertosku_hom_4.Reads as linked_hom
use Rattle.views.proofs.rivertosku_brk_4.Reads as brk
use Rattle.views_c.proofs.rivertosku_brk_4.Reads as linked_brk
use Rattle.views.proofs.rivertosku_pid_4.Reads as pid
use Rattle.views_c.proofs.rivertosku_pid_4.Reads as linked_pid
use Rattle.views.proofs.rivertosku_ctl_4.Reads as ctl
use Rattle.views_c.proofs.rivertosku_ctl_4.Reads as linked_ctl
use Rattle.views.proofs.rivertosku_joy_4.Reads as joy
use Rattle.views_c.proofs.rivertosku_joy_4.Reads as linked_joy

pub mov_linked : (κs : _) (a : _) (r : _) (s : _) → linked_mov.Post κs a r s → mov.Post κs a r s
mov_linked κs a r s p = p

pub eng_linked : (κs : _) (a : _) (r : _) (s : _) → linked_eng.Post κs a r s → eng.Post κs a r s
eng_linked κs a r s p = p

pub pwr_linked : (κs : _) (a : _) (r : _) (s : _) → linked_pwr.Post κs a r s → pwr.Post κs a r s
pwr_linked κs a r s p = p

pub eds_linked : (κs : _) (a : _) (r : _) (s : _) → linked_eds.Post κs a r s → eds.Post κs a r s
eds_linked κs a r s p = p

pub hom_linked : (κs : _) (a : _) (r : _) (s : _) → linked_hom.Post κs a r s → hom.Post κs a r s
hom_linked κs a r s p = p

pub brk_linked : (κs : _) (a : _) (r : _) (s : _) → linked_brk.Post κs a r s → brk.Post κs a r s
brk_linked κs a r s p = p

pub pid_linked : (κs : _) (a : _) (r : _) (s : _) → linked_pid.Post κs a r s → pid.Post κs a r s
pid_linked κs a r s p = p

pub ctl_linked : (κs : _) (a : _) (r : _) (s : _) → linked_ctl.Post κs a r s → ctl.Post κs a r s
ctl_linked κs a r s p = p

pub joy_linked : (κs : _) (a : _) (r : _) (s : _) → linked_joy.Post κs a r s → joy.Post κs a r s
joy_linked κs a r s p = p
