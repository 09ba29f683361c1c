-- What C and Rust link promises what same does: an answer that an export's contract allows is one that the contract of same's function of the same name
-- allows, so what is proved of the one holds of the other. Assumes nothing.
use Rattle.same.proofs.rivertosku_same_4.Reads as same
use Rattle.same_c.proofs.rivertosku_same_4.Reads as linked_same

pub same_linked : (κs : _) (a : _) (r : _) (s : _) → linked_same.Post κs a r s → same.Post κs a r s
same_linked κs a r s p = p
