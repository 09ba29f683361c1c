-- What C and Rust link promises what optimiser does: an answer that an export's contract allows is one that the contract of optimiser's function of the same name
-- allows, so what is proved of the one holds of the other. Assumes nothing.
use Rattle.optimiser.proofs.rivertosku_write_get_1.Reads as write_get
use Rattle.optimiser_c.proofs.rivertosku_write_get_1.Reads as linked_write_get
use Rattle.optimiser.proofs.rivertosku_write_set_1.Reads as write_set
use Rattle.optimiser_c.proofs.rivertosku_write_set_1.Reads as linked_write_set
use Rattle.optimiser.proofs.rivertosku_write_order_1.Reads as write_order
use Rattle.optimiser_c.proofs.rivertosku_write_order_1.Reads as linked_write_order
use Rattle.optimiser.proofs.rivertosku_read_1.Reads as read
use Rattle.optimiser_c.proofs.rivertosku_read_1.Reads as linked_read

pub write_get_linked : (κs : _) (a : _) (r : _) (s : _) → linked_write_get.Post κs a r s → write_get.Post κs a r s
write_get_linked κs a r s p = p

pub write_set_linked : (κs : _) (a : _) (r : _) (s : _) → linked_write_set.Post κs a r s → write_set.Post κs a r s
write_set_linked κs a r s p = p

pub write_order_linked : (κs : _) (a : _) (r : _) (s : _) → linked_write_order.Post κs a r s → write_order.Post κs a r s
write_order_linked κs a r s p = p

pub read_linked : (κs : _) (a : _) (r : _) (s : _) → linked_read.Post κs a r s → read.Post κs a r s
read_linked κs a r s p = p
