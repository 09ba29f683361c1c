-- What C and Rust link promises what board does: an answer that an export's contract allows is one that the contract of board's function of the same name
-- allows, so what is proved of the one holds of the other. Assumes nothing.
use Rattle.board.proofs.rivertosku_fresh_4.Reads as fresh
use Rattle.board_c.proofs.rivertosku_fresh_4.Reads as linked_fresh
use Rattle.board.proofs.rivertosku_receive_4.Reads as receive
use Rattle.board_c.proofs.rivertosku_receive_4.Reads as linked_receive
use Rattle.board.proofs.rivertosku_report_clock_4.Reads as report_clock
use Rattle.board_c.proofs.rivertosku_report_clock_4.Reads as linked_report_clock
use Rattle.board.proofs.rivertosku_report_position_4.Reads as report_position
use Rattle.board_c.proofs.rivertosku_report_position_4.Reads as linked_report_position
use Rattle.board.proofs.rivertosku_judge_4.Reads as judge
use Rattle.board_c.proofs.rivertosku_judge_4.Reads as linked_judge
use Rattle.board.proofs.rivertosku_hand_out_4.Reads as hand_out
use Rattle.board_c.proofs.rivertosku_hand_out_4.Reads as linked_hand_out
use Rattle.board.proofs.rivertosku_take_back_4.Reads as take_back
use Rattle.board_c.proofs.rivertosku_take_back_4.Reads as linked_take_back

pub fresh_linked : (κs : _) (a : _) (r : _) (s : _) → linked_fresh.Post κs a r s → fresh.Post κs a r s
fresh_linked κs a r s p = p

pub receive_linked : (κs : _) (a : _) (r : _) (s : _) → linked_receive.Post κs a r s → receive.Post κs a r s
receive_linked κs a r s p = p

pub report_clock_linked : (κs : _) (a : _) (r : _) (s : _) → linked_report_clock.Post κs a r s → report_clock.Post κs a r s
report_clock_linked κs a r s p = p

pub report_position_linked : (κs : _) (a : _) (r : _) (s : _) → linked_report_position.Post κs a r s → report_position.Post κs a r s
report_position_linked κs a r s p = p

pub judge_linked : (κs : _) (a : _) (r : _) (s : _) → linked_judge.Post κs a r s → judge.Post κs a r s
judge_linked κs a r s p = p

pub hand_out_linked : (κs : _) (a : _) (r : _) (s : _) → linked_hand_out.Post κs a r s → hand_out.Post κs a r s
hand_out_linked κs a r s p = p

pub take_back_linked : (κs : _) (a : _) (r : _) (s : _) → linked_take_back.Post κs a r s → take_back.Post κs a r s
take_back_linked κs a r s p = p
