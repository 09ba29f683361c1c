-- The old records: what the board kept of these seven blocks before 02's P10, and what a set and a get of them were then. No code has them; the table
-- is shown equal to them (proofs/Old). A block that joined the table later never had one.
use Rattle.std.specs.Prelude.{cond, List, [], ◌∷◌, ℕ, eqb}
use Rattle.sheet.specs.Sheet.{Row, mov_row, eng_row, pwr_row, eds_row, hom_row, brk_row, pid_row}
use Rattle.sheet.specs.Rows.{row_in, numbers_in, data_of, fresh}
use Rattle.mov.specs.declared.Mov.{Mov}
use Rattle.eng.specs.declared.Eng.{Eng}
use Rattle.pwr.specs.declared.Pwr.{Pwr}
use Rattle.eds.specs.declared.Eds.{Eds}
use Rattle.hom.specs.declared.Hom.{Hom}
use Rattle.brk.specs.declared.Brk.{Brk}
use Rattle.pid.specs.declared.Pid.{Pid}
use Rattle.mov.specs.Mov.{mov_of, mov_numbers}
use Rattle.eng.specs.Eng.{eng_of, eng_numbers}
use Rattle.pwr.specs.Pwr.{pwr_of, pwr_numbers}
use Rattle.eds.specs.Eds.{eds_of, eds_numbers}
use Rattle.hom.specs.Hom.{hom_of, hom_numbers}
use Rattle.brk.specs.Brk.{brk_of, brk_numbers}
use Rattle.pid.specs.Pid.{pid_of, pid_numbers}
use Rattle.table.specs.declared.Table.{Table}
use Rattle.table.specs.Table.{numbers_at}

pub record Records : Type 0 where
  pub mov : Mov
  pub eng : Eng
  pub pwr : Pwr
  pub eds : Eds
  pub hom : Hom
  pub brk : Brk
  pub pid : Pid

abbrev pub old_rows : List Row
old_rows = mov_row ∷ eng_row ∷ pwr_row ∷ eds_row ∷ hom_row ∷ brk_row ∷ pid_row ∷ []

-- the numbers of block k
abbrev pub old_numbers : Records → ℕ → List ℕ
old_numbers s k =
    cond (eqb k 1) (mov_numbers s.mov)
    (cond (eqb k 2) (eng_numbers s.eng)
    (cond (eqb k 3) (pwr_numbers s.pwr)
    (cond (eqb k 4) (eds_numbers s.eds)
    (cond (eqb k 5) (hom_numbers s.hom)
    (cond (eqb k 6) (brk_numbers s.brk)
    (cond (eqb k 7) (pid_numbers s.pid)
    []))))))

-- the data section of block k, as its get sent it
abbrev pub old_get : Records → ℕ → List ℕ
old_get s k = data_of (row_in old_rows k) (old_numbers s k)

-- the records with a data section put into block k
abbrev pub old_set : Records → ℕ → List ℕ → Records
old_set s k d =
    let ns = numbers_in (row_in old_rows k) d in
    record {
      mov = cond (eqb k 1) (mov_of ns) s.mov;
      eng = cond (eqb k 2) (eng_of ns) s.eng;
      pwr = cond (eqb k 3) (pwr_of ns) s.pwr;
      eds = cond (eqb k 4) (eds_of ns) s.eds;
      hom = cond (eqb k 5) (hom_of ns) s.hom;
      brk = cond (eqb k 6) (brk_of ns) s.brk;
      pid = cond (eqb k 7) (pid_of ns) s.pid;
    }

abbrev pub old_fresh : Records
old_fresh =
    record {
      mov = mov_of (fresh mov_row);
      eng = eng_of (fresh eng_row);
      pwr = pwr_of (fresh pwr_row);
      eds = eds_of (fresh eds_row);
      hom = hom_of (fresh hom_row);
      brk = brk_of (fresh brk_row);
      pid = pid_of (fresh pid_row);
    }

-- the records that a table stands for
abbrev pub records_of : Table → Records
records_of t =
    record {
      mov = mov_of (numbers_at t 1);
      eng = eng_of (numbers_at t 2);
      pwr = pwr_of (numbers_at t 3);
      eds = eds_of (numbers_at t 4);
      hom = hom_of (numbers_at t 5);
      brk = brk_of (numbers_at t 6);
      pid = pid_of (numbers_at t 7);
    }
