-- The sheet's own numbers, computed from its table, and laws of its rows by number. Assumes nothing.
use mathlib.Core.Path.{◌≡◌, refl}
use mathlib.Core.Bool.{Bool, true, false, cond}
use mathlib.Core.List.{List, [], ◌∷◌, ◌++◌, map}
use Prim.Native.Nat.{ℕ, ◌≤◌, max}
use native.Mathlib.Omega.{arith}
use lib.Dec.{eqb}
use lib.ListN.{replicate}
use Rattle.ranges.specs.Tests.{within, signed_within, finite, only_bits, first_false}
use Rattle.sheet.specs.Sheet.{Row, Command, sheet, set_table, get_table, move, movr, spos, gpos, mov_row, eng_row, pwr_row, eds_row, hom_row, brk_row, pid_row, ctl_row, joy_row}
use Rattle.sheet.specs.Lengths.{longest_frame}
use Rattle.sheet.specs.Rows.{total, first_bad, fresh, least, row_at, row_in}

pub numbered : map (λ (r : Row). r.number) sheet ≡ 1 ∷ 2 ∷ 3 ∷ 4 ∷ 5 ∷ 6 ∷ 7 ∷ 11 ∷ 12 ∷ []
numbered = refl

-- 01's column of totals; 02, P6: "ctl, 93 bytes", "joy, 22 bytes"
pub totals : map total sheet ≡ 30 ∷ 34 ∷ 20 ∷ 26 ∷ 33 ∷ 25 ∷ 48 ∷ 93 ∷ 22 ∷ []
totals = refl

-- the longest of the sets and of the answers to gets: the least room is no larger than it has to be
abbrev largest : List ℕ → ℕ
largest [] = 0
largest (n ∷ ns) = max n (largest ns)

pub longest_total : largest (map (λ (c : Command). total c.row) (set_table ++ get_table ++ move ∷ movr ∷ spos ∷ gpos ∷ [])) ≡ longest_frame
longest_total = refl

-- the letters of each name are its number in 004
pub set_names : map (λ (c : Command). c.name) set_table ≡ 0x766f6d73 ∷ 0x676e6573 ∷ 0x72777073 ∷ 0x73646573 ∷ 0x6d6f6873 ∷ 0x6b726273 ∷ 0x64697073 ∷ 0x6c746373 ∷ 0x796f6a73 ∷ []
set_names = refl

pub get_names : map (λ (c : Command). c.name) get_table ≡ 0x766f6d67 ∷ 0x676e6567 ∷ 0x72777067 ∷ 0x73646567 ∷ 0x6d6f6867 ∷ 0x6b726267 ∷ 0x64697067 ∷ 0x6c746367 ∷ 0x796f6a67 ∷ []
get_names = refl

-- 02, P5: numbers, lengths and names of its four commands
pub moves_are : map {B = ℕ × (ℕ × ℕ)} (λ (c : Command). (c.row.number, (total c.row, c.name))) (move ∷ movr ∷ spos ∷ gpos ∷ [])
    ≡ (8, (18, 0x65766f6d)) ∷ (9, (18, 0x72766f6d)) ∷ (10, (26, 0x736f7073)) ∷ (10, (26, 0x736f7067)) ∷ []
moves_are = refl

-- "mov Accel and Decel 1; eng NomCurrent 15, NomSpeed 1, MicrostepMode 1, StepsPerRev 1", every other field 0; 02, P6: "the first speed is 1, the rest 0"
pub fresh_values : map fresh sheet
    ≡ (0 ∷ 0 ∷ 1 ∷ 1 ∷ 0 ∷ 0 ∷ [])
    ∷ (0 ∷ 15 ∷ 1 ∷ 0 ∷ 0 ∷ 0 ∷ 1 ∷ 1 ∷ [])
    ∷ (0 ∷ 0 ∷ 0 ∷ 0 ∷ 0 ∷ [])
    ∷ (0 ∷ 0 ∷ 0 ∷ 0 ∷ 0 ∷ 0 ∷ [])
    ∷ (0 ∷ 0 ∷ 0 ∷ 0 ∷ 0 ∷ 0 ∷ 0 ∷ [])
    ∷ (0 ∷ 0 ∷ 0 ∷ 0 ∷ 0 ∷ [])
    ∷ (0 ∷ 0 ∷ 0 ∷ 0 ∷ 0 ∷ 0 ∷ [])
    ∷ (1 ∷ replicate 32 0)
    ∷ (0 ∷ 0 ∷ 0 ∷ 0 ∷ 0 ∷ 0 ∷ [])
    ∷ []
unfolding least within signed_within finite only_bits
fresh_values = refl

-- on a fresh board every field is in its range, and every rule is kept
pub fresh_good : map (λ (r : Row). first_bad r (fresh r)) sheet ≡ 0 ∷ 0 ∷ 0 ∷ 0 ∷ 0 ∷ 0 ∷ 0 ∷ 0 ∷ 0 ∷ []
unfolding least within signed_within finite only_bits first_false
fresh_good = refl

-- ---- what holds of each row holds of the row of a number

-- of a row and a value, one step of the choice
pub each_step : {X : Type 0} (P : Row → X → Type 0) (b : Bool) (r q : Row) (x u : X) → P r x → P q u → P (cond b r q) (cond b x u)
each_step P true r q x u e f = e
each_step P false r q x u e f = f

pub each_row : (P : Row → Type 0) (k : ℕ) → P mov_row → P eng_row → P pwr_row → P eds_row → P hom_row → P brk_row → P pid_row → P ctl_row → P joy_row → P (row_in [] k) → P (row_at k)
each_row P k mov eng pwr eds hom brk pid ctl joy none =
    each_step (λ r (_ : ℕ). P r) (eqb k 1) mov_row _ 0 0 mov
    (each_step (λ r (_ : ℕ). P r) (eqb k 2) eng_row _ 0 0 eng
    (each_step (λ r (_ : ℕ). P r) (eqb k 3) pwr_row _ 0 0 pwr
    (each_step (λ r (_ : ℕ). P r) (eqb k 4) eds_row _ 0 0 eds
    (each_step (λ r (_ : ℕ). P r) (eqb k 5) hom_row _ 0 0 hom
    (each_step (λ r (_ : ℕ). P r) (eqb k 6) brk_row _ 0 0 brk
    (each_step (λ r (_ : ℕ). P r) (eqb k 7) pid_row _ 0 0 pid
    (each_step (λ r (_ : ℕ). P r) (eqb k 11) ctl_row _ 0 0 ctl
    (each_step (λ r (_ : ℕ). P r) (eqb k 12) joy_row _ 0 0 joy
    none))))))))

-- no block's frame is longer
pub total_most : (k : ℕ) → total (row_at k) ≤ longest_frame
total_most k =
    each_row (λ (r : Row). total r ≤ longest_frame) k (omega arith) (omega arith) (omega arith) (omega arith) (omega arith) (omega arith) (omega arith) (omega arith) (omega arith) (omega arith)
