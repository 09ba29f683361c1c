-- What follows from a row of the sheet.
use Rattle.std.specs.Prelude.{Bool, cond, ◌&&◌, List, [], ◌∷◌, ◌++◌, ℕ, zero, suc, ◌+◌, eqb, Float, ℤ, get_or, take, replicate}
use Rattle.std.specs.Float.{binary32}
use Rattle.std.specs.Float.Ieee.{of_bits}
use Rattle.std.specs.Int.{w16, w32, w64}
use Rattle.std.proofs.Common.{to_z}
use Rattle.wire.specs.Layout.{numbers, laid, sum}
use Rattle.ranges.specs.Tests.{first_false, ruled}
use Rattle.sheet.specs.declared.Head.{Head}
use Rattle.sheet.specs.Sheet.{Sort, unsigned, signed, float, Field, Row, no_rule, Command, sheet}

abbrev widths_of : List Field → List ℕ
widths_of [] = []
widths_of (f ∷ fs) = f.width ∷ widths_of fs

abbrev pub widths : Row → List ℕ
widths r = widths_of r.fields

-- the bytes of a data section
abbrev pub size_of : Row → ℕ
size_of r = sum (widths r) + r.reserved

-- "Total length counts identifier and CRC."
abbrev pub total : Row → ℕ
total r = 4 + size_of r + 2

-- "Each block has one length, one set name and one get name, fixed with the block."
abbrev pub head_of : Command → Command → Head
head_of set get = record { total = total set.row; set = set.name; get = get.name }

-- ---- data sections

-- the numbers of the fields, in their sequence; "Reserved bytes of a set are ignored"
abbrev pub numbers_in : Row → List ℕ → List ℕ
numbers_in r d = numbers (widths r) 0 d

-- the data section of these numbers; "a get sends zeros there"
abbrev pub data_of : Row → List ℕ → List ℕ
data_of r ns = laid (widths r ++ r.reserved ∷ []) ns

-- a data section with its reserved bytes zero
abbrev pub canonical : Row → List ℕ → List ℕ
canonical r d = take (sum (widths r)) d ++ replicate r.reserved 0

-- ---- what the numbers stand for

-- a field of a block's record is a natural number, an integer or a float,
abbrev pub TypeOf : Sort → Type 0
TypeOf unsigned = ℕ
TypeOf signed = ℤ
TypeOf float = Float

-- the one that its number of so many bytes stands for; a signed number has 2, 4 or 8
abbrev pub value : (s : Sort) → ℕ → ℕ → TypeOf s
value unsigned w n = n
value signed w n = to_z (cond (eqb w 2) w16 (cond (eqb w 4) w32 w64)) n
value float w n = of_bits binary32 n

-- all fields, by the numbers from place k on
abbrev pub TypesOf : List Field → Type 0
TypesOf [] = Unit {0}
TypesOf (f ∷ fs) = TypeOf f.sort × TypesOf fs

abbrev pub values : (fs : List Field) → ℕ → List ℕ → TypesOf fs
values [] k ns = tt
values (f ∷ fs) k ns = (value f.sort f.width (get_or ns k 0), values fs (k + 1) ns)

-- ---- ranges

-- the tests of the fields, on the numbers from place k on
abbrev pub verdicts : List Field → ℕ → List ℕ → List Bool
verdicts [] k ns = []
verdicts (f ∷ fs) k ns = f.test (get_or ns k 0) ∷ verdicts fs (k + 1) ns

-- "Fields are numbered from 1 in this order": the number of the first field out of its range, or 0
abbrev pub first_out : Row → List ℕ → ℕ
first_out r ns = first_false 1 (verdicts r.fields 0 ns)

-- what a set is refused for: "the two rules come after all ranges, recorded as field 99" (02, P6)
abbrev pub first_bad : Row → List ℕ → ℕ
first_bad r ns = ruled (first_out r ns) (r.rule ns)

-- ---- "On a fresh board every field is 0, or the smallest allowed value where 0 is not allowed"

abbrev pub least_from : ℕ → ℕ → (ℕ → Bool) → ℕ
least_from zero n t = n
least_from (suc fuel) n t = cond (t n) n (least_from fuel (n + 1) t)

-- the smallest number that the test takes, looked for below 256
unfoldable pub least : (ℕ → Bool) → ℕ
least t = least_from 256 0 t

abbrev least_of : List Field → List ℕ
least_of [] = []
least_of (f ∷ fs) = least f.test ∷ least_of fs

-- the first field is the smallest that its row's rule allows beside the others
abbrev fresh_of : (List ℕ → Bool) → List Field → List ℕ
fresh_of rule [] = []
fresh_of rule (f ∷ fs) = least (λ n. f.test n && rule (n ∷ least_of fs)) ∷ least_of fs

abbrev pub fresh : Row → List ℕ
fresh r = fresh_of r.rule r.fields

-- ---- the row of a block's number; a number of no block has a row without fields

abbrev no_row : Row
no_row = record { number = 0; fields = []; reserved = 0; rule = no_rule }

abbrev pub row_in : List Row → ℕ → Row
row_in [] k = no_row
row_in (r ∷ rs) k = cond (eqb k r.number) r (row_in rs k)

abbrev pub row_at : ℕ → Row
row_at k = row_in sheet k
