-- Tests of a number as it stands on the wire, where it is unsigned whatever its field's kind (01, "Blocks", the ranges).
use Rattle.std.specs.Prelude.{Bool, true, false, cond, not, ◌&&◌, ◌||◌, List, [], ◌∷◌, Option, None, Some, leb, eqb, ℕ, zero, suc, ◌+◌, ◌-◌, ◌/◌, ◌%◌, ◌^◌}
use Rattle.std.specs.Int.Bits.{bit_and}

-- "A field without a range takes every value of its width", but for flag fields, of which 02, P2 says otherwise (`only_bits`)
abbrev pub any : ℕ → Bool
any n = true

-- lo..hi
unfoldable pub within : ℕ → ℕ → ℕ → Bool
within lo hi n = leb lo n && leb n hi

-- a signed 16-bit number in -k..k: up to k, or from 65536 - k on, which stands for -k (proofs, `signed_is`)
unfoldable pub signed_within : ℕ → ℕ → Bool
signed_within k n = leb n k || leb (65536 - k) n

-- "each must be finite (exponent bits not all ones)"
unfoldable pub finite : ℕ → Bool
finite n = not (eqb (n % 2147483648 / 8388608) 255)

-- the bit k of a number, counted from the low end
abbrev pub bit : ℕ → ℕ → ℕ
bit n k = n / 2 ^ k % 2

-- 02, P2: "a set flag bit outside 004's list makes its field out of range": the number has no bit outside the mask (proofs, `only_bits_is`)
unfoldable pub only_bits : ℕ → ℕ → Bool
only_bits mask n = eqb (bit_and n mask) n

-- the place, counted from n on, of the first test that failed, or 0
unfoldable pub first_false : ℕ → List Bool → ℕ
first_false n [] = 0
first_false n (true ∷ ts) = first_false (n + 1) ts
first_false n (false ∷ ts) = n

-- 02, P6: "the two rules come after all ranges, recorded as field 99": behind the first test that failed, whether a rule over all fields is kept
abbrev pub ruled : ℕ → Bool → ℕ
ruled bad true = bad
ruled bad false = cond (eqb bad 0) 99 bad

-- a number where 0 means none, as the Option that the code has for it
abbrev pub found : ℕ → Option ℕ
found zero = None
found (suc n) = Some (suc n)

-- `ruled` of such a number (proofs, `ruled_is`)
abbrev pub ruled_found : Option ℕ → Bool → Option ℕ
ruled_found (Some bad) kept = Some bad
ruled_found None true = None
ruled_found None false = Some 99
