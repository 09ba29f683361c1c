-- Text as ASCII, and where it stands in a buffer. In quotation marks: sheet 01, "The bench program".
use Rattle.std.specs.Prelude.{cond, List, [], ◌∷◌, ◌++◌, ◌≡◌, ℕ, zero, suc, ◌+◌, ◌/◌, ◌%◌, min, eqb, ltb, ℤ, pos, negsuc, length}
use Rattle.std.proofs.lemmas.List.Edits.{sets}
use Rattle.wire.specs.Letters.{ascii}

-- 0 to 9, then a to f
abbrev pub glyph : ℕ → ℕ
glyph d = cond (ltb d 10) (48 + d) (87 + d)

-- the digits of n, if they are at most f: those of n / 10, unless it is 0, and the last one
unfoldable pub digits : ℕ → ℕ → List ℕ
digits zero n = []
digits (suc f) n = cond (ltb n 10) ((48 + n) ∷ []) (digits f (n / 10) ++ (48 + n % 10) ∷ [])

-- "numbers in decimal": a number of 64 bits has at most 20 digits
unfoldable pub decimal : ℕ → List ℕ
decimal n = digits 20 n

-- a signed number: the decimal of its magnitude, a minus sign before it where it is negative
unfoldable pub signed : ℤ → List ℕ
signed (pos n) = decimal n
signed (negsuc n) = ascii "-" ++ decimal (suc n)

-- "lower-case hexadecimal": two digits a byte
unfoldable pub hex : List ℕ → List ℕ
hex [] = []
hex (b ∷ bs) = glyph (b / 16) ∷ glyph (b % 16) ∷ hex bs

-- "reply in lower-case hexadecimal or `-`"
unfoldable pub shown : List ℕ → List ℕ
shown bytes = cond (eqb (length bytes) 0) (ascii "-") (hex bytes)

-- A text stands in a buffer from a place on, as far as the buffer goes, and nothing else was changed; r is the place behind it in the buffer.
pub record Written (before : List ℕ) (at : ℕ) (said : List ℕ) (r : ℕ) (after : List ℕ) : Type 0 where
  pub bytes : after ≡ sets before at said
  pub behind : r ≡ min (at + length said) (length before)
