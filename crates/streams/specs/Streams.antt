-- What a writer holds and a reader has left, where those are known (std's `contents` and `remaining`).
use Rattle.std.specs.Prelude.{ℕ, ◌≡◌, ◌<◌, ◌≤◌, List, length, take, Option, Result, MatchResult}
use Rattle.std.specs.Io.KnownBytes.{Appends, Consumes, IsAtEnd}

-- a writer holds what it held, and of a text behind it a beginning that is not all
pub record IsCut (old new : Option (List ℕ)) (text : List ℕ) : Type 0 where
  pub count : ℕ
  pub short : count < length text
  pub appended : Appends old new (take count text)

-- THE PROMISE of a text that is written: all of it, or on an error less
abbrev pub Says : {T E : Type 0} → Option (List ℕ) → Option (List ℕ) → Result T E → List ℕ → Type 0
Says old new r text = MatchResult r (λ _. Appends old new text) (λ _. IsCut old new text)

-- a writer holds what it held, and maybe more behind it
pub record Grows (old new : Option (List ℕ)) : Type 0 where
  pub more : List ℕ
  pub appended : Appends old new more

-- a part has n bytes at its front, and these are n. The second follows from the first: the proofs that Rattle makes of callers look for it
abbrev pub IsPrefixLen : ℕ → List ℕ → Type 0
IsPrefixLen n part = (n ≤ length part) × (n ≡ length (take n part))

-- a reader gave the first n bytes that a buffer now has, and is at its end where the buffer has room for more
pub record IsFilled (old new : Option (List ℕ)) (buffer : List ℕ) (n : ℕ) : Type 0 where
  pub given : Consumes old new (take n buffer)
  pub ended : n < length buffer → IsAtEnd new

-- a reader gave some first bytes that a buffer now has, and the buffer has room for more
pub record IsPartly (old new : Option (List ℕ)) (buffer : List ℕ) : Type 0 where
  pub count : ℕ
  pub short : count < length buffer
  pub given : Consumes old new (take count buffer)

-- THE PROMISE of a buffer that is read into: full or to the reader's end, or on an error less
abbrev pub Fills : {E : Type 0} → Option (List ℕ) → Option (List ℕ) → Result ℕ E → List ℕ → Type 0
Fills old new r buffer = MatchResult r (λ n. IsFilled old new buffer n) (λ _. IsPartly old new buffer)
