-- Requests as one run of bytes on the line: the words in which Cuttings (proofs) speaks. In quotation marks: sheet 01.
use Rattle.std.specs.Prelude.{◌≡◌, List, [], ◌∷◌, ◌++◌, ℕ, suc, length, take, Ok}
use Rattle.rule.specs.Run.{Item, byte, event}
use Rattle.rule.specs.Facts.{InTime, spread}
use Rattle.unit.specs.Unit.{Event}
use Rattle.request.specs.declared.Request.{Request}
use Rattle.link.specs.Types.{TypedIn}
use Rattle.link.specs.Asking.{Writing}

-- a request as `write` may have written it into some buffer, which is then `out`, and the stamps of the frame's bytes: no wait inside it is "more than
-- 400 ms"; before it any is
pub record Sent : Type 0 where
  pub request : Request
  pub typed : TypedIn request
  pub room : List ℕ
  pub size : ℕ
  pub out : List ℕ
  pub written : Writing request room (Ok size) out
  pub first : ℕ
  pub others : List ℕ
  pub each : size ≡ suc (length others)
  pub in_time : InTime first others

-- a run without its reports of the time and of the position
abbrev pub only_bytes : List (Item Event) → List (Item Event)
only_bytes [] = []
only_bytes (byte t b ∷ r) = byte t b ∷ only_bytes r
only_bytes (event e ∷ r) = only_bytes r

-- what was written, each byte behind its stamp, request after request
abbrev pub run_of : List Sent → List (Item Event)
run_of [] = []
run_of (x ∷ xs) = spread (x.first ∷ x.others) (take x.size x.out) ++ run_of xs

abbrev pub requests_of : List Sent → List Request
requests_of [] = []
requests_of (x ∷ xs) = x.request ∷ requests_of xs
