-- The words in which it is said what the settings keep. In quotation marks: the mill's demands, by number, or sheet 01.
use Rattle.std.specs.Prelude.{◌≡◌, true, List, [], ◌∷◌, ℕ}
use Rattle.wire.specs.Numbers.{le_bytes}
use Rattle.ranges.specs.Tests.{bit}
use Rattle.frame.specs.Frame.{framed, data_in, intact}
use Rattle.sheet.specs.Names.{named}
use Rattle.sheet.specs.Sheet.{set_table, get_table}
use Rattle.sheet.specs.Rows.{row_at}
use Rattle.sheet.specs.Sections.{bad_in}
use Rattle.rule.specs.Framing.{Token, whole, lost, seen}
use Rattle.names.specs.Names.{kind_at, name_in}
use Rattle.names.specs.declared.Kind.TheVariants.{Set}
use Rattle.unit.specs.Unit.{Event, act}
use Rattle.unit.specs.declared.Memory.{Memory}

-- Demand 1: "refused on the wire (errc, errd, errv)"
pub data Refused (reply : List ℕ) : Type 0 where
  errc : reply ≡ le_bytes 4 (named "errc") → Refused reply
  errd : reply ≡ le_bytes 4 (named "errd") → Refused reply
  errv : reply ≡ le_bytes 4 (named "errv") → Refused reply

-- the unit u, met with the memory m, is a set of block k, and its checks pass: "Otherwise all fields are stored"
pub record Accepts (m : Memory) (u : List ℕ) (k : ℕ) : Type 0 where
  pub kind : kind_at u ≡ Set k
  pub crc : intact u ≡ true
  pub good : bad_in (row_at k) (data_in u) ≡ 0

-- what the unit u, met with the memory m, does to the settings: it is an accepted set, or it alters none
pub data Ends (m : Memory) (u : List ℕ) : Type 0 where
  stores : (k : ℕ) → Accepts m u k → Ends m u
  keeps : (act m (whole u)).next.settings ≡ m.settings → Ends m u

-- the unit is accepted as the host sees it: a set of block k, and "the set name is the reply"
pub record Echoed (m : Memory) (u : List ℕ) (k : ℕ) : Type 0 where
  pub kind : kind_at u ≡ Set k
  pub reply : (act m (whole u)).reply ≡ le_bytes 4 (name_in set_table k)

-- the token x, met with the memory m, is a set of block k that is echoed
abbrev pub Takes : Memory → Token Event → ℕ → Type 0
Takes m (whole u) k = Echoed m u k
Takes m (lost u) k = ⊥
Takes m (seen e) k = ⊥

-- tokens from the memory m on, before "the next accepted set of that block" (demand 2): among them no set of block k is echoed
abbrev pub Without : ℕ → Memory → List (Token Event) → Type 0
Without k m [] = Unit
Without k m (x ∷ ks) = (Takes m x k → ⊥) × Without k (act m x).next ks

-- "Get: reply the get name, data, CRC.": of block k, where it holds the data section d
abbrev pub get_reply : ℕ → List ℕ → List ℕ
get_reply k d = framed (name_in get_table k) d

-- "Flags stay set until a fresh board.": each bit that is set in the flags of m is set in those of n
abbrev pub FlagsStay : Memory → Memory → Type 0
FlagsStay m n = (k : ℕ) → bit m.notes.flags k ≡ 1 → bit n.notes.flags k ≡ 1
