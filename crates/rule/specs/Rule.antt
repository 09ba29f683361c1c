-- THE RULE, 3 of 3: what a memory makes of the units of a run. In quotation marks: sheet 01, "How a run of bytes is read".
use Rattle.std.specs.Prelude.{ℕ, Bool, List, [], ◌∷◌, ◌++◌}
use Rattle.rule.specs.Run.{Item, last_stamp}
use Rattle.rule.specs.Framing.{Token, units_of}

-- what is said, as "reply the identifier, give the order": reply bytes, orders, and the memory after them
pub record Said (O M : Type 0) : Type 0 where
  pub reply : List ℕ
  pub orders : List O
  pub next : M

module _ {O M : Type 0} where
  -- nothing is said or changed: "without reply or flag"
  abbrev pub quiet : M → Said O M
  quiet m = record { reply = []; orders = []; next = m }

  -- what is said first, and behind it what is said next
  abbrev pub then : Said O M → Said O M → Said O M
  then a b = record { reply = a.reply ++ b.reply; orders = a.orders ++ b.orders; next = b.next }

-- where a run ends: the bytes that "stay unfinished", and the last stamp
pub record Line : Type 0 where
  pub unfinished : List ℕ
  pub last : ℕ

-- a board: its memory (settings, flags, the last refused field), and its line
pub record State (M : Type 0) : Type 0 where
  pub memory : M
  pub line : Line

-- the bytes u are unfinished, the last stamp is t
abbrev pub state_at : {M : Type 0} → M → List ℕ → ℕ → State M
state_at m u t = record { memory = m; line = record { unfinished = u; last = t } }

module _ {O M : Type 0} where
  -- a memory's say, at a line
  abbrev pub with_line : Line → Said O M → Said O (State M)
  with_line l a = record { reply = a.reply; orders = a.orders; next = record { memory = a.next; line = l } }

-- a protocol: all that the rule and a call have to know of it
pub record Protocol (E O M : Type 0) : Type 0 where
  -- an event drops what is unfinished, its last byte at that stamp
  pub cuts : ℕ → E → Bool
  -- "A first byte of zero is a unit by itself." "Otherwise four bytes form an identifier." "Set: the unit is the total length of its block."
  pub need : List ℕ → ℕ
  -- what a unit replies, orders and stores: the bullets "Unknown identifier", "Get", "Order" and "Set"
  pub act : M → Token E → Said O M
  -- a call's longest piece and least room: the rule itself reads neither
  pub longest_piece : ℕ
  pub least_room : ℕ

module _ {E O M : Type 0} (p : Protocol E O M) where
  -- unit after unit, each from the memory that the one before it left
  unfoldable pub deal : M → List (Token E) → Said O M
  deal m [] = quiet m
  deal m (k ∷ ks) = let a = p.act m k in then a (deal a.next ks)

  -- "The rule for a whole run, from its front, with nothing unfinished (its definition takes unit after unit off the run; it knows no call, piece or
  -- room and is not the receiver's byte step repeated)": from the memory m, the last stamp t
  unfoldable pub whole_run : M → ℕ → List (Item E) → Said O (State M)
  whole_run m t r =
      let c = units_of p.cuts p.need r in
      with_line (record { unfinished = c.unfinished; last = last_stamp t r }) (deal m c.tokens)
