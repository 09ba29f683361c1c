-- One call, by the byte step. In quotation marks: sheet 01, "One call".
use Rattle.std.specs.Prelude.{ℕ, suc, ◌-◌, cond, List, [], ◌∷◌, eqb, leb, ltb, length}
use Rattle.rule.specs.Run.{byte}
use Rattle.rule.specs.Rule.{Said, quiet, then, State, Protocol}
use Rattle.rule.specs.Step.{step}

-- "It answers a number, the bytes taken, the reply bytes written, the order and the next state."
pub record Called (O M : Type 0) : Type 0 where
  pub number : ℕ
  pub taken : ℕ
  pub said : Said O (State M)

-- the first where the list is empty, else the second
abbrev pub if_none : {A B : Type 0} → List A → B → B → B
if_none [] x y = x
if_none (a ∷ l) x y = y

module _ {O M : Type 0} where
  -- a refused call, or one that takes no byte: nothing is taken, written or ordered, and the state is "unchanged"
  abbrev pub none : ℕ → State M → Called O M
  none n s = record { number = n; taken = 0; said = quiet s }

  -- a byte has been taken, saying a, and the call ends or goes on: "Each reply is written straight behind the one before it"
  abbrev pub ending : Said O (State M) → Called O M
  ending a = record { number = 0; taken = 1; said = a }

  abbrev pub going : Said O (State M) → Called O M → Called O M
  going a rest = record { number = 0; taken = suc rest.taken; said = then a rest.said }

  -- "a byte taken completed an order": that ends the call
  abbrev pub more : Said O (State M) → Called O M → Called O M
  more a rest = if_none a.orders (going a rest) (ending a)

module _ {E O M : Type 0} (p : Protocol E O M) where
  -- "An accepted call takes bytes from the front until one of three things: the piece has ended; a byte taken completed an order; or the next byte
  -- would cause a reply that does not fit in the room left. It stops for no other cause." "An empty piece changes nothing, the last stamp included."
  unfoldable pub accept : State M → ℕ → ℕ → List ℕ → Called O M
  accept s t room [] = none 0 s
  accept s t room (x ∷ piece) =
      let a = step p s (byte t x) in
      cond (leb (length a.reply) room) (more a (accept a.next t (room - length a.reply) piece)) (none 0 s)

  -- "When, tested in this sequence": 1 "piece longer than 250", 2 "reply room under 48" (93 since 02's P6), then the board's own verdict on its state,
  -- which is 0 or the number of its refusal (3 "the state is not sound"), 0 "otherwise"
  unfoldable pub call : ℕ → State M → ℕ → ℕ → List ℕ → Called O M
  call verdict s t room piece =
      cond (ltb p.longest_piece (length piece)) (none 1 s)
      (cond (ltb room p.least_room) (none 2 s)
      (cond (eqb verdict 0) (accept s t room piece)
      (none verdict s)))
