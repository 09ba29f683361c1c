-- The words in which the laws of proofs/ are stated; no part of the rule. In quotation marks: sheet 01.
use Rattle.std.specs.Prelude.{ℕ, ◌-◌, ◌<◌, ◌≤◌, ◌≡◌, false, List, [], ◌∷◌, ◌++◌, length, get_or, take, drop}
use Rattle.rule.specs.Run.{Item, byte, event, at, late}
use Rattle.rule.specs.Framing.{Token, whole, lost, seen, Cut}
use Rattle.rule.specs.Rule.{Said, State, Protocol}
use Rattle.rule.specs.Step.{step, steps}
use Rattle.rule.specs.Calls.{Called}

-- each of these numbers is a byte
abbrev pub OfBytes : List ℕ → Type 0
OfBytes u = (i : ℕ) → get_or u i 0 < 256

-- stamps behind t, none "more than 400 ms" after the one before it
abbrev pub InTime : ℕ → List ℕ → Type 0
InTime t [] = Unit {0}
InTime t (s ∷ ts) = (late s t ≡ false) × InTime s ts

module _ {E : Type 0} where
  -- the bytes in tokens, in their sequence
  abbrev pub spent : List (Token E) → List ℕ
  spent [] = []
  spent (whole u ∷ ks) = u ++ spent ks
  spent (lost u ∷ ks) = u ++ spent ks
  spent (seen e ∷ ks) = spent ks

  -- the bytes in one token are bytes
  abbrev pub TokenOfBytes : Token E → Type 0
  TokenOfBytes (whole u) = OfBytes u
  TokenOfBytes (lost u) = OfBytes u
  TokenOfBytes (seen e) = Unit {0}

  -- an event that a token tells is one of these; bytes tell none
  abbrev pub TokenOf : (E → Type 0) → Token E → Type 0
  TokenOf Q (whole u) = Unit {0}
  TokenOf Q (lost u) = Unit {0}
  TokenOf Q (seen e) = Q e

  -- and so is each event of a run
  abbrev pub EventsOf : (E → Type 0) → List (Item E) → Type 0
  EventsOf Q [] = Unit {0}
  EventsOf Q (byte t b ∷ r) = EventsOf Q r
  EventsOf Q (event e ∷ r) = Q e × EventsOf Q r

  -- all the bytes of a cut
  abbrev pub all_bytes : Cut E → List ℕ
  all_bytes c = spent c.tokens ++ c.unfinished

  -- bytes, each behind its own stamp
  abbrev pub spread : List ℕ → List ℕ → List (Item E)
  spread [] u = []
  spread (t ∷ ts) [] = []
  spread (t ∷ ts) (b ∷ u) = byte t b ∷ spread ts u

module _ {E O M : Type 0} (p : Protocol E O M) where
  -- what the byte x, taken at t, says from the state s
  abbrev pub says : ℕ → State M → ℕ → Said O (State M)
  says t s x = step p s (byte t x)

  -- "drops the unit's bytes so far, without reply or flag": and without order
  pub record Silent : Type 0 where
    pub reply : (m : M) (u : List ℕ) → (p.act m (lost u)).reply ≡ []
    pub orders : (m : M) (u : List ℕ) → (p.act m (lost u)).orders ≡ []

  -- a call c is the byte steps over what it took
  pub record TakesSteps (s : State M) (t : ℕ) (piece : List ℕ) (c : Called O M) : Type 0 where
    pub same : c.said ≡ steps p s (at t (take c.taken piece))
    pub most : c.taken ≤ length piece

  -- "one of three things: the piece has ended; a byte taken completed an order; or the next byte would cause a reply that does not fit in the room left"
  pub data Stopped (t room : ℕ) (piece : List ℕ) (c : Called O M) : Type 0 where
    ended : c.taken ≡ length piece → Stopped t room piece c
    ordered : (o : O) (os : List O) → c.said.orders ≡ o ∷ os → Stopped t room piece c
    full : (x : ℕ) (rest : List ℕ) → drop c.taken piece ≡ x ∷ rest
        → room - length c.said.reply < length (says t c.said.next x).reply
        → Stopped t room piece c

  -- the first k bytes of a piece, by the byte step
  abbrev pub reached : State M → ℕ → List ℕ → ℕ → Called O M
  reached s t piece k = record { number = 0; taken = k; said = steps p s (at t (take k piece)) }

  -- "takes bytes from the front until one of three things": n bytes meet one of them, and fewer meet none
  pub record Largest (s : State M) (t room : ℕ) (piece : List ℕ) (n : ℕ) : Type 0 where
    pub stopped : Stopped t room piece (reached s t piece n)
    pub before : (k : ℕ) → k < n → Stopped t room piece (reached s t piece k) → ⊥
