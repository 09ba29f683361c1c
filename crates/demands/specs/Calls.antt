-- The words of the demands of one call. In quotation marks: sheet 01, "One call".
use Rattle.std.specs.Prelude.{Result, ℕ, ◌-◌, ◌<◌, ◌≡◌, List, ◌∷◌, length, drop}
use Rattle.rule.specs.Run.{byte}
use Rattle.rule.specs.Step.{step}
use Rattle.orders.specs.declared.Order.TheVariants.{Nothing}
use Rattle.unit.specs.Protocol.{protocol}
use Rattle.state.specs.State.{state_of}
use Rattle.state.specs.declared.Board.{Board}
use Rattle.state.specs.Call.{Call, call_in}
use Rattle.state.specs.declared.Done.{Done}
use Rattle.state.specs.declared.Refusal.{Refusal}
use Rattle.receiver.proofs.receive.Reads as receive

-- THE CONTRACT OF RECEIVE allows the answer r, with the reply buffer `after` at exit, to a call on the board b at the stamp t, with the piece p and
-- the reply buffer `before` at entry. `Post` is what the checker made of the `ensures` of `receive` in src/lib.rt
pub data Answers (b : Board) (t : ℕ) (p before : List ℕ) (r : Call) (after : List ℕ) : Type 0 where
  allowed : (κs : _) (a : _) (x : Result (Done Board) Refusal) (s : _) → receive.Post κs a x s
      → a.0 ≡ b → a.1.0.now ≡ p → a.1.1.0 ≡ t → a.1.1.1.0.now ≡ before → call_in b x ≡ r → s.1.1.1.0.now ≡ after
      → Answers b t p before r after

-- a row of the table beside 1, 2 or 3: "0, 0, 0" and "unchanged"
pub record Untouched (b : Board) (before : List ℕ) (r : Call) (after : List ℕ) : Type 0 where
  pub taken : r.taken ≡ 0
  pub written : r.written ≡ 0
  pub order : r.order ≡ Nothing
  pub board : r.board ≡ b
  pub buffer : after ≡ before

-- "one of three things: the piece has ended; a byte taken completed an order; or the next byte would cause a reply that does not fit in the room left"
pub data Cause (t : ℕ) (p before : List ℕ) (r : Call) : Type 0 where
  ended : r.taken ≡ length p → Cause t p before r
  ordered : (r.order ≡ Nothing → ⊥) → Cause t p before r
  full : (x : ℕ) (rest : List ℕ) → drop r.taken p ≡ x ∷ rest
      → length before - r.written < length (step protocol (state_of r.board) (byte t x)).reply
      → Cause t p before r
