-- What the program needs of a call's answer: it is no refusal. Assumes nothing.
use mathlib.Core.List.{List}
use mathlib.Core.Path.{◌≡◌, refl, ap, ◌∙◌}
use mathlib.Core.Bool.{true}
use Rattle.std.specs.Prelude.{Result, Ok, Err, is_ok}
use Prim.Native.Nat.{ℕ, ◌≤◌}
use lib.ListN.{length}
use Rattle.rule.specs.Calls.{Called}
use Rattle.rule.proofs.Loop.{accept_number}
use Rattle.rule.proofs.Numbered.{call_accepted}
use Rattle.sheet.specs.Lengths.{longest_frame, longest_piece}
use Rattle.orders.specs.declared.Order.{Order}
use Rattle.unit.specs.declared.Memory.{Memory}
use Rattle.state.specs.declared.Board.{Board}
use Rattle.state.specs.Call.{Call, call_in}
use Rattle.state.specs.declared.Done.{Done}
use Rattle.state.specs.declared.Refusal.{Refusal}
use Rattle.state.specs.State.{state_of}
use Rattle.state.specs.Sound.{sound_board, refusal_of}
use Rattle.state.proofs.Boards.{refusal_none}
use Rattle.state.proofs.Refused.{number_some}
use Rattle.unit.specs.Protocol.{protocol}
use Rattle.receiver.specs.Receive.{Receives}

-- a call that is not refused
pub not_refused : (b : Board) (t : ℕ) (piece before after : List ℕ) (x : Result (Done Board) Refusal) → Receives b t piece before (call_in b x) after
    → sound_board b ≡ true → length piece ≤ longest_piece → longest_frame ≤ length before → is_ok x ≡ true
not_refused b t piece before after (Ok d) got sound few room = refl
not_refused b t piece before after (Err e) got sound few room =
    let n = refusal_none b sound in
    let zero = call_accepted protocol (refusal_of b) (state_of b) t (length before) piece few room n in
    absurd (number_some e (ap (λ (y : Call). y.number) got.result ∙ ap (λ (c : Called Order Memory). c.number) zero
    ∙ accept_number protocol (state_of b) t (length before) piece))
