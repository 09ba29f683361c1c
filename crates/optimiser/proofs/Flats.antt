-- Laws of the flat answers, over plain variables. Assumes nothing.
use Rattle.std.specs.Prelude.{Result}
use mathlib.Core.Path.{◌≡◌, ap, subst, ◌∙◌}
use mathlib.Core.List.{List, [], ◌∷◌}
use Prim.Native.Nat.{ℕ, ◌≤◌}
use Rattle.host.specs.Names.{block_at, order_at}
use Rattle.host.proofs.Numbered.{no_block, no_order}
use Rattle.blocks.specs.declared.Blocks.{Blocks}
use Rattle.request.specs.Request.{bad_in, frame_of, written_as, Writes}
use Rattle.request.specs.declared.Request.{Request}
use Rattle.request.specs.declared.Refused.{Refused}
use Rattle.optimiser.specs.Flat.{get_asked, set_asked, order_asked, flat_written, nobody, FlatWrites}
use Rattle.optimiser.specs.declared.FlatWritten.{FlatWritten}

pub asks : (q : Request) (before after : List ℕ) (w : Result ℕ Refused) (r : FlatWritten)
    → Writes (bad_in q) (frame_of q) before w after → r ≡ flat_written (written_as w) → FlatWrites (q ∷ []) before r after
asks q before after w r h e = record { answer = e ∙ ap flat_written h.answer; buffer = h.buffer }

-- the same asked
pub asks_as : {before after : List ℕ} {r : FlatWritten} (p q : List Request) → p ≡ q → FlatWrites p before r after → FlatWrites q before r after
asks_as {before} {after} {r} p q e h = subst (λ (x : List Request). FlatWrites x before r after) e h

-- A NUMBER OUTSIDE 1 TO 7 is answered 9, and nothing is written
module _ {before after : List ℕ} {r : FlatWritten} (n : ℕ) (outside : 1 ≤ n → n ≤ 7 → ⊥) where
  refused_nine : (asked : List Request) → asked ≡ [] → FlatWrites asked before r after → (r ≡ nobody) × (after ≡ before)
  refused_nine asked e h = let none = asks_as asked [] e h in (none.answer, none.buffer)

  pub get_outside : FlatWrites (get_asked (block_at n)) before r after → (r ≡ nobody) × (after ≡ before)
  get_outside = refused_nine _ (ap get_asked (no_block n outside))

  pub set_outside : (x : Blocks) → FlatWrites (set_asked x (block_at n)) before r after → (r ≡ nobody) × (after ≡ before)
  set_outside x = refused_nine _ (ap (set_asked x) (no_block n outside))

  pub order_outside : FlatWrites (order_asked (order_at n)) before r after → (r ≡ nobody) × (after ≡ before)
  order_outside = refused_nine _ (ap order_asked (no_order n outside))
