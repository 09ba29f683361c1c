-- What the types of the code's numbers say, where a theorem has to be told: a field's number fits its width, and each byte is below 256.
use Rattle.std.specs.Prelude.{List, [], ◌∷◌}
use Rattle.table.specs.declared.Table.{Table}
use Rattle.table.specs.Table.{Good}
use Rattle.rule.specs.Rule.{State}
use Rattle.rule.specs.Facts.{OfBytes}
use Rattle.unit.specs.declared.Memory.{Memory}
use Rattle.state.specs.State.{state_of}
use Rattle.state.specs.declared.Board.{Board}
use Rattle.host.specs.declared.Block.{Block}
use Rattle.fields.specs.Fields.{Typed}
use Rattle.request.specs.declared.Request.{Request}
use Rattle.request.specs.declared.Request.TheVariants.{Get, Set, Give}
use Rattle.link.specs.Book.{Book}

-- of a request, and of requests
abbrev pub TypedIn : Request → Type 0
TypedIn (Get b) = Unit {0}
TypedIn (Set f) = Typed f
TypedIn (Give o) = Unit {0}

abbrev pub TypedAll : List Request → Type 0
TypedAll [] = Unit {0}
TypedAll (q ∷ qs) = TypedIn q × TypedAll qs

-- of a book
abbrev pub TypedBook : Book → Type 0
TypedBook book = (c : Block) → Typed (book c)

-- of a state, and of the board that stands for it: its table, and its unfinished bytes
pub record TypedState (s : State Memory) : Type 0 where
  pub table : OfBytes s.memory.settings.bytes
  pub bytes : OfBytes s.line.unfinished

abbrev pub TypedBoard : Board → Type 0
TypedBoard b = TypedState (state_of b)

-- of a table that a sound board keeps: its bytes are below 256, and it is good
pub record Kept (t : Table) : Type 0 where
  pub bytes : OfBytes t.bytes
  pub good : Good t
