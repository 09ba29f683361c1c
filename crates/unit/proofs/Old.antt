-- What a unit does to the table is what it did to the old records, whose definition stands in table (Records). Assumes nothing.
use mathlib.Core.Path.{◌≡◌, sym, ap, ◌∙◌}
use mathlib.Core.List.{List}
use Prim.Native.Nat.{ℕ, ◌<◌}
use lib.ListN.{get_or}
use Rattle.frame.specs.Frame.{data_in}
use Rattle.sheet.specs.Rows.{row_at, row_in}
use Rattle.table.specs.Table.{Good}
use Rattle.table.specs.Records.{old_rows, old_get, old_set, records_of}
use Rattle.table.proofs.Old as old
use Rattle.rule.specs.Framing.{whole}
use Rattle.rule.specs.Rule.{Said}
use Rattle.names.specs.Names.{kind_at}
use Rattle.orders.specs.declared.Order.{Order}
use Rattle.names.specs.declared.Kind.TheVariants.{Get}
use Rattle.unit.specs.Unit.{act}
use Rattle.unit.specs.Kept.{Accepts, get_reply}
use Rattle.unit.specs.declared.Memory.{Memory}
use Rattle.unit.proofs.Kept.{accepted}
use Rattle.unit.proofs.Runs.{got}

-- UNDER EVERY SET that is accepted; any other unit leaves the table (Kept, `unit_ends`)
pub set_as_before : (m : Memory) (u : List ℕ) (k : ℕ) → Accepts m u k → records_of (act m (whole u)).next.settings ≡ old_set (records_of m.settings) k (data_in u)
set_as_before m u k a = ap (λ (x : Said Order Memory). records_of x.next.settings) (accepted m u k a) ∙ old.set_same m.settings k (data_in u)

-- UNDER EVERY GET of a block that had a record, of a sound table of bytes
pub get_as_before : (m : Memory) (g : List ℕ) (k : ℕ) → Good m.settings → ((i : ℕ) → get_or m.settings.bytes i 0 < 256) → kind_at g ≡ Get k → row_in old_rows k ≡ row_at k
    → (act m (whole g)).reply ≡ get_reply k (old_get (records_of m.settings) k)
get_as_before m g k good low e row =
    ap (λ (x : Said Order Memory). x.reply) (got m g k e) ∙ ap (get_reply k) (sym (old.get_same m.settings good low k row))
