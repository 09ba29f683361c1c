-- What a get's answer comes to: the data section, laid aside and sent in its frame. Assumes nothing.
use mathlib.Core.Path.{◌≡◌, refl, ap, ◌∙◌}
use mathlib.Core.List.{List}
use Prim.Native.Nat.{ℕ, ◌-◌, ◌≤◌}
use native.Mathlib.Omega.{arith}
use lib.ListN.{length, take}
use lib.Seq.{sets}
use Rattle.frame.specs.Frame.{framed}
use Rattle.sheet.specs.Lengths.{longest_frame}
use Rattle.sheet.specs.Sheet.{get_table, gpos_row}
use Rattle.sheet.specs.Rows.{row_at, total, data_of}
use Rattle.sheet.proofs.Laws.{aside_fits, aside_front, data_length as sent-length}
use Rattle.sheet.proofs.Table.{total_most}
use Rattle.position.specs.Position.{position_numbers}
use Rattle.table.specs.Table.{data_at}
use Rattle.table.proofs.Keep.{data_length}
use Rattle.names.specs.Names.{total_in}
use Rattle.orders.specs.declared.Order.TheVariants.{Nothing}
use Rattle.names.proofs.Lengths.{get_total}
use Rattle.unit.specs.Unit.{gets, finds, Judges}
use Rattle.unit.specs.declared.Memory.{Memory}

-- ---- a block's get

module _ (m : Memory) (k n : ℕ) (looked : n ≡ total_in get_table k) (zs section : List ℕ) (room : longest_frame ≡ length zs)
    (laid : section ≡ sets zs 0 (data_at m.settings k)) where
  is : n ≡ total (row_at k)
  is = looked ∙ get_total k

  pub section_room : n - 6 ≤ length section
  section_room = aside_fits (row_at k) (data_at m.settings k) (data_length m.settings k) n is zs section (omega (arith, total_most k)) laid

  pub says_got : (name : ℕ) (before after : List ℕ) → after ≡ sets before 0 (framed name (take (n - 6) section))
      → Judges (gets m name k) before (record { order = Nothing; memory = m }) after
  unfolding gets
  says_got name before after e =
      record {
        result = refl;
        reply =
            e
            ∙ ap (λ (d : List ℕ). sets before 0 (framed name d))
            (aside_front (row_at k) (data_at m.settings k) (data_length m.settings k) n is zs section (omega (arith, total_most k)) laid);
      }

-- ---- gpos: its frame is no longer than any

module _ (m : Memory) (zs section : List ℕ) (room : longest_frame ≡ length zs)
    (laid : section ≡ sets zs 0 (data_of gpos_row (position_numbers m.position))) where
  pub says_found : (name : ℕ) (before after : List ℕ) → after ≡ sets before 0 (framed name (take 20 section))
      → Judges (finds m name) before (record { order = Nothing; memory = m }) after
  unfolding finds
  says_found name before after e =
      record {
        result = refl;
        reply =
            e
            ∙ ap (λ (d : List ℕ). sets before 0 (framed name d))
            (aside_front gpos_row (data_of gpos_row (position_numbers m.position)) (sent-length gpos_row (position_numbers m.position)) 26 refl zs section (omega arith) laid);
      }
