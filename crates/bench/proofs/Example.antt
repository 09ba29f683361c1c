-- The calls of sheet 01's own trace, by computation: the definition gives as many as the sheet prints. In quotation marks: 01. Assumes nothing.
use mathlib.Core.Path.{◌≡◌, refl}
use mathlib.Core.List.{[], ◌∷◌, ◌++◌}
use Rattle.wire.specs.Letters.{ascii}
use Rattle.wire.specs.Numbers.{le_at, le_bytes}
use Rattle.rule.specs.Run.{late}
use Rattle.rule.specs.Rule.{deal}
use Rattle.rule.specs.Step.{feed, step, steps}
use Rattle.rule.specs.Calls.{accept, call}
use Rattle.keyed.specs.Keyed.{value_in}
use Rattle.names.specs.Names.{position_kind, kind_of, kind_from, need}
use Rattle.unit.specs.Unit.{does, act}
use Rattle.trace.specs.Record.{wrong_at, reading, record_of}
use Rattle.bench.specs.Trace.{records, calls, calls_of, calls_in}

-- "stamp 1000 the 9 bytes stopxxxx and a zero; stamp 2000 le; stamp 2401 ft": "One line a call", and four lines in front of the last
pub example : calls_in (record_of 1000 (ascii "stopxxxx" ++ 0 ∷ []) ++ record_of 2000 (ascii "le") ++ record_of 2401 (ascii "ft")) ≡ 4
unfolding le_at le_bytes late deal feed step steps accept call value_in position_kind kind_of kind_from need does act wrong_at reading record_of records calls calls_of
example = refl
