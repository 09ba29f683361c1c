-- `ctl::tests_of` meets its contract: test by test. Assumes nothing.
use mathlib.Core.Bool.{Bool, true, cond}
use mathlib.Core.List.{List}
use Prim.Native.Nat.{ℕ}
use native.Mathlib.Omega.{arith}
use lib.Dec.{leb, eqb}
use lib.ListN.{get_or}
use borrow.Author.Rules.{rules}
use Rattle.ranges.specs.Tests.{within, signed_within, only_bits}
use Rattle.wire.proofs.Made.{made}
use Rattle.ctl.proofs.tests_of.Goals as goal

-- the test of field k
abbrev test : List ℕ → ℕ → Bool
test ns k = cond (leb k 9) (within 0 100000 (get_or ns k 0)) (cond (eqb k 30) (only_bits 15 (get_or ns k 0)) (cond (eqb k 32) (signed_within 255 (get_or ns k 0)) true))

-- the index of a call hides c, behind which stand all 33 of them
pub returns : goal.returns
returns c = made _ _ (test c.args.ns.now) (λ c y q k. (grind arith, search rules)) _ 33 true c.from_fn.ensures.items
