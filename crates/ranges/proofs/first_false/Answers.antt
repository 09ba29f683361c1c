-- `ranges::first_false` meets its contract: the iterator's place, from 0, of the first that did not pass. Assumes nothing.
use Rattle.std.proofs.Common.{rules, ◌≡◌, ◌∙◌, ◌+◌, false, true}
use Rattle.std.specs.Option.{option_map}
use Rattle.std.proofs.lemmas.Iterator.{IsFirst-from_position, YieldsList-from_slice}
use borrow.Author.Tests.{tests}
use Rattle.ranges.proofs.Tests.{first_found}
use Rattle.ranges.proofs.first_false.Goals as goal

pub returns : goal.returns
returns c =
    let first = IsFirst-from_position _ _ c.position.result (λ x. x ≡ false) (λ x. x ≡ true) c.position.ensures.ran (YieldsList-from_slice c.args.tests.now cc) (λ x q k. search (rules, tests)) (λ x q k. search (rules, tests)) in
    let next : c.map.result ≡ option_map (λ k. k + 1) c.position.result = search rules in
    next ∙ first_found c.args.tests.now c.position.result first
