-- `keyed::value_in` meets its contract: the iterator's place, from 0, of the first key that is the key. Assumes nothing.
use Rattle.std.proofs.Common.{rules, ◌≡◌, ◌∙◌, sym, take, arith}
use Rattle.std.specs.Prelude.{None, Some}
use Rattle.std.proofs.lemmas.Iterator.{IsFirst-from_position, YieldsList-from_slice}
use Rattle.std.proofs.lemmas.List.{get_or_default, length-take}
use borrow.Author.Tests.{tests}
use Rattle.keyed.proofs.Values.{PlaceOf, value_none, value_here, value_cut}
use Rattle.keyed.proofs.value_in.Goals as goal

pub returns-in-Some : goal.returns-in-Some
returns-in-Some c =
    let a = c.args in
    let keys = take c.min.result a.keys.now in
    let found : PlaceOf a.key keys (Some c.in-Some.place) =
    IsFirst-from_position _ _ (Some c.in-Some.place) (λ x. a.key ≡ x) (λ x. a.key ≡ x → ⊥) c.in-Some.ensures.ran (YieldsList-from_slice keys cc) (λ x q e. search (rules, tests)) (λ x q e. search (rules, tests)) in
    get_or_default a.values.now c.in-Some.place 0 a.none (omega (arith, found.0, length-take c.min.result a.keys.now, c.min.ensures))
    ∙ sym (value_here a.key a.none keys a.values.now c.in-Some.place found.0 found.1 found.2)
    ∙ value_cut a.key a.none c.min.result a.keys.now a.values.now (omega (arith, c.min.ensures))

pub returns-in-None : goal.returns-in-None
returns-in-None c =
    let a = c.args in
    let keys = take c.min.result a.keys.now in
    let found : PlaceOf a.key keys None =
    IsFirst-from_position _ _ None (λ x. a.key ≡ x) (λ x. a.key ≡ x → ⊥) c.in-None.ensures.ran (YieldsList-from_slice keys cc) (λ x q e. search (rules, tests)) (λ x q e. search (rules, tests)) in
    sym (value_none a.key a.none keys a.values.now found) ∙ value_cut a.key a.none c.min.result a.keys.now a.values.now (omega (arith, c.min.ensures))
