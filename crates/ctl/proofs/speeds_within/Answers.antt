-- `ctl::speeds_within` meets its contract: the tests of the speeds before each, gathered. Assumes nothing.
use mathlib.Core.Path.{◌≡◌, refl, sym, ap, ◌∙◌}
use mathlib.Core.Bool.{Bool, ◌&&◌, true}
use mathlib.Core.List.{List, [], ◌∷◌, ◌++◌, map, append_assoc}
use Prim.Native.Nat.{ℕ, ◌*◌}
use lib.Dec.{eqb}
use borrow.Author.Rules.{rules}
use Rattle.std.specs.List.{range_with_len}
use Rattle.std.proofs.iter.Yields.{nat_range_steps}
use Rattle.std.proofs.lemmas.Fn.{fold_over}
use Rattle.std.proofs.lemmas.Iterator.{YieldsList-from_range}
use Rattle.wire.specs.Numbers.{le_at}
use Rattle.ranges.specs.Tests.{within, first_false}
use Rattle.ranges.proofs.Tests.{and_true}
use Rattle.sheet.proofs.Sections.{all_then, and_assoc, first_none}
use Rattle.ctl.proofs.speeds_within.Goals as goal

pub returns : goal.returns
returns c =
    let t = λ (k : ℕ). within 0 100000 (le_at 4 (4 * k) c.args.part.now) in
    let all = λ (ks : List ℕ). all_then (map t ks) true in
    let ks = range_with_len 0 10 in
    and_true c.fold.result
    ∙ fold_over nat_range_steps (λ k. k) _ (λ ks b. (rest : List ℕ) → (b && all rest) ≡ all (ks ++ rest)) _
    (λ ks a k b f h call. (
      λ rest. let e : b ≡ (a && t k) = search rules in
          ap (λ (d : Bool). d && all rest) e ∙ and_assoc a (t k) (all rest) ∙ h (k ∷ rest) ∙ ap all (sym (append_assoc ks (k ∷ []) rest)),
      search rules,
    ))
    (record { start = 0; end = 10 }) ks true _ (YieldsList-from_range 0 10 10 refl refl).runs (λ rest. refl) c.fold.ensures.ran []
    ∙ sym (first_none 0 (map t ks) true) ∙ sym (and_true (eqb (first_false 1 (map t ks)) 0))
