-- `ctl::Ctl::numbers` meets its contract: the arrays and the other fields, laid one behind the other. Assumes nothing.
use mathlib.Core.Path.{◌≡◌, refl, sym, ◌∙◌, subst}
use mathlib.Core.List.{List, [], ◌∷◌, ◌++◌}
use Prim.Native.Nat.{ℕ}
use lib.ListN.{length, get_or, set, replicate}
use Rattle.std.proofs.lemmas.List.FromFn.{fill_by_all}
use mir.Syntax.{w16, w32}
use mir.Val.{of_z}
use borrow.Author.Rules.{rules}
use borrow.Rule.Slice.PartMut.{put_mid}
use Rattle.wire.proofs.Made.{mapped}
use Rattle.ctl.proofs.Ctl.numbers.Goals as goal

-- all 33 places are filled
abbrev Whole : ℕ → ℕ → ℕ → ℕ → List ℕ × List ℕ × List ℕ → Type 0
Whole x y z u (a, b, d) =
    set (set (set (set (put_mid 20 9 (put_mid 10 10 (put_mid 0 10 (replicate 33 0) a) b) d) 29 x) 30 y) 31 z) 32 u ≡ a ++ b ++ d ++ x ∷ y ∷ z ∷ u ∷ []

whole : (a b d : List ℕ) (x y z u : ℕ) → length a ≡ 10 → length b ≡ 10 → length d ≡ 9 → Whole x y z u (a, b, d)
whole a b d x y z u p q r =
    subst (Whole x y z u) (λ i. (
      sym (fill_by_all (λ k. get_or a k 0) a 10 0 p (λ k h. refl)) i,
      sym (fill_by_all (λ k. get_or b k 0) b 10 0 q (λ k h. refl)) i,
      sym (fill_by_all (λ k. get_or d k 0) d 9 0 r (λ k h. refl)) i,
    )) refl

pub returns : goal.returns
returns c =
    let b = c.args.self in
    let speeds : length b.maxSpeed ≡ 10 = search rules in
    let parts : length b.uMaxSpeed ≡ 10 = search rules in
    let times : length b.timeout ≡ 9 = search rules in
    let first : c.copy_from_slice.new.self ≡ b.maxSpeed = c.copy_from_slice.ensures.after ∙ mapped _ b.maxSpeed _ c.map.ensures.items speeds (λ p x y q k. search rules) in
    let second : c.copy_from_slice-2.new.self ≡ b.uMaxSpeed = c.copy_from_slice-2.ensures.after ∙ mapped _ b.uMaxSpeed _ c.map-2.ensures.items parts (λ p x y q k. search rules) in
    let third : c.copy_from_slice-3.new.self ≡ b.timeout = c.copy_from_slice-3.ensures.after ∙ mapped _ b.timeout _ c.map-3.ensures.items times (λ p x y q k. search rules) in
    let clicks : c.number.result ≡ b.maxClickTime = search rules in
    let flags : c.number-2.result ≡ b.flags = search rules in
    let shift : c.number-3.result ≡ of_z w32 b.deltaPosition = search rules in
    let micro : c.number-4.result ≡ of_z w16 b.uDeltaPosition = search rules in
    (λ i. set (set (set (set (put_mid 20 9 (put_mid 10 10 (put_mid 0 10 (replicate 33 0) (first i)) (second i)) (third i)) 29 (clicks i)) 30 (flags i)) 31 (shift i)) 32 (micro i))
    ∙ whole b.maxSpeed b.uMaxSpeed b.timeout b.maxClickTime b.flags (of_z w32 b.deltaPosition) (of_z w16 b.uDeltaPosition) speeds parts times
