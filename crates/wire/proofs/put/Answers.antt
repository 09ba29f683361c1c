use Rattle.std.proofs.Common.{◌≡◌, ◌∙◌, refl, sym, ap, ℕ, ◌+◌, ◌-◌, ◌/◌, ◌%◌, ◌<◌, ◌≤◌, List, length, take, drop, set, arith, length-drop}
use Rattle.std.proofs.lemmas.List.Edits.{sets}
use lib.Seq.{length-take-le}
use borrow.Rule.Slice.PartMut.{put_mid}
use Rattle.wire.specs.Numbers.{le_bytes}
use Rattle.wire.proofs.Numbers.{length_le_bytes}
use Rattle.wire.proofs.Stores.{put_step, stored, take_le_bytes}
use Rattle.wire.proofs.Runs.{sets_whole}
use Rattle.wire.proofs.put.Goals as goal

step : (s t : List ℕ) (k n x : ℕ) → k < n → sets s k (le_bytes (n - k) x) ≡ t → sets (set s k (x % 256)) (k + 1) (le_bytes (n - (k + 1)) (x / 256)) ≡ t
step s t k n x h e = let m : n - (k + 1) ≡ n - k - 1 = omega arith in rw m (sym (put_step s k (n - k) x (omega arith)) ∙ e)

whole : (s s₀ : List ℕ) (k n v x : ℕ) → length s₀ ≡ n → n ≤ k → sets s k (le_bytes (n - k) x) ≡ sets s₀ 0 (le_bytes n v) → s ≡ le_bytes n v
unfolding le_bytes
whole s s₀ k n v x l h e = let z : n - k ≡ 0 = omega arith in rw z at e ∙ sets_whole s₀ (le_bytes n v) (length_le_bytes n v ∙ sym l)

pub loop-place-preserved : goal.loop-place-preserved
loop-place-preserved c = step c.loop-place.place-items _ c.loop-place.place-index _ c.loop-place.x c.loop-place-test.true c.loop-place.invariant

pub returns : goal.returns
returns c =
    let a = c.args in
    let l = c.loop-place in
    let n = c.min-n.result in
    let d : a.at + n - a.at ≡ n = omega arith in
    let long : length (take (a.at + n - a.at) (drop a.at a.out.now)) ≡ n = rw d (length-take-le n (drop a.at a.out.now) (rw length-drop (omega (arith, c.min-n.ensures)))) in
    let bytes = whole l.place-items _ l.place-index _ a.v l.x refl c.loop-place-test.false l.invariant in
    rw d (
    ap (put_mid a.at n a.out.now) (bytes ∙ ap (λ (k : ℕ). le_bytes k a.v) long ∙ sym (take_le_bytes n a.w a.v (omega (arith, c.min-n.ensures))))
    ∙ stored a.out.now (le_bytes a.w a.v) a.at n (omega arith) (c.min-n.ensures ∙ rw length_le_bytes)
    )
