-- What a write took stands behind what was written before it. Assumes nothing.
use Rattle.std.proofs.Common.{◌≡◌, ℕ, ◌+◌, ◌-◌, ◌≤◌, List, ◌++◌, arith, length, take, drop, length-drop, take_all, sym, ap, ◌∙◌, subst}
use lib.Seq.{take-add, drop-drop}
use Rattle.std.specs.Io.KnownBytes.{Appends}
use Rattle.std.proofs.KnownBytes.{Appends-trans}
use Rattle.streams.proofs.say.Goals as goal

-- of a text whose end is left, n more bytes are taken
module _ (text rest : List ℕ) (n : ℕ) (is : rest ≡ drop (length text - length rest) text) (fits : n ≤ length rest) where
  abbrev done : ℕ
  done = length text - length rest

  abbrev left : List ℕ
  left = take (length rest - n) (drop n rest)

  is_all : left ≡ drop n rest
  is_all = take_all _ _ (omega (arith, length-drop n rest))

  count : length text - length left ≡ done + n
  count = omega (arith, ap length is_all, length-drop n rest, ap length is, length-drop done text)

  behind : left ≡ drop (length text - length left) text
  behind = is_all ∙ ap (drop n) is ∙ drop-drop n done text ∙ ap (λ k. drop k text) (sym count)

  joined : take done text ++ take n rest ≡ take (length text - length left) text
  joined = ap (λ l. take done text ++ take n l) is ∙ sym (take-add done n text) ∙ ap (λ k. take k text) (sym count)

pub loop-rest-preserved : goal.loop-rest-preserved
loop-rest-preserved g c =
    let text = c.args.text.now in
    let l = c.loop-rest in
    let wrote = c.in_ok-n.ensures in (
      behind text l.rest.now c.in_ok-n.n l.invariant.0 wrote.bound,
      subst (Appends _ _) (joined text l.rest.now c.in_ok-n.n l.invariant.0 wrote.bound) (Appends-trans _ _ _ _ _ l.invariant.1 wrote.bytes),
    )
