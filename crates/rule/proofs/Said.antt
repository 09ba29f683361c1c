-- What is said, put one behind the other: nothing changes nothing, and how it is bracketed does not matter.
use mathlib.Core.Path.{◌≡◌, refl, ap, sym, ◌∙◌}
use mathlib.Core.List.{List, [], ◌∷◌, ◌++◌, append_assoc, append-nil}
use Rattle.rule.specs.Framing.{Token}
use Rattle.rule.specs.Rule.{Said, quiet, then, Protocol, deal}

module _ {O M : Type 0} where
  pub then_quiet : (a : Said O M) → then a (quiet a.next) ≡ a
  then_quiet a = λ i. record { reply = append-nil a.reply i; orders = append-nil a.orders i; next = a.next }

  pub then_then : (a b c : Said O M) → then (then a b) c ≡ then a (then b c)
  then_then a b c =
      λ i.
      record {
        reply = append_assoc a.reply b.reply c.reply i;
        orders = append_assoc a.orders b.orders c.orders i;
        next = c.next;
      }

module _ {E O M : Type 0} (p : Protocol E O M) where
  pub deal_append : (ks ls : List (Token E)) (m : M) → deal p m (ks ++ ls) ≡ then (deal p m ks) (deal p (deal p m ks).next ls)
  unfolding deal
  deal_append [] ls m = refl
  deal_append (k ∷ ks) ls m =
      let a = p.act m k in
      let b = deal p a.next ks in
      ap (then a) (deal_append ks ls a.next) ∙ sym (then_then a b (deal p b.next ls))
