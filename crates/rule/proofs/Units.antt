-- What a loop over the whole units of a line needs of `accept`: the line is the bytes held with the piece behind them, and from its front, with
-- nothing unfinished, `later` goes on unit by unit.
use Prim.Native.Nat.{ℕ, suc, ◌+◌, ◌-◌, ◌<◌, ◌≤◌}
use mathlib.Core.Path.{◌≡◌, refl, ap, sym, subst, ◌∙◌}
use mathlib.Core.Bool.{Bool, true, false}
use mathlib.Core.List.{List, [], ◌∷◌, ◌++◌, append_assoc}
use native.Mathlib.Omega.{arith}
use native.Mathlib.Nat.{zero-add}
use lib.Dec.{leb}
use lib.ListN.{length, get_or, take, drop, length-take, take-append-drop}
use lib.Seq.{length-take-le, take-length, drop-length, take-suc, drop-cons}
use borrow.Author.Tests.{leb-true, leb-false}
use Rattle.rule.specs.Run.{byte}
use Rattle.rule.specs.Framing.{Needs, whole}
use Rattle.rule.specs.Rule.{Said, with_line, Protocol, state_at}
use Rattle.rule.specs.Step.{step}
use Rattle.rule.specs.Calls.{Called, accept}
use Rattle.rule.proofs.Loop.{later, over, step_ends, later_start, later_end, later_full, later_turn, later_stop, later_joins}

module _ {need : List ℕ → ℕ} (law : Needs need) where
  -- a beginning that is shorter than the first unit is unfinished
  early : (v w : List ℕ) → length v < need (v ++ w) → length v < need v
  early v w h = by (leb (need v) (length v)) refl
    where
      by : (b : Bool) → leb (need v) (length v) ≡ b → length v < need v
      by true e = let l = leb-true (need v) (length v) e in omega (arith, law.settled v w l)
      by false e = leb-false (need v) (length v) e

  -- so is each beginning of it
  early_all : (d : List ℕ) (k : ℕ) → k < need d → (j : ℕ) → j < length (take k d) → length (take (suc j) (take k d)) < need (take (suc j) (take k d))
  early_all d k h j l =
      let v = take (suc j) (take k d) in
      let w = drop (suc j) (take k d) ++ drop k d in
      let e : v ++ w ≡ d = sym (append_assoc v (drop (suc j) (take k d)) (drop k d)) ∙ rw (take-append-drop (suc j) (take k d)) (take-append-drop k d) in
      early v w (rw e (omega (arith, length-take (suc j) (take k d), length-take k d)))

  -- as many bytes as the unit needs are the whole of it
  whole_front : (d : List ℕ) (n : ℕ) → n ≡ need d → n ≤ length d → need (take n d) ≤ length (take n d)
  whole_front d n e l = by (leb (need (take n d)) (length (take n d))) refl
    where
      by : (b : Bool) → leb (need (take n d)) (length (take n d)) ≡ b → need (take n d) ≤ length (take n d)
      by true q = leb-true (need (take n d)) (length (take n d)) q
      by false q =
          let h = law.pending (take n d) (drop n d) (leb-false (need (take n d)) (length (take n d)) q) in
          let g : length (take n d) < need d = rw (take-append-drop n d) at h in
          absurd (omega (arith, length-take-le n d l))

module _ {E O M : Type 0} (p : Protocol E O M) (law : Needs p.need) where
  -- the call on a piece behind the bytes held is the call on the line, less the bytes held
  pub on_line : (m : M) (u piece : List ℕ) (t room : ℕ) → length u < p.need u
      → accept p (state_at m [] t) t room (u ++ piece) ≡ later p (length u) [] (state_at m u t) t room piece
  on_line m u piece t room h =
      later_start p (state_at m [] t) t room (u ++ piece)
      ∙ later_joins p 0 [] m t room u piece [] (λ j l. rw (take-length u) at (early_all law u (length u) h j (rw (take-length u) l)))
      ∙ rw (zero-add (length u))

  module _ (i : ℕ) (out : List ℕ) (m : M) (t room : ℕ) (d : List ℕ) where
    abbrev all : Called O M
    all = later p i out (state_at m [] t) t room d

    -- k bytes that end no unit are held
    holds : (k : ℕ) → k ≤ length d → k < p.need d → all ≡ later p (i + k) out (state_at m (take k d) t) t room (drop k d)
    holds k l h =
        ap (λ (r : List ℕ). later p i out (state_at m [] t) t room r) (sym (take-append-drop k d))
        ∙ later_joins p i out m t room (take k d) (drop k d) [] (early_all law d k h)
        ∙ rw (length-take-le k d l)

    -- what is left is no whole unit
    pub unit_open : length d < p.need d → all ≡ over (i + length d) out [] (state_at m d t)
    unit_open h =
        holds (length d) (omega arith) h ∙ rw (take-length d, drop-length d) (later_end p (i + length d) out (state_at m d t) t room)

    -- a whole unit of n bytes stands in front, the last of them x
    module _ (n : ℕ) (is : n ≡ p.need d) (fits : n ≤ length d) where
      abbrev u : List ℕ
      u = take n d

      abbrev does : Said O M
      does = p.act m (whole u)

      abbrev x : ℕ
      x = get_or d (n - 1) 0

      some : 0 < n
      some = omega (arith, law.pending [] d law.starts)

      last : drop (n - 1) d ≡ x ∷ drop n d
      last = let e : suc (n - 1) ≡ n = omega (arith, some) in drop-cons d (n - 1) 0 (omega (arith, some)) ∙ rw e

      unit_is : take (n - 1) d ++ x ∷ [] ≡ u
      unit_is = let e : suc (n - 1) ≡ n = omega (arith, some) in sym (take-suc d (n - 1) 0 (omega (arith, some))) ∙ rw e

      -- its last byte says what the unit does
      says_unit : step p (state_at m (take (n - 1) d) t) (byte t x) ≡ with_line (record { unfinished = []; last = t }) does
      says_unit = step_ends p m (take (n - 1) d) t x (rw unit_is (whole_front law d n is fits)) ∙ rw unit_is

      but_one : all ≡ later p (i + (n - 1)) out (state_at m (take (n - 1) d) t) t room (x ∷ drop n d)
      but_one = holds (n - 1) (omega arith) (omega (arith, some)) ∙ rw last

      -- its reply does not fit: all but the last byte is held
      pub unit_full : room < length does.reply → all ≡ over (i + (n - 1)) out [] (state_at m (take (n - 1) d) t)
      unit_full h = but_one ∙ later_full p (i + (n - 1)) out (state_at m (take (n - 1) d) t) t room x (drop n d) (rw says_unit h)

      -- it is answered, and the call goes on behind it
      pub unit_turn : length does.reply ≤ room → does.orders ≡ []
          → all ≡ later p (i + n) (out ++ does.reply) (state_at does.next [] t) t (room - length does.reply) (drop n d)
      unit_turn h e =
          let k : i + (n - 1) + 1 ≡ i + n = omega (arith, some) in
          but_one ∙ later_turn p (i + (n - 1)) out (state_at m (take (n - 1) d) t) t room x (drop n d) (rw says_unit h) (rw says_unit e) ∙ rw (says_unit, k)

      -- or it gives an order, and the call is over
      pub unit_stop : length does.reply ≤ room → (o : O) (os : List O) → does.orders ≡ o ∷ os
          → all ≡ over (i + n) (out ++ does.reply) does.orders (state_at does.next [] t)
      unit_stop h o os e =
          let k : i + (n - 1) + 1 ≡ i + n = omega (arith, some) in
          but_one ∙ later_stop p (i + (n - 1)) out (state_at m (take (n - 1) d) t) t room x (drop n d) (rw says_unit h) o os (rw says_unit e) ∙ rw (says_unit, k)

  -- ONE WHOLE UNIT ALONE, where nothing is unfinished and its reply fits: it is taken whole, and the call says what the unit does
  module _ (m : M) (t room : ℕ) (d : List ℕ) (is : p.need d ≡ length d) where
    abbrev said : Said O M
    said = p.act m (whole d)

    -- all of it is its front
    all_front : p.act m (whole (take (length d) d)) ≡ said
    all_front = ap (λ (u : List ℕ). p.act m (whole u)) (take-length d)

    pub unit_alone : length said.reply ≤ room → accept p (state_at m [] t) t room d ≡ over (length d) said.reply said.orders (state_at said.next [] t)
    unit_alone fits = later_start p (state_at m [] t) t room d ∙ by said.orders refl
      where
        fits_front : length (p.act m (whole (take (length d) d))).reply ≤ room
        fits_front = subst (λ (a : Said O M). length a.reply ≤ room) (sym all_front) fits

        by : (os : List O) → said.orders ≡ os → later p 0 [] (state_at m [] t) t room d ≡ over (length d) said.reply said.orders (state_at said.next [] t)
        by [] e =
            unit_turn 0 [] m t room d (length d) (sym is) (omega arith) fits_front (ap (λ (a : Said O M). a.orders) all_front ∙ e)
            ∙ (λ i. later p (zero-add (length d) i) (all_front i).reply (state_at (all_front i).next [] t) t (room - length (all_front i).reply) (drop-length d i))
            ∙ later_end p (length d) said.reply (state_at said.next [] t) t (room - length said.reply)
            ∙ ap (λ (l : List O). over (length d) said.reply l (state_at said.next [] t)) (sym e)
        by (o ∷ os) e =
            unit_stop 0 [] m t room d (length d) (sym is) (omega arith) fits_front o os (ap (λ (a : Said O M). a.orders) all_front ∙ e)
            ∙ (λ i. over (zero-add (length d) i) (all_front i).reply (all_front i).orders (state_at (all_front i).next [] t))
