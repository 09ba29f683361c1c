-- The turns of the loop over a line, each a law over plain variables: by the rule's laws of units. Assumes nothing.
use mathlib.Core.Path.{◌≡◌, refl, ap, sym, ◌∙◌}
use mathlib.Core.Bool.{cond, not}
use mathlib.Core.List.{List, [], ◌∷◌, ◌++◌}
use Prim.Native.Nat.{ℕ, ◌+◌, ◌-◌, ◌≤◌, ◌<◌}
use native.Mathlib.Nat.{sub-zero, add-zero}
use native.Mathlib.Omega.{arith}
use lib.ListN.{length, get_or, take, drop, length-append, length-drop, take-append-drop, drop_of_length-le}
use lib.Seq.{sets, length-take-le, take_all, get_or-drop, drop-drop}
use borrow.Rule.Slice.PartMut.{mid_of, put_mid}
use Rattle.wire.specs.Numbers.{le_at}
use Rattle.wire.proofs.Numbers.{le_at_drop}
use Rattle.sheet.specs.Lengths.{longest_frame}
use Rattle.rule.specs.Framing.{whole}
use Rattle.rule.specs.Rule.{Said, state_at}
use Rattle.rule.specs.Calls.{Called, accept}
use Rattle.rule.proofs.Loop.{later, over, later_start, later_end}
use Rattle.rule.proofs.Units.{unit_open, unit_full, unit_turn, unit_stop}
use Rattle.orders.specs.Orders.{given}
use Rattle.orders.specs.contracts.OrderPartialEq.TheImpl as same
use Rattle.names.specs.Names.{kind_from, kind_at, span, replied, need}
use Rattle.orders.specs.declared.Order.{Order}
use Rattle.orders.specs.declared.Order.TheVariants.{Nothing}
use Rattle.names.specs.declared.Kind.{Kind}
use Rattle.names.proofs.Lengths.{span_some, span_most}
use Rattle.names.proofs.Need.{need_law, kind_short, kind_fits, kind_front}
use Rattle.unit.specs.Unit.{act, does, order_of, Outcome, Judges}
use Rattle.unit.specs.Protocol.{protocol}
use Rattle.unit.specs.declared.Memory.{Memory}
use Rattle.unit.proofs.Replies.{act_kind, does_length, act_order}
use Rattle.state.specs.Returned.{Returned}
use Rattle.state.specs.Call.{Call}
use Rattle.line.specs.Line.{ran, holding}
use Rattle.line.proofs.Replies.{Written, written_at, lent_back}

-- THE INVARIANT. The whole call is c, at the stamp t: i bytes of the line are taken, all in whole units, w bytes are written, m is the memory that
-- the units left, none of them gave an order, and the call from there on what is left is still to come
pub record Inv (c : Called Order Memory) (t : ℕ) (line reply₀ reply : List ℕ) (m : Memory) (i w : ℕ) : Type 0 where
  pub same : c ≡ later protocol i (take w reply) (state_at m [] t) t (length reply₀ - w) (drop i line)
  pub at : i ≤ length line
  pub room : w ≤ length reply₀
  pub long : length reply ≡ length reply₀
  pub rest : drop w reply ≡ drop w reply₀

-- what the code has looked up of the unit in front: its kind, and its length n
pub record Looked (line : List ℕ) (i n : ℕ) (kind : Kind) : Type 0 where
  pub looked : kind ≡ kind_at (drop i line)
  pub spans : n ≡ span kind

-- first byte and name are read where the unit stands
looked_at : (line : List ℕ) (i name : ℕ) (kind : Kind) → name ≡ le_at 4 i line → kind ≡ kind_from (get_or line i 0) name → kind ≡ kind_at (drop i line)
looked_at line i name kind e f = f ∙ rw (e, get_or-drop i line 0 0, le_at_drop 4 0 i line, add-zero i)

pub looks : (line : List ℕ) (i name n : ℕ) (kind : Kind) → name ≡ le_at 4 i line → kind ≡ kind_from (get_or line i 0) name → n ≡ span kind → Looked line i n kind
looks line i name n kind e f g = record { looked = looked_at line i name kind e f; spans = g }

module _ {line : List ℕ} {i n : ℕ} {kind : Kind} (it : Looked line i n kind) where
  pub some : 0 < n
  some = omega (arith, it.spans, span_some kind)

  pub most : n ≤ longest_frame
  most = omega (arith, it.spans, span_most kind)

-- a call that is over, as the code answers it
ran_over : (c : Called Order Memory) (k w t : ℕ) (out before after u : List ℕ) (os : List Order) (m : Memory) (o : Order) (r : Call)
    → c ≡ over k out os (state_at m u t) → length out ≡ w → o ≡ order_of os → after ≡ out ++ drop w before
    → r ≡ holding m o t u k w → Returned ran c before r after
ran_over c k w t out before after u os m o r e l p f g = rw e (record { result = g ∙ (λ i. holding m (p i) t u k (sym l i)); reply = rw l f })

-- the orders that an order of an answer stands for, by the code's test of it
pub tells : (o : Order) → given o ≡ cond (not (same.ghosts.eq o Nothing)) (o ∷ []) []
tells o = grind arith

pub starts : (m : Memory) (t : ℕ) (line reply : List ℕ)
    → Inv (accept protocol (state_at m [] t) t (length reply) line) t line reply reply m 0 0
starts m t line reply =
    record {
      same = rw (sub-zero (length reply)) (later_start protocol (state_at m [] t) t (length reply) line);
      at = omega arith;
      room = omega arith;
      long = refl;
      rest = refl;
    }

module _ (c : Called Order Memory) (t : ℕ) (line reply₀ reply : List ℕ) (m : Memory) (i w : ℕ) (inv : Inv c t line reply₀ reply m i w) where
  abbrev d : List ℕ
  d = drop i line

  left_long : length d ≡ length line - i
  left_long = length-drop i line

  -- nothing is written further
  stops : (k : ℕ) (u : List ℕ) (r : Call) → c ≡ over k (take w reply) [] (state_at m u t) → r ≡ holding m Nothing t u k w → Returned ran c reply₀ r reply
  stops k u r e f =
      ran_over c k w t (take w reply) reply₀ reply u [] m Nothing r e (length-take-le w reply (omega (arith, inv.room, inv.long))) refl
      (rw (← inv.rest) (sym (take-append-drop w reply))) f

  -- no byte is left
  pub ends : (r : Call) → length line ≤ i → r ≡ holding m Nothing t [] i w → Returned ran c reply₀ r reply
  ends r h f =
      stops i [] r (inv.same ∙ rw (drop_of_length-le line {i = i} h) (later_end protocol i (take w reply) (state_at m [] t) t (length reply₀ - w))) f

  module _ (inside : i < length line) (n : ℕ) (kind : Kind) (it : Looked line i n kind) where
    span_is : span (kind_at d) ≡ n
    span_is = ap span (sym it.looked) ∙ sym it.spans

    -- what is left is no whole unit
    pub unfinished : (r : Call) → length line - i < n → r ≡ holding m Nothing t (take (length line - i) d) (length line) w → Returned ran c reply₀ r reply
    unfinished r h f =
        let all : take (length line - i) d ≡ d = take_all (length line - i) d (omega (arith, left_long)) in
        let k : i + length d ≡ length line = omega (arith, left_long, inv.at) in
        let short = kind_short d (omega (arith, left_long)) (omega (arith, span_is, left_long)) in
        stops (length line) d r (inv.same ∙ unit_open protocol need_law i (take w reply) m t (length reply₀ - w) d short ∙ rw k) (f ∙ rw all)

    -- a whole unit stands in front
    module _ (fits : n ≤ length line - i) where
      there : n ≤ length d
      there = omega (arith, left_long)

      is : n ≡ need d
      is = sym span_is ∙ kind_fits d (omega (arith, span_is, there))

      abbrev u : List ℕ
      u = take n d

      abbrev done : Said Order Memory
      done = act m (whole u)

      done_is : done ≡ does m u kind
      done_is = act_kind m u kind (ap (λ (k : ℕ). kind_at (take k d)) (sym span_is) ∙ kind_front d ∙ sym it.looked)

      module _ (due : ℕ) (told : due ≡ replied kind) where
        due_is : length done.reply ≡ due
        due_is = rw done_is (does_length m u kind) ∙ sym told

        -- its reply does not fit
        pub full : (r : Call) → length reply - w < due → r ≡ holding m Nothing t (take (i + n - 1 - i) d) (i + n - 1) w → Returned ran c reply₀ r reply
        full r h f =
            let k : i + n - 1 ≡ i + (n - 1) = omega (arith, some it) in
            let l : i + n - 1 - i ≡ n - 1 = omega (arith, some it) in
            stops (i + (n - 1)) (take (n - 1) d) r
            (inv.same ∙ unit_full protocol need_law i (take w reply) m t (length reply₀ - w) d n is there (omega (arith, inv.long, due_is))) (f ∙ rw (l, k))

        -- it is answered: its reply stands in the lent rest ys, and `next` has what it said
        module _ (room : due ≤ length reply - w) (next : Outcome) (ys : List ℕ) (j : Judges (does m (take (i + n - i) d) kind) (mid_of w (length reply - w) reply) next ys) where
          judged : Judges done (mid_of w (length reply - w) reply) next ys
          judged = let k : i + n - i ≡ n = omega arith in rw done_is (rw k at j)

          abbrev out : ℕ
          out = length done.reply

          abbrev back : List ℕ
          back = put_mid w (length reply - w) reply ys

          back_is : back ≡ sets reply w done.reply
          back_is = lent_back reply ys done.reply w judged.reply

          wrote : Written reply back done.reply w
          wrote = rw back_is (written_at reply done.reply w (omega (arith, inv.room, inv.long, due_is)))

          past_is : drop (w + out) back ≡ drop (w + out) reply₀
          past_is = wrote.past ∙ rw (← drop-drop out w reply, inv.rest, drop-drop)

          memory_is : next.memory ≡ done.next
          memory_is = ap (λ (y : Outcome). y.memory) judged.result

          -- the orders that it gave
          orders_are : given next.order ≡ done.orders
          orders_are = ap (λ (y : Outcome). given y.order) judged.result ∙ act_order m u

          pub back_long : length back ≡ length reply₀
          back_long = wrote.long ∙ inv.long

          -- it gave none, and the loop goes on
          pub goes : given next.order ≡ [] → Inv c t line reply₀ back next.memory (i + n) (w + due)
          goes h =
              let k : length reply₀ - w - out ≡ length reply₀ - (w + out) = omega arith in
              let os : done.orders ≡ [] = sym orders_are ∙ h in
              rw (← due_is)
              (record {
                same =
                    inv.same
                    ∙ unit_turn protocol need_law i (take w reply) m t (length reply₀ - w) d n is there (omega (arith, inv.long, due_is)) os
                    ∙ rw (k, ← wrote.front, drop-drop, ← memory_is);
                at = omega (arith, left_long, inv.at);
                room = omega (arith, inv.room, inv.long, due_is);
                long = back_long;
                rest = past_is;
              })

          -- it gave one, and the call is over
          pub gives : given next.order ≡ next.order ∷ [] → (r : Call)
              → r ≡ holding next.memory next.order t [] (i + n) (w + due) → Returned ran c reply₀ r back
          gives h r f =
              let o = next.order in
              let os : done.orders ≡ o ∷ [] = sym orders_are ∙ h in
              ran_over c (i + n) (w + out) t (take w reply ++ done.reply) reply₀ back [] done.orders next.memory o r
              (inv.same
              ∙ unit_stop protocol need_law i (take w reply) m t (length reply₀ - w) d n is there (omega (arith, inv.long, due_is)) o [] os
              ∙ rw (← memory_is))
              (rw (length-append, length-take-le w reply (omega (arith, inv.room, inv.long)))) (rw os)
              (sym (take-append-drop (w + out) back) ∙ rw (wrote.front, past_is)) (f ∙ rw due_is)
