-- The reader's answers: each slice gets one, and which it is, for each way through its tests. Assumes nothing.
use Rattle.std.specs.Prelude.{Option, Some, None, Result, Ok, Err}
use mathlib.Core.Path.{◌≡◌, refl, sym, ap, ◌∙◌}
use mathlib.Core.Bool.{Bool, true, false, cond}
use mathlib.Core.List.{List, [], ◌∷◌}
use Prim.Native.Nat.{ℕ, ◌≤◌, ◌<◌}
use native.Mathlib.Omega.{arith}
use lib.Dec.{eqb, ltb}
use lib.ListN.{length, get_or, take}
use borrow.Author.Tests.{eq-eqb, ne_eqb, lt-ltb, le-ltb}
use Rattle.wire.specs.Numbers.{le_at}
use Rattle.sheet.specs.Names.{named}
use Rattle.sheet.specs.Rows.{total}
use Rattle.frame.specs.Frame.{data_in, intact}
use Rattle.host.specs.Names.{row_of, block_at, order_at, set_named, get_named, order_named}
use Rattle.fields.specs.Fields.{fields_in}
use Rattle.answer.specs.Answer.{FirstRead, read_as, answer_of, refused_read, error_answer, order_else, order_answer, set_else, lettered_answer, data_answer, data_else, named_answer, first_answer}
use Rattle.host.specs.declared.Block.{Block}
use Rattle.host.specs.declared.Order.{Order}
use Rattle.answer.specs.declared.Answer.TheVariants.{Zero, SetEcho, OrderEcho, Data, Errc, Errd, Errv}
use Rattle.answer.specs.declared.Reading.{Reading}
use Rattle.answer.specs.declared.Unread.{Unread}
use Rattle.answer.specs.declared.Unread.TheVariants.{NoName, NoAnswer, Cut, Damaged}

-- ---- by the first byte

module _ (s : List ℕ) where
  pub first_none : length s ≡ 0 → first_answer s ≡ refused_read 5
  unfolding first_answer
  first_none e = by s e
    where
      by : (l : List ℕ) → length l ≡ 0 → first_answer l ≡ refused_read 5
      by [] h = refl
      by (b ∷ l) h = absurd (omega arith)

  pub first_zero : 0 < length s → get_or s 0 0 ≡ 0 → first_answer s ≡ answer_of 1 Zero
  unfolding first_answer
  first_zero e z = by s e z
    where
      by : (l : List ℕ) → 0 < length l → get_or l 0 0 ≡ 0 → first_answer l ≡ answer_of 1 Zero
      by [] h z = absurd (omega arith)
      by (b ∷ l) h z = rw (eq-eqb b 0 z)

  pub first_named : (get_or s 0 0 ≡ 0 → ⊥) → first_answer s ≡ named_answer s
  unfolding first_answer
  first_named n = by s n
    where
      by : (l : List ℕ) → (get_or l 0 0 ≡ 0 → ⊥) → first_answer l ≡ named_answer l
      by [] n = absurd (n refl)
      by (b ∷ l) n = rw (ne_eqb b 0 n)

  -- ---- by the name

  pub named_short : length s < 4 → named_answer s ≡ refused_read 5
  unfolding named_answer
  named_short h = rw (lt-ltb (length s) 4 h)

  pub named_as : 4 ≤ length s → named_answer s ≡ data_else (block_at (get_named (le_at 4 0 s))) s (lettered_answer (le_at 4 0 s))
  unfolding named_answer
  named_as h = rw (le-ltb (length s) 4 h)

  -- ---- a get's answer

  module _ (b : Block) where
    abbrev u : List ℕ
    u = take (total (row_of b)) s

    module _ (long : total (row_of b) ≤ length s) where
      pub data_taken : intact u ≡ true → data_answer b s ≡ answer_of (total (row_of b)) (Data (fields_in b (data_in u)))
      unfolding data_answer
      data_taken e = rw (le-ltb (length s) (total (row_of b)) long, e)

-- ---- a name of a get, or four letters: n as it was read of s

module _ (s : List ℕ) (start : get_or s 0 0 ≡ 0 → ⊥) (long : 4 ≤ length s) (n : ℕ) (is : n ≡ le_at 4 0 s) where
  pub gets_as : (f : Option Block) → f ≡ block_at (get_named n) → (x : FirstRead) → x ≡ data_else f s (lettered_answer n) → x ≡ first_answer s
  gets_as f found x h =
      h ∙ ap (λ (y : Option Block). data_else y s (lettered_answer n)) found
      ∙ ap (λ (m : ℕ). data_else (block_at (get_named m)) s (lettered_answer m)) is ∙ sym (first_named s start ∙ named_as s long)

-- ---- every slice gets an answer

abbrev Told : FirstRead → Type 0
Told f = (r : Result Reading Unread) × (read_as r ≡ f)

either : (b : Bool) (f g : FirstRead) → Told f → Told g → Told (cond b f g)
either true f g x y = x
either false f g x y = y

error_some : (n : ℕ) → Told (error_answer n)
unfolding error_answer
error_some n =
    either (eqb n (named "errc")) _ _ (Ok (record { size = 4; answer = Errc }), refl)
    (either (eqb n (named "errd")) _ _ (Ok (record { size = 4; answer = Errd }), refl)
    (either (eqb n (named "errv")) _ _ (Ok (record { size = 4; answer = Errv }), refl)
    (Err NoAnswer, refl)))

order_some : (f : Option Order) (e : FirstRead) → Told e → Told (order_else f e)
order_some (Some o) e x = (Ok (record { size = 4; answer = OrderEcho o }), refl)
order_some None e x = x

set_some : (f : Option Block) (e : FirstRead) → Told e → Told (set_else f e)
set_some (Some b) e x = (Ok (record { size = 4; answer = SetEcho b }), refl)
set_some None e x = x

letters_some : (n : ℕ) → Told (lettered_answer n)
unfolding lettered_answer order_answer
letters_some n = set_some (block_at (set_named n)) _ (order_some (order_at (order_named n)) _ (error_some n))

data_some : (b : Block) (s : List ℕ) → Told (data_answer b s)
unfolding data_answer
data_some b s =
    let n = total (row_of b) in
    either (ltb (length s) n) _ _ (Err Cut, refl) (either (intact (take n s)) _ _ (Ok (record { size = n; answer = Data (fields_in b (data_in (take n s))) }), refl) (Err Damaged, refl))

data_else_some : (f : Option Block) (s : List ℕ) (e : FirstRead) → Told e → Told (data_else f s e)
data_else_some (Some b) s e x = data_some b s
data_else_some None s e x = x

named_some : (s : List ℕ) → Told (named_answer s)
unfolding named_answer
named_some s =
    let n = le_at 4 0 s in
    either (ltb (length s) 4) _ _ (Err NoName, refl) (data_else_some (block_at (get_named n)) s _ (letters_some n))

pub first_some : (s : List ℕ) → (r : Result Reading Unread) × (read_as r ≡ first_answer s)
unfolding first_answer
first_some [] = (Err NoName, refl)
first_some (b ∷ s) = either (eqb b 0) _ _ (Ok (record { size = 1; answer = Zero }), refl) (named_some (b ∷ s))
