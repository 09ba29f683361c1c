-- What each verdict of the record reader says of the bytes, and that more bytes behind do not change it. Assumes nothing.
use mathlib.Core.Bool.{Bool, true, false, cond, not, ◌&&◌}
use mathlib.Core.List.{List, [], ◌∷◌, ◌++◌}
use mathlib.Core.Path.{◌≡◌, refl, sym, ap, subst, ◌∙◌}
use Prim.Native.Nat.{ℕ, ◌+◌, ◌-◌, ◌^◌, ◌≤◌, ◌<◌}
use native.Mathlib.Omega.{arith}
use borrow.Author.Tests.{ltb-true, ltb-false, lt-ltb, le-ltb, eqb-true, eqb-false, eq-eqb, ne_eqb}
use lib.Dec.{eqb, ltb}
use lib.ListN.{length, get_or, drop, replicate, length-append, length-drop, length-replicate, get_or-append, get_or-eq_default}
use lib.Seq.{get_or-append-add, get_or-drop}
use Rattle.std.specs.Prelude.{Result, Ok, Err}
use Rattle.wire.specs.Numbers.{le_at, le_bytes}
use Rattle.wire.proofs.Numbers.{le_at_same}
use Rattle.trace.specs.Record.{longest_record, wrong_at, head_of, reading, record_of}
use Rattle.trace.specs.declared.Head.{Head}
use Rattle.trace.specs.declared.NoRecord.{NoRecord}
use Rattle.trace.specs.declared.NoRecord.TheVariants.{More, Bad}

-- ---- the tests

-- another byte than b stands there
pub record Wrong (k b : ℕ) (s : List ℕ) : Type 0 where
  pub there : k < length s
  pub other : get_or s k 0 ≡ b → ⊥

-- if one stands there, it is b
abbrev pub Right : ℕ → ℕ → List ℕ → Type 0
Right k b s = k < length s → get_or s k 0 ≡ b

wrong : (k b : ℕ) (s : List ℕ) → wrong_at k b s ≡ true → Wrong k b s
unfolding wrong_at
wrong k b s e = split (ltb k (length s)) (eqb (get_or s k 0) b) refl refl e
  where
    split : (t u : Bool) → ltb k (length s) ≡ t → eqb (get_or s k 0) b ≡ u → (t && not u) ≡ true → Wrong k b s
    split true true p q h = absurd (cc)
    split true false p q h = record { there = ltb-true k (length s) p; other = eqb-false (get_or s k 0) b q }
    split false u p q h = absurd (cc)

right : (k b : ℕ) (s : List ℕ) → wrong_at k b s ≡ false → Right k b s
unfolding wrong_at
right k b s e h = eqb-true (get_or s k 0) b (split (eqb (get_or s k 0) b) (rw (lt-ltb k (length s) h) at e))
  where
    split : (u : Bool) → not u ≡ false → u ≡ true
    split true p = refl
    split false p = sym p

is_wrong : (k b : ℕ) (s : List ℕ) → Wrong k b s → wrong_at k b s ≡ true
unfolding wrong_at
is_wrong k b s w = rw (lt-ltb k (length s) w.there, ne_eqb (get_or s k 0) b w.other)

is_right : (k b : ℕ) (s : List ℕ) → Right k b s → wrong_at k b s ≡ false
unfolding wrong_at
is_right k b s h = split (ltb k (length s)) refl
  where
    split : (t : Bool) → ltb k (length s) ≡ t → (t && not (eqb (get_or s k 0) b)) ≡ false
    split true p = rw (eq-eqb (get_or s k 0) b (h (ltb-true k (length s) p)))
    split false p = refl

-- ---- the verdicts

-- the mark, as far as it stands there, and a count of at most 250, 0 where none stands there
pub record Begun (s : List ℕ) : Type 0 where
  pub first : Right 0 0x4c s
  pub second : Right 1 0x4b s
  pub few : (head_of s).count ≤ longest_record

-- the verdict and what it says of the bytes s: a wrong mark or a count over 250; a record cut; a whole record
pub data Seen (s : List ℕ) : Result Head NoRecord → Type 0 where
  first : Wrong 0 0x4c s → Seen s (Err Bad)
  second : Wrong 1 0x4b s → Seen s (Err Bad)
  many : longest_record < (head_of s).count → Seen s (Err Bad)
  cut : Begun s → length s < 7 + (head_of s).count → Seen s (Err More)
  whole : Begun s → 7 + (head_of s).count ≤ length s → Seen s (Ok (head_of s))

pub saw : (s : List ℕ) → Seen s (reading s)
unfolding reading
saw s = split (wrong_at 0 0x4c s) (wrong_at 1 0x4b s) (ltb longest_record (head_of s).count) (ltb (length s) (7 + (head_of s).count)) refl refl refl refl
  where
    split : (t u v w : Bool) → wrong_at 0 0x4c s ≡ t → wrong_at 1 0x4b s ≡ u → ltb longest_record (head_of s).count ≡ v → ltb (length s) (7 + (head_of s).count) ≡ w
        → Seen s (cond t (Err Bad) (cond u (Err Bad) (cond v (Err Bad) (cond w (Err More) (Ok (head_of s))))))
    split true u v w a b c d = first (wrong 0 0x4c s a)
    split false true v w a b c d = second (wrong 1 0x4b s b)
    split false false true w a b c d = many (ltb-true longest_record (head_of s).count c)
    split false false false true a b c d =
        cut (record { first = right 0 0x4c s a; second = right 1 0x4b s b; few = ltb-false longest_record (head_of s).count c }) (ltb-true (length s) (7 + (head_of s).count) d)
    split false false false false a b c d =
        whole (record { first = right 0 0x4c s a; second = right 1 0x4b s b; few = ltb-false longest_record (head_of s).count c }) (ltb-false (length s) (7 + (head_of s).count) d)

second_bad : (s : List ℕ) → wrong_at 1 0x4b s ≡ true → reading s ≡ Err Bad
unfolding reading
second_bad s e = split (wrong_at 0 0x4c s) refl
  where
    split : (t : Bool) → wrong_at 0 0x4c s ≡ t → cond t (Err Bad) (cond (wrong_at 1 0x4b s) (Err Bad) (cond (ltb longest_record (head_of s).count) (Err Bad) (cond (ltb (length s) (7 + (head_of s).count)) (Err More) (Ok (head_of s))))) ≡ Err Bad
    split true a = refl
    split false a = rw e

many_bad : (s : List ℕ) → longest_record < (head_of s).count → reading s ≡ Err Bad
unfolding reading
many_bad s h = split (wrong_at 0 0x4c s) (wrong_at 1 0x4b s)
  where
    split : (t u : Bool) → cond t (Err Bad) (cond u (Err Bad) (cond (ltb longest_record (head_of s).count) (Err Bad) (cond (ltb (length s) (7 + (head_of s).count)) (Err More) (Ok (head_of s))))) ≡ Err Bad
    split true u = refl
    split false true = refl
    split false false = rw (lt-ltb longest_record (head_of s).count h)

-- and no other bytes have that verdict
pub seen_is : {s : List ℕ} {r : Result Head NoRecord} → Seen s r → reading s ≡ r
unfolding reading
seen_is {s} (first w) = rw (is_wrong 0 0x4c s w)
seen_is {s} (second w) = second_bad s (is_wrong 1 0x4b s w)
seen_is {s} (many h) = many_bad s h
seen_is {s} (cut b h) =
    rw (is_right 0 0x4c s b.first, is_right 1 0x4b s b.second, le-ltb longest_record (head_of s).count b.few, lt-ltb (length s) (7 + (head_of s).count) h)
seen_is {s} (whole b h) =
    rw (is_right 0 0x4c s b.first, is_right 1 0x4b s b.second, le-ltb longest_record (head_of s).count b.few, le-ltb (length s) (7 + (head_of s).count) h)

-- ---- more bytes behind

-- a count that is not 0 stands there
counted : (p : List ℕ) → 0 < (head_of p).count → 7 ≤ length p
unfolding le_at
counted p h = split (ltb (length p) 7) refl
  where
    split : (t : Bool) → ltb (length p) 7 ≡ t → 7 ≤ length p
    split true e =
        let l : length p ≤ 6 = omega (arith, ltb-true (length p) 7 e) in
        absurd (omega (arith, get_or-eq_default p 0 l))
    split false e = ltb-false (length p) 7 e

module _ (p q : List ℕ) where
  there : (k : ℕ) → k < length p → get_or (p ++ q) k 0 ≡ get_or p k 0
  there k h = get_or-append p q 0 k h

  still_wrong : (k b : ℕ) → Wrong k b p → Wrong k b (p ++ q)
  still_wrong k b w = record { there = omega (arith, w.there, length-append p q); other = λ e. w.other (sym (there k w.there) ∙ e) }

  still_right : (k b : ℕ) → k < length p → Right k b p → Right k b (p ++ q)
  still_right k b h r g = there k h ∙ r h

  same_stamp : 7 ≤ length p → le_at 4 2 (p ++ q) ≡ le_at 4 2 p
  same_stamp h = le_at_same 4 2 (p ++ q) p (λ i a b. there i (omega arith))

  same_count : 7 ≤ length p → le_at 1 6 (p ++ q) ≡ le_at 1 6 p
  same_count h = le_at_same 1 6 (p ++ q) p (λ i a b. there i (omega arith))

  still_begun : 7 ≤ length p → Begun p → Begun (p ++ q)
  still_begun h b =
      record {
        first = still_right 0 0x4c (omega arith) b.first;
        second = still_right 1 0x4b (omega arith) b.second;
        few = rw (same_count h) b.few;
      }

  still : {r : Result Head NoRecord} → Seen p r → (r ≡ Err More → ⊥) → reading (p ++ q) ≡ r
  still (first w) n = seen_is (first (still_wrong 0 0x4c w))
  still (second w) n = seen_is (second (still_wrong 1 0x4b w))
  still (many h) n = seen_is (many (rw (same_count (counted p (omega arith))) h))
  still (cut b h) n = absurd (n refl)
  still (whole b h) n =
      let l : 7 ≤ length p = omega arith in
      let f : 7 + le_at 1 6 (p ++ q) ≤ length (p ++ q) = omega (arith, same_count l, length-append p q) in
      seen_is (whole (still_begun l b) f) ∙ ap Ok (λ i. record { stamp = same_stamp l i; count = same_count l i })

  -- a whole record and "Bad" are settled
  pub settled : (reading p ≡ Err More → ⊥) → reading (p ++ q) ≡ reading p
  settled n = still (saw p) n

-- ---- what a record is

-- a record's 7 bytes and those it counts stand in the part
pub record_fits : (s : List ℕ) (h : Head) → reading s ≡ Ok h → (7 + h.count ≤ length s) × (h.count ≤ longest_record)
record_fits s h e = of (subst (λ (r : Result Head NoRecord). Seen s r) e (saw s)) refl
  where
    of : {r : Result Head NoRecord} → Seen s r → r ≡ Ok h → (7 + h.count ≤ length s) × (h.count ≤ longest_record)
    of (first w) e = absurd (cc)
    of (second w) e = absurd (cc)
    of (many w) e = absurd (cc)
    of (cut b w) e = absurd (cc)
    of (whole b w) e =
        let d : head_of s ≡ h = cc in
        let n : (head_of s).count ≡ h.count = ap (λ (x : Head). x.count) d in
        (omega arith, omega (arith, b.few))

module _ (stamp : ℕ) (bytes rest : List ℕ) (small : stamp < 2 ^ 32) (few : length bytes ≤ longest_record) where
  stamp_is : le_at 4 2 (record_of stamp bytes ++ rest) ≡ stamp
  unfolding record_of le_bytes le_at
  stamp_is = omega arith

  count_is : le_at 1 6 (record_of stamp bytes ++ rest) ≡ length bytes
  unfolding record_of le_bytes le_at
  count_is = omega arith

  fits : 7 + length bytes ≤ length (record_of stamp bytes ++ rest)
  unfolding record_of le_bytes
  fits = omega (arith, length-append bytes rest)

  marked : Begun (record_of stamp bytes ++ rest)
  unfolding record_of
  marked = record { first = λ h. refl; second = λ h. refl; few = rw count_is few }

  -- a record as it is written is read, whatever stands behind
  pub record_read : reading (record_of stamp bytes ++ rest) ≡ Ok (record { stamp = stamp; count = length bytes })
  record_read =
      seen_is (whole marked (rw count_is fits)) ∙ ap Ok (λ i. record { stamp = stamp_is i; count = count_is i })

-- ---- what is cut

-- the bytes of t behind those that p has
behind : (p t : List ℕ) (k : ℕ) → length p ≤ k → get_or (p ++ drop (length p) t) k 0 ≡ get_or t k 0
behind p t k h =
    let e : length p + (k - length p) ≡ k = omega arith in
    rw (← e) (get_or-append-add p (drop (length p) t) (k - length p) 0 ∙ get_or-drop (length p) t (k - length p) 0)

-- each byte of p and then of t is b, if p's and t's are
joined : (p t : List ℕ) (k b : ℕ) → Right k b p → get_or t k 0 ≡ b → get_or (p ++ drop (length p) t) k 0 ≡ b
joined p t k b r e = split (ltb k (length p)) refl
  where
    split : (w : Bool) → ltb k (length p) ≡ w → get_or (p ++ drop (length p) t) k 0 ≡ b
    split true h = let l = ltb-true k (length p) h in there p (drop (length p) t) k l ∙ r l
    split false h = behind p t k (ltb-false k (length p) h) ∙ e

-- an empty record
abbrev blank : List ℕ
blank = 0x4c ∷ 0x4b ∷ 0 ∷ 0 ∷ 0 ∷ 0 ∷ 0 ∷ []

abbrev pub Becomes : List ℕ → Type 0
Becomes p = (q : List ℕ) × (h : Head) × (reading (p ++ q) ≡ Ok h)

short_becomes : (p : List ℕ) → Begun p → length p < 7 → Becomes p
unfolding le_at
short_becomes p b l =
    let q = drop (length p) blank in
    let n : length (p ++ q) ≡ 7 = omega (arith, length-append p q, length-drop (length p) blank) in
    let z : get_or (p ++ q) 6 0 ≡ 0 = behind p blank 6 (omega arith) in
    let c : (head_of (p ++ q)).count ≡ 0 = omega arith in (
      q,
      head_of (p ++ q),
      seen_is (whole (record {
        first = λ h. joined p blank 0 0x4c b.first refl;
        second = λ h. joined p blank 1 0x4b b.second refl;
        few = omega arith;
      }) (omega arith)),
    )

long_becomes : (p : List ℕ) → Begun p → 7 ≤ length p → Becomes p
long_becomes p b l =
    let q : List ℕ = replicate (7 + (head_of p).count - length p) 0 in
    let n : length q ≡ 7 + (head_of p).count - length p = length-replicate (7 + (head_of p).count - length p) 0 in
    let f : 7 + le_at 1 6 (p ++ q) ≤ length (p ++ q) = omega (arith, same_count p q l, length-append p q) in
    (q, head_of (p ++ q), seen_is (whole (still_begun p q l b) f))

-- "More" is said only of what can still become a record
pub may_become : (p : List ℕ) → reading p ≡ Err More → Becomes p
may_become p e = of (saw p) e
  where
    by_length : (t : Bool) → ltb (length p) 7 ≡ t → Begun p → Becomes p
    by_length true h b = short_becomes p b (ltb-true (length p) 7 h)
    by_length false h b = long_becomes p b (ltb-false (length p) 7 h)

    of : {r : Result Head NoRecord} → Seen p r → r ≡ Err More → Becomes p
    of (first w) e = absurd (cc)
    of (second w) e = absurd (cc)
    of (many w) e = absurd (cc)
    of (cut b w) e = by_length (ltb (length p) 7) refl b
    of (whole b w) e = absurd (cc)
