-- Laws of runs: an array is so many numbers of one width, once over number, width and place; and an array filled element by element. Assumes nothing.
use mathlib.Core.Path.{◌≡◌, refl, sym, ap, ◌∙◌}
use mathlib.Core.List.{List, [], ◌∷◌, ◌++◌, append-nil}
use Prim.Native.Nat.{ℕ, zero, suc, ◌+◌, ◌*◌, ◌^◌, ◌≤◌, ◌<◌}
use native.Mathlib.Nat.{add-zero, mul-zero, mul-suc, one-le-pow}
use native.Mathlib.Omega.{arith}
use lib.Dec.{lit<}
use lib.ListN.{length, get_or, take, drop, set, replicate, length-set, length-replicate, drop_of_length-le}
use lib.Seq.{sets, sets-eq}
use Rattle.wire.specs.Numbers.{le_at}
use Rattle.wire.specs.Layout.{numbers}
use Rattle.wire.proofs.Stores.{copy_step, sets_append}
use Rattle.wire.proofs.Laid.{Room, length_numbers}

-- ---- an array filled element by element

-- the elements from k on, stored k places further, make what all of them make at the place
abbrev pub Filling : {A : Type 0} → List A → ℕ → List A → List A → ℕ → Type 0
Filling s₀ at xs s k = (sets s (at + k) (drop k xs) ≡ sets s₀ at xs) × (length s ≡ length s₀)

module _ {A : Type 0} (s₀ : List A) (at : ℕ) (xs : List A) where
  pub fill_start : Filling s₀ at xs s₀ 0
  fill_start = (rw add-zero, refl)

  -- element k at its place q
  pub fill_step : (s : List A) (k q : ℕ) (v d : A) → q ≡ at + k → k < length xs → v ≡ get_or xs k d → Filling s₀ at xs s k
      → Filling s₀ at xs (set s q v) (k + 1)
  fill_step s k q v d e h f i =
      rw (e, f) (sym (copy_step s xs at k d h) ∙ i.0, length-set s (at + k) (get_or xs k d) ∙ i.1)

  pub fill_end : (s : List A) (k : ℕ) → length xs ≤ k → Filling s₀ at xs s k → s ≡ sets s₀ at xs
  fill_end s k h i = rw (drop_of_length-le xs h) at i.0

-- stores right behind stores
pub sets_next : (s : List ℕ) (p q : ℕ) (a b : List ℕ) → q ≡ p + length a → sets (sets s p a) q b ≡ sets s p (a ++ b)
sets_next s p q a b e = ap (λ (i : ℕ). sets (sets s p a) i b) e ∙ sym (sets_append s p a b)

-- as many stores from the front on as there are places
pub sets_whole : {A : Type 0} (s xs : List A) → length xs ≡ length s → sets s 0 xs ≡ xs
sets_whole s xs e =
    let h : 0 + length xs ≤ length s = omega arith in
    let l : length s ≤ 0 + length xs = omega arith in
    rw (sets-eq xs s 0 h, drop_of_length-le s l, append-nil xs)

-- ---- a run: n numbers of w bytes from place p on

-- its element k
pub run_at : (n w p : ℕ) (s : List ℕ) (k : ℕ) → k < n → get_or (numbers (replicate n w) p s) k 0 ≡ le_at w (p + w * k) s
run_at zero w p s k h = absurd (omega arith)
run_at (suc n) w p s zero h = rw (mul-zero, add-zero)
run_at (suc n) w p s (suc k) h =
    let e : p + w + w * k ≡ p + w * suc k = rw mul-suc (omega arith) in
    run_at n w (p + w) s k (omega arith) ∙ ap (λ (q : ℕ). le_at w q s) e

-- an array of zeros filled with it
abbrev pub Reading : ℕ → ℕ → ℕ → List ℕ → List ℕ → ℕ → Type 0
Reading n w p s xs k = Filling (replicate n 0) 0 (numbers (replicate n w) p s) xs k

module _ (n w p : ℕ) (s : List ℕ) where
  run_length : length (numbers (replicate n w) p s) ≡ n
  run_length = length_numbers (replicate n w) p s ∙ length-replicate n w

  pub run_start : Reading n w p s (replicate n 0) 0
  run_start = fill_start (replicate n 0) 0 (numbers (replicate n w) p s)

  -- element k is read at its place q
  pub run_step : (xs : List ℕ) (k q v : ℕ) → q ≡ p + w * k → k < n → v ≡ le_at w q s → Reading n w p s xs k → Reading n w p s (set xs k v) (k + 1)
  run_step xs k q v e h f i =
      fill_step (replicate n 0) 0 (numbers (replicate n w) p s) xs k k v 0 (omega arith) (omega (arith, run_length))
      (f ∙ ap (λ (a : ℕ). le_at w a s) e ∙ sym (run_at n w p s k h)) i

  pub run_end : (xs : List ℕ) (k : ℕ) → n ≤ k → Reading n w p s xs k → xs ≡ numbers (replicate n w) p s
  run_end xs k h i =
      fill_end (replicate n 0) 0 (numbers (replicate n w) p s) xs k (omega (arith, run_length)) i
      ∙ sets_whole (replicate n 0) (numbers (replicate n w) p s) (run_length ∙ sym (length-replicate n 0))

-- ---- room in a run, and in widths one behind the other

pub room_run : (n w : ℕ) (xs : List ℕ) → (length xs ≡ n) × ((i : ℕ) → get_or xs i 0 < 256 ^ w) → Room (replicate n w) xs
room_run zero w [] h = tt
room_run zero w (x ∷ xs) h = let e = h.0 in absurd (omega arith)
room_run (suc n) w [] h = let e = h.0 in absurd (omega arith)
room_run (suc n) w (x ∷ xs) h = let e = h.0 in (h.1 0, room_run n w xs (omega arith, λ i. h.1 (suc i)))

pub run_room : (n w : ℕ) (xs : List ℕ) → Room (replicate n w) xs → (length xs ≡ n) × ((i : ℕ) → get_or xs i 0 < 256 ^ w)
run_room zero w [] h = (refl, λ i. one-le-pow w 256 (lit< tt))
run_room zero w (x ∷ xs) h = absurd h
run_room (suc n) w [] h = absurd h
run_room (suc n) w (x ∷ xs) h = let r = run_room n w xs h.1 in (ap suc r.0, at r.1)
  where
    at : ((i : ℕ) → get_or xs i 0 < 256 ^ w) → (i : ℕ) → get_or (x ∷ xs) i 0 < 256 ^ w
    at f zero = h.0
    at f (suc i) = f i

pub room_join : (ws us a b : List ℕ) → Room ws a → Room us b → Room (ws ++ us) (a ++ b)
room_join [] us [] b h g = g
room_join [] us (v ∷ a) b h g = absurd h
room_join (w ∷ ws) us [] b h g = absurd h
room_join (w ∷ ws) us (v ∷ a) b h g = (h.0, room_join ws us a b h.1 g)

pub room_parts : (ws us ns : List ℕ) → Room (ws ++ us) ns → Room ws (take (length ws) ns) × Room us (drop (length ws) ns)
room_parts [] us ns h = (tt, h)
room_parts (w ∷ ws) us [] h = absurd h
room_parts (w ∷ ws) us (v ∷ ns) h = let r = room_parts ws us ns h.1 in ((h.0, r.0), r.1)
