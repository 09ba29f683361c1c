-- What a frame holds: its name, its data section and its CRC are read again, whatever stands behind it. Assumes nothing.
use mathlib.Core.Path.{◌≡◌, refl, ap, sym, ◌∙◌}
use mathlib.Core.Bool.{Bool, true, false}
use mathlib.Core.List.{List, [], ◌++◌, append-nil, append_assoc}
use Prim.Native.Nat.{ℕ, ◌+◌, ◌-◌, ◌^◌, ◌≤◌, ◌<◌}
use native.Mathlib.Omega.{arith}
use lib.ListN.{length, get_or, take, drop, length-append}
use lib.Seq.{sets, take-append_seam, drop-append_seam, take-add, take-take, drop_at, length-take-le}
use lib.Dec.{ltb}
use borrow.Author.Tests.{eq-eqb, le-ltb, ltb-false}
use Rattle.crc.specs.Crc.{crc_of}
use Rattle.crc.proofs.Laws.{crc_lt}
use Rattle.wire.specs.Numbers.{le_at, le_bytes}
use Rattle.wire.proofs.Numbers.{length_le_bytes, le_at_append, le_at_le_bytes}
use Rattle.wire.proofs.Stores.{sets_append}
use Rattle.frame.specs.Frame.{framed, data_in, crc_in, intact}

module _ (name : ℕ) (d : List ℕ) where
  -- three stores, one behind the other
  pub frame_stored : (before : List ℕ) → sets before 0 (framed name d) ≡ sets (sets (sets before 0 (le_bytes 4 name)) 4 d) (4 + length d) (le_bytes 2 (crc_of d))
  frame_stored before =
      sets_append before 0 (le_bytes 4 name) (d ++ le_bytes 2 (crc_of d))
      ∙ ap (λ (k : ℕ). sets (sets before 0 (le_bytes 4 name)) (0 + k) (d ++ le_bytes 2 (crc_of d))) (length_le_bytes 4 name)
      ∙ sets_append (sets before 0 (le_bytes 4 name)) 4 d (le_bytes 2 (crc_of d))

  pub frame_length : length (framed name d) ≡ 4 + length d + 2
  frame_length = rw (length-append (le_bytes 4 name) (d ++ le_bytes 2 (crc_of d)), length-append d (le_bytes 2 (crc_of d)), length_le_bytes 4 name, length_le_bytes 2 (crc_of d)) (omega arith)

  pub frame_name : (rest : List ℕ) → name < 256 ^ 4 → le_at 4 0 (framed name d ++ rest) ≡ name
  frame_name rest h = rw (append_assoc (le_bytes 4 name) (d ++ le_bytes 2 (crc_of d)) rest) (le_at_le_bytes 4 name ((d ++ le_bytes 2 (crc_of d)) ++ rest) h)

  behind_name : drop 4 (framed name d) ≡ d ++ le_bytes 2 (crc_of d)
  behind_name = rw (length_le_bytes 4 name) at (drop-append_seam (le_bytes 4 name) (d ++ le_bytes 2 (crc_of d)))

  pub frame_data : data_in (framed name d) ≡ d
  frame_data =
      let n : length (framed name d) - 6 ≡ length d = omega (arith, frame_length) in
      rw (behind_name, n) (take-append_seam d (le_bytes 2 (crc_of d)))

  module _ (low : (i : ℕ) → get_or d i 0 < 256) where
    frame_crc : crc_in (framed name d) ≡ crc_of d
    frame_crc =
        let n : length (framed name d) - 2 ≡ length (le_bytes 4 name) + (length d + 0) = omega (arith, frame_length, length_le_bytes 4 name) in
        rw (n, le_at_append 2 (length d + 0) (le_bytes 4 name) (d ++ le_bytes 2 (crc_of d)), le_at_append 2 0 d (le_bytes 2 (crc_of d)), ← append-nil (le_bytes 2 (crc_of d))) (le_at_le_bytes 2 (crc_of d) [] (crc_lt d low))

    -- a frame is intact
    pub frame_intact : intact (framed name d) ≡ true
    unfolding intact
    frame_intact =
        let l : 6 ≤ length (framed name d) = omega (arith, frame_length) in
        rw (le-ltb (length (framed name d)) 6 l) (eq-eqb (crc_of (data_in (framed name d))) (crc_in (framed name d)) (ap crc_of frame_data ∙ sym frame_crc))

-- ---- a frame of n bytes at the front of more

-- an intact frame has a name and a CRC
pub intact_long : (u : List ℕ) → intact u ≡ true → 6 ≤ length u
unfolding intact
intact_long u e = by (ltb (length u) 6) refl
  where
    by : (y : Bool) → ltb (length u) 6 ≡ y → 6 ≤ length u
    by true f = let z : false ≡ true = rw f at e in absurd (let n : ◌≡◌ {A = ℕ} 0 1 = cc in omega arith)
    by false f = ltb-false (length u) 6 f
