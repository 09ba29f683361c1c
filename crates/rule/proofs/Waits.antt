-- The wait by cases, and what a clock that runs back reads as (01, "How a run of bytes is read"). Assumes nothing.
use mathlib.Core.Path.{◌≡◌}
use mathlib.Core.Bool.{true, false}
use Prim.Native.Nat.{ℕ, ◌+◌, ◌-◌, ◌≤◌, ◌<◌}
use native.Mathlib.Omega.{arith}
use borrow.Author.Tests.{lt-ltb, le-ltb}
use Rattle.rule.specs.Run.{wait, late}

module _ (later earlier : ℕ) where
  pub wait_on : earlier ≤ later → later < 4294967296 → wait later earlier ≡ later - earlier
  unfolding wait
  wait_on h l = omega arith

  pub wait_round : later < earlier → earlier < 4294967296 → wait later earlier ≡ later + 4294967296 - earlier
  unfolding wait
  wait_round h l = omega arith

  -- "a wait of exactly 400 drops nothing"
  pub in_time_lem : wait later earlier ≤ 400 → late later earlier ≡ false
  unfolding late
  in_time_lem h = le-ltb 400 (wait later earlier) h

  pub too_late : 400 < wait later earlier → late later earlier ≡ true
  unfolding late
  too_late h = lt-ltb 400 (wait later earlier) h

-- bytes of one call share a stamp
pub late_self : (t : ℕ) → late t t ≡ false
unfolding wait
late_self t = in_time_lem t t (omega arith)

-- "A clock that runs back by less than 4,294,966,896 therefore reads as a long wait"
pub back_late : (later back : ℕ) → 0 < back → back < 4294966896 → later + back < 4294967296 → late later (later + back) ≡ true
back_late later back h k l = too_late later (later + back) (omega (arith, wait_round later (later + back) (omega arith) l))

-- "a step back of that much or more is the same as the counter coming round"
pub back_round : (later back : ℕ) → 4294966896 ≤ back → later + back < 4294967296 → late later (later + back) ≡ false
back_round later back k l = in_time_lem later (later + back) (omega (arith, wait_round later (later + back) (omega arith) l))
