-- "A fresh board is sound and each call keeps it so": what one unit does to a sound memory, and one call to a sound state. Assumes nothing.
use mathlib.Core.Path.{◌≡◌, refl, sym, subst}
use mathlib.Core.Bool.{Bool, true, false, cond}
use mathlib.Core.List.{List, []}
use Prim.Native.Nat.{ℕ, ◌≤◌, ◌<◌}
use native.Mathlib.Omega.{arith}
use lib.Bits.{bit_or, or_lt}
use lib.Dec.{T, leb}
use lib.ListN.{length, take}
use borrow.Author.Tests.{lt-ltb, le-leb, ltb-true, leb-true}
use Rattle.frame.specs.Frame.{data_in}
use Rattle.sheet.specs.Sheet.{spos_row}
use Rattle.sheet.specs.Rows.{numbers_in}
use Rattle.position.specs.Position.{sound_position, spos_of}
use Rattle.position.proofs.Placed.{fresh_sound as position-fresh, cleared_sound, placed_sound}
use Rattle.table.specs.Table.{Good, all_good}
use Rattle.table.proofs.Keep.{all_good_lem, good_all, good_put, good_fresh}
use Rattle.rule.specs.Run.{at}
use Rattle.rule.specs.Framing.{begun, Token, whole, lost, seen}
use Rattle.rule.specs.Facts.{TokenOf}
use Rattle.rule.specs.Rule.{Said, State}
use Rattle.rule.specs.Step.{steps}
use Rattle.rule.specs.Calls.{call}
use Rattle.rule.proofs.Calls.{call_steps}
use Rattle.rule.proofs.Progress.{steps_begun, steps_keep, no_events}
use Rattle.names.specs.Names.{kind_at, need}
use Rattle.orders.specs.declared.Order.{Order}
use Rattle.names.specs.declared.Kind.{Kind}
use Rattle.names.specs.declared.Kind.TheVariants.{Zero, Set, Get, Gives, Moves, Places, Finds, Clears, Unknown}
use Rattle.names.proofs.Need.{need_some, need_law}
use Rattle.unit.specs.Unit.{Event, clock, position, checked, puts, gets, moves, places, finds, does, act}
use Rattle.unit.specs.declared.Memory.{Memory}
use Rattle.unit.specs.Protocol.{protocol, sound_memory, sound_event, sound_state, fresh_state}
use Rattle.unit.proofs.Sets.{checked_cases}

-- ---- the tests of soundness, as facts

both : (a b : Bool) → cond a b false ≡ true → (a ≡ true) × (b ≡ true)
both true b h = (refl, h)
both false b h = absurd (subst T (sym h) tt)

-- "every field lies in its range, the floats are finite, and the flags are at most 7"; "the position's microsteps lie in -255..255" (02, P5);
-- "reserved bytes zero in a sound state" (02, P10)
pub record SoundMemory (m : Memory) : Type 0 where
  pub flags : m.notes.flags ≤ 7
  pub position : sound_position m.position ≡ true
  pub good : Good m.settings

pub facts : (m : Memory) → sound_memory m ≡ true → SoundMemory m
unfolding sound_memory
facts m h =
    let f = both (leb m.notes.flags 7) _ h in
    let p = both (sound_position m.position) (all_good m.settings) f.1 in
    record { flags = leb-true m.notes.flags 7 f.0; position = p.0; good = all_good_lem m.settings p.1 }

pub test : (m : Memory) → SoundMemory m → sound_memory m ≡ true
unfolding sound_memory
test m h = rw (le-leb m.notes.flags 7 h.flags, h.position) (good_all m.settings h.good)

-- no bytes are a true beginning
pub none_begun : begun need [] ≡ true
unfolding begun
none_begun = lt-ltb 0 (need []) (need_some [])

module _ (s : State Memory) where
  pub is_begun : sound_state s ≡ true → begun need s.line.unfinished ≡ true
  unfolding sound_state
  is_begun h = (both (begun need s.line.unfinished) (sound_memory s.memory) h).0

  pub sound_begun : sound_state s ≡ true → length s.line.unfinished < need s.line.unfinished
  unfolding begun
  sound_begun h = ltb-true (length s.line.unfinished) (need s.line.unfinished) (is_begun h)

  pub sound_memory_lem : sound_state s ≡ true → SoundMemory s.memory
  unfolding sound_state
  sound_memory_lem h = facts s.memory (both (begun need s.line.unfinished) (sound_memory s.memory) h).1

  pub sound_from : begun need s.line.unfinished ≡ true → SoundMemory s.memory → sound_state s ≡ true
  unfolding sound_state
  sound_from h k = rw h (test s.memory k)

-- ---- a unit

-- flag bits 1, 2 and 4 are three bits
flags_most : (f bit : ℕ) → f ≤ 7 → bit ≤ 7 → bit_or f bit ≤ 7
flags_most f bit h k = omega (arith, or_lt 3 f bit (omega arith) (omega arith))

module _ (m : Memory) (sound : SoundMemory m) where
  abbrev Keeps : Said Order Memory → Type 0
  Keeps a = SoundMemory a.next

  flagged : (bit : ℕ) → bit ≤ 7 → bit_or m.notes.flags bit ≤ 7
  flagged bit h = flags_most m.notes.flags bit sound.flags h

  -- what is checked as a set is, if it does so where all is well
  set_sound : (u : List ℕ) (k bad : ℕ) (done : Said Order Memory) → (bad ≡ 0 → Keeps done) → Keeps (checked m u k bad done)
  set_sound u k bad done good =
      checked_cases m u k bad done Keeps (record { flags = flagged 2 (omega arith); position = sound.position; good = sound.good })
      (record { flags = flagged 4 (omega arith); position = sound.position; good = sound.good }) good

  does_sound : (u : List ℕ) (k : Kind) → Keeps (does m u k)
  unfolding does puts gets moves places finds
  does_sound u Zero = sound
  does_sound u (Set k) =
      set_sound u _ _ _ (λ z. record { flags = sound.flags; position = sound.position; good = good_put m.settings k _ z sound.good })
  does_sound u (Get k) = sound
  does_sound u (Gives o) = sound
  does_sound u (Moves k) = set_sound u _ _ _ (λ _. sound)
  does_sound u Places =
      set_sound u _ _ _ (λ z. record { flags = sound.flags; position = placed_sound (spos_of (numbers_in spos_row (data_in u))) m.position z sound.position; good = sound.good })
  does_sound u Finds = sound
  does_sound u Clears = record { flags = sound.flags; position = cleared_sound m.position; good = sound.good }
  does_sound u Unknown = record { flags = flagged 1 (omega arith); position = sound.position; good = sound.good }

abbrev pub SoundEvent : Event → Type 0
SoundEvent e = sound_event e ≡ true

-- each token keeps a sound memory sound, whatever numbers it is made of
pub act_sound : (m : Memory) (k : Token Event) → TokenOf SoundEvent k → SoundMemory m → SoundMemory (act m k).next
unfolding act
act_sound m (whole u) e h = does_sound m h u (kind_at u)
act_sound m (lost u) e h = h
act_sound m (seen (clock now)) e h = h
act_sound m (seen (position p)) e h = record { flags = h.flags; position = e; good = h.good }

-- ---- a state

pub fresh_sound : sound_state fresh_state ≡ true
fresh_sound = sound_from fresh_state none_begun (record { flags = omega arith; position = position-fresh; good = good_fresh })

-- bytes that share a stamp keep a sound state sound
pub steps_sound : (s : State Memory) (t : ℕ) (u : List ℕ) → sound_state s ≡ true → sound_state (steps protocol s (at t u)).next ≡ true
steps_sound s t u h =
    sound_from _ (steps_begun protocol need_law t u s (is_begun s h)) (steps_keep protocol SoundMemory SoundEvent act_sound (at t u) s (no_events SoundEvent t u) (sound_memory_lem s h))

-- A CALL KEEPS A SOUND STATE SOUND
pub call_sound : (verdict : ℕ) (s : State Memory) (t room : ℕ) (piece : List ℕ) → sound_state s ≡ true
    → sound_state (call protocol verdict s t room piece).said.next ≡ true
call_sound verdict s t room piece h =
    rw (call_steps protocol verdict piece s t room).same (steps_sound s t (take (call protocol verdict s t room piece).taken piece) h)
