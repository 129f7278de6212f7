-- A disk in memory.
use Rattle.std.specs.Prelude.{◌≡◌, ◌⊎◌, ◌<◌, ◌≤◌, ◌+◌, ◌^◌, ◌-◌, ℕ, max, List, [], ◌∷◌, ◌++◌, length, drop, map, get_or, Bool, true, false, if◌then◌else◌, Contains}
use Rattle.std.proofs.Common.{inl, inr}
use Rattle.disks.specs.Disks.{DiskState, HasClock, written}
use Rattle.disks.specs.Images.{Spread, IsImage, LeftBy, Touches}
use Rattle.disks.specs.declared.leaving.Leaving.{Leaving}
use Rattle.disks.specs.declared.memory.MemoryDisk.{MemoryDisk}

abbrev pub spread_of : Leaving → Spread
spread_of l = record { bytes = l.bytes.items; touched = l.touched.items; least = l.least; reach = l.reach }

-- what a write leaves, which may fail and yet touch its range
pub record IsWritten (at : ℕ) (from : List ℕ) (done : Bool) (old new : Spread) : Type 0 where
  pub touches : Touches at (length from) old.touched new.touched
  pub least : new.least ≡ old.least
  pub reach : new.reach ≡ max old.reach (at + length from)
  pub bytes : new.bytes ≡ (if done then written at from old.bytes else old.bytes)

-- all is on the disk
abbrev pub settled : List ℕ → Spread
settled bytes = record { bytes = bytes; touched = []; least = length bytes; reach = length bytes }

abbrev pub past_of : MemoryDisk → List Spread
past_of d = map spread_of d.past.items

-- what is told by what a crash leaves now, what one left in each earlier call or after it, and the faults
abbrev pub state_by : Spread → List Spread → ℕ → DiskState
state_by now past faults = record {
  seen = now.bytes;
  faults = faults;
  may_leave = IsImage now;
  moment = length past;
  left_since = λ t file. IsImage now file ⊎ LeftBy (drop t past) file;
}

abbrev pub memory_state : MemoryDisk → DiskState
memory_state d = state_by (spread_of d.leaving) (past_of d) d.faults

none_left : (past : List Spread) (file : List ℕ) → LeftBy (drop (length past) past) file → ⊥
none_left [] file left = left
none_left (s ∷ past) file left = none_left past file left

now_or_none : (now : Spread) (past : List Spread) (file : List ℕ) → IsImage now file ⊎ LeftBy (drop (length past) past) file → IsImage now file
now_or_none now past file (inl left) = left
now_or_none now past file (inr left) = absurd (none_left past file left)

pub memory_clock : (d : MemoryDisk) → HasClock (memory_state d)
memory_clock d = record {
  counts_now = λ t file le left. inl left;
  only_now = λ file left. now_or_none (spread_of d.leaving) (past_of d) file left;
}
