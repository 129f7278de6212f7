-- What a disk tells, and what each of its calls may do to that.
use Rattle.std.specs.Prelude.{◌≡◌, ◌⊎◌, ◌<◌, ◌≤◌, ◌+◌, ℕ, max, List, ◌++◌, length, take, drop, Option, Some, Result, OnErr, OnOk}
use Rattle.io_ends.specs.Causes.{HasRisen}

-- What a read gives; how many faults there were; what a crash at this moment may leave; the moment, as a
-- number that doesn't fall; and what a crash at some moment from one on, in a call or between two, may have left.
pub record DiskState : Type 1 where
  pub seen : List ℕ
  pub faults : ℕ
  pub may_leave : List ℕ → Type 0
  pub moment : ℕ
  pub left_since : ℕ → List ℕ → Type 0

-- a file with these bytes at a place, in place of what stood there, and longer where they pass the end
abbrev pub written : ℕ → List ℕ → List ℕ → List ℕ
written at bytes file = take at file ++ (bytes ++ drop (at + length bytes) file)

-- A write of n bytes that a crash cuts short: in the range there may be any bytes, the length lies between the
-- old one and the new one, and all else stays.
pub record Torn (at n : ℕ) (old new : List ℕ) : Type 0 where
  pub before : take at new ≡ take at old
  pub behind : drop (at + n) new ≡ drop (at + n) old
  pub no_shorter : length old ≤ length new
  pub no_longer : length new ≤ max (length old) (at + n)

-- a crash leaves this and nothing else
abbrev pub Only : List ℕ → (List ℕ → Type 0) → Type 0
Only file may_leave = (c : List ℕ) → may_leave c → c ≡ file

-- what a crash leaves now is what it might have left before
abbrev pub NoMore : (List ℕ → Type 0) → (List ℕ → Type 0) → Type 0
NoMore old new = (c : List ℕ) → new c → old c

-- what a crash leaves now is what it might have left before, after a write that was cut short
abbrev pub MoreTorn : ℕ → ℕ → (List ℕ → Type 0) → (List ℕ → Type 0) → Type 0
MoreTorn at n old new = (c : List ℕ) → new c → (d : List ℕ) × (old d × Torn at n d c)

-- Time goes on in a call: a crash since an earlier moment leaves what it might have left before the call, or
-- what it may leave now.
pub record Elapses (old new : DiskState) : Type 0 where
  pub later : old.moment ≤ new.moment
  pub nothing_else : (t : ℕ) (c : List ℕ) → t ≤ old.moment → new.left_since t c → old.left_since t c ⊎ new.may_leave c
  pub keeps : (t : ℕ) (c : List ℕ) → t ≤ old.moment → old.left_since t c → new.left_since t c

-- the count of faults doesn't fall, and a call fails only where it rose
pub record Counts {A E : Type 0} (last : Option ℕ) (old new : DiskState) (result : Result A E) : Type 0 where
  pub no_fewer : old.faults ≤ new.faults
  pub fault : OnErr result (HasRisen last old.faults new.faults)

-- a call that changes nothing
pub record Rests (old new : DiskState) : Type 0 where
  pub seen : new.seen ≡ old.seen
  pub crash : NoMore old.may_leave new.may_leave
  pub time : Elapses old new

-- a write: where it fails, what a read gives is torn as well
pub record Writes {A E : Type 0} (at : ℕ) (bytes : List ℕ) (old new : DiskState) (result : Result A E) : Type 0 where
  pub done : OnOk result (new.seen ≡ written at bytes old.seen)
  pub failed : OnErr result (Torn at (length bytes) old.seen new.seen)
  pub crash : MoreTorn at (length bytes) old.may_leave new.may_leave
  pub time : Elapses old new

-- a sync: where it succeeds, a crash leaves what a read gives
pub record Syncs {A E : Type 0} (old new : DiskState) (result : Result A E) : Type 0 where
  pub rests : Rests old new
  pub durable : OnOk result (Only old.seen new.may_leave)

-- A crash at any moment since an earlier state leaves a file that has P.
pub record LeavesOnly (old new : DiskState) (P : List ℕ → Type 0) : Type 0 where
  pub later : old.moment ≤ new.moment
  pub each : (c : List ℕ) → new.left_since old.moment c → P c
  pub now : (c : List ℕ) → new.may_leave c → P c
  -- for what began earlier
  pub before : (t : ℕ) (c : List ℕ) → t ≤ old.moment → new.left_since t c → old.left_since t c ⊎ P c

-- this moment is one of those since an earlier one, and since this moment there is no other
pub record HasClock (s : DiskState) : Type 0 where
  pub counts_now : (t : ℕ) (c : List ℕ) → t ≤ s.moment → s.may_leave c → s.left_since t c
  pub only_now : (c : List ℕ) → s.left_since s.moment c → s.may_leave c
