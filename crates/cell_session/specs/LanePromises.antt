-- What is promised of each lane of a session.
use Rattle.std.specs.Prelude.{◌≡◌, ℕ, List, ◌++◌, Some, slice_get}
use Rattle.lane_journals.specs.Meanings.{history}
use Rattle.lane_journals.specs.Places.{published_states}
use Rattle.lane_calls.specs.LaneValues.{LaneValue}
use Rattle.lane_lives.specs.declared.setting.Setting.{Setting}
use Rattle.lane_lives.specs.Serving.{bucket_in}
use Rattle.lane_promises.specs.Promises.{IsComplete, KeepsWrites}
use Rattle.session_cluster.specs.Cells.{Cell}
use Rattle.session_cluster.specs.Lanes.{Journal, journal_in}

-- the durability theorem holds in each lane at each moment: of its journal, and of each one that it was before
abbrev pub AreDurable : Setting → List Journal → Type 0
AreDurable s Js = (lane : ℕ) (later J : Journal) → journal_in lane Js ≡ later ++ J → KeepsWrites s.rules.acks (history J)

-- in each lane a line of which no message was lost came to what nodes answered, a put or a remove without condition to
-- its acknowledgement, but for want of memory
abbrev pub AreComplete : Setting → List LaneValue → Type 0
AreComplete s lanes = (lane : ℕ) (v : LaneValue) → slice_get lanes lane ≡ Some v → IsComplete s (bucket_in s lane) v

-- what is shown of a lane goes by what the session was set up with and was told: it is the lane of its number, under the
-- rules of the session, and the states by which its owner is chosen are those that its journal has
pub record IsShownRight (s : Setting) (lane : ℕ) (v : LaneValue) (c : Cell) : Type 0 where
  pub bits_are : c.bits ≡ s.bits
  pub lane_is : v.lane ≡ bucket_in s lane
  pub rules_are : v.rules ≡ s.rules
  pub states_are : c.told.states ≡ published_states v.journal

abbrev pub AreShownRight : Setting → Cell → Type 0
AreShownRight s c = (lane : ℕ) (v : LaneValue) → slice_get c.lanes lane ≡ Some v → IsShownRight s lane v c
