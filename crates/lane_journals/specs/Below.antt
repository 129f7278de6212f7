-- The events of versions below v.
use Rattle.std.specs.Prelude.{ℕ, Bool, true, false, nat_lt, [], ◌∷◌, Option, Some, None, if◌then◌else◌}
use Rattle.lane_journals.specs.Events.{Reply, Newer, Event, Published, Heard, Begun, Opened, Prepared, Wrote, Sent, Delivered, Returned, Closed, Decided, Refused, Stopped, Started}
use Rattle.lane_journals.specs.Readers.{Journal, Beginning, began, Message, sent, first_reply}

-- a reply that doesn't tell of v or more
abbrev pub tells : ℕ → Reply → Bool
tells v (Newer w) = nat_lt w v
tells v _ = true

abbrev pub keeps : ℕ → Reply → Option Message → Bool
keeps v r None = false
keeps v r (Some m) = if tells v r then nat_lt m.version v else false

abbrev pub keeps_return : ℕ → Option Reply → Option Message → Bool
keeps_return v None m = false
keeps_return v (Some r) m = keeps v r m

-- a line of a version below v
abbrev pub keeps_line : ℕ → Option Beginning → Bool
keeps_line v None = false
keeps_line v (Some b) = nat_lt b.version v

abbrev pub kept : ℕ → Journal → Event → Bool
kept v J (Published w set) = nat_lt w v
kept v J (Heard d w) = nat_lt w v
kept v J (Begun l d w id s) = nat_lt w v
kept v J (Opened d w rows) = nat_lt w v
kept v J (Prepared l b set) = keeps_line v (began l J)
kept v J (Wrote l kind) = keeps_line v (began l J)
kept v J (Closed l ok) = keeps_line v (began l J)
kept v J (Sent k w d n b) = nat_lt w v
kept v J (Delivered k r) = keeps v r (sent k J)
kept v J (Returned k) = keeps_return v (first_reply k J) (sent k J)
kept v J (Decided d w x) = nat_lt w v
kept v J (Refused l d w) = nat_lt w v
kept v J (Stopped n) = true
kept v J (Started n) = true

abbrev pub below : ℕ → Journal → Journal
below v [] = []
below v (e ∷ J) = if kept v J e then e ∷ below v J else below v J
