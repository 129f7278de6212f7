-- What each delivery has a node do, and what the node keeps then, as far as a view shows it.
use Rattle.std.specs.Prelude.{◌==◌, ℕ, List, [], ◌∷◌, Option, None, Some, if◌then◌else◌}
use Rattle.std.specs.FinMap as fin
use Rattle.documents.specs.declared.entry.Entry.{Entry}
use Rattle.entry_maps.specs.EntryCodes.{Entries}
use Rattle.entry_maps.specs.Entries.{with_entry, in_bucket}
use Rattle.messages.specs.declared.noted.NotedBody.{NotedBody}
use Rattle.messages.specs.declared.noted.NotedBody.TheVariants.{Store, Apply, Delete, Activate}
use Rattle.messages.specs.declared.noted.NotedReply.{NotedReply}
use Rattle.messages.specs.declared.noted.NotedReply.TheVariants.{Answer}
use Rattle.view_changes.specs.Shown.{Keeping, adopt}
use Rattle.view_changes.specs.Deeds.{NodeDeed, Looks, Stores, Unites, Drops, Activates, after_deed}
use Rattle.lane_journals.specs.Stamps.{Stamp}
use Rattle.lane_journals.specs.Readers.{or_else, only_if}
use Rattle.lane_journals.specs.Meanings.{entry_at}
use Rattle.lane_journals.specs.declared.event.LaneEvent.{LaneEvent}
use Rattle.lane_journals.specs.declared.event.LaneEvent.TheVariants.{Sent, Delivered}

-- ---- messages

-- a message as a journal notes it
pub record NotedMessage : Type 0 where
  pub version : ℕ
  pub receiver : ℕ
  pub body : NotedBody

-- the message that was sent with a number
abbrev pub noted_message : ℕ → List LaneEvent → Option NotedMessage
noted_message k [] = None
noted_message k (Sent n v d to body ∷ J) = or_else (noted_message k J) (only_if (n == k) (record { version = v; receiver = to; body = body }))
noted_message k (_ ∷ J) = noted_message k J

-- ---- entries

abbrev pub with_named : Entries → Option Entry → Entries
with_named m None = m
with_named m (Some e) = with_entry m e

-- of each document the newest entry that the stamps name
abbrev pub entries_named : List LaneEvent → List Stamp → Entries
entries_named J [] = fin.empty
entries_named J (s ∷ ss) = with_named (entries_named J ss) (entry_at s J)

-- ---- what a node does

abbrev pub storing : Option Entry → NodeDeed
storing None = Looks
storing (Some e) = Stores e

-- with an accepted body: entries are those that were written with their stamps, and of an Apply those in its bucket
abbrev pub deed_of : List LaneEvent → NotedBody → NodeDeed
deed_of J (Store s) = storing (entry_at s J)
deed_of J (Apply b ss) = Unites (fin.retain_keys (entries_named J ss) (in_bucket b))
deed_of J (Delete b s) = Drops b
deed_of J (Activate b) = Activates b
deed_of J _ = Looks

-- a body is accepted where the reply is an answer
abbrev pub deed_by : List LaneEvent → NotedBody → NotedReply → NodeDeed
deed_by J body (Answer ps ss) = deed_of J body
deed_by J body _ = Looks

-- ---- what a node keeps

-- after a delivery: each message first makes its version the node's, if that is greater
abbrev pub after_delivery : List LaneEvent → ℕ → NotedReply → Option NotedMessage → Keeping → Keeping
after_delivery J n r None k = k
after_delivery J n r (Some m) k = if m.receiver == n then after_deed (deed_by J m.body r) (adopt m.version k) else k

-- after all events
abbrev pub keeping : ℕ → List LaneEvent → Keeping
keeping n [] = record { version = 0; regions = []; entries = fin.empty }
keeping n (Delivered k r ∷ J) = after_delivery J n r (noted_message k J) (keeping n J)
keeping n (_ ∷ J) = keeping n J
