-- What is known of a message that was sent, however often it was delivered.
use Rattle.std.specs.Prelude.{◌≡◌, ℕ, List, Option, None, Some}
use Rattle.std.specs.FinMap as fin
use Rattle.bucket_ids.specs.Buckets.{IsBucket}
use Rattle.documents.specs.declared.entry.Entry.{Entry}
use Rattle.messages.specs.declared.body.Body.{Body}
use Rattle.messages.specs.declared.body.Body.TheVariants as body
use Rattle.messages.specs.declared.message.Message.{Message}
use Rattle.messages.specs.declared.reply.Reply.{Reply}
use Rattle.messages.specs.declared.reply.Reply.TheVariants as reply
use Rattle.replica_store.specs.Replicas.{LieIn}
use Rattle.node_model.specs.Takes.{IsInside}
use Rattle.lane_journals.specs.Buckets.{key_of}
use Rattle.lane_journals.specs.Naming.{exact_bucket}
use Rattle.lane_journals.specs.Stamps.{Stamp}
use Rattle.lane_journals.specs.Events as plain
use Rattle.lane_journals.specs.Readers as readers
use Rattle.lane_journals.specs.Readers.{sent}
use Rattle.lane_journals.specs.Meanings.{entry_at, history}
use Rattle.lane_journals.specs.declared.event.LaneEvent.{LaneEvent}
use Rattle.lane_keeping.specs.NodeKeeping.{stamp_of, AreWritten}

-- what a body means in a journal, where each entry is a stamp
abbrev pub meant : Body → plain.Body
meant body.Ask = plain.Ask
meant (body.Read b None) = plain.Read b
meant (body.Read b (Some id)) = plain.ReadDoc id
meant (body.Store e) = plain.Store e.id e.stamp
meant (body.Apply b m) = plain.Apply b (λ id. stamp_of (fin.get m id))
meant (body.Delete b s) = plain.Delete b s
meant (body.Split b) = plain.Split b
meant (body.Join b) = plain.Join b
meant (body.Ready b) = plain.Ready b
meant (body.Activate b) = plain.Activate b

-- the entries of a body are those that were written with their stamps
abbrev pub Brings : (Stamp → Option Entry) → Body → Type 0
Brings wrote (body.Store e) = wrote e.stamp ≡ Some e
Brings wrote (body.Apply b m) = AreWritten wrote m
Brings wrote _ = Unit {0}

-- so are those of an answer, and they lie where they were asked for
abbrev pub BringsBack : (Stamp → Option Entry) → Body → Reply → Type 0
BringsBack wrote (body.Read b None) (reply.Answer ps m) = AreWritten wrote m × LieIn b m
BringsBack wrote x (reply.Answer ps m) = AreWritten wrote m
BringsBack wrote x r = Unit {0}

-- the Read of one document names the bucket of its key
abbrev pub IsExact : Body → Type 0
IsExact (body.Read b (Some id)) = b ≡ exact_bucket (key_of id)
IsExact _ = Unit {0}

-- what a body changes is a bucket
abbrev pub NamesBucket : Body → Type 0
NamesBucket (body.Apply b m) = IsBucket b
NamesBucket (body.Delete b s) = IsBucket b
NamesBucket (body.Split b) = IsBucket b
NamesBucket (body.Join b) = IsBucket b
NamesBucket (body.Ready b) = IsBucket b
NamesBucket (body.Activate b) = IsBucket b
NamesBucket _ = Unit {0}

-- what holds of a body wherever it is: its bucket is one, and its entries lie there
pub record IsWhole (x : Body) : Type 0 where
  pub bucket : NamesBucket x
  pub inside : IsInside x

-- the message was sent with this number
pub record IsInFlight (J : List LaneEvent) (number : ℕ) (m : Message) : Type 0 where
  pub sending : readers.Message
  pub was_sent : sent number (history J) ≡ Some sending
  pub version_is : sending.version ≡ m.version
  pub receiver_is : sending.receiver ≡ m.receiver
  pub body_is : sending.body ≡ meant m.body
  pub brings : Brings (λ s. entry_at s J) m.body
  pub whole : IsWhole m.body
