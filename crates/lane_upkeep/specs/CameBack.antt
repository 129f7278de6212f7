-- A message that came back.
use Rattle.std.specs.Prelude.{◌≡◌, ℕ, Bool, true, false, List, Option, Some}
use Rattle.messages.specs.declared.body.Body.{Body}
use Rattle.messages.specs.declared.body.Body.TheVariants as body
use Rattle.messages.specs.declared.reply.Reply.{Reply}
use Rattle.messages.specs.declared.reply.Reply.TheVariants as reply
use Rattle.lane_journals.specs.Buckets.{Bucket}
use Rattle.lane_journals.specs.Events as plain
use Rattle.lane_journals.specs.Readers.{Message, sent, first_reply, returned}
use Rattle.lane_journals.specs.Meanings.{history}
use Rattle.lane_journals.specs.declared.event.LaneEvent.{LaneEvent}
use Rattle.lane_upkeep.specs.declared.owner.Owner.{Owner}

-- what the journal notes of what is said of a row
abbrev pub IsNotedAs : Body → plain.Body → Type 0
IsNotedAs (body.Split b) x = x ≡ plain.Split b
IsNotedAs (body.Join b) x = x ≡ plain.Join b
IsNotedAs (body.Ready b) x = x ≡ plain.Ready b
IsNotedAs (body.Activate b) x = x ≡ plain.Activate b
IsNotedAs (body.Delete b s) x = x ≡ plain.Delete b s
IsNotedAs _ x = ⊥

-- and of a reply
abbrev pub IsNotedReply : Reply → plain.Reply → Type 0
IsNotedReply (reply.Answer pieces entries) x = (c : plain.Content) × (names : Bucket → ℕ → Bool) × (x ≡ plain.Answer c names)
IsNotedReply (reply.Newer v) x = x ≡ plain.Newer v
IsNotedReply reply.NoBucket x = x ≡ plain.NoBucket
IsNotedReply reply.Differs x = x ≡ plain.Differs
IsNotedReply reply.NoMemory x = x ≡ plain.NoMemory

-- the message of the owner with this body was sent to the node, and this reply came back
pub record CameBack (J : List LaneEvent) (o : Owner) (node : ℕ) (body : Body) (reply : Reply) : Type 0 where
  pub number : ℕ
  pub message : Message
  pub was_sent : sent number (history J) ≡ Some message
  pub version : message.version ≡ (o.state).version
  pub receiver : message.receiver ≡ node
  pub noted : IsNotedAs body message.body
  pub given : plain.Reply
  pub replied : first_reply number (history J) ≡ Some given
  pub noted_reply : IsNotedReply reply given
  pub back : returned number (history J) ≡ true

-- a node took what it was sent
abbrev pub is_taken : Option Reply → Bool
is_taken (Some (reply.Answer pieces entries)) = true
is_taken _ = false

-- a node took a Delete, or has nothing that it names
abbrev pub is_end : Option Reply → Bool
is_end (Some (reply.Answer pieces entries)) = true
is_end (Some reply.NoBucket) = true
is_end (Some reply.Differs) = true
is_end _ = false
