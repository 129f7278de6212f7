-- What is said of a row, in the words of the lane, of its journal and of an upkeep.
use Rattle.std.proofs.Common.{◌≡◌, ℕ, List, Option, None, Some, IfSome, refl}
use Rattle.messages.specs.Noting.{noted_body, noted_reply}
use Rattle.messages.specs.declared.body.Body.{Body}
use Rattle.messages.specs.declared.body.Body.TheVariants as body
use Rattle.messages.specs.declared.reply.Reply.{Reply}
use Rattle.messages.specs.declared.reply.Reply.TheVariants as reply
use Rattle.entry_maps.specs.Stamps.{stamps_of}
use Rattle.bucket_db.specs.declared.row.Row.{Row}
use Rattle.lane_journals.specs.Events as plain
use Rattle.lane_journals.specs.Meanings.{content, names, meaning_reply}
use Rattle.lane_journals.specs.declared.event.LaneEvent.{LaneEvent}
use Rattle.lane_keeping.specs.Flights.{meant}
use Rattle.row_keeping.specs.Telling.{IsOfRow}
use Rattle.lane_states.specs.Tellings.{IsRowBody, IsAnsweredBy}
use Rattle.upkeep_spans.specs.Spans.{IsUpkeepBody}
use Rattle.lane_upkeep.specs.declared.owner.Owner.{Owner}
use Rattle.lane_upkeep.specs.CameBack.{IsNotedAs, IsNotedReply, CameBack}

pub row-body : (row : Row) (node : ℕ) (b : Body) → IsOfRow row node b → IsRowBody b
row-body row node body.Ask h = absurd h
row-body row node (body.Read b only) h = absurd h
row-body row node (body.Store e) h = absurd h
row-body row node (body.Apply b es) h = absurd h
row-body row node (body.Delete b s) h = tt
row-body row node (body.Split b) h = tt
row-body row node (body.Join b) h = tt
row-body row node (body.Ready b) h = tt
row-body row node (body.Activate b) h = tt

pub upkeep-body : (b : Body) → IsRowBody b → IsUpkeepBody (noted_body b)
upkeep-body body.Ask h = absurd h
upkeep-body (body.Read b only) h = absurd h
upkeep-body (body.Store e) h = absurd h
upkeep-body (body.Apply b es) h = absurd h
upkeep-body (body.Delete b s) h = tt
upkeep-body (body.Split b) h = tt
upkeep-body (body.Join b) h = tt
upkeep-body (body.Ready b) h = tt
upkeep-body (body.Activate b) h = tt

noted-as : (b : Body) (x : plain.Body) → IsRowBody b → x ≡ meant b → IsNotedAs b x
noted-as body.Ask x h e = absurd h
noted-as (body.Read b only) x h e = absurd h
noted-as (body.Store y) x h e = absurd h
noted-as (body.Apply b es) x h e = absurd h
noted-as (body.Delete b s) x h e = e
noted-as (body.Split b) x h e = e
noted-as (body.Join b) x h e = e
noted-as (body.Ready b) x h e = e
noted-as (body.Activate b) x h e = e

reply-noted : (J : List LaneEvent) (r : Reply) → IsNotedReply r (meaning_reply J (noted_reply r))
reply-noted J (reply.Answer pieces entries) = (content J (stamps_of entries), names pieces, refl)
reply-noted J (reply.Newer v) = refl
reply-noted J reply.NoBucket = refl
reply-noted J reply.Differs = refl
reply-noted J reply.NoMemory = refl

pub came-of : (J : List LaneEvent) (o : Owner) (node : ℕ) (b : Body) (r : Reply) → IsRowBody b → IsAnsweredBy J (o.state).version node b r → CameBack J o node b r
came-of J o node b r h a = record {
  number = a.number;
  message = a.message;
  was_sent = a.was_sent;
  version = a.version;
  receiver = a.receiver;
  noted = noted-as b (a.message).body h a.body_is;
  given = meaning_reply a.before (noted_reply r);
  replied = a.replied;
  noted_reply = reply-noted a.before r;
  back = a.back;
}

-- the same of a reply that came or didn't
pub came-all : (J : List LaneEvent) (o : Owner) (node : ℕ) (b : Body) (reply : Option Reply) → IsRowBody b → IfSome reply (IsAnsweredBy J (o.state).version node b) → IfSome reply (λ r. CameBack J o node b r)
came-all J o node b None h a = tt
came-all J o node b (Some r) h a = came-of J o node b r h a
