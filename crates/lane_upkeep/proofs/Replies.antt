-- What follows of a reply that came back.
use Rattle.std.proofs.Common.{◌≡◌, ◌∙◌, ℕ, Bool, true, List, Option, Some, None, sym, ap}
use Rattle.std.specs.Prelude.{IfSome}
use mathlib.Core.Bool.{true≢false}
use Rattle.bucket_ids.specs.Buckets.{Low}
use Rattle.bucket_db.specs.declared.row.Deleting.{Deleting}
use Rattle.bucket_db.specs.declared.row.Row.{Row}
use Rattle.messages.specs.declared.body.Body.TheVariants as body
use Rattle.messages.specs.declared.reply.Reply.{Reply}
use Rattle.messages.specs.declared.reply.Reply.TheVariants as reply
use Rattle.distributor_part.specs.declared.rules.Rules.{Rules}
use Rattle.distributor_part.specs.Parts.{rows_of}
use Rattle.lane_journals.specs.Buckets.{Bucket}
use Rattle.lane_journals.specs.Events as plain
use Rattle.lane_journals.specs.Facts.{AnsweredReady}
use Rattle.lane_journals.specs.Legal.{is_ending}
use Rattle.lane_journals.specs.Meanings.{history}
use Rattle.lane_journals.specs.declared.event.LaneEvent.{LaneEvent}
use Rattle.lane_keeping.specs.LaneKeeping.{part_in}
use Rattle.row_keeping.specs.Deciding.{IsDeleteOver}
use Rattle.lane_states.specs.declared.lane_state.LaneState.{LaneState}
use Rattle.lane_upkeep.specs.declared.owner.Owner.{Owner}
use Rattle.lane_upkeep.specs.CameBack.{CameBack, is_taken, is_end}
use Rattle.lane_upkeep.specs.Passing.{PassesOn, rows_in, HasRow}

-- ---- rows

-- the row of a place is one
pub one_row : (c : LaneState) (o : Owner) (at : ℕ) (x y : Row) → HasRow c o at x → HasRow c o at y → x ≡ y
one_row c o at x y a b = let e : Some x ≡ Some y = sym a ∙ b in cc

-- the rows are the same while the parts are
pub rows_same : (c e : LaneState) (o : Owner) → PassesOn c e o → e.parts ≡ c.parts → rows_in e o ≡ rows_in c o
rows_same c e o on same =
    ap (λ (k : Low). rows_of (part_in k e.rules e.parts.items o.distributor).rows) (ap (λ (z : LaneState). z.lane) on.after)
    ∙ (ap (λ (r : Rules). rows_of (part_in c.lane r e.parts.items o.distributor).rows) (ap (λ (z : LaneState). z.rules) on.after)
    ∙ ap (λ ps. rows_of (part_in c.lane c.rules (ps.items) o.distributor).rows) same)

-- ---- replies

taken : (J : List LaneEvent) (o : Owner) (node : ℕ) (b : Low) (r : Reply) (c : CameBack J o node (body.Ready b) r)
    → ((content : plain.Content) × (names : Bucket → ℕ → Bool) × (c.given ≡ plain.Answer content names)) → AnsweredReady (o.state).version node b (history J)
taken J o node b r c (content, names, is) = record {
  number = c.number;
  message = c.message;
  content = content;
  names = names;
  was_sent = c.was_sent;
  receiver = c.receiver;
  version = c.version;
  body = c.noted;
  reply = c.replied ∙ ap (λ (y : plain.Reply). Some y) is;
  back = c.back;
}

-- a node that answered a Ready
pub ready_of : (J : List LaneEvent) (o : Owner) (node : ℕ) (b : Low) (r : Option Reply) → is_taken r ≡ true → IfSome r (λ x. CameBack J o node (body.Ready b) x) → AnsweredReady (o.state).version node b (history J)
ready_of J o node b None t c = absurd (true≢false (sym t))
ready_of J o node b (Some (reply.Newer v)) t c = absurd (true≢false (sym t))
ready_of J o node b (Some reply.NoBucket) t c = absurd (true≢false (sym t))
ready_of J o node b (Some reply.Differs) t c = absurd (true≢false (sym t))
ready_of J o node b (Some reply.NoMemory) t c = absurd (true≢false (sym t))
ready_of J o node b (Some (reply.Answer ps es)) t c = taken J o node b (reply.Answer ps es) c c.noted_reply

ends : (J : List LaneEvent) (o : Owner) (x : Deleting) (r : Reply) (c : CameBack J o x.node (body.Delete x.bucket x.serial) r) → is_ending c.given ≡ true → IsDeleteOver (history J) o.state x
ends J o x r c e = record {
  number = c.number;
  message = c.message;
  was_sent = c.was_sent;
  version = c.version;
  receiver = c.receiver;
  body = c.noted;
  reply = c.given;
  replied = c.replied;
  ending = e;
  back = c.back;
}

answers-end : (given : plain.Reply) → ((content : plain.Content) × (names : Bucket → ℕ → Bool) × (given ≡ plain.Answer content names)) → is_ending given ≡ true
answers-end given (content, names, is) = ap is_ending is

-- a Delete that is over
pub over_of : (J : List LaneEvent) (o : Owner) (x : Deleting) (r : Option Reply) → is_end r ≡ true → IfSome r (λ y. CameBack J o x.node (body.Delete x.bucket x.serial) y) → IsDeleteOver (history J) o.state x
over_of J o x None t c = absurd (true≢false (sym t))
over_of J o x (Some (reply.Newer v)) t c = absurd (true≢false (sym t))
over_of J o x (Some reply.NoMemory) t c = absurd (true≢false (sym t))
over_of J o x (Some (reply.Answer ps es)) t c = ends J o x (reply.Answer ps es) c (answers-end c.given c.noted_reply)
over_of J o x (Some reply.NoBucket) t c = ends J o x reply.NoBucket c (ap is_ending c.noted_reply)
over_of J o x (Some reply.Differs) t c = ends J o x reply.Differs c (ap is_ending c.noted_reply)
