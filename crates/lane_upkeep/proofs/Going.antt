-- How a pass goes on from step to step.
use Rattle.std.proofs.Common.{◌≡◌, ◌∙◌, ℕ, Bool, true, false, List, ◌∷◌, Option, Some, refl, ap, subst, if◌then◌else◌}
use Rattle.std.specs.BTreeMap.{BTreeMap}
use Rattle.bucket_ids.specs.Buckets.{Low}
use Rattle.distributor_part.specs.declared.rules.Rules.{Rules}
use Rattle.lane_journals.specs.Facts.{AnsweredReady}
use Rattle.lane_journals.specs.Meanings.{history}
use Rattle.lane_journals.specs.Readers.{or_else}
use Rattle.lane_journals.specs.declared.event.LaneEvent.{LaneEvent}
use Rattle.lane_journals.specs.declared.event.LaneEvent.TheVariants.{Published, Heard, Begun, Refused, Opened, Prepared, Wrote, Sent, Delivered, Returned, Closed, Decided, Stopped, Started}
use Rattle.lane_keeping.specs.Asking.{OthersStay}
use Rattle.lane_states.specs.declared.lane_state.LaneState.{LaneState}
use Rattle.lane_states.specs.LaneStates.{journal_of}
use Rattle.upkeep_spans.specs.Spans.{IsUpkeepEvent, AreUpkeep, Nothing, More}
use Rattle.lane_upkeep.specs.declared.owner.Owner.{Owner}
use Rattle.pass_machine.specs.declared.notes.RowNote.{RowNote}
use Rattle.lane_upkeep.specs.Passing.{PassesOn}
use Rattle.lane_upkeep.specs.Noted.{StaysKnown, AreNotes}

further : (d v : ℕ) (J K L : List LaneEvent) → AreUpkeep d v J K → AreUpkeep d v K L → AreUpkeep d v J L
further d v J K L a Nothing = a
further d v J K L a (More M e is more) = More M e is (further d v J K M a more)

-- nothing was done
pub on_none : (c : LaneState) (o : Owner) → PassesOn c c o
on_none c o = record {
  others = λ n off. refl;
  parts = refl;
  after = refl;
  grows = Nothing;
}

-- one step after others
pub on_then : (c e f : LaneState) (o : Owner) → PassesOn c e o → PassesOn e f o → PassesOn c f o
on_then c e f o a b = record {
  others = λ n off.
      subst (λ (r : Rules). OthersStay c.lane r e.parts.items f.parts.items o.distributor) (ap (λ (z : LaneState). z.rules) a.after)
      (subst (λ (l : Low). OthersStay l e.rules e.parts.items f.parts.items o.distributor) (ap (λ (z : LaneState). z.lane) a.after) b.others) n off
      ∙ a.others n off;
  parts = b.parts ∙ a.parts;
  after = b.after ∙ ap (λ (z : LaneState). record z { journal = f.journal; last = f.last; nodes = f.nodes; parts = f.parts; late = f.late }) a.after;
  grows = further _ _ _ _ _ a.grows b.grows;
}

-- ---- what is between two steps

-- a note that is known stays one
pub notes_stay : (c e : LaneState) (o : Owner) (notes : BTreeMap ℕ RowNote) → StaysKnown c e o → AreNotes (journal_of c) o.state notes → AreNotes (journal_of e) o.state notes
notes_stay c e o notes stay are number note h = record { numbered = (are number note h).numbered; valid = (are number note h).valid; knows = stay note (are number note h).knows }

-- ---- answers to Ready

kept-first : {A : Type 0} (o : Option A) (x : A) (y : Option A) → o ≡ Some x → or_else o y ≡ Some x
kept-first o x y e = ap (λ z. or_else z y) e

kept-back : (c x : Bool) → x ≡ true → (if c then true else x) ≡ true
kept-back true x e = refl
kept-back false x e = e

ready-kept : (d v : ℕ) (J : List LaneEvent) (e : LaneEvent) → IsUpkeepEvent d v e → (w n : ℕ) (b : Low) → AnsweredReady w n b (history J) → AnsweredReady w n b (history (e ∷ J))
ready-kept d v J (Opened x y rows) h w n b r = record { number = r.number; message = r.message; content = r.content; names = r.names; was_sent = r.was_sent; receiver = r.receiver; version = r.version; body = r.body; reply = r.reply; back = r.back }
ready-kept d v J (Sent k x y to z) h w n b r = record { number = r.number; message = r.message; content = r.content; names = r.names; was_sent = kept-first _ _ _ r.was_sent; receiver = r.receiver; version = r.version; body = r.body; reply = r.reply; back = r.back }
ready-kept d v J (Delivered k x) h w n b r = record { number = r.number; message = r.message; content = r.content; names = r.names; was_sent = r.was_sent; receiver = r.receiver; version = r.version; body = r.body; reply = kept-first _ _ _ r.reply; back = r.back }
ready-kept d v J (Returned k) h w n b r = record { number = r.number; message = r.message; content = r.content; names = r.names; was_sent = r.was_sent; receiver = r.receiver; version = r.version; body = r.body; reply = r.reply; back = kept-back _ _ r.back }
ready-kept d v J (Decided x y z) h w n b r = record { number = r.number; message = r.message; content = r.content; names = r.names; was_sent = r.was_sent; receiver = r.receiver; version = r.version; body = r.body; reply = r.reply; back = r.back }
ready-kept d v J (Published s) h w n b r = absurd h
ready-kept d v J (Heard x y) h w n b r = absurd h
ready-kept d v J (Begun line x y id s) h w n b r = absurd h
ready-kept d v J (Refused line x outcome) h w n b r = absurd h
ready-kept d v J (Prepared line row set) h w n b r = absurd h
ready-kept d v J (Wrote line entry) h w n b r = absurd h
ready-kept d v J (Closed line outcome) h w n b r = absurd h
ready-kept d v J (Stopped x) h w n b r = absurd h
ready-kept d v J (Started x) h w n b r = absurd h

-- whoever answered stays one who did
pub ready_stays : (d v : ℕ) (J K : List LaneEvent) → AreUpkeep d v J K → (w n : ℕ) (b : Low) → AnsweredReady w n b (history J) → AnsweredReady w n b (history K)
ready_stays d v J K Nothing w n b r = r
ready_stays d v J K (More M e is more) w n b r = ready-kept d v M e is w n b (ready_stays d v J M more w n b r)
