-- A lane that serves its lines may be told or asked of one thing more, and then serves on.
use Rattle.std.proofs.Common.{◌≡◌, ◌<◌, ℕ, Bool, false, List, ◌∷◌, None, Some, inl, inr, refl, sym, ap, ◌∙◌, subst}
use Rattle.std.specs.Option.{IsSome}
use Rattle.bucket_ids.specs.Buckets.{Low}
use Rattle.carriers.specs.declared.fate.Fate.{Fate}
use Rattle.cluster_states.specs.declared.cluster_state.ClusterState.{ClusterState}
use Rattle.cluster_states.specs.Publishing.{Told}
use Rattle.distributor_part.specs.declared.rules.Rules.{Rules}
use Rattle.messages.specs.declared.outcome.Outcome.{Outcome}
use Rattle.lane_journals.specs.Readers.{held}
use Rattle.lane_journals.specs.Meanings.{history}
use Rattle.lane_journals.specs.Places.{told}
use Rattle.lane_journals.specs.declared.event.LaneEvent.{LaneEvent}
use Rattle.lane_keeping.specs.LaneKeeping.{setting_of}
use Rattle.lane_keeping.specs.Lines.{IsFresh}
use Rattle.lane_keeping.specs.Tidings.{announced, stopped_next, started_next, last_state}
use Rattle.lane_calls.specs.LaneValues.{LaneValue, IsLaneValue}
use Rattle.lane_lives.specs.declared.setting.Setting.{Setting}
use Rattle.lane_calls.specs.Lines.{FeedLine, IsCarriedOut, last_line, AreRising}
use Rattle.lane_lives.specs.Lives.{Deed, Announces, Stops, Starts, Runs, Maintains, Does, lines_of, states_in, newest_in}
use Rattle.lane_calls.specs.Upkept.{IsMaintained}
use Rattle.lane_core.specs.Runs.{IsLineRun}
use Rattle.lane_lives.specs.Upkeep.{MayBeUpkept, IsSpan}
use Rattle.lane_lives.specs.declared.spans.UpkeepSpan.{UpkeepSpan}
use Rattle.lane_lives.specs.Serving.{bucket_in, IsServing}
use Rattle.lane_calls.proofs.Upkept.{pass_made}
use Rattle.lane_lives.proofs.Living.{heard_all, newest_published, states_published, others_fresh, later_none}

abbrev told_of : ℕ → List ClusterState → Told
told_of acks states = record { acks = acks; states = states }

module _ (s : Setting) (planned : List Fate) (lane : ℕ) (deeds : List Deed) (v : LaneValue) where
  -- ---- what it may be asked

  pub serving_fresh : (line : ℕ) → IsServing s planned lane deeds v → last_line (lines_of deeds) < line → IsFresh (history v.journal) line
  serving_fresh line is later = others_fresh s (bucket_in s lane) deeds v.journal is.life line (later_none line (lines_of deeds) is.rising later)

  -- each distributor holds a state
  pub serving_heard : (d : ℕ) → IsServing s planned lane deeds v → d < 32 → IsSome (held d (history v.journal))
  serving_heard d is small = heard_all s (bucket_in s lane) deeds v.journal is.life d small

  pub serving_newest : IsServing s planned lane deeds v → last_state v.journal ≡ Some (newest_in s deeds)
  serving_newest is = newest_published s (bucket_in s lane) deeds v.journal is.life

  pub serving_told : IsServing s planned lane deeds v → told (setting_of v.lane v.rules) v.journal ≡ record { acks = (s.rules).acks; states = states_in s deeds }
  serving_told is =
      ap (told_of (v.rules).acks) (states_published s (bucket_in s lane) deeds v.journal is.life) ∙ ap (λ (r : Rules). told_of r.acks (states_in s deeds)) is.rules_are

  -- ---- what it serves then

  module _ (new : LaneValue) where
    -- after one deed more, in which only the journal, the fates and the room changed
    serves_after : (deed : Deed) (J : List LaneEvent) (given : List Fate) (room : Bool) → IsServing s planned lane deeds v → new ≡ record v { journal = J; given = given; has_room = room } → IsLaneValue new
        → AreRising (lines_of (deed ∷ deeds)) → Does s (bucket_in s lane) deed v.journal new.journal → IsServing s planned lane (deed ∷ deeds) new
    serves_after deed J given room is after holds rising does = record {
      lane_is = ap (λ (n : LaneValue). n.lane) after ∙ is.lane_is;
      rules_are = ap (λ (n : LaneValue). n.rules) after ∙ is.rules_are;
      types_are = ap (λ (n : LaneValue). n.types) after ∙ is.types_are;
      planned_are = ap (λ (n : LaneValue). n.planned) after ∙ is.planned_are;
      idle = ap (λ (n : LaneValue). n.under_way) after ∙ is.idle;
      rising = rising;
      life = (v.journal, (is.life, does));
      holds = holds;
    }

    pub serves_announced : (state : ClusterState) (deaf : ℕ) → IsServing s planned lane deeds v → new ≡ record v { journal = announced deaf state v.journal; has_room = false } → IsLaneValue new → IsServing s planned lane (Announces state deaf ∷ deeds) new
    serves_announced state deaf is after holds = serves_after (Announces state deaf) (announced deaf state v.journal) v.given false is after holds is.rising (ap (λ (n : LaneValue). n.journal) after)

    pub serves_stopped : (n : ℕ) → IsServing s planned lane deeds v → new ≡ record v { journal = stopped_next n v.journal; has_room = false } → IsLaneValue new → IsServing s planned lane (Stops n ∷ deeds) new
    serves_stopped n is after holds = serves_after (Stops n) (stopped_next n v.journal) v.given false is after holds is.rising (ap (λ (x : LaneValue). x.journal) after)

    pub serves_started : (n : ℕ) → IsServing s planned lane deeds v → new ≡ record v { journal = started_next n v.journal; has_room = false } → IsLaneValue new → IsServing s planned lane (Starts n ∷ deeds) new
    serves_started n is after holds = serves_after (Starts n) (started_next n v.journal) v.given false is after holds is.rising (ap (λ (x : LaneValue). x.journal) after)

    carried_here : (line : FeedLine) (x : Outcome) → IsServing s planned lane deeds v → IsLineRun line v new x → IsCarriedOut (bucket_in s lane) s.rules line line.via v.journal new.journal
    carried_here line x is run =
        subst (λ (r : Rules). IsCarriedOut (bucket_in s lane) r line line.via v.journal new.journal) is.rules_are (subst (λ (b : Low). IsCarriedOut b v.rules line line.via v.journal new.journal) is.lane_is run.done)

    pub serves_run : (line : FeedLine) (x : Outcome) → IsServing s planned lane deeds v → last_line (lines_of deeds) < line.number → IsLineRun line v new x → IsServing s planned lane (Runs line ∷ deeds) new
    serves_run line x is later run = serves_after (Runs line) new.journal new.given v.has_room is run.after run.holds (later, is.rising) (carried_here line x is run)

    -- a pass of upkeep, or none
    upkept_here : IsServing s planned lane deeds v → MayBeUpkept v new → Does s (bucket_in s lane) (Maintains None) v.journal new.journal
    upkept_here is (inl same) = inl (ap (λ (n : LaneValue). n.journal) same)
    upkept_here is (inr m) = inr (subst (λ (b : Low). IsMaintained b v.journal new.journal) is.lane_is (pass_made v new m))

    upkept_after : MayBeUpkept v new → new ≡ record v { journal = new.journal; given = new.given; has_room = v.has_room }
    upkept_after (inl same) = same ∙ (λ i. record v { journal = (sym same i).journal; given = (sym same i).given })
    upkept_after (inr m) = m.after

    pub serves_upkept : IsServing s planned lane deeds v → MayBeUpkept v new → IsLaneValue new → IsServing s planned lane (Maintains None ∷ deeds) new
    serves_upkept is may holds = serves_after (Maintains None) new.journal new.given v.has_room is (upkept_after may) holds is.rising (upkept_here is may)

    -- a pass whose span is noted
    spanned_here : (span : UpkeepSpan) → IsServing s planned lane deeds v → IsSpan span v new → Does s (bucket_in s lane) (Maintains (Some span)) v.journal new.journal
    spanned_here span is made = record { pass = subst (λ (b : Low). IsMaintained b v.journal new.journal) is.lane_is (pass_made v new made.pass); from = made.from; to = made.to }

    pub serves_spanned : (span : UpkeepSpan) → IsServing s planned lane deeds v → IsSpan span v new → IsLaneValue new → IsServing s planned lane (Maintains (Some span) ∷ deeds) new
    serves_spanned span is made holds = serves_after (Maintains (Some span)) new.journal new.given v.has_room is (made.pass).after holds is.rising (spanned_here span is made)

    -- ---- what is no deed

    room_holds : (room : Bool) → IsLaneValue v → IsLaneValue (record v { has_room = room })
    room_holds room h = record { legal = h.legal; carried = h.carried; lines = h.lines }

    -- room was made
    pub serves_room : (room : Bool) → IsServing s planned lane deeds v → new ≡ record v { has_room = room } → IsServing s planned lane deeds new
    serves_room room is after = subst (IsServing s planned lane deeds) (sym after) (record {
      lane_is = is.lane_is;
      rules_are = is.rules_are;
      types_are = is.types_are;
      planned_are = is.planned_are;
      idle = is.idle;
      rising = is.rising;
      life = is.life;
      holds = room_holds room is.holds;
    })

    plans_hold : (more : List Fate) → IsLaneValue v → IsLaneValue (record v { planned = more })
    plans_hold more h = record { legal = h.legal; carried = h.carried; lines = h.lines }

    -- fates were planned
    pub serves_planned : (more : List Fate) → IsServing s planned lane deeds v → new ≡ record v { planned = more } → IsServing s more lane deeds new
    serves_planned more is after = subst (IsServing s more lane deeds) (sym after) (record {
      lane_is = is.lane_is;
      rules_are = is.rules_are;
      types_are = is.types_are;
      planned_are = refl;
      idle = is.idle;
      rising = is.rising;
      life = is.life;
      holds = plans_hold more is.holds;
    })
