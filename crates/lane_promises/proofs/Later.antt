-- What was known of a line stays known over each deed.
use Rattle.std.proofs.Common.{◌≡◌, ◌⊎◌, ℕ, List, ◌∷◌, Option, None, Some, inl, inr, sym, ap, ◌∙◌, subst}
use Rattle.bucket_ids.specs.Buckets.{Low}
use Rattle.cluster_states.specs.declared.cluster_state.ClusterState.{ClusterState}
use Rattle.distributor_part.specs.declared.rules.Rules.{Rules}
use Rattle.ideal_nodes.specs.Placement.{IsOwner}
use Rattle.messages.specs.declared.outcome.Outcome.{Outcome}
use Rattle.lane_journals.specs.Readers.{Beginning, began}
use Rattle.lane_journals.specs.Meanings.{history, meaning}
use Rattle.lane_journals.specs.declared.event.LaneEvent.{LaneEvent}
use Rattle.lane_journals.specs.declared.event.LaneEvent.TheVariants as event
use Rattle.lane_journals.proofs.Basics.{or_else-some, began-stays}
use Rattle.lane_lives.specs.declared.setting.Setting.{Setting}
use Rattle.lane_calls.specs.Lines.{FeedLine, begun_at, IsRunAt, IsRefused, IsCarriedOut}
use Rattle.lane_lives.specs.Lives.{Deed, Announces, Stops, Starts, Runs, Feeds, Maintains, Does}
use Rattle.lane_calls.specs.Readings.{outcome_in}
use Rattle.lane_promises.specs.Promises.{IsServed}
use Rattle.lane_calls.proofs.Leaving.{leaves_to}
use Rattle.lane_calls.proofs.OneLine.{Passes, passes_announced, passes_next, passes_stop, passes_start, passes_upkeep}
use Rattle.lane_lives.proofs.Deeds.{pass_or_none}
use Rattle.lane_calls.proofs.Steps.{grown-up}

pub record Stays (J K : List LaneEvent) : Type 0 where
  pub outcomes : (j : ℕ) (x : Outcome) → outcome_in j J ≡ Some x → outcome_in j K ≡ Some x
  pub beginnings : (j : ℕ) (b : Beginning) → began j (history J) ≡ Some b → began j (history K) ≡ Some b

pub stays_itself : (J : List LaneEvent) → Stays J J
stays_itself J = record { outcomes = λ j x h. h; beginnings = λ j b h. h }

pub stays-trans : (I J K : List LaneEvent) → Stays I J → Stays J K → Stays I K
stays-trans I J K a b = record { outcomes = λ j x h. b.outcomes j x (a.outcomes j x h); beginnings = λ j y h. b.beginnings j y (a.beginnings j y h) }

stays_passes : (J K : List LaneEvent) → Passes J K → Stays J K
stays_passes J K p = record { outcomes = λ j x h. p.outcome_is j ∙ h; beginnings = λ j b h. p.began_is j ∙ h }

stays_run : (lane : Low) (rules : Rules) (line : FeedLine) (d : ℕ) (state : ClusterState) (J K : List LaneEvent) → IsRunAt lane rules line d state J K → Stays J K
stays_run lane rules line d state J K c =
    let left = leaves_to lane rules line.number line.operation (begun_at line d state J) c.run c.outcome c.runs in
    record {
      outcomes = λ j x h. ap (outcome_in j) c.closed ∙ or_else-some (outcome_in j c.run) _ x (left.outcome_is j ∙ h);
      beginnings = λ j b h. ap (λ L. began j (history L)) c.closed ∙ left.began_is j ∙ or_else-some (began j (history J)) _ b h;
    }

stays_refused : (lane : Low) (line : FeedLine) (d : ℕ) (state : ClusterState) (J K : List LaneEvent) → IsRefused lane line d state J K → Stays J K
stays_refused lane line d state J K r = record {
  outcomes = λ j x h. ap (outcome_in j) r.refused ∙ or_else-some (outcome_in j J) _ x h;
  beginnings = λ j b h. ap (λ L. began j (history L)) r.refused ∙ h;
}

stays_line : (lane : Low) (rules : Rules) (line : FeedLine) (via : Option ℕ) (J K : List LaneEvent) → IsCarriedOut lane rules line via J K → Stays J K
stays_line lane rules line None J K c = stays-trans J _ K (stays_passes J _ (passes_next c.owner c.state J)) (stays_run lane rules line c.owner c.state _ K c.run)
stays_line lane rules line (Some d) J K c = by_end c.ends
  where
    by_end : (IsOwner lane c.state d × IsRunAt lane rules line d c.state J K) ⊎ IsRefused lane line d c.state J K → Stays J K
    by_end (inl r) = stays_run lane rules line d c.state J K r.1
    by_end (inr r) = stays_refused lane line d c.state J K r

-- over any event
outcome_on : (e : LaneEvent) (J : List LaneEvent) (j : ℕ) (x : Outcome) → outcome_in j J ≡ Some x → outcome_in j (e ∷ J) ≡ Some x
outcome_on (event.Closed l outcome) J j x h = or_else-some (outcome_in j J) _ x h
outcome_on (event.Refused l d outcome) J j x h = or_else-some (outcome_in j J) _ x h
outcome_on _ J j x h = h

pub stays_event : (e : LaneEvent) (J : List LaneEvent) → Stays J (e ∷ J)
stays_event e J = record { outcomes = λ j x h. outcome_on e J j x h; beginnings = λ j b h. began-stays j (history J) b (meaning J e) h }

pub deed_stays : (s : Setting) (lane : Low) (deed : Deed) (J K : List LaneEvent) → Does s lane deed J K → Stays J K
deed_stays s lane (Announces state deaf) J K does = subst (Stays J) (sym does) (stays_passes J _ (passes_announced deaf state J))
deed_stays s lane (Stops n) J K does = subst (Stays J) (sym does) (stays_passes J _ (passes_stop n J))
deed_stays s lane (Starts n) J K does = subst (Stays J) (sym does) (stays_passes J _ (passes_start n J))
deed_stays s lane (Runs line) J K does = stays_line lane s.rules line line.via J K does
deed_stays s lane (Feeds feeders lines left) J K does = grown-up feeders lines lane s.rules (Stays J) (λ e L step stays. stays-trans J L (e ∷ L) stays (stays_event e L)) J K does.grew (stays_itself J)
deed_stays s lane (Maintains noted) J K does = stays_passes J K (passes_upkeep lane J K (pass_or_none lane noted J K does))

-- a line that was served is served later
pub served_later : (J K : List LaneEvent) → Stays J K → (line : FeedLine) → IsServed J line → IsServed K line
served_later J K stays line is = record {
  outcome = is.outcome;
  closed = stays.outcomes line.number is.outcome is.closed;
  answered = is.answered;
  acknowledged = λ plain. elim (is.acknowledged plain) [
    | inl a ↦ inl (record { beginning = a.beginning; stamp = a.stamp; begun = stays.beginnings line.number a.beginning a.begun; drawn = a.drawn; is = a.is })
    | inr m ↦ inr m
  ];
}
