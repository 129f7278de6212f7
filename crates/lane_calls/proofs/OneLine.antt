-- What a line leaves of all others, what it brings, and what events of no line leave.
use Rattle.std.proofs.Common.{◌≡◌, ◌≢◌, ◌==◌, ◌⊎◌, ◌+◌, ℕ, Bool, true, false, List, [], ◌∷◌, Option, None, Some, inl, inr, refl, sym, ap, ◌∙◌, subst, arith, if◌then◌else◌}
use Rattle.std.specs.Option.{IsSome}
use Rattle.std.proofs.lemmas.Bool.Decides.{nat_tests}
use Rattle.bucket_ids.specs.Buckets.{Low}
use Rattle.cluster_states.specs.declared.cluster_state.ClusterState.{ClusterState}
use Rattle.distributor_part.specs.declared.rules.Rules.{Rules}
use Rattle.documents.specs.declared.entry.Entry.{Entry}
use Rattle.ideal_nodes.specs.Placement.{IsOwner}
use Rattle.messages.specs.declared.outcome.Outcome.{Outcome}
use Rattle.stamps.specs.declared.stamp.Stamp.{Stamp}
use Rattle.lane_journals.specs.Buckets.{Id}
use Rattle.lane_journals.specs.Events as plain
use Rattle.lane_journals.specs.Readers.{Journal, or_else, only_if, held, stopped, began, refused, prepared, wrote, closed, before_line}
use Rattle.lane_journals.specs.Meanings.{history, entry_at, is_acked, version_in}
use Rattle.lane_journals.specs.declared.event.LaneEvent.{LaneEvent}
use Rattle.lane_journals.specs.declared.event.LaneEvent.TheVariants as event
use Rattle.lane_keeping.specs.Lines.{IsFresh}
use Rattle.lane_keeping.specs.Tidings.{heard_next, announced, stopped_next, started_next}
use Rattle.upkeep_spans.specs.Spans.{AreUpkeep}
use Rattle.lane_calls.specs.Lines.{FeedLine, IsRunAt, IsRefused, IsCarriedOut}
use Rattle.lane_calls.specs.Readings.{outcome_in, told_events}
use Rattle.lane_calls.specs.Upkept.{IsMaintained}
use Rattle.lane_calls.proofs.Leaving.{Leaves, leaves_to}
use Rattle.lane_calls.proofs.Told.{some_or, heard_keeps, next_keeps, told_next}
use Rattle.lane_calls.proofs.Upkept.{leaves_upkeep}

-- ---- readers past the events of another line

or_else_none : {A : Type 0} (j n : ℕ) (o : Option A) (x : A) → j ≢ n → or_else o (only_if (n == j) x) ≡ o
or_else_none j n None x h = grind (arith, nat_tests)
or_else_none j n (Some y) x h = refl

began_other : (j n d v : ℕ) (id : Id) (s : Option Stamp) (H : Journal) → j ≢ n → began j (plain.Begun n d v id s ∷ H) ≡ began j H
began_other j n d v id s H h = or_else_none j n (began j H) (record { distributor = d; version = v; id = id; stamp = s }) h

refused_other : (j n d v : ℕ) (H : Journal) → j ≢ n → refused j (plain.Refused n d v ∷ H) ≡ refused j H
refused_other j n d v H h = grind (arith, nat_tests)

before_other : (j n d v : ℕ) (id : Id) (s : Option Stamp) (H : Journal) → j ≢ n → before_line j (plain.Begun n d v id s ∷ H) ≡ before_line j H
before_other j n d v id s H h = grind (arith, nat_tests)

before_own : (n d v : ℕ) (id : Id) (s : Option Stamp) (H : Journal) → before_line n (plain.Begun n d v id s ∷ H) ≡ H
before_own n d v id s H = grind (arith, nat_tests)

closed_other : (j n : ℕ) (ok : Bool) (H : Journal) → j ≢ n → closed j (plain.Closed n ok ∷ H) ≡ closed j H
closed_other j n ok H h = grind (arith, nat_tests)

closed_own : (n : ℕ) (ok : Bool) (H : Journal) → closed n (plain.Closed n ok ∷ H) ≡ true
closed_own n ok H = grind (arith, nat_tests)

-- ---- the outcome of a line

outcome_other : (j n : ℕ) (x : Outcome) (J : List LaneEvent) → j ≢ n → outcome_in j (event.Closed n x ∷ J) ≡ outcome_in j J
outcome_other j n x J h = or_else_none j n (outcome_in j J) x h

outcome_unrefused : (j n d : ℕ) (x : Outcome) (J : List LaneEvent) → j ≢ n → outcome_in j (event.Refused n d x ∷ J) ≡ outcome_in j J
outcome_unrefused j n d x J h = or_else_none j n (outcome_in j J) x h

pub outcome_own : (n : ℕ) (x : Outcome) (J : List LaneEvent) → outcome_in n J ≡ None → outcome_in n (event.Closed n x ∷ J) ≡ Some x
outcome_own n x J h = grind (arith, nat_tests)

pub outcome_refused : (n d : ℕ) (x : Outcome) (J : List LaneEvent) → outcome_in n J ≡ None → outcome_in n (event.Refused n d x ∷ J) ≡ Some x
outcome_refused n d x J h = grind (arith, nat_tests)

-- a line that is neither closed nor refused has no outcome
pub unended_none : (n : ℕ) (J : List LaneEvent) → closed n (history J) ≡ false → refused n (history J) ≡ false → outcome_in n J ≡ None
unended_none n [] h r = refl
unended_none n (e ∷ J) h r = by_event e h r (unended_none n J)
  where
    by_event : (e : LaneEvent) → closed n (history (e ∷ J)) ≡ false → refused n (history (e ∷ J)) ≡ false → (closed n (history J) ≡ false → refused n (history J) ≡ false → outcome_in n J ≡ None) → outcome_in n (e ∷ J) ≡ None
    by_event e h r below = grind (arith, nat_tests)

pub fresh_none : (n : ℕ) (J : List LaneEvent) → IsFresh (history J) n → outcome_in n J ≡ None
fresh_none n J fresh = unended_none n J fresh.unclosed fresh.unrefused

-- ---- events of no line

-- what is read of lines stays, and who held a state holds one
pub record Passes (J K : List LaneEvent) : Type 0 where
  pub heard : (d : ℕ) → IsSome (held d (history J)) → IsSome (held d (history K))
  pub began_is : (j : ℕ) → began j (history K) ≡ began j (history J)
  pub refused_is : (j : ℕ) → refused j (history K) ≡ refused j (history J)
  pub prepared_is : (j : ℕ) → prepared j (history K) ≡ prepared j (history J)
  pub wrote_is : (j : ℕ) → wrote j (history K) ≡ wrote j (history J)
  pub closed_is : (j : ℕ) → closed j (history K) ≡ closed j (history J)
  pub before_is : (j : ℕ) → before_line j (history K) ≡ before_line j (history J)
  pub outcome_is : (j : ℕ) → outcome_in j K ≡ outcome_in j J
  pub entries : (t : Stamp) (e : Entry) → entry_at t J ≡ Some e → entry_at t K ≡ Some e

pub passes_itself : (J : List LaneEvent) → Passes J J
passes_itself J = record {
  heard = λ d h. h;
  began_is = λ j. refl;
  refused_is = λ j. refl;
  prepared_is = λ j. refl;
  wrote_is = λ j. refl;
  closed_is = λ j. refl;
  before_is = λ j. refl;
  outcome_is = λ j. refl;
  entries = λ t e is. is;
}

-- one more hearing
passes_heard : (J : List LaneEvent) (d v : ℕ) (K : List LaneEvent) → Passes J K → Passes J (event.Heard d v ∷ K)
passes_heard J d v K p = record {
  heard = λ e h. some_or _ v (d == e) (p.heard e h);
  began_is = p.began_is;
  refused_is = p.refused_is;
  prepared_is = p.prepared_is;
  wrote_is = p.wrote_is;
  closed_is = p.closed_is;
  before_is = p.before_is;
  outcome_is = p.outcome_is;
  entries = p.entries;
}

passes_published : (s : ClusterState) (J : List LaneEvent) → Passes J (event.Published s ∷ J)
passes_published s J = let p = passes_itself J in record {
  heard = p.heard;
  began_is = p.began_is;
  refused_is = p.refused_is;
  prepared_is = p.prepared_is;
  wrote_is = p.wrote_is;
  closed_is = p.closed_is;
  before_is = p.before_is;
  outcome_is = p.outcome_is;
  entries = p.entries;
}

passes_stopped : (n : ℕ) (J : List LaneEvent) → Passes J (event.Stopped n ∷ J)
passes_stopped n J = let p = passes_itself J in record {
  heard = p.heard;
  began_is = p.began_is;
  refused_is = p.refused_is;
  prepared_is = p.prepared_is;
  wrote_is = p.wrote_is;
  closed_is = p.closed_is;
  before_is = p.before_is;
  outcome_is = p.outcome_is;
  entries = p.entries;
}

passes_started : (n : ℕ) (J : List LaneEvent) → Passes J (event.Started n ∷ J)
passes_started n J = let p = passes_itself J in record {
  heard = p.heard;
  began_is = p.began_is;
  refused_is = p.refused_is;
  prepared_is = p.prepared_is;
  wrote_is = p.wrote_is;
  closed_is = p.closed_is;
  before_is = p.before_is;
  outcome_is = p.outcome_is;
  entries = p.entries;
}

pub passes_announced : (deaf : ℕ) (s : ClusterState) (J : List LaneEvent) → Passes J (announced deaf s J)
passes_announced deaf s J = heard_keeps (λ L. Passes J L) (λ e v L p. passes_heard J e v L p) 32 deaf s (event.Published s ∷ J) (passes_published s J)

pub passes_next : (d : ℕ) (s : ClusterState) (J : List LaneEvent) → Passes J (heard_next d (Some s) J)
passes_next d s J = next_keeps (λ L. Passes J L) (λ e v L p. passes_heard J e v L p) d s J (passes_itself J)

pub passes_stop : (n : ℕ) (J : List LaneEvent) → Passes J (stopped_next n J)
passes_stop n J = by_test (stopped n (history J))
  where
    by_test : (t : Bool) → Passes J (if t then J else event.Stopped n ∷ J)
    by_test true = passes_itself J
    by_test false = passes_stopped n J

pub passes_start : (n : ℕ) (J : List LaneEvent) → Passes J (started_next n J)
passes_start n J = by_test (stopped n (history J))
  where
    by_test : (t : Bool) → Passes J (if t then event.Started n ∷ J else J)
    by_test true = passes_started n J
    by_test false = passes_itself J

pub passes-trans : (I J K : List LaneEvent) → Passes I J → Passes J K → Passes I K
passes-trans I J K a b = record {
  heard = λ d h. b.heard d (a.heard d h);
  began_is = λ j. b.began_is j ∙ a.began_is j;
  refused_is = λ j. b.refused_is j ∙ a.refused_is j;
  prepared_is = λ j. b.prepared_is j ∙ a.prepared_is j;
  wrote_is = λ j. b.wrote_is j ∙ a.wrote_is j;
  closed_is = λ j. b.closed_is j ∙ a.closed_is j;
  before_is = λ j. b.before_is j ∙ a.before_is j;
  outcome_is = λ j. b.outcome_is j ∙ a.outcome_is j;
  entries = λ t e is. b.entries t e (a.entries t e is);
}

-- a pass of upkeep is of no line, so not of that behind any other
next_other : (j : ℕ) → j ≢ j + 1
next_other j e = omega (arith, e)

passes_pass : (d v : ℕ) (J K : List LaneEvent) → AreUpkeep d v J K → Passes J K
passes_pass d v J K pass = let left = leaves_upkeep 0 d v J K pass in record {
  heard = λ e some. subst IsSome (sym (left.held_is e)) some;
  began_is = left.began_is;
  refused_is = left.refused_is;
  prepared_is = λ j. (leaves_upkeep (j + 1) d v J K pass).prepared_is j (next_other j);
  wrote_is = λ j. (leaves_upkeep (j + 1) d v J K pass).wrote_is j (next_other j);
  closed_is = left.closed_is;
  before_is = left.before_is;
  outcome_is = left.outcome_is;
  entries = left.entries;
}

pub passes_upkeep : (lane : Low) (J K : List LaneEvent) → (K ≡ J) ⊎ IsMaintained lane J K → Passes J K
passes_upkeep lane J K (inl same) = subst (Passes J) (sym same) (passes_itself J)
passes_upkeep lane J K (inr m) = let heard = heard_next m.owner (Some m.state) J in passes-trans J heard K (passes_next m.owner m.state J) (passes_pass m.owner (m.state).version heard K m.pass)

-- ---- a line

-- the line wasn't begun
pub record IsUnbegun (n : ℕ) (J K : List LaneEvent) : Type 0 where
  pub began_is : began n (history K) ≡ began n (history J)
  pub closed_is : closed n (history K) ≡ closed n (history J)
  pub before_is : before_line n (history K) ≡ before_line n (history J)

-- or it was begun, where just these lines were closed, and is closed
pub record IsEnded (n : ℕ) (J K : List LaneEvent) : Type 0 where
  pub before : (j : ℕ) → closed j (before_line n (history K)) ≡ closed j (history J)
  pub closed_is : closed n (history K) ≡ true

-- of lines the line `n` alone comes after the journal J
pub record IsLine (n : ℕ) (J K : List LaneEvent) : Type 0 where
  pub heard : (d : ℕ) → IsSome (held d (history J)) → IsSome (held d (history K))
  pub began_is : (j : ℕ) → j ≢ n → began j (history K) ≡ began j (history J)
  pub refused_is : (j : ℕ) → j ≢ n → refused j (history K) ≡ refused j (history J)
  pub prepared_is : (j : ℕ) → j ≢ n → prepared j (history K) ≡ prepared j (history J)
  pub wrote_is : (j : ℕ) → j ≢ n → wrote j (history K) ≡ wrote j (history J)
  pub closed_is : (j : ℕ) → j ≢ n → closed j (history K) ≡ closed j (history J)
  pub before_is : (j : ℕ) → j ≢ n → before_line j (history K) ≡ before_line j (history J)
  pub outcome_is : (j : ℕ) → j ≢ n → outcome_in j K ≡ outcome_in j J
  pub entries : (t : Stamp) (e : Entry) → entry_at t J ≡ Some e → entry_at t K ≡ Some e
  pub own : IsUnbegun n J K ⊎ IsEnded n J K

pub line_passes : (n : ℕ) (J K : List LaneEvent) → Passes J K → IsLine n J K
line_passes n J K p = record {
  heard = p.heard;
  began_is = λ j other. p.began_is j;
  refused_is = λ j other. p.refused_is j;
  prepared_is = λ j other. p.prepared_is j;
  wrote_is = λ j other. p.wrote_is j;
  closed_is = λ j other. p.closed_is j;
  before_is = λ j other. p.before_is j;
  outcome_is = λ j other. p.outcome_is j;
  entries = p.entries;
  own = inl (record { began_is = p.began_is n; closed_is = p.closed_is n; before_is = p.before_is n });
}

-- between its beginning and its close
line_by : (n d v : ℕ) (id : Id) (s : Option Stamp) (J L run : List LaneEvent) (x : Outcome) → Passes J L → Leaves n (event.Begun n d v id s ∷ L) run → IsLine n J (event.Closed n x ∷ run)
line_by n d v id s J L run x p h = record {
  heard = λ e some. subst IsSome (sym (h.held_is e)) (p.heard e some);
  began_is = λ j other. h.began_is j ∙ began_other j n d v id s (history L) other ∙ p.began_is j;
  refused_is = λ j other. h.refused_is j ∙ p.refused_is j;
  prepared_is = λ j other. h.prepared_is j other ∙ p.prepared_is j;
  wrote_is = λ j other. h.wrote_is j other ∙ p.wrote_is j;
  closed_is = λ j other. closed_other j n (is_acked x) (history run) other ∙ h.closed_is j ∙ p.closed_is j;
  before_is = λ j other. h.before_is j ∙ before_other j n d v id s (history L) other ∙ p.before_is j;
  outcome_is = λ j other. outcome_other j n x run other ∙ h.outcome_is j ∙ p.outcome_is j;
  entries = λ t e is. h.entries t e (p.entries t e is);
  own = inr (record {
    before = λ j. ap (closed j) (h.before_is n ∙ before_own n d v id s (history L)) ∙ p.closed_is j;
    closed_is = closed_own n (is_acked x) (history run);
  });
}

pub line_run : (lane : Low) (rules : Rules) (line : FeedLine) (d : ℕ) (state : ClusterState) (J L K : List LaneEvent) → Passes J L → IsRunAt lane rules line d state L K → IsLine line.number J K
line_run lane rules line d state J L K p c =
    subst (IsLine line.number J) (sym c.closed) (line_by line.number d _ _ _ J L c.run c.outcome p (leaves_to lane rules line.number line.operation _ c.run c.outcome c.runs))

-- a refusal
line_refused : (n d : ℕ) (x : Outcome) (J : List LaneEvent) → IsLine n J (event.Refused n d x ∷ J)
line_refused n d x J = let p = passes_itself J in record {
  heard = p.heard;
  began_is = λ j other. p.began_is j;
  refused_is = λ j other. refused_other j n d (version_in x) (history J) other;
  prepared_is = λ j other. p.prepared_is j;
  wrote_is = λ j other. p.wrote_is j;
  closed_is = λ j other. p.closed_is j;
  before_is = λ j other. p.before_is j;
  outcome_is = λ j other. outcome_unrefused j n d x J other;
  entries = p.entries;
  own = inl (record { began_is = p.began_is n; closed_is = p.closed_is n; before_is = p.before_is n });
}

pub line_is : (lane : Low) (rules : Rules) (line : FeedLine) (via : Option ℕ) (J K : List LaneEvent) → IsCarriedOut lane rules line via J K → IsLine line.number J K
line_is lane rules line None J K c = line_run lane rules line c.owner c.state J _ K (passes_next c.owner c.state J) c.run
line_is lane rules line (Some d) J K c = by_end c.ends
  where
    by_end : (IsOwner lane c.state d × IsRunAt lane rules line d c.state J K) ⊎ IsRefused lane line d c.state J K → IsLine line.number J K
    by_end (inl r) = line_run lane rules line d c.state J J K (passes_itself J) r.1
    by_end (inr r) = subst (IsLine line.number J) (sym r.refused) (line_refused line.number d _ J)

-- ---- what a line is told and ends with

told_run : (lane : Low) (rules : Rules) (line : FeedLine) (d : ℕ) (state : ClusterState) (J K : List LaneEvent) → IsRunAt lane rules line d state J K → told_events K ≡ told_events J
told_run lane rules line d state J K c = ap told_events c.closed ∙ (leaves_to lane rules line.number line.operation _ c.run c.outcome c.runs).told_is

-- no line tells of a state or of a node
pub told_line : (lane : Low) (rules : Rules) (line : FeedLine) (via : Option ℕ) (J K : List LaneEvent) → IsCarriedOut lane rules line via J K → told_events K ≡ told_events J
told_line lane rules line None J K c = told_run lane rules line c.owner c.state _ K c.run ∙ told_next c.owner c.state J
told_line lane rules line (Some d) J K c = by_end c.ends
  where
    by_end : (IsOwner lane c.state d × IsRunAt lane rules line d c.state J K) ⊎ IsRefused lane line d c.state J K → told_events K ≡ told_events J
    by_end (inl r) = told_run lane rules line d c.state J K r.1
    by_end (inr r) = ap told_events r.refused

-- nor does upkeep
pub told_upkeep : (lane : Low) (J K : List LaneEvent) → (K ≡ J) ⊎ IsMaintained lane J K → told_events K ≡ told_events J
told_upkeep lane J K (inl same) = ap told_events same
told_upkeep lane J K (inr m) = (leaves_upkeep 0 m.owner (m.state).version _ K m.pass).told_is ∙ told_next m.owner m.state J

-- its outcome is the one that it was closed with
pub run_outcome : (lane : Low) (rules : Rules) (line : FeedLine) (d : ℕ) (state : ClusterState) (J K : List LaneEvent) → outcome_in line.number J ≡ None → (c : IsRunAt lane rules line d state J K) → outcome_in line.number K ≡ Some c.outcome
run_outcome lane rules line d state J K none c =
    let left = leaves_to lane rules line.number line.operation _ c.run c.outcome c.runs in
    ap (outcome_in line.number) c.closed ∙ outcome_own line.number c.outcome c.run (left.outcome_is line.number ∙ none)
