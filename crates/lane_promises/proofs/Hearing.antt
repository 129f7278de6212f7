-- Who hears which state.
use Rattle.std.proofs.Common.{◌≡◌, ◌==◌, ◌⊎◌, ◌<◌, ℕ, zero, suc, Bool, true, false, List, [], ◌∷◌, ◌++◌, Option, None, Some, inl, inr, refl, sym, ap, ◌∙◌, subst, if◌then◌else◌}
use Rattle.bucket_ids.specs.Buckets.{Low}
use Rattle.node_sets.specs.Members.{has_node}
use Rattle.cluster_states.specs.declared.cluster_state.ClusterState.{ClusterState}
use Rattle.distributor_part.specs.declared.rules.Rules.{Rules}
use Rattle.ideal_nodes.specs.Placement.{IsOwner}
use Rattle.lane_journals.specs.Readers.{held, stopped}
use Rattle.lane_journals.specs.Meanings.{history}
use Rattle.lane_journals.specs.declared.event.LaneEvent.{LaneEvent}
use Rattle.lane_journals.specs.declared.event.LaneEvent.TheVariants as event
use Rattle.lane_keeping.specs.Acting.{IsNoHearing}
use Rattle.lane_keeping.specs.Tidings.{is_older, heard_next, heard_below, stopped_next, started_next, last_state}
use Rattle.upkeep_spans.specs.Spans.{IsUpkeepEvent}
use Rattle.lane_lives.specs.declared.setting.Setting.{Setting}
use Rattle.lane_promises.specs.Hearings.{deaf_in, WasTold, HeardNewest}
use Rattle.lane_calls.specs.Lines.{FeedLine, Lines, begun_at, IsRunAt, IsRefused, IsCarriedOut}
use Rattle.lane_lives.specs.Lives.{Deed, Announces, Stops, Starts, Runs, Feeds, Maintains, IsLife, newest_in}
use Rattle.lane_calls.specs.Upkept.{IsMaintained}
use Rattle.lane_promises.proofs.Before.{runs_down}
use Rattle.lane_lives.proofs.FirstEvents.{held_told}
use Rattle.lane_calls.proofs.Leaving.{leaves_to}
use Rattle.lane_lives.proofs.Living.{newest_published}
use Rattle.lane_calls.proofs.Quiet.{AddsFor}
use Rattle.lane_calls.proofs.Told.{heard_keeps, last_told}
use Rattle.lane_calls.proofs.Upkept.{upkeep_adds, leaves_upkeep, upkeep_down}
use Rattle.lane_lives.proofs.Deeds.{pass_or_none}
use Rattle.lane_calls.specs.Growth.{IsHeard, IsStep, Grows, Same, More}
use Rattle.lane_calls.proofs.Steps.{step-hears, unheard-held, step-tells, grown-up}

-- ---- who isn't deaf holds the newest state

-- the versions that a distributor holds
abbrev holds : ℕ → List LaneEvent → Option ℕ
holds d J = held d (history J)

held_run : (lane : Low) (rules : Rules) (line : FeedLine) (e : ℕ) (state : ClusterState) (J K : List LaneEvent) (d : ℕ) → IsRunAt lane rules line e state J K → holds d K ≡ holds d J
held_run lane rules line e state J K d c = ap (holds d) c.closed ∙ (leaves_to lane rules line.number line.operation (begun_at line e state J) c.run c.outcome c.runs).held_is d

-- who holds the newest state holds it on, where the owner hears it
held_next : (e : ℕ) (s : ClusterState) (J : List LaneEvent) (d : ℕ) → holds d J ≡ Some s.version → holds d (heard_next e (Some s) J) ≡ Some s.version
held_next e s J d is = by_test (is_older (holds e J) s.version)
  where
    over : (t : Bool) → (if t then Some s.version else holds d J) ≡ Some s.version
    over true = refl
    over false = is

    by_test : (t : Bool) → holds d (if t then event.Heard e s.version ∷ J else J) ≡ Some s.version
    by_test true = over (e == d)
    by_test false = is

one_state : {a b : ClusterState} → Some a ≡ Some b → a ≡ b
one_state e = cc

held_line : (lane : Low) (rules : Rules) (line : FeedLine) (via : Option ℕ) (J K : List LaneEvent) (t : ClusterState) (d : ℕ) → last_state J ≡ Some t → holds d J ≡ Some t.version → IsCarriedOut lane rules line via J K → holds d K ≡ Some t.version
held_line lane rules line None J K t d last is c =
    let same : c.state ≡ t = one_state (sym c.newest ∙ last) in
    let was : holds d J ≡ Some (c.state).version = is ∙ ap (λ (x : ClusterState). Some x.version) (sym same) in
    held_run lane rules line c.owner c.state _ K d c.run ∙ held_next c.owner c.state J d was ∙ ap (λ (x : ClusterState). Some x.version) same
held_line lane rules line (Some e) J K t d last is c = by_end c.ends
  where
    by_end : (IsOwner lane c.state e × IsRunAt lane rules line e c.state J K) ⊎ IsRefused lane line e c.state J K → holds d K ≡ Some t.version
    by_end (inl r) = held_run lane rules line e c.state J K d r.1 ∙ is
    by_end (inr r) = ap (holds d) r.refused ∙ is

held_upkeep : (lane : Low) (J K : List LaneEvent) (t : ClusterState) (d : ℕ) → last_state J ≡ Some t → holds d J ≡ Some t.version → (K ≡ J) ⊎ IsMaintained lane J K → holds d K ≡ Some t.version
held_upkeep lane J K t d last is (inl same) = ap (holds d) same ∙ is
held_upkeep lane J K t d last is (inr m) =
    let same : m.state ≡ t = one_state (sym m.newest ∙ last) in
    let was : holds d J ≡ Some (m.state).version = is ∙ ap (λ (x : ClusterState). Some x.version) (sym same) in
    (leaves_upkeep 0 m.owner (m.state).version _ K m.pass).held_is d ∙ held_next m.owner m.state J d was ∙ ap (λ (x : ClusterState). Some x.version) same

-- nor do feeders take it from anybody: who hears a state there hears the newest
held_step : (lane : Low) (t : ClusterState) (d : ℕ) (e : LaneEvent) (L : List LaneEvent) → IsHeard lane L e ⊎ IsNoHearing e → last_state L ≡ Some t → holds d L ≡ Some t.version → holds d (e ∷ L) ≡ Some t.version
held_step lane t d e L (inr none) last is = unheard-held d e L none ∙ is
held_step lane t d e L (inl h) last is =
    let same : h.state ≡ t = one_state (sym h.newest ∙ last) in
    ap (λ (x : LaneEvent). holds d (x ∷ L)) h.event ∙ over (h.distributor == d) same
  where
    over : (b : Bool) → h.state ≡ t → (if b then Some (h.state).version else holds d L) ≡ Some t.version
    over true same = ap (λ (x : ClusterState). Some x.version) same
    over false same = is

record HoldsNewest (t : ClusterState) (d : ℕ) (J : List LaneEvent) : Type 0 where
  last : last_state J ≡ Some t
  held_is : holds d J ≡ Some t.version

pub held_fed : (feeders : ℕ) (lines : Lines) (lane : Low) (rules : Rules) (J K : List LaneEvent) (t : ClusterState) (d : ℕ) → Grows feeders lines lane rules J K → last_state J ≡ Some t → holds d J ≡ Some t.version → holds d K ≡ Some t.version
held_fed feeders lines lane rules J K t d grew last is = (grown-up feeders lines lane rules (HoldsNewest t d) (λ e L step h. record {
  last = last_told_on e L step ∙ h.last;
  held_is = held_step lane t d e L (step-hears feeders lines lane rules L e step) h.last h.held_is;
}) J K grew (record { last = last; held_is = is })).held_is
  where
    last_told_on : (e : LaneEvent) (L : List LaneEvent) → IsStep feeders lines lane rules L e → last_state (e ∷ L) ≡ last_state L
    last_told_on e L step = sym (last_told (e ∷ L)) ∙ ap last_state (step-tells feeders lines lane rules L e step) ∙ last_told L

held_stop : (n : ℕ) (J : List LaneEvent) (d : ℕ) → holds d (stopped_next n J) ≡ holds d J
held_stop n J d = by_test (stopped n (history J))
  where
    by_test : (t : Bool) → holds d (if t then J else event.Stopped n ∷ J) ≡ holds d J
    by_test true = refl
    by_test false = refl

held_start : (n : ℕ) (J : List LaneEvent) (d : ℕ) → holds d (started_next n J) ≡ holds d J
held_start n J d = by_test (stopped n (history J))
  where
    by_test : (t : Bool) → holds d (if t then event.Started n ∷ J else J) ≡ holds d J
    by_test true = refl
    by_test false = refl

pub told_hold : (s : Setting) (lane : Low) (deeds : List Deed) (J : List LaneEvent) → IsLife s lane deeds J → (d : ℕ) → d < 32 → has_node (deaf_in deeds) d ≡ false → held d (history J) ≡ Some (newest_in s deeds).version
told_hold s lane [] J life d small hears = ap (holds d) life ∙ held_told 0 s.initial [] d small hears
told_hold s lane (Announces state deaf ∷ deeds) K life d small hears = ap (holds d) life.1.1 ∙ held_told deaf state life.0 d small hears
told_hold s lane (Stops n ∷ deeds) K life d small hears = ap (holds d) life.1.1 ∙ held_stop n life.0 d ∙ told_hold s lane deeds life.0 life.1.0 d small hears
told_hold s lane (Starts n ∷ deeds) K life d small hears = ap (holds d) life.1.1 ∙ held_start n life.0 d ∙ told_hold s lane deeds life.0 life.1.0 d small hears
told_hold s lane (Maintains noted ∷ deeds) K life d small hears =
    held_upkeep lane life.0 K (newest_in s deeds) d (newest_published s lane deeds life.0 life.1.0) (told_hold s lane deeds life.0 life.1.0 d small hears) (pass_or_none lane noted life.0 K life.1.1)
told_hold s lane (Feeds feeders lines left ∷ deeds) K life d small hears =
    held_fed feeders lines lane s.rules life.0 K (newest_in s deeds) d (life.1.1).grew (newest_published s lane deeds life.0 life.1.0) (told_hold s lane deeds life.0 life.1.0 d small hears)
told_hold s lane (Runs line ∷ deeds) K life d small hears =
    held_line lane s.rules line line.via life.0 K (newest_in s deeds) d (newest_published s lane deeds life.0 life.1.0) (told_hold s lane deeds life.0 life.1.0 d small hears) life.1.1

-- ---- each hearing is of the newest state

module _ (d v : ℕ) (before : List LaneEvent) where
  -- the hearing is in this journal
  abbrev Has : List LaneEvent → Type 0
  Has L = (N : List LaneEvent) × (L ≡ N ++ event.Heard d v ∷ before)

  -- it is the event itself, or comes before it
  data IsIn (e : LaneEvent) (L : List LaneEvent) : Type 0 where
    Here : e ≡ event.Heard d v → L ≡ before → IsIn e L
    Below : Has L → IsIn e L

  is_in : (e : LaneEvent) (L : List LaneEvent) → Has (e ∷ L) → IsIn e L
  is_in e L h = by_front h.0 h.1
    where
      by_front : (N : List LaneEvent) → e ∷ L ≡ N ++ event.Heard d v ∷ before → IsIn e L
      by_front [] is = Here (first is) (rest is)
        where
          first : e ∷ L ≡ event.Heard d v ∷ before → e ≡ event.Heard d v
          first is = cc

          rest : e ∷ L ≡ event.Heard d v ∷ before → L ≡ before
          rest is = cc
      by_front (x ∷ N) is = Below (N, tail is)
        where
          tail : e ∷ L ≡ x ∷ (N ++ event.Heard d v ∷ before) → L ≡ N ++ event.Heard d v ∷ before
          tail is = cc

  -- another event isn't it
  passes : (e : LaneEvent) (L : List LaneEvent) → IsNoHearing e → Has (e ∷ L) → Has L
  passes e L other h = by_place (is_in e L h)
    where
      by_place : IsIn e L → Has L
      by_place (Here is rest) = absurd (subst IsNoHearing is other)
      by_place (Below h) = h

  no_hearing : (line : ℕ) (e : LaneEvent) → AddsFor line e → IsNoHearing e
  no_hearing line (event.Published s) h = tt
  no_hearing line (event.Heard e w) h = absurd h
  no_hearing line (event.Begun l e w id s) h = tt
  no_hearing line (event.Refused l e x) h = tt
  no_hearing line (event.Closed l x) h = tt
  no_hearing line (event.Stopped n) h = tt
  no_hearing line (event.Started n) h = tt
  no_hearing line (event.Prepared l b set) h = tt
  no_hearing line (event.Wrote l entry) h = tt
  no_hearing line (event.Opened e w rows) h = tt
  no_hearing line (event.Sent k w e n b) h = tt
  no_hearing line (event.Delivered k r) h = tt
  no_hearing line (event.Returned k) h = tt
  no_hearing line (event.Decided e w x) h = tt

  in_run : (lane : Low) (rules : Rules) (line : FeedLine) (e : ℕ) (state : ClusterState) (J K : List LaneEvent) → IsRunAt lane rules line e state J K → Has K → Has J
  in_run lane rules line e state J K c h =
      let ran = passes (event.Closed line.number c.outcome) c.run tt (subst Has c.closed h) in
      passes _ J tt (runs_down lane rules line.number line.operation Has (λ x L adds has. passes x L (no_hearing line.number x adds) has) (begun_at line e state J) c.run c.outcome c.runs ran)

  one_hearer : {e w : ℕ} → event.Heard e w ≡ event.Heard d v → (e ≡ d) × (w ≡ v)
  one_hearer is = (cc, cc)

  -- ---- at a publication

  -- the state that was published there, by one that isn't deaf
  pub record IsTold (deaf : ℕ) (s : ClusterState) : Type 0 where
    pub newest : last_state before ≡ Some s
    pub version_is : v ≡ s.version
    pub hears : has_node deaf d ≡ false

  in_hearings : (n deaf : ℕ) (s : ClusterState) (J : List LaneEvent) → Has (heard_below n deaf s (event.Published s ∷ J)) → IsTold deaf s ⊎ Has J
  unfolding heard_below
  in_hearings zero deaf s J h = inr (passes (event.Published s) J tt h)
  in_hearings (suc n) deaf s J h = by_test (has_node deaf n) refl (in_hearings n deaf s J) h
    where
      L : List LaneEvent
      L = heard_below n deaf s (event.Published s ∷ J)

      by_place : (Has L → IsTold deaf s ⊎ Has J) → has_node deaf n ≡ false → IsIn (event.Heard n s.version) L → IsTold deaf s ⊎ Has J
      by_place below hears (Here is rest) =
          let same = one_hearer is in
          inl (record {
            newest = ap last_state (sym rest) ∙ heard_keeps (λ M. last_state M ≡ Some s) (λ e w M is. is) n deaf s (event.Published s ∷ J) refl;
            version_is = sym same.1;
            hears = ap (has_node deaf) (sym same.0) ∙ hears;
          })
      by_place below hears (Below h) = below h

      by_test : (t : Bool) → has_node deaf n ≡ t → (Has L → IsTold deaf s ⊎ Has J) → Has (if t then L else event.Heard n s.version ∷ L) → IsTold deaf s ⊎ Has J
      by_test true is below h = below h
      by_test false is below h = by_place below is (is_in (event.Heard n s.version) L h)

  -- ---- at a line

  -- by the owner under the newest state
  pub record IsByOwner (lane : Low) : Type 0 where
    pub state : ClusterState
    pub newest : last_state before ≡ Some state
    pub version_is : v ≡ state.version
    pub owns : IsOwner lane state d

  in_next : (lane : Low) (e : ℕ) (s : ClusterState) (J : List LaneEvent) → last_state J ≡ Some s → IsOwner lane s e → Has (heard_next e (Some s) J) → IsByOwner lane ⊎ Has J
  in_next lane e s J last owns h = by_test (is_older (holds e J) s.version) h
    where
      by_place : IsIn (event.Heard e s.version) J → IsByOwner lane ⊎ Has J
      by_place (Here is rest) =
          let same = one_hearer is in
          inl (record { state = s; newest = ap last_state (sym rest) ∙ last; version_is = sym same.1; owns = subst (IsOwner lane s) same.0 owns })
      by_place (Below h) = inr h

      by_test : (t : Bool) → Has (if t then event.Heard e s.version ∷ J else J) → IsByOwner lane ⊎ Has J
      by_test true h = by_place (is_in (event.Heard e s.version) J h)
      by_test false h = inr h

  in_line : (lane : Low) (rules : Rules) (line : FeedLine) (via : Option ℕ) (J K : List LaneEvent) → IsCarriedOut lane rules line via J K → Has K → IsByOwner lane ⊎ Has J
  in_line lane rules line None J K c h = in_next lane c.owner c.state J c.newest c.owns (in_run lane rules line c.owner c.state _ K c.run h)
  in_line lane rules line (Some e) J K c h = by_end c.ends
    where
      by_end : (IsOwner lane c.state e × IsRunAt lane rules line e c.state J K) ⊎ IsRefused lane line e c.state J K → IsByOwner lane ⊎ Has J
      by_end (inl r) = inr (in_run lane rules line e c.state J K r.1 h)
      by_end (inr r) = inr (passes _ J tt (subst Has r.refused h))

  -- ---- in a segment

  in_step : (lane : Low) (e : LaneEvent) (L : List LaneEvent) → IsHeard lane L e ⊎ IsNoHearing e → Has (e ∷ L) → IsByOwner lane ⊎ Has L
  in_step lane e L (inr none) h = inr (passes e L none h)
  in_step lane e L (inl heard) h = by_place (is_in e L h)
    where
      by_place : IsIn e L → IsByOwner lane ⊎ Has L
      by_place (Here is rest) =
          let same = one_hearer (sym heard.event ∙ is) in
          inl (record { state = heard.state; newest = ap last_state (sym rest) ∙ heard.newest; version_is = sym same.1; owns = subst (IsOwner lane heard.state) same.0 heard.owns })
      by_place (Below h) = inr h

  in_segment : (feeders : ℕ) (lines : Lines) (lane : Low) (rules : Rules) (J K : List LaneEvent) → Grows feeders lines lane rules J K → Has K → IsByOwner lane ⊎ Has J
  in_segment feeders lines lane rules J K Same h = inr h
  in_segment feeders lines lane rules J K (More e L grew step) h = elim (in_step lane e L (step-hears feeders lines lane rules L e step) h) [
    | inl owner ↦ inl owner
    | inr old ↦ in_segment feeders lines lane rules J L grew old
  ]

  -- ---- at upkeep

  upkeep_no_hearing : (e w : ℕ) (x : LaneEvent) → IsUpkeepEvent e w x → IsNoHearing x
  upkeep_no_hearing e w x is = no_hearing 0 x (upkeep_adds 0 e w x is)

  in_upkeep : (lane : Low) (J K : List LaneEvent) → (K ≡ J) ⊎ IsMaintained lane J K → Has K → IsByOwner lane ⊎ Has J
  in_upkeep lane J K (inl same) h = inr (subst Has same h)
  in_upkeep lane J K (inr m) h =
      in_next lane m.owner m.state J m.newest m.owns (upkeep_down Has m.owner (m.state).version (λ x L is has. passes x L (upkeep_no_hearing m.owner (m.state).version x is) has) _ K m.pass h)

  -- ---- at any deed

  in_stop : (n : ℕ) (J : List LaneEvent) → Has (stopped_next n J) → Has J
  in_stop n J h = by_test (stopped n (history J)) h
    where
      by_test : (t : Bool) → Has (if t then J else event.Stopped n ∷ J) → Has J
      by_test true h = h
      by_test false h = passes (event.Stopped n) J tt h

  in_start : (n : ℕ) (J : List LaneEvent) → Has (started_next n J) → Has J
  in_start n J h = by_test (stopped n (history J)) h
    where
      by_test : (t : Bool) → Has (if t then event.Started n ∷ J else J) → Has J
      by_test true h = passes (event.Started n) J tt h
      by_test false h = h

  module _ (s : Setting) (lane : Low) where
    told_later : (deed : Deed) (deeds : List Deed) (state : ClusterState) → WasTold s deeds state d → WasTold s (deed ∷ deeds) state d
    told_later deed deeds state w = record { before = w.before; later = deed ∷ w.later; deeds_are = ap (λ ds. deed ∷ ds) w.deeds_are; newest = w.newest; hears = w.hears }

    later : (deed : Deed) (deeds : List Deed) → HeardNewest s lane deeds before d v → HeardNewest s lane (deed ∷ deeds) before d v
    later deed deeds h = record {
      state = h.state;
      newest = h.newest;
      version_is = h.version_is;
      why = elim h.why [
        | inl told ↦ inl (told_later deed deeds h.state told)
        | inr owns ↦ inr owns
      ];
    }

    by_told : (deeds : List Deed) (state : ClusterState) → newest_in s deeds ≡ state → IsTold (deaf_in deeds) state → HeardNewest s lane deeds before d v
    by_told deeds state is t = record {
      state = state;
      newest = t.newest;
      version_is = t.version_is;
      why = inl (record { before = deeds; later = []; deeds_are = refl; newest = is; hears = t.hears });
    }

    by_owner : (deeds : List Deed) → IsByOwner lane → HeardNewest s lane deeds before d v
    by_owner deeds o = record { state = o.state; newest = o.newest; version_is = o.version_is; why = inr o.owns }

    hears_newest : (deeds : List Deed) (J : List LaneEvent) → IsLife s lane deeds J → Has J → HeardNewest s lane deeds before d v
    hears_newest [] J life h = elim (in_hearings 32 0 s.initial [] (subst Has life h)) [
      | inl told ↦ by_told [] s.initial refl told
      | inr none ↦ absurd (nothing none.0 none.1)
    ]
      where
        nothing : (N : List LaneEvent) → [] ≡ N ++ event.Heard d v ∷ before → ⊥
        nothing [] is = cc is
        nothing (e ∷ N) is = cc is
    hears_newest (Announces state deaf ∷ deeds) K life h = elim (in_hearings 32 deaf state life.0 (subst Has life.1.1 h)) [
      | inl told ↦ by_told (Announces state deaf ∷ deeds) state refl told
      | inr old ↦ later (Announces state deaf) deeds (hears_newest deeds life.0 life.1.0 old)
    ]
    hears_newest (Stops n ∷ deeds) K life h = later (Stops n) deeds (hears_newest deeds life.0 life.1.0 (in_stop n life.0 (subst Has life.1.1 h)))
    hears_newest (Starts n ∷ deeds) K life h = later (Starts n) deeds (hears_newest deeds life.0 life.1.0 (in_start n life.0 (subst Has life.1.1 h)))
    hears_newest (Maintains noted ∷ deeds) K life h = elim (in_upkeep lane life.0 K (pass_or_none lane noted life.0 K life.1.1) h) [
      | inl owner ↦ by_owner (Maintains noted ∷ deeds) owner
      | inr old ↦ later (Maintains noted) deeds (hears_newest deeds life.0 life.1.0 old)
    ]
    hears_newest (Feeds feeders lines left ∷ deeds) K life h = elim (in_segment feeders lines lane s.rules life.0 K (life.1.1).grew h) [
      | inl owner ↦ by_owner (Feeds feeders lines left ∷ deeds) owner
      | inr old ↦ later (Feeds feeders lines left) deeds (hears_newest deeds life.0 life.1.0 old)
    ]
    hears_newest (Runs line ∷ deeds) K life h = elim (in_line lane s.rules line line.via life.0 K life.1.1 h) [
      | inl owner ↦ by_owner (Runs line ∷ deeds) owner
      | inr old ↦ later (Runs line) deeds (hears_newest deeds life.0 life.1.0 old)
    ]

pub all_hear_newest : (s : Setting) (lane : Low) (deeds : List Deed) (J : List LaneEvent) → IsLife s lane deeds J → (after before : List LaneEvent) (d v : ℕ) → J ≡ after ++ event.Heard d v ∷ before → HeardNewest s lane deeds before d v
all_hear_newest s lane deeds J life after before d v is = hears_newest d v before s lane deeds J life (after, is)
