-- One operation from its beginning to its close, alone under way.
use Rattle.std.specs.List.{remove}
use Rattle.std.proofs.Common.{◌≡◌, ◌⊎◌, ◌<◌, ℕ, zero, suc, List, [], ◌∷◌, Option, None, Some, IsSome, slice_get, slice_set, inl, inr, refl, sym, ap, ◌∙◌, subst, arith}
use mathlib.Core.Bool.{true≢false}
use Rattle.bucket_ids.specs.Buckets.{Low}
use Rattle.cluster_states.specs.declared.cluster_state.ClusterState.{ClusterState}
use Rattle.distributor_part.specs.declared.rules.Rules.{Rules}
use Rattle.messages.specs.declared.operation.Operation.{Operation}
use Rattle.messages.specs.declared.outcome.Outcome.{Outcome}
use Rattle.messages.specs.declared.outcome.Outcome.TheVariants.{NoMemory}
use Rattle.lane_journals.specs.Readers.{Preparing, prepared, sent, Message}
use Rattle.lane_journals.specs.Meanings.{history}
use Rattle.lane_journals.specs.declared.event.LaneEvent.{LaneEvent}
use Rattle.lane_journals.specs.declared.event.LaneEvent.TheVariants.{Closed}
use Rattle.lane_calls.specs.LaneValues.{LaneValue, under_way_of, with_run, IsPlace, OfFirst, WantsMore, MayAdvance, WantsEnd, MayClose, EndsAs, Closes, drawn}
use Rattle.lane_states.specs.LaneStates.{GivesOn}
use Rattle.lane_states.proofs.Giving.{gives_then}
use Rattle.lane_core.specs.Advancing.{IsHindered, WentOn, IsAdvance}
use Rattle.operation_keeping.specs.Wants.{IsRunSince, IsCutRunSince, IsEndSince}
use Rattle.operation_keeping.proofs.Since.{run-sent, run-then, run-of-search, end-of-search, cut-of-search, run-anew, end-anew, cut-anew}
use Rattle.lane_calls.specs.declared.progress.UnderWay.{UnderWay}
use Rattle.lane_calls.specs.declared.progress.Progress.{Progress}
use Rattle.lane_calls.specs.declared.progress.Progress.TheVariants.{Begun, Runs, Over, Short}
use Rattle.lane_calls.specs.declared.answers.Advance.TheVariants as advance
use Rattle.lane_calls.specs.Lines.{FeedLine, begun_at, RunsTo, IsRunAt}
use Rattle.lane_core.specs.Runs.{Finishes, IsAlone, IsFinish, GoesOn, IsGoing, left_in, begun_with}

-- ---- runs, one behind the other

some-of : {A : Type 0} (o : Option A) → IsSome o → (x : A) × (o ≡ Some x)
some-of None h = absurd (true≢false (sym h))
some-of (Some x) h = (x, refl)

module _ (lane : Low) (rules : Rules) (line : ℕ) (o : Operation) (I J : List LaneEvent) (first : IsRunSince lane rules line o (history I) I J) (is_prepared : IsSome (prepared line (history J))) where
  earlier : (k : ℕ) (m : Message) → sent k (history I) ≡ Some m → sent k (history J) ≡ Some m
  earlier k m h = run-sent lane rules line o (history I) I J first k m h

  was : (p : Preparing) × (prepared line (history J) ≡ Some p)
  was = some-of (prepared line (history J)) is_prepared

  run-trans : (K : List LaneEvent) → IsRunSince lane rules line o (history J) J K → IsRunSince lane rules line o (history I) I K
  run-trans K next = run-then lane rules line o (history I) I J K first (run-anew lane rules line o (history J) (history I) earlier J was.0 was.1 K next)

  end-trans : (K : List LaneEvent) (x : Outcome) → IsRunSince lane rules line o (history J) J K → IsEndSince lane rules line o (history J) K x → IsEndSince lane rules line o (history I) K x
  end-trans K x next end = end-anew lane rules line o (history J) (history I) earlier J was.0 was.1 K x next end

  cut-trans : (K : List LaneEvent) → IsCutRunSince lane rules line o (history J) J K → IsCutRunSince lane rules line o (history I) I K
  cut-trans K c = let d = cut-anew lane rules line o (history J) (history I) earlier J was.0 was.1 K c in (d.0, run-then lane rules line o (history I) I J d.0 first d.1, d.2)

-- ---- the only place

only-place : (x w : UnderWay) (at : ℕ) → slice_get (x ∷ []) at ≡ Some w → (at ≡ 0) × (w ≡ x)
only-place x w zero h = (refl, cc)
only-place x w (suc k) h = absurd (cc)

-- the place of the only one
placed-first : (line : ℕ) (v : LaneValue) (x : UnderWay) → v.under_way ≡ x ∷ [] → x.line ≡ line → IsPlace line v.under_way 0 x
placed-first line v x alone is = record { found = ap (λ (us : List UnderWay). slice_get us 0) alone; line_is = is }

-- where there is none, none stands against a call
pub none-first : (P : UnderWay → Type 0) (us : List UnderWay) (by : ℕ) → us ≡ [] → OfFirst P us by → ⊥
none-first P us by idle f = no-place f.at (sym (ap (λ (xs : List UnderWay). slice_get xs f.at) idle) ∙ (f.place).found)
  where
    no-place : (at : ℕ) → ◌≡◌ {A = Option UnderWay} (slice_get [] at) (Some f.operation) → ⊥
    no-place at h = cc

-- ---- the operation that is alone under way

-- as it is now: it was begun, or is prepared
pub record IsNow (line : ℕ) (u : UnderWay) (old now : LaneValue) (x : UnderWay) : Type 0 where
  pub alone : now.under_way ≡ x ∷ []
  pub line_is : x.line ≡ u.line
  pub operation_is : x.operation ≡ u.operation
  pub distributor_is : x.distributor ≡ u.distributor
  pub wants : WantsMore x.progress

now-is : (line : ℕ) (u : UnderWay) (old now : LaneValue) → IsAlone line old u → IsGoing u old now → (x : UnderWay) × IsNow line u old now x
now-is line u old now a (inl same) = (
  u,
  record {
    alone = ap (λ (v : LaneValue). v.under_way) same ∙ a.alone;
    line_is = refl;
    operation_is = refl;
    distributor_is = refl;
    wants = subst WantsMore (sym a.begun) tt;
  },
)
now-is line u old now a (inr g) = (
  under_way_of u.line u.operation u.distributor Runs g.left,
  record {
    alone = ap (λ (v : LaneValue). v.under_way) g.after;
    line_is = refl;
    operation_is = refl;
    distributor_is = refl;
    wants = tt;
  },
)

pub may_advance : (line : ℕ) (u : UnderWay) (old now : LaneValue) → IsAlone line old u → IsGoing u old now → MayAdvance line now.under_way
may_advance line u old now a g = let x = now-is line u old now a g in (0, x.0, placed-first line now x.0 (x.1).alone ((x.1).line_is ∙ a.line_is), (x.1).wants)

-- the operation of an answer is the only one
module _ (line : ℕ) (u : UnderWay) (old now : LaneValue) (a : IsAlone line old u) (g : IsGoing u old now) (at : ℕ) (w : UnderWay) (place : IsPlace line now.under_way at w) where
  abbrev x : UnderWay
  x = (now-is line u old now a g).0

  is-now : IsNow line u old now x
  is-now = (now-is line u old now a g).1

  here : (at ≡ 0) × (w ≡ x)
  here = only-place x w at (sym (ap (λ (us : List UnderWay). slice_get us at) is-now.alone) ∙ place.found)

  line-same : w.line ≡ u.line
  line-same = ap (λ (y : UnderWay). y.line) here.1 ∙ is-now.line_is

  operation-same : w.operation ≡ u.operation
  operation-same = ap (λ (y : UnderWay). y.operation) here.1 ∙ is-now.operation_is

  distributor-same : w.distributor ≡ u.distributor
  distributor-same = ap (λ (y : UnderWay). y.distributor) here.1 ∙ is-now.distributor_is

  -- no other operation hinders it
  unhindered : (by : ℕ) → IsHindered w now by → ⊥
  unhindered by h =
      let f = h.first in
      let only = only-place x f.operation f.at (sym (ap (λ (us : List UnderWay). slice_get us f.at) is-now.alone) ∙ (f.place).found) in
      h.other (sym (f.place).line_is ∙ ap (λ (y : UnderWay). y.line) (only.1 ∙ sym here.1))

  -- the lane's other fields are those of before
  after-now : (next : LaneValue) (y : UnderWay) → next ≡ with_run now next.journal next.given at y → next ≡ record old { journal = next.journal; given = next.given; under_way = y ∷ [] }
  after-now next y after = after ∙ first_place ∙ of_old g
    where
      first_place : with_run now next.journal next.given at y ≡ record now { journal = next.journal; given = next.given; under_way = y ∷ [] }
      first_place = λ i. record now { journal = next.journal; given = next.given; under_way = (ap (λ (k : ℕ). slice_set now.under_way k y) here.0 ∙ ap (λ (us : List UnderWay). slice_set us 0 y) is-now.alone) i }

      of_old : IsGoing u old now → record now { journal = next.journal; given = next.given; under_way = y ∷ [] } ≡ record old { journal = next.journal; given = next.given; under_way = y ∷ [] }
      of_old (inl same) = λ i. record (same i) { journal = next.journal; given = next.given; under_way = y ∷ [] }
      of_old (inr went) = λ i. record (went.after i) { journal = next.journal; given = next.given; under_way = y ∷ [] }

  lane-same : now.lane ≡ old.lane
  lane-same = by_going g
    where
      by_going : IsGoing u old now → now.lane ≡ old.lane
      by_going (inl same) = ap (λ (v : LaneValue). v.lane) same
      by_going (inr went) = ap (λ (v : LaneValue). v.lane) went.after

  rules-same : now.rules ≡ old.rules
  rules-same = by_going g
    where
      by_going : IsGoing u old now → now.rules ≡ old.rules
      by_going (inl same) = ap (λ (v : LaneValue). v.rules) same
      by_going (inr went) = ap (λ (v : LaneValue). v.rules) went.after

  -- what is said of the lane as it is now, said of the operation as it was
  said-of : (F : Low → Rules → ℕ → Operation → Type 0) → F now.lane now.rules w.line w.operation → F old.lane old.rules u.line u.operation
  said-of F f = subst (λ z. F old.lane old.rules u.line z) operation-same (subst (λ z. F old.lane old.rules z w.operation) line-same (subst (λ z. F old.lane z w.line w.operation) rules-same (subst (λ z. F z now.rules w.line w.operation) lane-same f)))

  module _ (K : List LaneEvent) where
    run-on : IsRunSince now.lane now.rules w.line w.operation (history now.journal) now.journal K → IsRunSince old.lane old.rules u.line u.operation (history old.journal) old.journal K
    run-on r = by_going g (said-of (λ l s n o. IsRunSince l s n o (history now.journal) now.journal K) r)
      where
        by_going : IsGoing u old now → IsRunSince old.lane old.rules u.line u.operation (history now.journal) now.journal K → IsRunSince old.lane old.rules u.line u.operation (history old.journal) old.journal K
        by_going (inl same) h = subst (λ (J : List LaneEvent). IsRunSince old.lane old.rules u.line u.operation (history J) J K) (ap (λ (v : LaneValue). v.journal) same) h
        by_going (inr went) h = run-trans old.lane old.rules u.line u.operation old.journal now.journal went.run went.prepared_is K h

    end-on : (x : Outcome) → IsRunSince now.lane now.rules w.line w.operation (history now.journal) now.journal K → IsEndSince now.lane now.rules w.line w.operation (history now.journal) K x
        → IsEndSince old.lane old.rules u.line u.operation (history old.journal) K x
    end-on x r e = by_going g (said-of (λ l s n o. IsRunSince l s n o (history now.journal) now.journal K) r) (said-of (λ l s n o. IsEndSince l s n o (history now.journal) K x) e)
      where
        by_going : IsGoing u old now → IsRunSince old.lane old.rules u.line u.operation (history now.journal) now.journal K → IsEndSince old.lane old.rules u.line u.operation (history now.journal) K x
            → IsEndSince old.lane old.rules u.line u.operation (history old.journal) K x
        by_going (inl same) h end = subst (λ (J : List LaneEvent). IsEndSince old.lane old.rules u.line u.operation (history J) K x) (ap (λ (v : LaneValue). v.journal) same) end
        by_going (inr went) h end = end-trans old.lane old.rules u.line u.operation old.journal now.journal went.run went.prepared_is K x h end

    cut-on : IsCutRunSince now.lane now.rules w.line w.operation (history now.journal) now.journal K → IsCutRunSince old.lane old.rules u.line u.operation (history old.journal) old.journal K
    cut-on c = by_going g (said-of (λ l s n o. IsCutRunSince l s n o (history now.journal) now.journal K) c)
      where
        by_going : IsGoing u old now → IsCutRunSince old.lane old.rules u.line u.operation (history now.journal) now.journal K → IsCutRunSince old.lane old.rules u.line u.operation (history old.journal) old.journal K
        by_going (inl same) h = subst (λ (J : List LaneEvent). IsCutRunSince old.lane old.rules u.line u.operation (history J) J K) (ap (λ (v : LaneValue). v.journal) same) h
        by_going (inr went) h = cut-trans old.lane old.rules u.line u.operation old.journal now.journal went.run went.prepared_is K h

  -- ---- what comes of a call

  abbrev then-is : Progress → ℕ → UnderWay
  then-is progress left = under_way_of u.line u.operation u.distributor progress left

  after-call : (next : LaneValue) (progress : Progress) (left : ℕ) → next ≡ with_run now next.journal next.given at (under_way_of w.line w.operation w.distributor progress left)
      → next ≡ record old { journal = next.journal; given = next.given; under_way = then-is progress left ∷ [] }
  after-call next progress left after = after-now next (under_way_of w.line w.operation w.distributor progress left) after
      ∙ (λ i. record old { journal = next.journal; given = next.given; under_way = under_way_of (line-same i) (operation-same i) (distributor-same i) progress left ∷ [] })

  -- what was given since the beginning
  gives-on : (next : LaneValue) → GivesOn now.given next.given → GivesOn old.given next.given
  gives-on next more = by_going g
    where
      by_going : IsGoing u old now → GivesOn old.given next.given
      by_going (inl same) = subst (λ (v : LaneValue). GivesOn v.given next.given) same more
      by_going (inr went) = gives_then old.given now.given next.given went.gives more

  more : (next : LaneValue) (went : WentOn at w Runs now next) → IsSome (prepared w.line (history next.journal)) → GoesOn u old next
  more next went is_prepared = record {
    left = went.left;
    after = after-call next Runs went.left went.after;
    gives = gives-on next went.gives;
    run = run-on next.journal went.run;
    prepared_is = subst (λ (n : ℕ). IsSome (prepared n (history next.journal))) line-same is_prepared;
  }

  fewer : (next : LaneValue) (went : WentOn at w Runs now next) → left_in next.under_way < left_in now.under_way
  fewer next went =
      let then : left_in next.under_way ≡ went.left = ap (λ (v : LaneValue). left_in v.under_way) (after-call next Runs went.left went.after) in
      let before : left_in now.under_way ≡ w.left = ap left_in is-now.alone ∙ ap (λ (y : UnderWay). y.left) (sym here.1) in
      omega (arith, then, before, went.fewer)

  -- it may be closed
  module _ (next new : LaneValue) (progress : Progress) (left : ℕ) (after : next ≡ with_run now next.journal next.given at (under_way_of w.line w.operation w.distributor progress left)) where
    then-alone : next.under_way ≡ then-is progress left ∷ []
    then-alone = ap (λ (v : LaneValue). v.under_way) (after-call next progress left after)

    may-close : WantsEnd progress → MayClose line next.under_way
    may-close wants = (0, then-is progress left, placed-first line next (then-is progress left) then-alone a.line_is, wants)

    module _ (outcome : Outcome) (c : Closes line outcome next new) where
      closed-here : (c.at ≡ 0) × (c.operation ≡ then-is progress left)
      closed-here = only-place (then-is progress left) c.operation c.at (sym (ap (λ (us : List UnderWay). slice_get us c.at) then-alone) ∙ (c.place).found)

      ends : EndsAs progress outcome
      ends = subst (λ (y : UnderWay). EndsAs y.progress outcome) closed-here.1 c.ends

      given-same : new.given ≡ next.given
      given-same = ap (λ (v : LaneValue). v.given) c.after

      closed-after : new ≡ record old { journal = Closed u.line outcome ∷ next.journal; given = new.given; under_way = [] }
      closed-after = c.after
          ∙ (λ i. record next { journal = Closed line outcome ∷ next.journal; under_way = (ap (λ (us : List UnderWay). remove us c.at) then-alone ∙ ap (λ (k : ℕ). remove (then-is progress left ∷ []) k) closed-here.0) i })
          ∙ (λ i. record (after-call next progress left after i) { journal = Closed line outcome ∷ next.journal; given = next.given; under_way = [] })
          ∙ (λ i. record old { journal = Closed (sym a.line_is i) outcome ∷ next.journal; given = sym given-same i; under_way = [] })

-- ---- the loop

pub go_on : (line : ℕ) (u : UnderWay) (old now next : LaneValue) → IsAlone line old u → IsGoing u old now → IsAdvance line now next advance.More → IsGoing u old next
go_on line u old now next a g h = inr (more line u old now a g h.at h.operation h.place next h.advances.0 h.advances.1)

pub fewer_left : (line : ℕ) (u : UnderWay) (old now next : LaneValue) → IsAlone line old u → IsGoing u old now → IsAdvance line now next advance.More → left_in next.under_way < left_in now.under_way
fewer_left line u old now next a g h = fewer line u old now a g h.at h.operation h.place next h.advances.0

pub never_waits : (line : ℕ) (u : UnderWay) (old now next : LaneValue) (by : ℕ) → IsAlone line old u → IsGoing u old now → IsAdvance line now next (advance.Waits by) → ⊥
never_waits line u old now next by a g h = unhindered line u old now a g h.at h.operation h.place by h.advances.0

pub may_close_over : (line : ℕ) (u : UnderWay) (old now next : LaneValue) → IsAlone line old u → IsGoing u old now → IsAdvance line now next advance.Done → MayClose line next.under_way
may_close_over line u old now next a g h = let d = h.advances in may-close line u old now a g h.at h.operation h.place next next (Over d.0) (d.1).left (d.1).after tt

pub may_close_short : (line : ℕ) (u : UnderWay) (old now next : LaneValue) → IsAlone line old u → IsGoing u old now → IsAdvance line now next advance.NoMemory → MayClose line next.under_way
may_close_short line u old now next a g h = let d = h.advances in may-close line u old now a g h.at h.operation h.place next next Short d.left d.after tt

pub finish_over : (line : ℕ) (u : UnderWay) (old now next new : LaneValue) (outcome : Outcome) → IsAlone line old u → IsGoing u old now → IsAdvance line now next advance.Done → Closes line outcome next new → IsFinish line old new outcome
finish_over line u old now next new outcome a g h c = let d = h.advances in (
  u,
  a,
  record {
    run = next.journal;
    runs = inl (
      run-on line u old now a g h.at h.operation h.place next.journal (d.1).run,
      subst (λ (x : Outcome). IsEndSince old.lane old.rules u.line u.operation (history old.journal) next.journal x) (sym (ends line u old now a g h.at h.operation h.place next new (Over d.0) (d.1).left (d.1).after outcome c))
          (end-on line u old now a g h.at h.operation h.place next.journal d.0 (d.1).run d.2),
    );
    after = closed-after line u old now a g h.at h.operation h.place next new (Over d.0) (d.1).left (d.1).after outcome c;
    gives = subst (GivesOn old.given) (sym (given-same line u old now a g h.at h.operation h.place next new (Over d.0) (d.1).left (d.1).after outcome c)) (gives-on line u old now a g h.at h.operation h.place next (d.1).gives);
  },
)

pub finish_short : (line : ℕ) (u : UnderWay) (old now next new : LaneValue) (outcome : Outcome) → IsAlone line old u → IsGoing u old now → IsAdvance line now next advance.NoMemory → Closes line outcome next new → IsFinish line old new outcome
finish_short line u old now next new outcome a g h c = let d = h.advances in (
  u,
  a,
  record {
    run = next.journal;
    runs = inr (cut-on line u old now a g h.at h.operation h.place next.journal d.run, ends line u old now a g h.at h.operation h.place next new Short d.left d.after outcome c);
    after = closed-after line u old now a g h.at h.operation h.place next new Short d.left d.after outcome c;
    gives = subst (GivesOn old.given) (sym (given-same line u old now a g h.at h.operation h.place next new Short d.left d.after outcome c)) (gives-on line u old now a g h.at h.operation h.place next d.gives);
  },
)

-- ---- from its beginning on

-- alone under way, where nothing was before
pub begun_alone : (line : FeedLine) (d : ℕ) (state : ClusterState) (J : List LaneEvent) (old begun : LaneValue) → begun ≡ begun_with old line d state J → IsAlone line.number begun (under_way_of line.number line.operation d Begun 65)
begun_alone line d state J old begun b = record { alone = ap (λ (v : LaneValue). v.under_way) b; line_is = refl; begun = refl }

-- the line ran to its end, and nothing else changed
pub record HasRun (line : FeedLine) (d : ℕ) (state : ClusterState) (J : List LaneEvent) (old new : LaneValue) (x : Outcome) : Type 0 where
  pub ran : IsRunAt old.lane old.rules line d state J new.journal
  pub outcome_is : ran.outcome ≡ x
  pub after : new ≡ record old { journal = new.journal; given = new.given; under_way = [] }
  pub gives : GivesOn old.given new.given

-- a search that began as the line did is its run
runs-to : (lane : Low) (rules : Rules) (line : FeedLine) (d : ℕ) (state : ClusterState) (J K : List LaneEvent) (x : Outcome)
    → (IsRunSince lane rules line.number line.operation (history (begun_at line d state J)) (begun_at line d state J) K × IsEndSince lane rules line.number line.operation (history (begun_at line d state J)) K x)
    ⊎ (IsCutRunSince lane rules line.number line.operation (history (begun_at line d state J)) (begun_at line d state J) K × (x ≡ NoMemory))
    → RunsTo lane rules line.number line.operation (begun_at line d state J) K x
runs-to lane rules line d state J K x (inl h) = inl (
  run-of-search lane rules line.number line.operation J d state.version (drawn (line.operation).kind state.version J) K h.0,
  end-of-search lane rules line.number line.operation J d state.version (drawn (line.operation).kind state.version J) K x h.0 h.1,
)
runs-to lane rules line d state J K x (inr h) = inr (cut-of-search lane rules line.number line.operation J d state.version (drawn (line.operation).kind state.version J) K h.0, h.1)

pub has_run : (line : FeedLine) (d : ℕ) (state : ClusterState) (J : List LaneEvent) (old begun new : LaneValue) (x : Outcome) → begun ≡ begun_with old line d state J → IsFinish line.number begun new x → HasRun line d state J old new x
has_run line d state J old begun new x b f =
    let u : UnderWay = under_way_of line.number line.operation d Begun 65 in
    let same : f.0 ≡ u = (only-place u f.0 0 (sym (ap (λ (us : List UnderWay). slice_get us 0) (ap (λ (v : LaneValue). v.under_way) b)) ∙ ap (λ (us : List UnderWay). slice_get us 0) (f.1).alone)).1 in
    let done : Finishes u begun new x = subst (λ (w : UnderWay). Finishes w begun new x) same f.2 in
    let closed : new.journal ≡ Closed line.number x ∷ done.run = ap (λ (v : LaneValue). v.journal) done.after in
    record {
      ran = record {
        run = done.run;
        outcome = x;
        runs = runs-to old.lane old.rules line d state J done.run x (subst (λ (v : LaneValue). (IsRunSince v.lane v.rules line.number line.operation (history v.journal) v.journal done.run × IsEndSince v.lane v.rules line.number line.operation (history v.journal) done.run x)
            ⊎ (IsCutRunSince v.lane v.rules line.number line.operation (history v.journal) v.journal done.run × (x ≡ NoMemory))) b done.runs);
        closed = closed;
      };
      outcome_is = refl;
      after = done.after ∙ (λ i. record (b i) { journal = Closed line.number x ∷ done.run; given = new.given; under_way = [] })
          ∙ (λ i. record old { journal = sym closed i; given = new.given; under_way = [] });
      gives = subst (λ (v : LaneValue). GivesOn v.given new.given) b done.gives;
    }
