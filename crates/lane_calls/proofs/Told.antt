-- What states and nodes leave in a journal, and what is read off that.
use Rattle.std.proofs.Common.{◌≡◌, ◌==◌, ℕ, zero, suc, Bool, true, false, List, [], ◌∷◌, ◌++◌, Option, Some, refl, sym, ap, ◌∙◌, if◌then◌else◌}
use Rattle.std.specs.Option.{IsSome}
use Rattle.node_sets.specs.Members.{has_node}
use Rattle.cluster_states.specs.declared.cluster_state.ClusterState.{ClusterState}
use Rattle.lane_journals.specs.Readers.{held, stopped}
use Rattle.lane_journals.specs.Meanings.{history}
use Rattle.lane_journals.specs.Places.{published_states}
use Rattle.lane_journals.specs.declared.event.LaneEvent.{LaneEvent}
use Rattle.lane_journals.specs.declared.event.LaneEvent.TheVariants as event
use Rattle.lane_keeping.specs.Tidings.{is_older, heard_next, heard_below, announced, stopped_next, started_next, last_state}
use Rattle.lane_calls.specs.Readings.{told_events}

-- ---- who hears a state

pub some_or : (o : Option ℕ) (v : ℕ) (t : Bool) → IsSome o → IsSome (if t then Some v else o)
some_or o v true some = refl
some_or o v false some = some

-- what holds on over each hearing holds on over all of them
pub heard_keeps : (P : List LaneEvent → Type 0) → ((e v : ℕ) (L : List LaneEvent) → P L → P (event.Heard e v ∷ L)) → (d deaf : ℕ) (s : ClusterState) (J : List LaneEvent) → P J → P (heard_below d deaf s J)
unfolding heard_below
heard_keeps P step zero deaf s J p = p
heard_keeps P step (suc d) deaf s J p = by_test (has_node deaf d) (heard_keeps P step d deaf s J p)
  where
    by_test : (t : Bool) → P (heard_below d deaf s J) → P (if t then heard_below d deaf s J else event.Heard d s.version ∷ heard_below d deaf s J)
    by_test true below = below
    by_test false below = step d s.version (heard_below d deaf s J) below

-- and what holds before each hearing holds before all of them
pub heard_down : (P : List LaneEvent → Type 0) → ((e v : ℕ) (L : List LaneEvent) → P (event.Heard e v ∷ L) → P L) → (d deaf : ℕ) (s : ClusterState) (J : List LaneEvent) → P (heard_below d deaf s J) → P J
unfolding heard_below
heard_down P step zero deaf s J p = p
heard_down P step (suc d) deaf s J p = by_test (has_node deaf d) (heard_down P step d deaf s J) p
  where
    by_test : (t : Bool) → (P (heard_below d deaf s J) → P J) → P (if t then heard_below d deaf s J else event.Heard d s.version ∷ heard_below d deaf s J) → P J
    by_test true below p = below p
    by_test false below p = below (step d s.version (heard_below d deaf s J) p)

-- which state the owner holds decides whether it hears the newest
pub next_keeps : (P : List LaneEvent → Type 0) → ((e v : ℕ) (L : List LaneEvent) → P L → P (event.Heard e v ∷ L)) → (d : ℕ) (s : ClusterState) (J : List LaneEvent) → P J → P (heard_next d (Some s) J)
next_keeps P step d s J p = by_test (is_older (held d (history J)) s.version)
  where
    by_test : (t : Bool) → P (if t then event.Heard d s.version ∷ J else J)
    by_test true = step d s.version J p
    by_test false = p

pub next_down : (P : List LaneEvent → Type 0) → ((e v : ℕ) (L : List LaneEvent) → P (event.Heard e v ∷ L) → P L) → (d : ℕ) (s : ClusterState) (J : List LaneEvent) → P (heard_next d (Some s) J) → P J
next_down P step d s J p = by_test (is_older (held d (history J)) s.version) p
  where
    by_test : (t : Bool) → P (if t then event.Heard d s.version ∷ J else J) → P J
    by_test true p = step d s.version J p
    by_test false p = p

-- by whom it is heard goes by the members of the deaf set
pub same_deaf : (a b : ℕ) → ((n : ℕ) → has_node a n ≡ has_node b n) → (d : ℕ) (s : ClusterState) (J : List LaneEvent) → heard_below d a s J ≡ heard_below d b s J
unfolding heard_below
same_deaf a b same zero s J = refl
same_deaf a b same (suc d) s J =
    ap (λ L. if has_node a d then L else event.Heard d s.version ∷ L) (same_deaf a b same d s J) ∙ ap (λ t. if t then heard_below d b s J else event.Heard d s.version ∷ heard_below d b s J) (same d)

-- ---- which events these are

told_heard : (d deaf : ℕ) (s : ClusterState) (J : List LaneEvent) → told_events (heard_below d deaf s J) ≡ told_events J
told_heard d deaf s J = heard_keeps (λ L. told_events L ≡ told_events J) (λ e v L is. is) d deaf s J refl

pub told_next : (d : ℕ) (s : ClusterState) (J : List LaneEvent) → told_events (heard_next d (Some s) J) ≡ told_events J
told_next d s J = next_keeps (λ L. told_events L ≡ told_events J) (λ e v L is. is) d s J refl

pub told_announced : (deaf : ℕ) (s : ClusterState) (J : List LaneEvent) → told_events (announced deaf s J) ≡ event.Published s ∷ told_events J
told_announced deaf s J = told_heard 32 deaf s (event.Published s ∷ J)

-- which nodes are stopped is read off these events
pub stopped_told : (n : ℕ) (J : List LaneEvent) → stopped n (history (told_events J)) ≡ stopped n (history J)
stopped_told n [] = refl
stopped_told n (e ∷ J) = by_event e (stopped_told n J)
  where
    by_event : (e : LaneEvent) → stopped n (history (told_events J)) ≡ stopped n (history J) → stopped n (history (told_events (e ∷ J))) ≡ stopped n (history (e ∷ J))
    by_event (event.Published s) is = is
    by_event (event.Heard d v) is = is
    by_event (event.Begun l d v id s) is = is
    by_event (event.Refused l d x) is = is
    by_event (event.Opened d v rows) is = is
    by_event (event.Prepared l b set) is = is
    by_event (event.Wrote l entry) is = is
    by_event (event.Sent k v d m b) is = is
    by_event (event.Delivered k r) is = is
    by_event (event.Returned k) is = is
    by_event (event.Closed l x) is = is
    by_event (event.Decided d v x) is = is
    by_event (event.Stopped m) is = ap (λ (t : Bool). if m == n then true else t) is
    by_event (event.Started m) is = ap (λ (t : Bool). if m == n then false else t) is

pub told_stopped : (n : ℕ) (J : List LaneEvent) → told_events (stopped_next n J) ≡ stopped_next n (told_events J)
told_stopped n J = by_test (stopped n (history J)) ∙ ap (λ (t : Bool). if t then told_events J else event.Stopped n ∷ told_events J) (sym (stopped_told n J))
  where
    by_test : (t : Bool) → told_events (if t then J else event.Stopped n ∷ J) ≡ (if t then told_events J else event.Stopped n ∷ told_events J)
    by_test true = refl
    by_test false = refl

pub told_started : (n : ℕ) (J : List LaneEvent) → told_events (started_next n J) ≡ started_next n (told_events J)
told_started n J = by_test (stopped n (history J)) ∙ ap (λ (t : Bool). if t then event.Started n ∷ told_events J else told_events J) (sym (stopped_told n J))
  where
    by_test : (t : Bool) → told_events (if t then event.Started n ∷ J else J) ≡ (if t then event.Started n ∷ told_events J else told_events J)
    by_test true = refl
    by_test false = refl

-- ---- the states

-- so are the states that were published
pub published_told : (J : List LaneEvent) → published_states (told_events J) ≡ published_states J
published_told [] = refl
published_told (e ∷ J) = by_event e (published_told J)
  where
    by_event : (e : LaneEvent) → published_states (told_events J) ≡ published_states J → published_states (told_events (e ∷ J)) ≡ published_states (e ∷ J)
    by_event (event.Published s) is = ap (λ (ss : List ClusterState). ss ++ s ∷ []) is
    by_event (event.Heard d v) is = is
    by_event (event.Begun l d v id s) is = is
    by_event (event.Refused l d x) is = is
    by_event (event.Opened d v rows) is = is
    by_event (event.Prepared l b set) is = is
    by_event (event.Wrote l entry) is = is
    by_event (event.Sent k v d m b) is = is
    by_event (event.Delivered k r) is = is
    by_event (event.Returned k) is = is
    by_event (event.Closed l x) is = is
    by_event (event.Decided d v x) is = is
    by_event (event.Stopped m) is = is
    by_event (event.Started m) is = is

-- and the one that was published last
pub last_told : (J : List LaneEvent) → last_state (told_events J) ≡ last_state J
last_told [] = refl
last_told (e ∷ J) = by_event e (last_told J)
  where
    by_event : (e : LaneEvent) → last_state (told_events J) ≡ last_state J → last_state (told_events (e ∷ J)) ≡ last_state (e ∷ J)
    by_event (event.Published s) is = refl
    by_event (event.Heard d v) is = is
    by_event (event.Begun l d v id s) is = is
    by_event (event.Refused l d x) is = is
    by_event (event.Opened d v rows) is = is
    by_event (event.Prepared l b set) is = is
    by_event (event.Wrote l entry) is = is
    by_event (event.Sent k v d m b) is = is
    by_event (event.Delivered k r) is = is
    by_event (event.Returned k) is = is
    by_event (event.Closed l x) is = is
    by_event (event.Decided d v x) is = is
    by_event (event.Stopped m) is = is
    by_event (event.Started m) is = is
