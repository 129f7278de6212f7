-- A search is full behind an upkeep that brought all lanes to rest.
use Rattle.std.proofs.Common.{◌≡◌, ◌≢◌, ◌==◌, ◌<◌, ◌≤◌, ◌+◌, ◌-◌, ◌%◌, ◌^◌, ℕ, zero, suc, Bool, true, false, cond, Contains, List, [], ◌∷◌, ◌++◌, Option, None, Some, inl, inr, refl, sym, ap, ◌∙◌, subst, arith, length, length-append, map, slice_get, take, count_by, option_and_then, pow_pos, if◌then◌else◌}
use mathlib.Core.Bool.{true≢false}
use Rattle.std.proofs.lemmas.Bool.Decides.{nat_tests}
use Rattle.std.proofs.lemmas.Option.{slice_get_within}
use Rattle.std.proofs.lemmas.Nat.{mod_below}
use Rattle.std.proofs.lemmas.List.Sums.{sum_by-cons, count_by-le-length}
use Rattle.bucket_ids.specs.Buckets.{Low, has_key}
use Rattle.carriers.specs.declared.fate.Fate.{Fate}
use Rattle.cluster_states.specs.Publishing.{Told, newest_of, publish_fault}
use Rattle.cluster_states.specs.declared.cluster_state.ClusterState.{ClusterState}
use Rattle.cluster_states.specs.declared.states.PublishFault.{PublishFault}
use Rattle.doc_types.specs.SchemaCodes.{Types}
use Rattle.journal_views.specs.Fronts.{Front, seen_at, IsKeyRead}
use Rattle.lane_journals.specs.Facts.{InRegion}
use Rattle.lane_journals.specs.KeptJournals.{IsLegal}
use Rattle.lane_journals.specs.Meanings.{history}
use Rattle.lane_journals.specs.Readers.{version, stopped}
use Rattle.lane_journals.specs.declared.event.LaneEvent.{LaneEvent}
use Rattle.lane_keeping.specs.LaneKeeping.{setting_of}
use Rattle.lane_keeping.specs.Tidings.{last_state}
use Rattle.lane_calls.specs.LaneValues.{LaneValue}
use Rattle.lane_lives.specs.Lives.{Deed, Announces, Stops, Starts, Runs, Feeds, Maintains, IsLife, states_in, newest_in}
use Rattle.lane_lives.specs.Rested.{IsCovered, AreCalm}
use Rattle.lane_lives.specs.Serving.{bucket_in}
use Rattle.lane_lives.specs.Settings.{IsSetting}
use Rattle.lane_lives.specs.Upkeep.{SpanStands}
use Rattle.lane_lives.specs.declared.setting.Setting.{Setting}
use Rattle.lane_lives.specs.declared.spans.UpkeepSpan.{UpkeepSpan}
use Rattle.lane_lives.proofs.Living.{newest_published}
use Rattle.messages.specs.declared.operation.Operation.{Operation}
use Rattle.query_text.specs.Grammar.{Said}
use Rattle.reports.specs.declared.answer.Answer.{Answer}
use Rattle.reports.specs.declared.answer.Answer.TheVariants as answer
use Rattle.search_laws.specs.Searches.{covered}
use Rattle.search_views.specs.Answers.{search_answer, all_covered, capped}
use Rattle.session_cluster.specs.Cells.{Cell, journals, journals_of}
use Rattle.session_cluster.specs.Deeds.{told_of, with_state, with_line, deeds_of_lane}
use Rattle.session_cluster.specs.Keeping.{HaveDone, IsKept}
use Rattle.session_cluster.specs.Lanes.{Journal, lane_of_id}
use Rattle.session_cluster.specs.Output.{upkeep_answer, found_answer_of}
use Rattle.session_cluster.specs.Searches.{fronts_of, views_to, version_of, version_now}
use Rattle.session_cluster.specs.Spans.{spans_of, span_in, is_rested}
use Rattle.session_cluster.specs.declared.asked.Asked.{Asked}
use Rattle.session_cluster.specs.declared.asked.Asked.TheVariants as command
use Rattle.session_cluster.specs.declared.cluster.LineSpans.{LineSpans}
use Rattle.session_cluster.proofs.AlikeDeeds.{AreLow}
use Rattle.session_cluster.proofs.DeedLists.{deeds_push, deeds_told}
use Rattle.upkeep_spans.specs.declared.answers.Upkeep.{Upkeep}
use Rattle.upkeep_spans.specs.declared.answers.Upkeep.TheVariants.{Rested, Blocked, Disturbed, Held, NoMemory}
use Rattle.cell_session.specs.FullSearches.{IsCalmLine, answer_at, AllRested, FollowsRest, IsFull, AreFull}
use Rattle.cell_session.specs.Limits.{most_lines}
use Rattle.cell_session.specs.Operations.{deeds_before}
use Rattle.cell_session.specs.Searches.{FrontStands, HasRead, SearchesAt, AreRead, IsFrontIn, AreFrontsIn}
use Rattle.cell_session.specs.Upkeep.{HasStood, AreUpkept}
use Rattle.cell_session.specs.declared.status.Status.{Status}
use Rattle.cell_session.proofs.SearchCounts.{SearchLaws, covered_is, kept_low, legal_in, counts_at}
use Rattle.cell_session.proofs.UpkeepLaws.{some_is}

-- ---- the answers

rested_is : (u : Upkeep) → is_rested u ≡ true → u ≡ Rested
rested_is Rested h = refl
rested_is (Blocked n) h = absurd (true≢false (sym h))
rested_is (Disturbed n) h = absurd (true≢false (sym h))
rested_is (Held n) h = absurd (true≢false (sym h))
rested_is NoMemory h = absurd (true≢false (sym h))

-- where as many pass a test as there are, each does
each_counts : {A : Type 0} (p : A → Bool) (xs : List A) → count_by p xs ≡ length xs → (k : ℕ) (x : A) → slice_get xs k ≡ Some x → p x ≡ true
each_counts p [] all k x at = cc at
each_counts p (y ∷ ys) all k x at = by_place k at (each_counts p ys rest)
  where
    both : count_by p (y ∷ ys) ≡ cond (p y) 1 0 + count_by p ys
    both = sum_by-cons (λ z. cond (p z) 1 0) y ys

    small : (t : Bool) → cond t 1 0 ≤ 1
    small true = omega arith
    small false = omega arith

    rest : count_by p ys ≡ length ys
    rest = omega (arith, all, both, small (p y), count_by-le-length p ys)

    one : (t : Bool) → ◌≡◌ {A = ℕ} (cond t 1 0) 1 → t ≡ true
    one true h = refl
    one false h = absurd (omega (arith, h))

    by_place : (k : ℕ) → slice_get (y ∷ ys) k ≡ Some x → ((j : ℕ) (z : _) → slice_get ys j ≡ Some z → p z ≡ true) → p x ≡ true
    by_place zero h ih = subst (λ z. p z ≡ true) (some_is h) (one (p y) (omega (arith, all, both, rest)))
    by_place (suc j) h ih = ih j x h

-- the line's spans, of which as many rested as there are
record HaveRested (line : ℕ) (us : List LineSpans) : Type 0 where
  spans : List UpkeepSpan
  are : spans_of line us ≡ Some spans
  rested : (lane : ℕ) (span : UpkeepSpan) → slice_get spans lane ≡ Some span → span.answer ≡ Rested

all_rested : (line lanes blocked disturbed : ℕ) (us : List LineSpans) → upkeep_answer (spans_of line us) ≡ Some (answer.Maintained lanes lanes blocked disturbed) → HaveRested line us
all_rested line lanes blocked disturbed us h = by_spans (spans_of line us) refl h
  where
    first : {a b c d e f g i : ℕ} → answer.Maintained a b c d ≡ answer.Maintained e f g i → (a ≡ e) × (b ≡ f)
    first h = (cc h, cc h)

    by_spans : (o : Option (List UpkeepSpan)) → spans_of line us ≡ o → upkeep_answer o ≡ Some (answer.Maintained lanes lanes blocked disturbed) → HaveRested line us
    by_spans None is g = cc g
    by_spans (Some spans) is g =
        let same = first (some_is g) in
        record { spans = spans; are = is; rested = λ lane span at. rested_is span.answer (each_counts (λ (z : UpkeepSpan). is_rested z.answer) spans (same.1 ∙ sym same.0) lane span at) }

-- the answer of a search that read so far
answer_is : (types : Types) (told : Told) (q : Said) (o : Option (List ℕ)) (Js : List Journal) (fronts : List ℕ) (a : Answer) → o ≡ Some fronts → found_answer_of types told q o Js ≡ Some a → a ≡ answer.Search (search_answer q (version_now told) (views_to types fronts Js))
answer_is types told q o Js fronts a is h = some_is (sym h ∙ ap (λ x. found_answer_of types told q x Js) is)

-- ---- the deeds between

-- the deeds are calm ones behind these
pub record IsCalmBehind (base deeds : List Deed) : Type 0 where
  pub more : List Deed
  pub calm : AreCalm more
  pub are : deeds ≡ more ++ base

pub one_behind : (base deeds : List Deed) (deed : Deed) → ((more : List Deed) → AreCalm more → AreCalm (deed ∷ more)) → IsCalmBehind base deeds → IsCalmBehind base (deed ∷ deeds)
one_behind base deeds deed calm x = record { more = deed ∷ x.more; calm = calm x.more x.calm; are = ap (λ ds. deed ∷ ds) x.are }

calm_operation : (t : Bool) (line : ℕ) (op : Operation) (via : Option ℕ) (base deeds : List Deed) → IsCalmBehind base deeds → IsCalmBehind base (if t then Runs (record { number = line; operation = op; via = via }) ∷ deeds else deeds)
calm_operation true line op via base deeds x = one_behind base deeds (Runs (record { number = line; operation = op; via = via })) (λ more calm. calm) x
calm_operation false line op via base deeds x = x

calm_state : (o : Option PublishFault) (state : ClusterState) (deaf : ℕ) (base deeds : List Deed) → o ≢ None → IsCalmBehind base deeds → IsCalmBehind base (with_state o state deaf deeds)
calm_state None state deaf base deeds not x = absurd (not refl)
calm_state (Some why) state deaf base deeds not x = x

-- a calm line adds none but calm ones
pub calm_line : (s : Setting) (us : List LineSpans) (lane : ℕ) (told : Told) (line : ℕ) (c : Asked) (base deeds : List Deed) → IsCalmLine told c → IsCalmBehind base deeds → IsCalmBehind base (with_line s us lane told line c deeds)
calm_line s us lane told line command.Blank base deeds calm x = x
calm_line s us lane told line command.TooLong base deeds calm x = x
calm_line s us lane told line command.Barrier base deeds calm x = x
calm_line s us lane told line (command.Bad why) base deeds calm x = x
calm_line s us lane told line (command.Feed op via) base deeds calm x = calm_operation (lane_of_id s.bits op.id == lane) line op via base deeds x
calm_line s us lane told line (command.State state deaf) base deeds calm x = calm_state (publish_fault told state) state deaf base deeds calm x
calm_line s us lane told line (command.BadState offset) base deeds calm x = x
calm_line s us lane told line (command.Stop node) base deeds calm x = absurd calm
calm_line s us lane told line (command.Start node) base deeds calm x = one_behind base deeds (Starts node) (λ more calm. calm) x
calm_line s us lane told line (command.Net at fates) base deeds calm x = x
calm_line s us lane told line command.Maintain base deeds calm x = one_behind base deeds (Maintains (span_in lane line us)) (λ more calm. calm) x
calm_line s us lane told line (command.Search query) base deeds calm x = x
calm_line s us lane told line (command.BadQuery offset) base deeds calm x = x

-- the lines up to one and that one
take_next : (cs : List Asked) (k : ℕ) (c : Asked) → slice_get cs k ≡ Some c → take (suc k) cs ≡ take k cs ++ c ∷ []
take_next [] k c h = cc h
take_next (x ∷ cs) zero c h = ap (λ y. y ∷ []) (some_is h)
take_next (x ∷ cs) (suc k) c h = ap (λ ys. x ∷ ys) (take_next cs k c h)

taken_long : (cs : List Asked) (k : ℕ) → k ≤ length cs → length (take k cs) ≡ k
taken_long cs zero h = refl
taken_long [] (suc k) h = absurd (omega (arith, h))
taken_long (x ∷ cs) (suc k) h = ap suc (taken_long cs k (omega (arith, h)))

there : (cs : List Asked) (k : ℕ) → k < length cs → (c : Asked) × (slice_get cs k ≡ Some c)
there [] k h = absurd (omega (arith, h))
there (x ∷ cs) zero h = (x, refl)
there (x ∷ cs) (suc k) h = there cs k (omega (arith, h))

module _ (s : Setting) (us : List LineSpans) (asked : List Asked) (lane : ℕ) where
  -- what the line at a place adds
  deeds_next : (k : ℕ) (c : Asked) → slice_get asked k ≡ Some c → deeds_of_lane s us lane (take (suc k) asked) ≡ with_line s us lane (told_of s (take k asked)) (suc k) c (deeds_of_lane s us lane (take k asked))
  deeds_next k c at =
      let low = slice_get_within asked k c at in
      ap (deeds_of_lane s us lane) (take_next asked k c at) ∙ deeds_push s us lane (suc k) (take k asked) c (omega (arith, taken_long asked k (omega (arith, low))))

  -- from behind an upkeep on
  calm_since : (upkeep : ℕ) (span : UpkeepSpan) → slice_get asked upkeep ≡ Some command.Maintain → span_in lane (suc upkeep) us ≡ Some span → (d : ℕ) → suc upkeep + d ≤ length asked
      → ((k : ℕ) (line : Asked) → upkeep < k → k < suc upkeep + d → slice_get asked k ≡ Some line → IsCalmLine (told_of s (take k asked)) line)
      → IsCalmBehind (Maintains (Some span) ∷ deeds_of_lane s us lane (take upkeep asked)) (deeds_of_lane s us lane (take (suc upkeep + d) asked))
  calm_since upkeep span asks noted zero within calm = record {
    more = [];
    calm = tt;
    are = ap (λ n. deeds_of_lane s us lane (take n asked)) (this upkeep) ∙ deeds_next upkeep command.Maintain asks ∙ ap (λ o. Maintains o ∷ deeds_of_lane s us lane (take upkeep asked)) noted;
  }
    where
      this : (n : ℕ) → suc n + 0 ≡ suc n
      this n = omega arith
  calm_since upkeep span asks noted (suc d) within calm =
      let k = suc upkeep + d in
      let line = there asked k (omega (arith, within)) in
      let before = calm_since upkeep span asks noted d (omega (arith, within)) (λ j c late early at. calm j c late (omega (arith, early)) at) in
      subst (IsCalmBehind (Maintains (Some span) ∷ deeds_of_lane s us lane (take upkeep asked))) (sym (ap (λ n. deeds_of_lane s us lane (take n asked)) (more upkeep d) ∙ deeds_next k line.0 line.1))
      (calm_line s us lane (told_of s (take k asked)) (suc k) line.0 _ _ (calm k line.0 (omega arith) (omega arith) line.1) before)
    where
      more : (n j : ℕ) → suc n + suc j ≡ suc (suc n + j)
      more n j = omega arith

-- ---- the version of a search

last-of : (xs : List ClusterState) (x : ClusterState) → newest_of (xs ++ x ∷ []) ≡ Some x
last-of xs x = ap (λ (k : ℕ). slice_get (xs ++ x ∷ []) k) (ap (λ (k : ℕ). k - 1) (length-append xs (x ∷ [])) ∙ omega arith) ∙ at_end xs
  where
    at_end : (ys : List ClusterState) → slice_get (ys ++ x ∷ []) (length ys) ≡ Some x
    at_end [] = refl
    at_end (y ∷ ys) = at_end ys

newest_state : (s : Setting) (deeds : List Deed) → newest_of (states_in s deeds) ≡ Some (newest_in s deeds)
newest_state s [] = refl
newest_state s (Announces state deaf ∷ deeds) = last-of (states_in s deeds) state
newest_state s (Stops n ∷ deeds) = newest_state s deeds
newest_state s (Starts n ∷ deeds) = newest_state s deeds
newest_state s (Runs line ∷ deeds) = newest_state s deeds
newest_state s (Feeds feeders lines left ∷ deeds) = newest_state s deeds
newest_state s (Maintains noted ∷ deeds) = newest_state s deeds

-- it is that of the state that was published last in each lane
version_is : (s : Setting) (t : Told) (deeds : List Deed) (b : Low) (K : List LaneEvent) (state : ClusterState) → states_in s deeds ≡ t.states → IsLife s b deeds K → last_state K ≡ Some state → version_now t ≡ state.version
version_is s t deeds b K state told life last =
    ap (λ ss. version_of (newest_of ss)) (sym told) ∙ ap version_of (newest_state s deeds) ∙ ap version_of (sym (newest_published s b deeds K life)) ∙ ap version_of last

-- ---- all keys

-- the prefix of a lane's journal is among these
record IsThere (s : Setting) (lane k : ℕ) (deeds : ℕ → List Deed) (vs : List LaneValue) (fs : List Front) : Type 0 where
  v : LaneValue
  here : slice_get vs k ≡ Some v
  g : ℕ
  front : Front
  among : Contains fs front
  is : IsFrontIn s (lane + k) (deeds (lane + k)) g v.journal front

front_there : (s : Setting) (deeds : ℕ → List Deed) (lane k : ℕ) (gs : List ℕ) (vs : List LaneValue) (fs : List Front) → AreFrontsIn s lane deeds gs (journals vs) fs → k < length vs → IsThere s lane k deeds vs fs
front_there s deeds lane k gs [] fs are low = absurd (omega (arith, low))
front_there s deeds lane k [] (v ∷ vs) fs are low = absurd are
front_there s deeds lane k (g ∷ gs) (v ∷ vs) [] are low = absurd are
front_there s deeds lane zero (g ∷ gs) (v ∷ vs) (f ∷ fs) are low = record {
  v = v;
  here = refl;
  g = g;
  front = f;
  among = (zero, omega arith, refl);
  is = subst (λ n. IsFrontIn s n (deeds n) g v.journal f) (this lane) are.0;
}
  where
    this : (n : ℕ) → n ≡ n + 0
    this n = omega arith
front_there s deeds lane (suc k) (g ∷ gs) (v ∷ vs) (f ∷ fs) are low =
    let x = front_there s deeds (suc lane) k gs vs fs are.1 (omega (arith, low)) in
    let c = x.among in
    record {
      v = x.v;
      here = x.here;
      g = x.g;
      front = x.front;
      among = (suc c.0, omega (arith, c.1), c.2);
      is = subst (λ n. IsFrontIn s n (deeds n) x.g (x.v).journal x.front) (next lane k) x.is;
    }
  where
    next : (n j : ℕ) → suc n + j ≡ n + suc j
    next n j = omega arith

-- ---- each search of a session

abbrev pub StayCovered : Type 0
StayCovered = (s : Setting) (lane : Low) (more deeds : List Deed) (given : List Fate) (J K later : List LaneEvent) (span : UpkeepSpan) → IsLegal (setting_of lane s.rules) J → SpanStands s lane deeds given J span → span.answer ≡ Rested → AreCalm more
    → IsLife s lane (more ++ Maintains (Some span) ∷ deeds) K → J ≡ later ++ K → (key : ℕ) → has_key lane key ≡ true → IsCovered key K

-- what a session's deeds say of searches that read behind an upkeep
pub record ReadBehind (s : Setting) (plans : ℕ → List Fate) (asked : List Asked) (c : Cell) (deeds : ℕ → List Deed) (before to : ℕ → ℕ → List Deed) : Type 0 where
  pub done : HaveDone s plans asked deeds c
  pub lows : AreLow deeds (length asked)
  -- a line that searches, and has fronts, read
  pub reads : (at : ℕ) (q : Said) → SearchesAt at q asked → (gs : List ℕ) → fronts_of (suc at) c.fronts ≡ Some gs → HasRead s (to at) (suc at) c
  -- the states that are told as it reads
  pub told : (at : ℕ) (q : Said) → SearchesAt at q asked → (lane : ℕ) → states_in s (to at lane) ≡ (told_of s (take at asked)).states
  -- nothing but what is calm was done since an upkeep that it follows
  pub calm : (upkeep at : ℕ) (q : Said) → FollowsRest s asked c upkeep at q → (lane : ℕ) (span : UpkeepSpan) → span_in lane (suc upkeep) c.upkeeps ≡ Some span
      → IsCalmBehind (Maintains (Some span) ∷ before upkeep lane) (to at lane)

module _ (laws : SearchLaws) (covers : StayCovered) (end : Status) (s : Setting) (setting : IsSetting s) (plans : ℕ → List Fate) (asked : List Asked) (c : Cell) (deeds_done : ℕ → List Deed) (before to : ℕ → ℕ → List Deed)
    (x : ReadBehind s plans asked c deeds_done before to) (few : length asked ≤ most_lines) (upkept : AreUpkept end s before asked c) where
  module _ (upkeep at : ℕ) (q : Said) (f : FollowsRest s asked c upkeep at q) where
    abbrev said : AllRested s asked c upkeep
    said = f.all_rested

    rested : HaveRested (suc upkeep) c.upkeeps
    rested = all_rested (suc upkeep) said.lanes said.blocked said.disturbed c.upkeeps said.rested

    stood : HasStood s (before upkeep) (suc upkeep) c
    stood = elim (upkept.answered upkeep said.asks) [
      | inl h ↦ h
      | inr cut ↦ none_noted (sym cut.none ∙ rested.are)
    ]
      where
        none_noted : {A : Type 0} {spans : List UpkeepSpan} → None ≡ Some spans → A
        none_noted e = cc e

    same : stood.spans ≡ rested.spans
    same = some_is (sym stood.are ∙ rested.are)

    abbrev w : ℕ
    w = version_now (told_of s (take at asked))

    -- there is a span of each lane
    span_there : (lane : ℕ) (v : LaneValue) → slice_get c.lanes lane ≡ Some v → (span : UpkeepSpan) × (slice_get rested.spans lane ≡ Some span)
    span_there lane v here = in_list rested.spans lane (omega (arith, slice_get_within c.lanes lane v here, (x.done).lanes, stood.count, ap length same))
      where
        in_list : (xs : List UpkeepSpan) (k : ℕ) → k < length xs → (y : UpkeepSpan) × (slice_get xs k ≡ Some y)
        in_list [] k h = absurd (omega (arith, h))
        in_list (y ∷ ys) zero h = (y, refl)
        in_list (y ∷ ys) (suc k) h = in_list ys k (omega (arith, h))

    abbrev deeds : ℕ → List Deed
    deeds = to at

    -- the version of the search is that of what covers the key
    under_version : (lane : ℕ) (K : List LaneEvent) → IsLife s (bucket_in s lane) (deeds lane) K → (key : ℕ) (y : IsCovered key K) → (z : IsCovered key K) × (z.state.version ≡ w)
    under_version lane K life key y = (y, sym (version_is s (told_of s (take at asked)) (deeds lane) (bucket_in s lane) K y.state (x.told at q f.searches lane) life y.newest))

    -- each key of a lane is covered there, under the version of the search
    lane_read : (lane g : ℕ) (v : LaneValue) → slice_get c.lanes lane ≡ Some v → (stands : FrontStands s (bucket_in s lane) (deeds lane) v.journal g) → (key : ℕ) → has_key (bucket_in s lane) key ≡ true
        → (y : IsCovered key stands.before) × (y.state.version ≡ w)
    lane_read lane g v here stands key own =
        let span = span_there lane v here in
        let rests = stood.stand lane v span.0 here (ap (λ xs. slice_get xs lane) same ∙ span.1) in
        let noted : span_in lane (suc upkeep) c.upkeeps ≡ Some span.0 = ap (λ (o : Option (List UpkeepSpan)). option_and_then (λ spans. slice_get spans lane) o) rested.are ∙ span.1 in
        let calm = x.calm upkeep at q f lane span.0 noted in
        let y = covers s (bucket_in s lane) calm.more (before upkeep lane) v.given v.journal stands.before stands.later span.0 (legal_in s plans asked deeds_done c x.done lane v here) rests (rested.rested lane span.0 span.1) calm.calm
        (subst (λ ds. IsLife s (bucket_in s lane) ds stands.before) calm.are stands.behind) stands.whole key own in
        under_version lane stands.before stands.behind key y

    -- each key lies in a lane
    key_read : (gs : List ℕ) (fs : List Front) → AreFrontsIn s 0 deeds gs (journals c.lanes) fs → (key : ℕ) → IsKeyRead w key fs
    key_read gs fs are key =
        let lane = key % 2 ^ s.bits in
        let low : lane < 2 ^ s.bits = mod_below key (2 ^ s.bits) (pow_pos s.bits) in
        let g = front_there s deeds 0 lane gs c.lanes fs are (omega (arith, low, (x.done).lanes)) in
        let is = subst (λ n. IsFrontIn s n (deeds n) g.g (g.v).journal g.front) (none lane) g.is in
        let y = lane_read lane g.g g.v g.here is.stands key (own lane lane refl) in
        record {
          front = g.front;
          among = g.among;
          node = (y.0).node;
          version_is = ap (λ J. version (y.0).node (history J)) is.journal ∙ (y.0).current ∙ y.1;
          runs = ap (λ J. stopped (y.0).node (history J)) is.journal ∙ (y.0).runs;
          region = subst (λ J. InRegion w (y.0).node key (history J)) (sym is.journal) (subst (λ (v : ℕ). InRegion v (y.0).node key (history (is.stands).before)) y.1 (y.0).region);
        }
      where
        none : (n : ℕ) → 0 + n ≡ n
        none n = omega arith

        own : (n m : ℕ) → n ≡ m → (n == m) ≡ true
        own n m e = grind (arith, nat_tests)

    full_where : (a : Answer) → answer_at s asked c at (command.Search q) ≡ Some a → (has : HasRead s (to at) (suc at) c) → IsFull a
    full_where a is has =
        let got = counts_at laws s setting plans asked deeds_done c x.done x.lows few deeds (suc at) has in
        let all : covered w (map (seen_at s.schema) got.fronts) ≡ 2 ^ 58 = laws.full s.schema w got.fronts got.legal (λ key small. key_read has.fronts got.fronts got.are key) in
        let sum : all_covered w (views_to s.schema has.fronts (journals_of c)) ≡ 2 ^ 58 = sym (covered_is s.schema w got.fronts ∙ ap (all_covered w) got.views) ∙ all in
        subst IsFull (sym (answer_is s.schema (told_of s (take at asked)) q (fronts_of (suc at) c.fronts) (journals c.lanes) has.fronts a has.are is))
        (full_at (all_covered w (views_to s.schema has.fronts (journals_of c))) sum)
      where
        full_at : (n : ℕ) → n ≡ 2 ^ 58 → (capped n == 2 ^ 58) ≡ true
        full_at n h = ap (λ (k : ℕ). capped k == 2 ^ 58) h

    is_full : (a : Answer) → answer_at s asked c at (command.Search q) ≡ Some a → IsFull a
    is_full a is = by_fronts (fronts_of (suc at) c.fronts) refl
      where
        no_answer : None ≡ Some a → IsFull a
        no_answer e = cc e

        by_fronts : (o : Option (List ℕ)) → fronts_of (suc at) c.fronts ≡ o → IsFull a
        by_fronts None none = no_answer (sym (ap (λ o. found_answer_of s.schema (told_of s (take at asked)) q o (journals c.lanes)) none) ∙ is)
        by_fronts (Some gs) has = full_where a is (x.reads at q f.searches gs has)

  pub all_full : AreFull s asked c
  all_full upkeep at q f = is_full upkeep at q f

-- ---- of lines one after the other

module _ (s : Setting) (plans : ℕ → List Fate) (asked : List Asked) (c : Cell) (kept : IsKept s plans asked c) (read : AreRead s (deeds_before s asked c) asked c) where
  kept_calm : (upkeep at : ℕ) (q : Said) → FollowsRest s asked c upkeep at q → (lane : ℕ) (span : UpkeepSpan) → span_in lane (suc upkeep) c.upkeeps ≡ Some span
      → IsCalmBehind (Maintains (Some span) ∷ deeds_before s asked c upkeep lane) (deeds_before s asked c at lane)
  kept_calm upkeep at q f lane span noted =
      let d = at - suc upkeep in
      let e : suc upkeep + d ≡ at = omega (arith, f.order) in
      let low = slice_get_within asked at (command.Search q) f.searches in
      subst (λ n. IsCalmBehind (Maintains (Some span) ∷ deeds_of_lane s c.upkeeps lane (take upkeep asked)) (deeds_of_lane s c.upkeeps lane (take n asked))) e
      (calm_since s c.upkeeps asked lane upkeep span (f.all_rested).asks noted d (omega (arith, e, low)) (λ k line late early here. f.between k line late (omega (arith, early, e)) here))

  kept_behind : ReadBehind s plans asked c (λ lane. deeds_of_lane s c.upkeeps lane asked) (deeds_before s asked c) (deeds_before s asked c)
  kept_behind = record {
    done = kept;
    lows = kept_low s asked c;
    reads = λ at q asks gs has. read.answered at q asks;
    told = λ at q asks lane. ap (λ (t : Told). t.states) (deeds_told s c.upkeeps lane (take at asked));
    calm = kept_calm;
  }

  pub kept_full : SearchLaws → StayCovered → (end : Status) → IsSetting s → length asked ≤ most_lines → AreUpkept end s (deeds_before s asked c) asked c → AreFull s asked c
  kept_full laws covers end setting few upkept = all_full laws covers end s setting plans asked c (λ lane. deeds_of_lane s c.upkeeps lane asked) (deeds_before s asked c) (deeds_before s asked c) kept_behind few upkept

-- where there is no line
pub none_full : (s : Setting) (c : Cell) → AreFull s [] c
none_full s c upkeep at q x = nothing upkeep (x.all_rested).asks
  where
    nothing : {A : Type 0} (k : ℕ) {y : Asked} → slice_get [] k ≡ Some y → A
    nothing zero h = cc h
    nothing (suc k) h = cc h
