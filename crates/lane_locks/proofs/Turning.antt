-- What the tests of a line say: that it has its turn, wants to go on, or is to be closed.
use Rattle.std.proofs.Common.{◌≡◌, ◌==◌, ◌⊎◌, ◌&&◌, ◌<◌, ℕ, zero, suc, Bool, true, false, List, [], ◌∷◌, ◌++◌, length, Option, None, Some, IsSome, IfSome, inl, inr, refl, sym, ap, ◌∙◌, subst, slice_get, slice_set, arith}
use Rattle.std.specs.List.{slice_index_or}
use Rattle.bucket_ids.specs.Buckets.{Low, IsIn}
use Rattle.messages.specs.declared.outcome.Outcome.{Outcome}
use Rattle.lane_journals.specs.Buckets.{key_of}
use Rattle.lane_journals.specs.Readers.{held}
use Rattle.lane_journals.specs.Meanings.{history}
use Rattle.lane_journals.specs.declared.event.LaneEvent.{LaneEvent}
use Rattle.lane_journals.specs.declared.event.LaneEvent.TheVariants as event
use Rattle.lane_keeping.specs.Tidings.{last_state}
use Rattle.lane_calls.specs.declared.answers.Begin.{Begin}
use Rattle.lane_calls.specs.declared.answers.Advance.{Advance}
use Rattle.lane_calls.specs.declared.progress.Progress.{Progress}
use Rattle.lane_calls.specs.declared.progress.Progress.TheVariants as progress
use Rattle.lane_calls.specs.declared.progress.UnderWay.{UnderWay}
use Rattle.lane_calls.specs.LaneValues.{LaneValue, IsLaneValue, WantsMore, WantsEnd, MayAdvance, MayClose, Closes}
use Rattle.lane_calls.specs.Lines.{FeedLine, Lines}
use Rattle.lane_calls.specs.Readings.{outcome_in}
use Rattle.lane_calls.proofs.OneLine.{fresh_none}
use Rattle.lane_calls.proofs.Told.{some_or}
use Rattle.lane_core.proofs.Places.{get-one, get-map, get-map-back, get-index, get-within, within-get}
use Rattle.lane_core.specs.Advancing.{IsAdvance}
use Rattle.lane_calls.specs.Segments.{feeder_of, IsAmong, HasTurn, IsNext, BeginsAs, Here, IsSegment}
use Rattle.lane_calls.specs.Growth.{IsLater}
use Rattle.lane_calls.proofs.Calling.{segment-holds, segment-grows, segment-same, keeps}
use Rattle.lane_calls.proofs.Growing.{grows-later}
use Rattle.lane_locks.specs.declared.lines.Line.{Line}
use Rattle.lane_locks.specs.declared.lines.Stage.{Stage}
use Rattle.lane_locks.specs.declared.lines.Stage.TheVariants.{Waiting, Going, Ending, Answered}
use Rattle.lane_locks.specs.Lines.{line_of, lines_of, feeder_at, IsLast, AreLines, AreWaiting, IsOfLane, AreOfLane, AreFresh}
use Rattle.lane_locks.specs.Served.{StageIs, HasStarted, AreStages, IsRunSoFar, is_answered, is_waiting, is_going, is_ending, came, may_begin}
use Rattle.lane_locks.specs.Slots.{IsKept}
use Rattle.lane_locks.specs.declared.slot.Turn.{Turn}
use Rattle.lane_locks.specs.declared.slot.Turn.TheVariants as turn
use Rattle.lane_locks.specs.Turns.{turn_of_begin, stages_begun, BeginsAt, turn_of_advance, stages_gone, AdvancesAt, ClosesAt}
use Rattle.lane_locks.proofs.Staging.{under-way-none, under-way-known, begun-served, gone-served, closed-served}

-- ---- tests

clash : {X : Type 0} → true ≡ false → X
clash h = absurd (cc)

nothing-some : {A X : Type 0} (x : A) → ◌≡◌ {A = Option A} None (Some x) → X
nothing-some x h = absurd (cc)

both : (a b : Bool) → (a && b) ≡ true → (a ≡ true) × (b ≡ true)
both true true h = (refl, refl)
both true false h = clash (sym h)
both false b h = clash (sym h)

pub waiting-is : (o : Option Stage) → is_waiting o ≡ true → o ≡ Some Waiting
waiting-is None h = clash (sym h)
waiting-is (Some Waiting) h = refl
waiting-is (Some Going) h = clash (sym h)
waiting-is (Some Ending) h = clash (sym h)
waiting-is (Some (Answered x)) h = clash (sym h)

pub going-is : (o : Option Stage) → is_going o ≡ true → o ≡ Some Going
going-is None h = clash (sym h)
going-is (Some Going) h = refl
going-is (Some Waiting) h = clash (sym h)
going-is (Some Ending) h = clash (sym h)
going-is (Some (Answered x)) h = clash (sym h)

pub ending-is : (o : Option Stage) → is_ending o ≡ true → o ≡ Some Ending
ending-is None h = clash (sym h)
ending-is (Some Ending) h = refl
ending-is (Some Waiting) h = clash (sym h)
ending-is (Some Going) h = clash (sym h)
ending-is (Some (Answered x)) h = clash (sym h)

answered-is : (o : Option Stage) → is_answered o ≡ true → (x : Outcome) × (o ≡ Some (Answered x))
answered-is None h = clash (sym h)
answered-is (Some (Answered x)) h = (x, refl)
answered-is (Some Waiting) h = clash (sym h)
answered-is (Some Going) h = clash (sym h)
answered-is (Some Ending) h = clash (sym h)

-- a place with a stage is one of the list
pub within : (stages : List Stage) (place : ℕ) (s : Stage) → slice_get stages place ≡ Some s → place < length stages
within stages place s h = get-within stages place s h

order : (a b : ℕ) → (a < b) ⊎ ((a ≡ b) ⊎ (b < a))
order zero zero = inr (inl refl)
order zero (suc b) = inl (omega arith)
order (suc a) zero = inr (inr (omega arith))
order (suc a) (suc b) = elim (order a b) [
  | inl less ↦ inl (omega (arith, less))
  | inr rest ↦ elim rest [ inl same ↦ inr (inl (ap suc same)) | inr more ↦ inr (inr (omega (arith, more))) ]
]

-- ---- what stays since the segment began

last-stays : (added J : List LaneEvent) → IsSome (last_state J) → IsSome (last_state (added ++ J))
last-stays [] J h = h
last-stays (e ∷ added) J h = by_event e (last-stays added J h)
  where
    by_event : (e : LaneEvent) → IsSome (last_state (added ++ J)) → IsSome (last_state (e ∷ added ++ J))
    by_event (event.Published s) h = refl
    by_event _ h = h

held-stays : (d : ℕ) (added J : List LaneEvent) → IsSome (held d (history J)) → IsSome (held d (history (added ++ J)))
held-stays d [] J h = h
held-stays d (e ∷ added) J h = by_event e (held-stays d added J h)
  where
    by_event : (e : LaneEvent) → IsSome (held d (history (added ++ J))) → IsSome (held d (history (e ∷ added ++ J)))
    by_event (event.Heard e v) h = some_or (held d (history (added ++ J))) v (e == d) h
    by_event _ h = h

if-some : (o : Option ℕ) (P Q : ℕ → Type 0) → ((d : ℕ) → P d → Q d) → IfSome o P → IfSome o Q
if-some None P Q f h = tt
if-some (Some d) P Q f h = f d h

module _ (feeders : ℕ) (lines : Lines) (first v : LaneValue) (ls : List Line) (stages : List Stage) (k : IsKept feeders lines first v ls stages) where
  abbrev seg : IsSegment feeders lines first v
  seg = (k.served).segment

  abbrev st : AreStages feeders lines v ls stages
  st = (k.served).stages_are

  later : IsLater first.journal v.journal
  later = grows-later feeders lines first.lane first.rules first.journal v.journal (segment-grows feeders lines first v seg)

  pub published-now : IsSome (last_state v.journal)
  published-now = subst (λ (J : List LaneEvent). IsSome (last_state J)) (sym (later).is) (last-stays (later).added first.journal (k.of_lane).published)

  pub line-found : (place : ℕ) (l : Line) → slice_get ls place ≡ Some l → slice_get lines place ≡ Some (line_of l)
  line-found place l found = subst (λ (xs : Lines). slice_get xs place ≡ Some (line_of l)) k.lines_are (get-map line_of ls place l found)

  pub of-lane-now : (place : ℕ) (l : Line) → slice_get ls place ≡ Some l → IsOfLane v (line_of l)
  of-lane-now place l found =
      let o = (k.of_lane).each place (line_of l) (line-found place l found) in
      record {
        in_lane = subst (λ (b : Low). IsIn b (key_of l.operation.id)) (sym (segment-same feeders lines first v seg).0) o.in_lane;
        holds = if-some l.via _ _ (λ d h. subst (λ (J : List LaneEvent). IsSome (held d (history J))) (sym (later).is) (held-stays d (later).added first.journal h)) o.holds;
      }

  pub line-back : (place : ℕ) (line : FeedLine) → slice_get lines place ≡ Some line → (l : Line) × (slice_get ls place ≡ Some l) × (line ≡ line_of l)
  line-back place line found = get-map-back line_of ls place line (subst (λ (xs : Lines). slice_get xs place ≡ Some line) (sym k.lines_are) found)

  pub stage-there : (place : ℕ) (l : Line) → slice_get ls place ≡ Some l → (s : Stage) × (slice_get stages place ≡ Some s)
  stage-there place l found = let w = get-within ls place l found in let m = (st).many in within-get stages place (omega (arith, w, m))

  pub place-within : (place : ℕ) (l : Line) → slice_get ls place ≡ Some l → place < length stages
  place-within place l found = let s = stage-there place l found in get-within stages place s.0 s.1

  abbrev holds : IsLaneValue v
  holds = segment-holds feeders lines first v seg

  -- ---- its turn

  module _ (place : ℕ) (l : Line) (found : slice_get ls place ≡ Some l) where
    abbrev f : ℕ
    f = feeder_at feeders l

    -- those with smaller numbers stand before it
    earlier : (i : ℕ) (m : Line) → slice_get ls i ≡ Some m → m.number < l.number → i < place
    earlier i m got less = elim (order i place) [
      | inl before ↦ before
      | inr rest ↦ elim rest [
        | inl same ↦ (let one : m ≡ l = get-one ls place m l (subst (λ (j : ℕ). slice_get ls j ≡ Some m) same got) found in let n : m.number ≡ l.number = ap (λ (z : Line). z.number) one in absurd (omega (arith, n, less)))
        | inr after ↦ (let r = (k.are).rising place i l m found got after in absurd (omega (arith, r, less)))
      ]
    ]

    has-turn : (o : Option ℕ) → IsLast feeders ls place f o → came stages o ≡ true → HasTurn feeders lines (line_of l) v.journal
    has-turn None last c other among same less =
        let b = line-back among.0 other among.1 in
        let less' : (b.0).number < l.number = subst (λ (z : FeedLine). z.number < l.number) b.2 less in
        absurd (last among.0 b.0 (omega arith) (earlier among.0 b.0 b.1 less') b.1 (ap (feeder_of feeders) (sym b.2) ∙ same))
    has-turn (Some at) last c other among same less =
        let b = line-back among.0 other among.1 in
        let less' : (b.0).number < l.number = subst (λ (z : FeedLine). z.number < l.number) b.2 less in
        let before = earlier among.0 b.0 b.1 less' in
        let one = last.1 in
        let x = answered-is (slice_get stages at) c in
        let said : outcome_in (one.0).number v.journal ≡ Some x.0 = (st).each at one.0 (Answered x.0) one.1 x.1 in
        subst (λ (z : FeedLine). IsSome (outcome_in z.number v.journal)) (sym b.2) (elim (order among.0 at) [
          | inl less'' ↦ (st).turns at one.0 (Answered x.0) one.1 x.1 tt (line_of b.0) (subst (IsAmong lines) b.2 among) (ap (feeder_of feeders) (sym b.2) ∙ (same ∙ sym one.2)) ((k.are).rising among.0 at b.0 one.0 b.1 one.1 less'')
          | inr rest ↦ elim rest [
            | inl here ↦ (let m : b.0 ≡ one.0 = get-one ls at b.0 one.0 (subst (λ (j : ℕ). slice_get ls j ≡ Some b.0) here b.1) one.1 in
                subst (λ (z : Line). IsSome (outcome_in z.number v.journal)) (sym m) (subst IsSome (sym said) refl))
            | inr after ↦ absurd (last.2 among.0 b.0 (omega (arith, after)) before b.1 (ap (feeder_of feeders) (sym b.2) ∙ same))
          ]
        ])

    pub is-next : may_begin (Some l) (slice_get stages place) stages ≡ true → IsNext feeders lines (line_of l) v.journal
    is-next h =
        let t = both (is_waiting (slice_get stages place)) (came stages l.before) h in
        record {
          among = (place, line-found place l found);
          fresh = (st).each place l Waiting found (waiting-is (slice_get stages place) t.0);
          turn = has-turn l.before ((k.are).before place l found) t.1;
        }

    -- one whose turn it is has seen the one before it answered
    turn-came : (o : Option ℕ) → IsLast feeders ls place f o → came stages o ≡ false → HasTurn feeders lines (line_of l) v.journal → ⊥
    turn-came None last c turn = clash c
    turn-came (Some at) last c turn =
        let one = last.1 in
        let some = turn (line_of one.0) (at, line-found at one.0 one.1) one.2 ((k.are).rising at place one.0 l one.1 found last.0) in
        let s = stage-there at one.0 one.1 in
        by_stage one.0 s.0 ((st).each at one.0 s.0 one.1 s.1) (sym (ap is_answered s.1) ∙ c) some
      where
        no-outcome : (n : ℕ) → outcome_in n v.journal ≡ None → IsSome (outcome_in n v.journal) → ⊥
        no-outcome n none some = clash (sym (subst IsSome none some))

        by_stage : (m : Line) (s : Stage) → StageIs v m.number s → is_answered (Some s) ≡ false → IsSome (outcome_in m.number v.journal) → ⊥
        by_stage m Waiting h c some = no-outcome m.number (fresh_none m.number v.journal h) some
        by_stage m Going h c some = no-outcome m.number (under-way-none v holds m.number h.0 h.1 h.2) some
        by_stage m Ending h c some = no-outcome m.number (under-way-none v holds m.number h.0 h.1 h.2) some
        by_stage m (Answered x) h c some = clash c

    not-next-here : may_begin (Some l) (slice_get stages place) stages ≡ false → IsNext feeders lines (line_of l) v.journal → ⊥
    not-next-here c next =
        let s = stage-there place l found in
        by_stage s.0 ((st).each place l s.0 found s.1) (sym (ap (λ (o : Option Stage). may_begin (Some l) o stages) s.1) ∙ c)
      where
        by_stage : (s : Stage) → StageIs v l.number s → may_begin (Some l) (Some s) stages ≡ false → ⊥
        by_stage Waiting h c = turn-came l.before ((k.are).before place l found) c next.turn
        by_stage Going h c = under-way-known v holds l.number h.0 h.1 h.2 next.fresh
        by_stage Ending h c = under-way-known v holds l.number h.0 h.1 h.2 next.fresh
        by_stage (Answered x) h c = nothing-some x (sym (fresh_none l.number v.journal next.fresh) ∙ h)

    -- ---- whether its operation wants to go on, or to be closed

    one-place : (h : MayAdvance l.number v.under_way) (g : MayClose l.number v.under_way) → ⊥
    one-place h g =
        let apart = (keeps feeders lines first (seg).holds (seg).idle v (seg).calls).lines_apart in
        let here : h.0 ≡ g.0 = apart h.0 g.0 h.1 g.1 (h.2).found (g.2).found ((h.2).line_is ∙ sym (g.2).line_is) in
        let one : h.1 ≡ g.1 = get-one v.under_way g.0 h.1 g.1 (subst (λ (i : ℕ). slice_get v.under_way i ≡ Some h.1) here (h.2).found) (g.2).found in
        not-both (g.1).progress (subst (λ (u : UnderWay). WantsMore u.progress) one h.3) g.3
      where
        not-both : (p : Progress) → WantsMore p → WantsEnd p → ⊥
        not-both progress.Begun a b = b
        not-both progress.Runs a b = b
        not-both (progress.Over x) a b = a
        not-both progress.Short a b = a

    not-going-here : is_going (slice_get stages place) ≡ false → MayAdvance l.number v.under_way → ⊥
    not-going-here c may =
        let s = stage-there place l found in
        by_stage s.0 ((st).each place l s.0 found s.1) (sym (ap is_going s.1) ∙ c)
      where
        by_stage : (s : Stage) → StageIs v l.number s → is_going (Some s) ≡ false → ⊥
        by_stage Waiting h c = under-way-known v holds l.number may.0 may.1 may.2 h
        by_stage Going h c = clash c
        by_stage Ending h c = one-place may h
        by_stage (Answered x) h c = nothing-some x (sym (under-way-none v holds l.number may.0 may.1 may.2) ∙ h)

    not-ending-here : is_ending (slice_get stages place) ≡ false → MayClose l.number v.under_way → ⊥
    not-ending-here c may =
        let s = stage-there place l found in
        by_stage s.0 ((st).each place l s.0 found s.1) (sym (ap is_ending s.1) ∙ c)
      where
        by_stage : (s : Stage) → StageIs v l.number s → is_ending (Some s) ≡ false → ⊥
        by_stage Waiting h c = under-way-known v holds l.number may.0 may.1 may.2 h
        by_stage Going h c = one-place h may
        by_stage Ending h c = clash c
        by_stage (Answered x) h c = nothing-some x (sym (under-way-none v holds l.number may.0 may.1 may.2) ∙ h)

  -- ---- where the test says no

  pub not-next : (place : ℕ) → may_begin (slice_get ls place) (slice_get stages place) stages ≡ false → (line : FeedLine) → slice_get lines place ≡ Some line → IsNext feeders lines line v.journal → ⊥
  not-next place c line found next =
      let b = line-back place line found in
      not-next-here place b.0 b.1 (sym (ap (λ (o : Option Line). may_begin o (slice_get stages place) stages) b.1) ∙ c) (subst (λ (z : FeedLine). IsNext feeders lines z v.journal) b.2 next)

  pub not-going : (place : ℕ) → is_going (slice_get stages place) ≡ false → (line : FeedLine) → slice_get lines place ≡ Some line → MayAdvance line.number v.under_way → ⊥
  not-going place c line found may =
      let b = line-back place line found in
      not-going-here place b.0 b.1 c (subst (λ (z : FeedLine). MayAdvance z.number v.under_way) b.2 may)

  pub not-ending : (place : ℕ) → is_ending (slice_get stages place) ≡ false → (line : FeedLine) → slice_get lines place ≡ Some line → MayClose line.number v.under_way → ⊥
  not-ending place c line found may =
      let b = line-back place line found in
      not-ending-here place b.0 b.1 c (subst (λ (z : FeedLine). MayClose z.number v.under_way) b.2 may)

  -- the line with a stage at its place
  pub line-there : (place : ℕ) (s : Stage) → slice_get stages place ≡ Some s → (l : Line) × (slice_get ls place ≡ Some l)
  line-there place s at = let w = get-within stages place s at in let m = (st).many in within-get ls place (omega (arith, w, m))

  -- ---- the calls

  line-within : (place : ℕ) (o : Option Line) → slice_get ls place ≡ o → may_begin o (slice_get stages place) stages ≡ true → place < length ls
  line-within place None is h = clash (sym h)
  line-within place (Some l) is h = get-within ls place l is

  pub begin-within : (place : ℕ) → may_begin (slice_get ls place) (slice_get stages place) stages ≡ true → place < length ls
  begin-within place h = line-within place (slice_get ls place) refl h

  pub stage-within : (place : ℕ) (s : Stage) → slice_get stages place ≡ Some s → place < length ls
  stage-within place s at = let w = get-within stages place s at in let m = (st).many in omega (arith, w, m)

  -- the line at a place, as it is read there
  pub to-begin : (place : ℕ) (l : Line) → may_begin (slice_get ls place) (slice_get stages place) stages ≡ true → l ≡ slice_index_or ls place l → slice_get ls place ≡ Some l
  to-begin place l h is = get-index ls place l (begin-within place h) is

  pub with-stage : (place : ℕ) (l : Line) (s : Stage) → slice_get stages place ≡ Some s → l ≡ slice_index_or ls place l → slice_get ls place ≡ Some l
  with-stage place l s at is = get-index ls place l (stage-within place s at) is

  pub next-at : (place : ℕ) (l : Line) (found : slice_get ls place ≡ Some l) → may_begin (slice_get ls place) (slice_get stages place) stages ≡ true → IsNext feeders lines (line_of l) v.journal
  next-at place l found h = is-next place l found (sym (ap (λ (o : Option Line). may_begin o (slice_get stages place) stages) found) ∙ h)

  pub begin-left : (place : ℕ) → may_begin (slice_get ls place) (slice_get stages place) stages ≡ false → BeginsAt feeders lines place v v turn.Left
  begin-left place h = inr (record { none = not-next place h; same = refl; left = refl })

  pub advance-left : (place : ℕ) → is_going (slice_get stages place) ≡ false → AdvancesAt lines place v v turn.Left
  advance-left place h = inr (record { none = not-going place h; same = refl; left = refl })

  pub close-left : (place : ℕ) → is_ending (slice_get stages place) ≡ false → ClosesAt lines place v v turn.Left
  close-left place h = inr (record { none = not-ending place h; same = refl; left = refl })

  module _ (place : ℕ) (l : Line) (found : slice_get ls place ≡ Some l) (w : LaneValue) (now : IsLaneValue w) where
    kept : (after : List Stage) → IsRunSoFar feeders lines first w ls after → IsKept feeders lines first w ls after
    kept after s = record { lines_are = k.lines_are; are = k.are; of_lane = k.of_lane; served = s }

    pub begun-kept : may_begin (slice_get ls place) (slice_get stages place) stages ≡ true → (answer : Begin) → BeginsAs (line_of l) l.via v w answer → (after : List Stage) → after ≡ stages_begun place answer stages → IsKept feeders lines first w ls after
    begun-kept h answer b after is = kept after (subst (λ (ss : List Stage). IsRunSoFar feeders lines first w ls ss) (sym is)
        (begun-served feeders lines first v ls stages k.are k.served place l w answer found (next-at place l found h) b now))

    pub begun-at : may_begin (slice_get ls place) (slice_get stages place) stages ≡ true → (answer : Begin) → BeginsAs (line_of l) l.via v w answer → (t : Turn) → t ≡ turn_of_begin answer → BeginsAt feeders lines place v w t
    begun-at h answer b t is = inl (record { line = line_of l; found = line-found place l found; next = next-at place l found h; answer = answer; begins = b; turn_is = is })

    pub gone-kept : slice_get stages place ≡ Some Going → (answer : Advance) → IsAdvance l.number v w answer → (after : List Stage) → after ≡ stages_gone place answer stages → IsKept feeders lines first w ls after
    gone-kept going answer a after is = kept after (subst (λ (ss : List Stage). IsRunSoFar feeders lines first w ls ss) (sym is) (gone-served feeders lines first v ls stages k.are k.served place l w answer found going a now))

    pub gone-at : (answer : Advance) → IsAdvance l.number v w answer → (t : Turn) → t ≡ turn_of_advance answer → AdvancesAt lines place v w t
    gone-at answer a t is = inl (record { line = line_of l; found = line-found place l found; answer = answer; advances = a; turn_is = is })

    pub closed-kept : slice_get stages place ≡ Some Ending → (x : Outcome) → Closes l.number x v w → (after : List Stage) → after ≡ slice_set stages place (Answered x) → IsKept feeders lines first w ls after
    closed-kept ending x c after is = kept after (subst (λ (ss : List Stage). IsRunSoFar feeders lines first w ls ss) (sym is) (closed-served feeders lines first v ls stages k.are k.served place l w x found ending c now))

    pub closed-at : (x : Outcome) → Closes l.number x v w → ClosesAt lines place v w turn.Over
    closed-at x c = inl (record { line = line_of l; found = line-found place l found; outcome = x; closes = c; over = refl })

-- ---- before any line began

pub first-kept : (feeders : ℕ) (lines : Lines) (first v : LaneValue) (ls : List Line) (stages : List Stage) → v ≡ first → IsLaneValue v → v.under_way ≡ [] → lines_of ls ≡ lines → AreLines feeders ls → AreOfLane v lines → AreFresh v lines → AreWaiting ls stages
    → IsKept feeders lines first v ls stages
first-kept feeders lines first v ls stages same holds idle lines_are are of_lane fresh waiting = record {
  lines_are = lines_are;
  are = are;
  of_lane = subst (λ (z : LaneValue). AreOfLane z lines) same of_lane;
  served = record {
    segment = subst (λ (z : LaneValue). IsSegment feeders lines z v) same (record { holds = holds; idle = idle; calls = Here });
    stages_are = record {
      many = waiting.many;
      each = λ at l s found at_s. subst (StageIs v l.number) (sym (waiting.each at s at_s)) (fresh at (line_of l) (subst (λ (xs : Lines). slice_get xs at ≡ Some (line_of l)) lines_are (get-map line_of ls at l found)));
      turns = λ at l s found at_s started. absurd (subst HasStarted (waiting.each at s at_s) started);
    };
  };
}
