-- The lanes of a session as a segment ran in them.
use Rattle.std.proofs.Common.{◌≡◌, ◌<◌, ◌&&◌, ℕ, zero, suc, Bool, true, false, List, [], ◌∷◌, ◌++◌, Option, None, Some, IsSome, option_and_then, refl, sym, ap, ap₂, ◌∙◌, subst, arith, length, map, append_assoc, append-nil, slice_get, reverse}
use Rattle.std.specs.List.{list_all}
use Rattle.std.proofs.lemmas.List.{length-map, map-append, reverse-append}
use Rattle.messages.specs.declared.outcome.Outcome.{Outcome}
use Rattle.doc_types.specs.SchemaCodes.{Types}
use Rattle.lane_calls.specs.LaneValues.{LaneValue, IsLaneValue}
use Rattle.lane_calls.specs.Lines.{FeedLine, Lines}
use Rattle.lane_calls.specs.Readings.{outcome_in}
use Rattle.lane_calls.specs.Segments.{IsAmong, IsSegment, Here}
use Rattle.lane_calls.proofs.Calling.{segment-kept}
use Rattle.lane_core.proofs.Places.{get-one, get-within, within-get, get-map, get-map-back}
use Rattle.lane_locks.specs.declared.lines.Stage.{Stage}
use Rattle.lane_locks.specs.declared.lines.Stage.TheVariants.{Waiting, Going, Ending, Answered}
use Rattle.lane_locks.specs.Lines.{Listed, line_of}
use Rattle.lane_locks.specs.Served.{StageIs}
use Rattle.lane_locks.specs.Slots.{IsKept}
use Rattle.lane_locks.specs.Lanes.{EachAt}
use Rattle.lane_locks.specs.Runs.{MayRun, RunsOn}
use Rattle.lane_locks.specs.declared.lanes.FedLane.{FedLane}
use Rattle.lane_locks.specs.declared.lanes.ReadyLane.{ReadyLane}
use Rattle.shelves.specs.Plain.{Plain}
use Rattle.view_changes.specs.Opening.{opening}
use Rattle.view_changes.specs.Views.{View}
use Rattle.session_cluster.specs.Cells.{Cell, ShownCell, ShownLane, own_lane, lanes_in, shelves_in, journals_of}
use Rattle.session_cluster.specs.Lanes.{journal_in}
use Rattle.session_cluster.specs.Steps.{EachLane, AreOpened, first_view, unheard}
use Rattle.session_cluster.proofs.LaneLists.{journal_at}
use Rattle.session_cluster.proofs.ShelvedLanes.{lane_get}
use Rattle.session_segments.specs.Lanes.{MayAllRun, HasRun, HaveAllRun}
use Rattle.session_segments.specs.Sorted.{outcome_of, has_outcome, are_answered, outcome_at, all_answered, lines_in, lines_at, HaveRun}

-- ---- lists that are put together and taken apart

-- one more stands behind the others
pub put_more : {X A : Type 0} (f : X → A) (done now : List X) (x : X) (left rest all : List A) (a : A) → map f done ++ left ≡ all → left ≡ a ∷ rest → now ≡ done ++ x ∷ [] → f x ≡ a → map f now ++ rest ≡ all
put_more f done now x left rest all a so split is same =
    ap (λ (xs : List _). map f xs ++ rest) is ∙ ap (λ (got : List _). got ++ rest) (map-append f done (x ∷ [])) ∙ append_assoc (map f done) (f x ∷ []) rest
    ∙ ap (λ (b : _). map f done ++ b ∷ rest) same ∙ (ap (λ (got : List _). map f done ++ got) (sym split) ∙ so)

-- the last of a list is the first of it turned round
pub turned_last : {A : Type 0} (all rest : List A) (a : A) → all ≡ rest ++ a ∷ [] → reverse all ≡ a ∷ reverse rest
turned_last all rest a is = ap reverse is ∙ reverse-append rest (a ∷ [])

-- one more is taken from the others
pub taken_more : {X A : Type 0} (f : X → A) (done now : List A) (a : A) (left rest : List X) (all : List A) (x : X) → done ++ map f left ≡ all → left ≡ x ∷ rest → now ≡ done ++ a ∷ [] → a ≡ f x → now ++ map f rest ≡ all
taken_more f done now a left rest all x so split is same =
    ap (λ (got : List _). got ++ map f rest) is ∙ append_assoc done (a ∷ []) (map f rest) ∙ ap (λ (b : _). done ++ b ∷ map f rest) same ∙ (ap (λ (xs : List _). done ++ map f xs) (sym split) ∙ so)

pub nothing_left : {X : Type 0} (l : List X) → length l ≡ 0 → l ≡ []
nothing_left [] h = refl
nothing_left (x ∷ xs) h = absurd (omega (arith, h))

-- all of them are put together, or taken
pub all_put : {A : Type 0} (done left all : List A) → done ++ left ≡ all → left ≡ [] → done ≡ all
all_put done left all so none = sym (append-nil done) ∙ (ap (λ (xs : List _). done ++ xs) (sym none) ∙ so)

head-is : {X : Type 0} (a b : X) (xs ys : List X) → ◌≡◌ {A = List X} (a ∷ xs) (b ∷ ys) → a ≡ b
head-is a b xs ys e = cc

tail-is : {X : Type 0} (a b : X) (xs ys : List X) → ◌≡◌ {A = List X} (a ∷ xs) (b ∷ ys) → xs ≡ ys
tail-is a b xs ys e = cc

some-is : {X : Type 0} {a b : X} → Some a ≡ Some b → a ≡ b
some-is e = cc

-- what each shelf showed at first
first-seen : (xs : List ShownLane) (k : ℕ) (s : ShownLane) → map first_view (shelves_in xs) ≡ map unheard (lanes_in xs) → slice_get xs k ≡ Some s → first_view s.shelf ≡ unheard s.lane
first-seen [] zero s is at = cc at
first-seen [] (suc k) s is at = cc at
first-seen (x ∷ xs) zero s is at = subst (λ (t : ShownLane). first_view t.shelf ≡ unheard t.lane) (some-is at) (head-is _ _ _ _ is)
first-seen (x ∷ xs) (suc k) s is at = first-seen xs k s (tail-is _ _ _ _ is) at

-- ---- one lane

stage-outcome : (v : LaneValue) (n : ℕ) (s : Stage) (x : Outcome) → StageIs v n s → outcome_of s ≡ Some x → outcome_in n v.journal ≡ Some x
stage-outcome v n Waiting x is h = cc h
stage-outcome v n Going x is h = cc h
stage-outcome v n Ending x is h = cc h
stage-outcome v n (Answered y) x is h = is ∙ h

-- what was kept of it, and what its shelf shows
pub has_run : (feeders : ℕ) (lines : Lines) (old new : ShownLane) (ls : List _) (stages : List Stage) → IsKept feeders lines old.lane new.lane ls stages → (new.lane).under_way ≡ [] → (new.shelf).opening ≡ (old.shelf).opening → HasRun feeders lines old new stages
has_run feeders lines old new ls stages k idle opens = record {
  segment = (k.served).segment;
  idle = idle;
  opening = opens;
  many = ((k.served).stages_are).many ∙ (sym (length-map ls line_of) ∙ ap length k.lines_are);
  told = λ at line s x found there is.
      let back = get-map-back line_of ls at line (subst (λ (xs : Lines). slice_get xs at ≡ Some line) (sym k.lines_are) found) in
      subst (λ (y : FeedLine). outcome_in y.number (new.lane).journal ≡ Some x) (sym back.2)
      (stage-outcome new.lane (back.0).number s x (((k.served).stages_are).each at back.0 s back.1 there) is);
}

-- ---- all lanes

and-left : (a b : Bool) → (a && b) ≡ true → a ≡ true
and-left true b h = refl
and-left false b h = cc h

and-right : (a b : Bool) → (a && b) ≡ true → b ≡ true
and-right true b h = h
and-right false b h = cc h

all-there : {A : Type 0} (p : A → Bool) (xs : List A) (k : ℕ) (x : A) → list_all p xs ≡ true → slice_get xs k ≡ Some x → p x ≡ true
all-there p [] zero x all h = cc h
all-there p [] (suc k) x all h = cc h
all-there p (y ∷ xs) zero x all h = subst (λ z. p z ≡ true) (some-is h) (and-left (p y) (list_all p xs) all)
all-there p (y ∷ xs) (suc k) x all h = all-there p xs k x (and-right (p y) (list_all p xs) all) h

answered-outcome : (s : Stage) → has_outcome s ≡ true → (x : Outcome) × (outcome_of s ≡ Some x)
answered-outcome Waiting h = absurd (let e : false ≡ true = h in cc)
answered-outcome Going h = absurd (let e : false ≡ true = h in cc)
answered-outcome Ending h = absurd (let e : false ≡ true = h in cc)
answered-outcome (Answered x) h = (x, refl)

none-among : (place : ℕ) (line : FeedLine) → slice_get [] place ≡ Some line → ⊥
none-among zero line h = cc h
none-among (suc place) line h = cc h

-- what is found of what may be there
then-some : {A B : Type 0} (o : Option A) (f : A → Option B) (b : B) → option_and_then f o ≡ Some b → (a : A) × (o ≡ Some a) × (f a ≡ Some b)
then-some None f b h = absurd (clash h)
  where
    clash : None ≡ Some b → ⊥
    clash e = cc
then-some (Some a) f b h = (a, refl, h)

module _ (feeders : ℕ) (lists : List Listed) (old new : Cell) (olds news : List ShownLane) (stages : List (List Stage)) (before : lanes_in olds ≡ old.lanes) (now : new ≡ record old { lanes = lanes_in news }) (listed : length lists ≡ length old.lanes) (ran : HaveAllRun feeders olds lists news stages) where
  after : new.lanes ≡ lanes_in news
  after = ap (λ (c : Cell). c.lanes) now

  many-old : length old.lanes ≡ length olds
  many-old = ap length (sym before) ∙ length-map olds own_lane

  many-new : length new.lanes ≡ length news
  many-new = ap length after ∙ length-map news own_lane

  -- all that is there of a lane whose list is there
  record IsLaneOf (lane : ℕ) (list : Listed) : Type 0 where
    own : ShownLane
    next : ShownLane
    of_lane : List Stage
    own_there : slice_get olds lane ≡ Some own
    next_there : slice_get news lane ≡ Some next
    stages_there : slice_get stages lane ≡ Some of_lane
    run : HasRun feeders list.lines own next of_lane

  lane-of : (lane : ℕ) (list : Listed) → slice_get lists lane ≡ Some list → IsLaneOf lane list
  lane-of lane list there =
      let within : lane < length lists = get-within lists lane list there in
      let o = within-get olds lane (omega (arith, within, listed, many-old)) in
      let n = within-get news lane (omega (arith, within, listed, many-old, ran.count)) in
      let st = within-get stages lane (omega (arith, within, listed, many-old, ran.many)) in
      record { own = o.0; next = n.0; of_lane = st.0; own_there = o.1; next_there = n.1; stages_there = st.1; run = ran.each lane o.0 n.0 list st.0 o.1 n.1 there st.1 }

  each-lane : (lane : ℕ) (v w : LaneValue) → slice_get old.lanes lane ≡ Some v → slice_get new.lanes lane ≡ Some w → IsSegment feeders (lines_at lists lane) v w × (w.under_way ≡ [])
  each-lane lane v w was at =
      let within : lane < length old.lanes = get-within old.lanes lane v was in
      let l = within-get lists lane (omega (arith, within, listed)) in
      let x = lane-of lane l.0 l.1 in
      let first : x.own.lane ≡ v = get-one old.lanes lane _ _ (subst (λ (vs : List LaneValue). slice_get vs lane ≡ Some x.own.lane) before (lane_get olds lane x.own x.own_there)) was in
      let last : x.next.lane ≡ w = get-one new.lanes lane _ _ (subst (λ (vs : List LaneValue). slice_get vs lane ≡ Some x.next.lane) (sym after) (lane_get news lane x.next x.next_there)) at in
      let segment : IsSegment feeders (l.0).lines v w = subst (λ (a : LaneValue). IsSegment feeders (l.0).lines a w) first (subst (λ (b : LaneValue). IsSegment feeders (l.0).lines x.own.lane b) last (x.run).segment) in (
        subst (λ (o : Option Listed). IsSegment feeders (lines_in o) v w) (sym l.1) segment,
        subst (λ (b : LaneValue). b.under_way ≡ []) last (x.run).idle,
      )

  journal-of : (lane : ℕ) (n : ShownLane) → slice_get news lane ≡ Some n → journal_in lane (journals_of new) ≡ (n.lane).journal
  journal-of lane n there = journal_at new.lanes lane n.lane (subst (λ (vs : List LaneValue). slice_get vs lane ≡ Some n.lane) (sym after) (lane_get news lane n there))

  told-of : (o : Option Listed) (lane place : ℕ) (line : FeedLine) (x : Outcome) → slice_get lists lane ≡ o → slice_get (lines_in o) place ≡ Some line → outcome_at stages lane place ≡ Some x → outcome_in line.number (journal_in lane (journals_of new)) ≡ Some x
  told-of None lane place line x is found told = absurd (none-among place line found)
  told-of (Some list) lane place line x is found told =
      let l = lane-of lane list is in
      let st = then-some (slice_get stages lane) (λ of_lane. option_and_then outcome_of (slice_get of_lane place)) x told in
      let same : st.0 ≡ l.of_lane = get-one stages lane _ _ st.1 l.stages_there in
      let s = then-some (slice_get l.of_lane place) outcome_of x (subst (λ (of_lane : List Stage). option_and_then outcome_of (slice_get of_lane place) ≡ Some x) same st.2) in
      ap (outcome_in line.number) (journal-of lane l.next l.next_there) ∙ (l.run).told place line s.0 x found s.1 s.2

  answered-of : (o : Option Listed) → all_answered stages ≡ true → (lane : ℕ) (w : LaneValue) (line : FeedLine) → slice_get lists lane ≡ o → slice_get new.lanes lane ≡ Some w → IsAmong (lines_in o) line → IsSome (outcome_in line.number w.journal)
  answered-of None all lane w line is at among = absurd (none-among among.0 line among.1)
  answered-of (Some list) all lane w line is at among =
      let l = lane-of lane list is in
      let place = get-within list.lines among.0 line among.1 in
      let s = within-get l.of_lane among.0 (omega (arith, place, (l.run).many)) in
      let has : has_outcome s.0 ≡ true = all-there has_outcome l.of_lane among.0 s.0 (all-there are_answered stages lane l.of_lane all l.stages_there) s.1 in
      let x = answered-outcome s.0 has in
      let last : l.next.lane ≡ w = get-one new.lanes lane _ _ (subst (λ (vs : List LaneValue). slice_get vs lane ≡ Some l.next.lane) (sym after) (lane_get news lane l.next l.next_there)) at in
      subst (λ (b : LaneValue). IsSome (outcome_in line.number b.journal)) last (subst IsSome (sym ((l.run).told among.0 line s.0 x.0 among.1 s.1 x.1)) refl)

  pub have_run : HaveRun feeders lists old new stages
  have_run = record {
    count = omega (arith, many-old, many-new, ran.count);
    each = each-lane;
    told = λ lane place line x found told. told-of (slice_get lists lane) lane place line x refl found told;
    answered = λ all lane w line at among. answered-of (slice_get lists lane) all lane w line refl at among;
    now = now ∙ ap (λ (vs : List LaneValue). record old { lanes = vs }) (sym after);
  }

  -- the shelves showed at first what they did
  opened-each : map first_view (shelves_in olds) ≡ map unheard (lanes_in olds) → EachLane (λ (n : ShownLane). first_view n.shelf ≡ unheard n.lane) news
  opened-each was lane n there =
      let within : lane < length news = get-within news lane n there in
      let l = within-get lists lane (omega (arith, within, listed, many-old, ran.count)) in
      let x = lane-of lane l.0 l.1 in
      let same : x.next ≡ n = get-one news lane _ _ x.next_there there in
      let types = (segment-kept feeders (l.0).lines x.own.lane x.next.lane (x.run).segment).0 in
      subst (λ (m : ShownLane). first_view m.shelf ≡ unheard m.lane) same
      ((x.run).opening ∙ (first-seen olds lane x.own was x.own_there ∙ ap (λ (t : Types). opening t) (sym types)))

  pub still_opened : AreOpened (lanes_in olds) (shelves_in olds) → AreOpened (lanes_in news) (shelves_in news)
  still_opened was = all-opened news (opened-each was)
    where
      all-opened : (xs : List ShownLane) → EachLane (λ (n : ShownLane). first_view n.shelf ≡ unheard n.lane) xs → map first_view (shelves_in xs) ≡ map unheard (lanes_in xs)
      all-opened [] all = refl
      all-opened (x ∷ xs) all = ap₂ (λ (a : View) (got : List View). a ∷ got) (all zero x refl) (all-opened xs (λ k y at. all (suc k) y at))

-- what a segment made of lanes that were ready, each taken apart
pub all_run : {A C D : Type 0} (feeders : ℕ) (readys : List (ReadyLane A Plain C D)) (feds : List (FedLane A Plain C D)) → length feds ≡ length readys → RunsOn feeders readys feds
    → HaveAllRun feeders (map (λ (r : ReadyLane A Plain C D). r.lane) readys) (map (λ (r : ReadyLane A Plain C D). r.list) readys) (map (λ (f : FedLane A Plain C D). f.lane) feds) (map (λ (f : FedLane A Plain C D). (f.stages).items) feds)
all_run {A} {C} {D} feeders readys feds count ran = record {
  count = length-map feds (λ (f : FedLane A Plain C D). f.lane) ∙ (count ∙ sym (length-map readys (λ (r : ReadyLane A Plain C D). r.lane)));
  many = length-map feds (λ (f : FedLane A Plain C D). (f.stages).items) ∙ (count ∙ sym (length-map readys (λ (r : ReadyLane A Plain C D). r.lane)));
  each = λ lane old new list of_lane was now listed there.
      let r = get-map-back (λ (x : ReadyLane A Plain C D). x.lane) readys lane old was in
      let q = get-map-back (λ (x : ReadyLane A Plain C D). x.list) readys lane list listed in
      let f = get-map-back (λ (x : FedLane A Plain C D). x.lane) feds lane new now in
      let g = get-map-back (λ (x : FedLane A Plain C D). (x.stages).items) feds lane of_lane there in
      let lists : (r.0).list ≡ list = ap (λ (x : ReadyLane A Plain C D). x.list) (get-one readys lane r.0 q.0 r.1 q.1) ∙ sym q.2 in
      let stages : ((f.0).stages).items ≡ of_lane = ap (λ (x : FedLane A Plain C D). (x.stages).items) (get-one feds lane f.0 g.0 f.1 g.1) ∙ sym g.2 in
      let run = ran lane r.0 f.0 r.1 f.1 in
      let kept : HasRun feeders ((r.0).list).lines (r.0).lane (f.0).lane ((f.0).stages).items = has_run feeders ((r.0).list).lines (r.0).lane (f.0).lane ((f.0).lines).items ((f.0).stages).items run.kept run.idle run.opening in
      subst (λ (xs : List Stage). HasRun feeders list.lines old new xs) stages
      (subst (λ (l : Listed). HasRun feeders l.lines old new ((f.0).stages).items) lists
      (subst (λ (x : ShownLane). HasRun feeders ((r.0).list).lines x new ((f.0).stages).items) (sym r.2)
      (subst (λ (x : ShownLane). HasRun feeders ((r.0).list).lines (r.0).lane x ((f.0).stages).items) (sym f.2) kept)));
}

pub all_run_to : {A C D : Type 0} (feeders : ℕ) (readys : List (ReadyLane A Plain C D)) (feds : List (FedLane A Plain C D)) (lanes : List ShownLane) (stages : List (List Stage)) → length feds ≡ length readys → RunsOn feeders readys feds
    → lanes ≡ map (λ (f : FedLane A Plain C D). f.lane) feds → stages ≡ map (λ (f : FedLane A Plain C D). (f.stages).items) feds
    → HaveAllRun feeders (map (λ (r : ReadyLane A Plain C D). r.lane) readys) (map (λ (r : ReadyLane A Plain C D). r.list) readys) lanes stages
all_run_to {A} {C} {D} feeders readys feds lanes stages count ran of_lane of_stages =
    subst (λ (xs : List ShownLane). HaveAllRun feeders (map (λ (r : ReadyLane A Plain C D). r.lane) readys) (map (λ (r : ReadyLane A Plain C D). r.list) readys) xs stages) (sym of_lane)
    (subst (λ (xs : List (List Stage)). HaveAllRun feeders (map (λ (r : ReadyLane A Plain C D). r.lane) readys) (map (λ (r : ReadyLane A Plain C D). r.list) readys) (map (λ (f : FedLane A Plain C D). f.lane) feds) xs) (sym of_stages)
    (all_run feeders readys feds count ran))

pub run_from : {A C D : Type 0} (feeders : ℕ) (readys : List (ReadyLane A Plain C D)) (olds news : List ShownLane) (lists : List Listed) (stages : List (List Stage)) → map (λ (r : ReadyLane A Plain C D). r.lane) readys ≡ olds → map (λ (r : ReadyLane A Plain C D). r.list) readys ≡ lists
    → HaveAllRun feeders (map (λ (r : ReadyLane A Plain C D). r.lane) readys) (map (λ (r : ReadyLane A Plain C D). r.list) readys) news stages → HaveAllRun feeders olds lists news stages
run_from {A} {C} {D} feeders readys olds news lists stages of_lane of_list ran =
    subst (λ (xs : List ShownLane). HaveAllRun feeders xs lists news stages) of_lane
    (subst (λ (xs : List Listed). HaveAllRun feeders (map (λ (r : ReadyLane A Plain C D). r.lane) readys) xs news stages) of_list ran)

-- lanes that are ready may run
pub may_each : {A C D : Type 0} (feeders : ℕ) (readys : List (ReadyLane A Plain C D)) (lanes : List ShownLane) (lists : List Listed) (c : Cell) → map (λ (r : ReadyLane A Plain C D). r.lane) readys ≡ lanes → map (λ (r : ReadyLane A Plain C D). r.list) readys ≡ lists
    → lanes_in lanes ≡ c.lanes → MayAllRun feeders c.lanes lists → EachAt (λ _ (r : ReadyLane A Plain C D). MayRun feeders (r.lane).lane r.list) readys
may_each {A} {C} {D} feeders readys lanes lists c of_lane of_list are may place r at =
    may place (r.lane).lane r.list
    (subst (λ (vs : List LaneValue). slice_get vs place ≡ Some (r.lane).lane) are (lane_get lanes place r.lane (subst (λ (xs : List ShownLane). slice_get xs place ≡ Some r.lane) of_lane (get-map (λ (x : ReadyLane A Plain C D). x.lane) readys place r at))))
    (subst (λ (xs : List Listed). slice_get xs place ≡ Some r.list) of_list (get-map (λ (x : ReadyLane A Plain C D). x.list) readys place r at))

-- as many as there are lanes
pub ready_many : {A C D : Type 0} (readys : List (ReadyLane A Plain C D)) (lanes : List ShownLane) (c : Cell) → map (λ (r : ReadyLane A Plain C D). r.lane) readys ≡ lanes → lanes_in lanes ≡ c.lanes → length readys ≡ length c.lanes
ready_many {A} {C} {D} readys lanes c of_lane are = sym (length-map readys (λ (r : ReadyLane A Plain C D). r.lane)) ∙ (ap length of_lane ∙ (sym (length-map lanes own_lane) ∙ ap length are))

-- ---- out of a session, and back

pub taken_many : (xs : List ShownLane) (vs : List LaneValue) → lanes_in xs ≡ vs → length xs ≡ length vs
taken_many xs vs are = sym (length-map xs own_lane) ∙ ap length are

abbrev emptied : ShownCell → ShownCell
emptied s = record s { cell = record s.cell { lanes = [] }; shelves = [] }

abbrev filled : ShownCell → List ShownLane → ShownCell
filled s xs = record s { cell = record s.cell { lanes = lanes_in xs }; shelves = shelves_in xs }

pub put_back : (old out new : ShownCell) (xs : List ShownLane) → out ≡ emptied old → new ≡ filled out xs → new ≡ filled old xs
put_back old out new xs gone back = back ∙ ap (λ (s : ShownCell). filled s xs) gone

-- the same lanes
pub put_same : (old new : ShownCell) (xs : List ShownLane) → new ≡ filled old xs → lanes_in xs ≡ old.cell.lanes → new.cell ≡ old.cell
put_same old new xs back are = ap (λ (s : ShownCell). s.cell) back ∙ ap (λ (vs : List LaneValue). record old.cell { lanes = vs }) are

pub put_opened : (old new : ShownCell) (xs : List ShownLane) → new ≡ filled old xs → AreOpened (lanes_in xs) (shelves_in xs) → AreOpened new.cell.lanes new.shelves
put_opened old new xs back opened = subst (λ (s : ShownCell). AreOpened s.cell.lanes s.shelves) (sym back) opened

pub taken_opened : (old : ShownCell) (xs : List ShownLane) → lanes_in xs ≡ old.cell.lanes → shelves_in xs ≡ old.shelves → AreOpened old.cell.lanes old.shelves → AreOpened (lanes_in xs) (shelves_in xs)
taken_opened old xs lanes shelves opened = ap (map first_view) shelves ∙ (opened ∙ ap (map unheard) (sym lanes))

-- ---- where nothing is run

pub may_idle : (feeders : ℕ) (vs : List LaneValue) (lists : List Listed) → MayAllRun feeders vs lists → length lists ≡ length vs → (lane : ℕ) (v : LaneValue) → slice_get vs lane ≡ Some v → v.under_way ≡ []
may_idle feeders vs lists may many lane v at =
    let within : lane < length vs = get-within vs lane v at in
    let l = within-get lists lane (omega (arith, within, many)) in
    (may lane v l.0 at l.1).idle

pub none_ran : (feeders : ℕ) (lists : List Listed) (c : Cell) → ((lane : ℕ) → lines_at lists lane ≡ []) → EachLane IsLaneValue c.lanes → ((lane : ℕ) (v : LaneValue) → slice_get c.lanes lane ≡ Some v → v.under_way ≡ []) → HaveRun feeders lists c c []
none_ran feeders lists c none holds idle = record {
  count = refl;
  each = λ lane v w was at.
      let same : v ≡ w = get-one c.lanes lane v w was at in (
        subst (λ (b : LaneValue). IsSegment feeders (lines_at lists lane) v b) same (record { holds = holds lane v was; idle = idle lane v was; calls = Here }),
        idle lane w at,
      );
  told = λ lane place line x found told. absurd (none-among place line (subst (λ (ls : Lines). slice_get ls place ≡ Some line) (none lane) found));
  answered = λ all lane w line at among. absurd (none-among among.0 line (subst (λ (ls : Lines). slice_get ls among.0 ≡ Some line) (none lane) among.1));
  now = refl;
}
