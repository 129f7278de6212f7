-- One line more keeps what was said of upkeep.
use Rattle.std.proofs.Common.{◌≡◌, ◌≢◌, ◌⊎◌, ◌<◌, ◌≤◌, ◌+◌, ℕ, zero, suc, List, [], ◌∷◌, ◌++◌, Option, None, Some, option_and_then, inl, inr, refl, sym, ap, ◌∙◌, subst, arith, length, length-append, append_assoc, append-nil, map, set, take, slice_get}
use Rattle.std.specs.Option.{IsSome}
use Rattle.std.proofs.lemmas.Bool.{cases_eq, false≢true}
use Rattle.std.proofs.Math.Seq.{take-length}
use Rattle.std.proofs.lemmas.List.{take-append-le}
use Rattle.std.proofs.lemmas.Option.{slice_get_within}
use Rattle.bucket_ids.specs.Buckets.{Low}
use Rattle.carriers.specs.declared.fate.Fate.{Fate}
use Rattle.cluster_states.specs.Publishing.{publish_fault}
use Rattle.cluster_states.specs.declared.cluster_state.ClusterState.{ClusterState}
use Rattle.cluster_states.specs.declared.states.PublishFault.{PublishFault}
use Rattle.lane_journals.specs.declared.event.LaneEvent.{LaneEvent}
use Rattle.distributor_part.specs.declared.rules.Rules.{Rules}
use Rattle.lane_keeping.specs.LaneKeeping.{setting_of}
use Rattle.lane_rest.specs.Rest.{IsAtRest}
use Rattle.lane_calls.specs.LaneValues.{LaneValue}
use Rattle.lane_calls.specs.Segments.{GaveOn}
use Rattle.lane_calls.specs.Upkept.{IsLaneAtRest, IsMaintained}
use Rattle.lane_lives.specs.declared.setting.Setting.{Setting}
use Rattle.lane_lives.specs.Lives.{Deed, Announces, Stops, Starts, Maintains, IsLife}
use Rattle.lane_lives.specs.Serving.{bucket_in}
use Rattle.lane_carriage.specs.Carriage.{IsCarried}
use Rattle.upkeep_spans.specs.Causes.{IsCause}
use Rattle.lane_lives.specs.Upkeep.{WasCalm, SpanStands}
use Rattle.lane_lives.specs.declared.spans.UpkeepSpan.{UpkeepSpan}
use Rattle.lane_promises.proofs.Before.{Grown, grown_deed, grown_line}
use Rattle.lane_calls.proofs.Upkept.{pass_made}
use Rattle.session_cluster.specs.Cells.{Cell}
use Rattle.session_cluster.specs.Deeds.{deeds_of_lane}
use Rattle.session_cluster.specs.Keeping.{HaveDone, IsKept}
use Rattle.session_cluster.specs.Lanes.{lane_of_id}
use Rattle.session_cluster.specs.Spans.{spans_of, span_in}
use Rattle.session_cluster.specs.Steps.{with_room, after_state, after_stop, after_start, IsStateTold, MayHavePassed, MayHaveAllPassed, HasSpans, IsSpanNoted, IsAfter}
use Rattle.cell_session.specs.Operations.{deeds_before}
use Rattle.cell_session.specs.Upkeep.{HasStood, WasCut, AsksAt, AreUpkept}
use Rattle.session_cluster.specs.declared.asked.Asked.{Asked}
use Rattle.session_cluster.specs.declared.asked.Asked.TheVariants as command
use Rattle.cell_session.specs.declared.status.Status.{Status}
use Rattle.cell_session.specs.declared.status.Status.TheVariants as status
use Rattle.session_cluster.proofs.DeedLists.{deeds_same}
use Rattle.session_cluster.proofs.Elements.{element_set, element_map}
use Rattle.session_cluster.proofs.SessionSteps.{lane_was, passed_legal, noted_after, leaves_spans}
use Rattle.session_cluster.proofs.SpanLists.{spans_own}

-- ---- each lane's journal grew

grown_itself : (J : List LaneEvent) → Grown J J
grown_itself J = ([], refl)

gave_none : (given : List Fate) → GaveOn given given
gave_none given = ([], sym (append-nil given))

-- a lane's journal grew, and its carrier gave further fates
pub record Grew (w v : LaneValue) : Type 0 where
  pub journal : Grown w.journal v.journal
  pub fates : GaveOn w.given v.given

grew_itself : (v : LaneValue) → Grew v v
grew_itself v = record { journal = grown_itself v.journal; fates = gave_none v.given }

-- a lane that was there, from which this one grew
abbrev pub GrewFrom : List LaneValue → ℕ → LaneValue → Type 0
GrewFrom vs lane w = (v : LaneValue) × ((slice_get vs lane ≡ Some v) × Grew w v)

grew_same : (vs ws : List LaneValue) (lane : ℕ) (w : LaneValue) → ws ≡ vs → slice_get ws lane ≡ Some w → GrewFrom vs lane w
grew_same vs ws lane w same at = (w, (subst (λ us. slice_get us lane ≡ Some w) same at, grew_itself w))

grew_each : (f : LaneValue → LaneValue) → ((v : LaneValue) → Grew (f v) v) → (vs ws : List LaneValue) (lane : ℕ) (w : LaneValue) → ws ≡ map f vs → slice_get ws lane ≡ Some w → GrewFrom vs lane w
grew_each f grows vs ws lane w now at =
    let found = element_map f vs lane w (subst (λ us. slice_get us lane ≡ Some w) now at) in
    (found.0, (found.1.0, subst (λ (x : LaneValue). Grew x found.0) (sym found.1.1) (grows found.0)))

grew_one : (vs ws : List LaneValue) (place lane : ℕ) (x y w : LaneValue) → ws ≡ set vs place y → slice_get vs place ≡ Some x → Grew y x → slice_get ws lane ≡ Some w → GrewFrom vs lane w
grew_one vs ws place lane x y w now there grows at = elim (element_set vs place lane y w (subst (λ us. slice_get us lane ≡ Some w) now at)) [
  | inl here ↦ (x, (subst (λ n. slice_get vs n ≡ Some x) here.0 there, subst (λ (z : LaneValue). Grew z x) here.1 grows))
  | inr other ↦ (w, (other.1, grew_itself w))
]

grew_passed : (s : Setting) (v w : LaneValue) → MayHavePassed v w → Grew w v
grew_passed s v w (inl same) = subst (λ (x : LaneValue). Grew x v) (sym same) (grew_itself v)
grew_passed s v w (inr m) = record {
  journal = grown_deed w.journal s v.lane (Maintains None) v.journal w.journal (inr (pass_made v w m.0)) (grown_itself w.journal);
  fates = ((m.0).fates, (m.0).gives);
}

grew_all : (s : Setting) (vs ws : List LaneValue) (lane : ℕ) (w : LaneValue) → MayHaveAllPassed vs ws → slice_get ws lane ≡ Some w → GrewFrom vs lane w
grew_all s vs ws lane w d at =
    let was = lane_was vs ws lane w d.count at in
    (was.0, (was.1, grew_passed s was.0 w (d.each lane was.0 w was.1 at)))

grew_told : (s : Setting) (o : Option PublishFault) (state : ClusterState) (deaf : ℕ) (old new : Cell) (k : ℕ) → IsStateTold k o state deaf old new → (lane : ℕ) (w : LaneValue) → slice_get new.lanes lane ≡ Some w → GrewFrom old.lanes lane w
grew_told s None state deaf old new k d lane w =
    grew_each (after_state state deaf) (λ v. record { journal = grown_deed _ s v.lane (Announces state deaf) v.journal (after_state state deaf v).journal refl (grown_itself _); fates = gave_none v.given }) old.lanes new.lanes lane w (ap (λ (x : Cell). x.lanes) d.now)
grew_told s (Some why) state deaf old new k d lane w = grew_each with_room (λ v. record { journal = grown_itself v.journal; fates = gave_none v.given }) old.lanes new.lanes lane w (ap (λ (x : Cell). x.lanes) d)

pub grew_after : (s : Setting) (c : Asked) (old new : Cell) (k : ℕ) → IsAfter s k c old new → (lane : ℕ) (w : LaneValue) → slice_get new.lanes lane ≡ Some w → GrewFrom old.lanes lane w
grew_after s command.Blank old new k now lane w = grew_same old.lanes new.lanes lane w (ap (λ (x : Cell). x.lanes) now)
grew_after s command.TooLong old new k now lane w = grew_same old.lanes new.lanes lane w (ap (λ (x : Cell). x.lanes) now)
grew_after s command.Barrier old new k now lane w = grew_same old.lanes new.lanes lane w (ap (λ (x : Cell). x.lanes) now)
grew_after s (command.Bad why) old new k now lane w = grew_same old.lanes new.lanes lane w (ap (λ (x : Cell). x.lanes) now)
grew_after s (command.Feed op via) old new k now lane w =
    let d = now.1 in
    grew_one old.lanes new.lanes (lane_of_id s.bits op.id) lane d.before d.after w (ap (λ (x : Cell). x.lanes) d.now) d.there
    (record { journal = grown_line (d.after).journal (d.before).lane (d.before).rules (record { number = k; operation = op; via = via }) via (d.before).journal (d.after).journal (d.ran).done (grown_itself _); fates = (d.ran).gives })
grew_after s (command.State state deaf) old new k now lane w = grew_told s (publish_fault old.told state) state deaf old new k now lane w
grew_after s (command.BadState offset) old new k now lane w = grew_same old.lanes new.lanes lane w (ap (λ (x : Cell). x.lanes) now)
grew_after s (command.Stop node) old new k now lane w =
    grew_each (after_stop node) (λ v. record { journal = grown_deed _ s v.lane (Stops node) v.journal (after_stop node v).journal refl (grown_itself _); fates = gave_none v.given }) old.lanes new.lanes lane w (ap (λ (x : Cell). x.lanes) now.now)
grew_after s (command.Start node) old new k now lane w =
    grew_each (after_start node) (λ v. record { journal = grown_deed _ s v.lane (Starts node) v.journal (after_start node v).journal refl (grown_itself _); fates = gave_none v.given }) old.lanes new.lanes lane w (ap (λ (x : Cell). x.lanes) now.now)
grew_after s (command.Net at fates) old new k now lane w =
    grew_one old.lanes new.lanes at lane now.before _ w (ap (λ (x : Cell). x.lanes) now.now) now.there (record { journal = grown_itself _; fates = gave_none _ })
grew_after s command.Maintain old new k now lane w = grew_all s old.lanes new.lanes lane w now.lanes
grew_after s (command.Search query) old new k now lane w = grew_same old.lanes new.lanes lane w (ap (λ (x : Cell). x.lanes) now)
grew_after s (command.BadQuery offset) old new k now lane w = grew_same old.lanes new.lanes lane w (ap (λ (x : Cell). x.lanes) now)

-- ---- a span stands on

stands_on : (s : Setting) (lane : Low) (deeds : List Deed) (given now : List Fate) (J K : List LaneEvent) (span : UpkeepSpan) → SpanStands s lane deeds given J span → GaveOn now given → Grown K J → SpanStands s lane deeds now K span
stands_on s lane deeds given now J K span h more g = record {
  before = h.before;
  after = h.after;
  behind = h.behind;
  pass = h.pass;
  from = h.from;
  to = h.to;
  later = g.0 ++ h.later;
  whole = g.1 ∙ ap (λ L. g.0 ++ L) h.whole ∙ sym (append_assoc g.0 h.later h.after);
  earlier = h.earlier;
  fates = h.fates;
  others = h.others ++ more.0;
  all_given = more.1 ∙ ap (λ l. l ++ more.0) h.all_given ∙ append_assoc (h.earlier ++ h.fates) h.others more.0;
  carried_before = h.carried_before;
  carried = h.carried;
  cause = h.cause;
  rests = h.rests;
  run = h.run;
  at_rest = h.at_rest;
}

-- a lane at rest, by the session's words
rest_in : (b : Low) (r : Rules) (w : LaneValue) → w.lane ≡ b → w.rules ≡ r → IsLaneAtRest w → IsAtRest (setting_of b r) r.searchable r.split_at w.journal
rest_in b r w lane rules h =
    subst (λ (x : Rules). IsAtRest (setting_of b x) x.searchable x.split_at w.journal) rules
    (subst (λ (l : Low). IsAtRest (setting_of l w.rules) (w.rules).searchable (w.rules).split_at w.journal) lane h)

-- it ends within the journal
stands_within : (s : Setting) (lane : Low) (deeds : List Deed) (given : List Fate) (J : List LaneEvent) (span : UpkeepSpan) → SpanStands s lane deeds given J span → span.to ≤ length J
stands_within s lane deeds given J span h = omega (arith, h.to, ap length h.whole, length-append h.later h.after)

pub some_is : {A : Type 0} {x y : A} → Some x ≡ Some y → x ≡ y
some_is e = cc

pub none_some : {A : Type 0} (o : Option A) (x : A) → o ≡ None → o ≡ Some x → ⊥
none_some o x a b = cc

-- what stands in a list with one item more
pub pushed : (cs : List Asked) (c : Asked) (k : ℕ) (x : Asked) → slice_get (cs ++ c ∷ []) k ≡ Some x → (slice_get cs k ≡ Some x) ⊎ ((k ≡ length cs) × (c ≡ x))
pushed [] c zero x h = inr (refl, some_is h)
pushed [] c (suc k) x h = cc
pushed (y ∷ cs) c zero x h = inl h
pushed (y ∷ cs) c (suc k) x h = elim (pushed cs c k x h) [
  | inl there ↦ inl there
  | inr last ↦ inr (ap suc last.0, last.1)
]

pub still : (cs : List Asked) (c : Asked) (k : ℕ) (x : Asked) → slice_get cs k ≡ Some x → slice_get (cs ++ c ∷ []) k ≡ Some x
still [] c zero x h = cc h
still [] c (suc k) x h = cc h
still (y ∷ cs) c zero x h = h
still (y ∷ cs) c (suc k) x h = still cs c k x h

pub last_there : (cs : List Asked) (c : Asked) → slice_get (cs ++ c ∷ []) (length cs) ≡ Some c
last_there [] c = refl
last_there (y ∷ cs) c = last_there cs c

pub take_low : (n : ℕ) (cs : List Asked) → length (take n cs) ≤ length cs
take_low zero cs = omega arith
take_low (suc n) [] = omega arith
take_low (suc n) (c ∷ cs) = let low = take_low n cs in omega (arith, low)

-- a lane's span is one of its line's
spans_there : (lane : ℕ) (o : Option (List UpkeepSpan)) (a : UpkeepSpan) → option_and_then (λ spans. slice_get spans lane) o ≡ Some a → (spans : List UpkeepSpan) × ((o ≡ Some spans) × (slice_get spans lane ≡ Some a))
spans_there lane None a h = cc h
spans_there lane (Some spans) a h = (spans, (refl, h))

-- ---- what was done before a line stays

-- the deeds before each of so many lines are the same
abbrev pub AreAsBefore : ℕ → (ℕ → ℕ → List Deed) → (ℕ → ℕ → List Deed) → Type 0
AreAsBefore count b d = (at lane : ℕ) → at < count → d at lane ≡ b at lane

-- of lines that stand one behind the other, with one more
pub before_stays : (s : Setting) (cs : List Asked) (c : Asked) (old new : Cell) (k : ℕ) → k ≡ length cs + 1 → IsAfter s k c old new → AreAsBefore (length cs) (deeds_before s cs old) (deeds_before s (cs ++ c ∷ []) new)
before_stays s cs c old new k is after at lane low =
    let few = take_low at cs in
    ap (deeds_of_lane s new.upkeeps lane) (take-append-le at cs (c ∷ []) (omega (arith, low)))
    ∙ deeds_same s old.upkeeps new.upkeeps k lane (take at cs) (omega (arith, few, is)) (leaves_spans s c old new k after)

pub before_own : (s : Setting) (cs : List Asked) (c : Asked) (old new : Cell) (k : ℕ) → k ≡ length cs + 1 → IsAfter s k c old new → (lane : ℕ) → deeds_before s (cs ++ c ∷ []) new (length cs) lane ≡ deeds_of_lane s old.upkeeps lane cs
before_own s cs c old new k is after lane =
    ap (deeds_of_lane s new.upkeeps lane) (take-append-le (length cs) cs (c ∷ []) (omega arith) ∙ take-length cs)
    ∙ deeds_same s old.upkeeps new.upkeeps k lane cs (omega (arith, is)) (leaves_spans s c old new k after)

-- each lane of a cell grew
abbrev pub AllGrew : Cell → Cell → Type 0
AllGrew old new = (lane : ℕ) (w : LaneValue) → slice_get new.lanes lane ≡ Some w → GrewFrom old.lanes lane w

-- a line's spans stand on where the lanes grew
pub stood_on : (s : Setting) (old new : Cell) → AllGrew old new → (line : ℕ) → spans_of line new.upkeeps ≡ spans_of line old.upkeeps → (b d : ℕ → List Deed) → ((lane : ℕ) → d lane ≡ b lane) → HasStood s b line old → HasStood s d line new
stood_on s old new grew line same b d deeds h = record {
  spans = h.spans;
  are = same ∙ h.are;
  count = h.count;
  stand = λ lane w span at there.
      let g = grew lane w at in
      subst (λ ds. SpanStands s (bucket_in s lane) ds w.given w.journal span) (sym (deeds lane))
      (stands_on s (bucket_in s lane) (b lane) (g.0).given w.given (g.0).journal w.journal span (h.stand lane g.0 span g.1.0 there) (g.1.1).fates (g.1.1).journal);
}

-- ---- one line more

module _ (s : Setting) (plans : ℕ → List Fate) (cs : List Asked) (deeds : ℕ → List Deed) (c : Asked) (old new : Cell) (k : ℕ) (kept : HaveDone s plans cs deeds old) (is : k ≡ length cs + 1) (after : IsAfter s k c old new)
    (b d : ℕ → ℕ → List Deed) (stays : AreAsBefore (length cs) b d) (own_deeds : (lane : ℕ) → d (length cs) lane ≡ deeds lane) where
  same_as : (line : ℕ) → k ≢ line → spans_of line new.upkeeps ≡ spans_of line old.upkeeps
  same_as = leaves_spans s c old new k after

  -- ---- the line's own

  own_none : spans_of k old.upkeeps ≡ None
  own_none = kept.unkept k (omega (arith, is, kept.dealt))

  module _ (passed : MayHaveAllPassed old.lanes new.lanes) (h : HasSpans k old new) where
    own_are : spans_of k new.upkeeps ≡ Some h.spans
    own_are = ap (spans_of k) h.noted ∙ spans_own k old.upkeeps (record { line = k; spans = h.spans }) refl own_none

    stood : HasStood s (d (length cs)) k new
    stood = record {
      spans = h.spans;
      are = own_are;
      count = (h.are).count ∙ kept.lanes;
      stand = λ lane w span at there.
          let was = lane_was old.lanes new.lanes lane w passed.count at in
          let v = was.0 in
          let serving = kept.serving lane v was.1 in
          let made = ((h.are).each lane v w span was.1 at there).spans in
          let legal = passed_legal v w (passed.each lane v w was.1 at) serving.holds in
          record {
            before = v.journal;
            after = w.journal;
            behind = subst (λ ds. IsLife s (bucket_in s lane) ds v.journal) (sym (own_deeds lane)) serving.life;
            pass = subst (λ (b : Low). IsMaintained b v.journal w.journal) serving.lane_is (pass_made v w made.pass);
            from = made.from;
            to = made.to;
            later = [];
            whole = refl;
            earlier = v.given;
            fates = (made.pass).fates;
            others = [];
            all_given = (made.pass).gives ∙ sym (append-nil (v.given ++ (made.pass).fates));
            carried_before = (serving.holds).carried;
            carried = subst (λ (g : List Fate). IsCarried g w.journal) (made.pass).gives (legal.1).carried;
            cause = subst (λ (g : List Fate). IsCause g span.from w.journal span.answer) (made.pass).gives made.cause;
            rests = λ calm. made.rests (subst (WasCalm v.journal w.journal v.given) (sym (made.pass).gives) calm);
            run = made.run;
            at_rest = λ rested. rest_in (bucket_in s lane) s.rules w (ap (λ (z : LaneValue). z.lane) (made.pass).after ∙ serving.lane_is) (ap (λ (z : LaneValue). z.rules) (made.pass).after ∙ serving.rules_are) (made.at_rest rested);
          };
    }

    -- it begins where the journals ended before
    begins : (lane : ℕ) (b : UpkeepSpan) → slice_get h.spans lane ≡ Some b → (v : LaneValue) × ((slice_get old.lanes lane ≡ Some v) × (b.from ≡ length v.journal))
    begins lane b there =
        let within : lane < length old.lanes = (let small = slice_get_within h.spans lane b there in omega (arith, small, (h.are).count)) in
        let v = in_list old.lanes lane within in
        let w = in_list new.lanes lane (omega (arith, within, passed.count)) in
        (v.0, (v.1, (((h.are).each lane v.0 w.0 b v.1 w.1 there).spans).from))
      where
        in_list : (vs : List LaneValue) (lane : ℕ) → lane < length vs → (v : LaneValue) × (slice_get vs lane ≡ Some v)
        in_list [] lane h = absurd (omega (arith, h))
        in_list (v ∷ vs) zero h = (v, refl)
        in_list (v ∷ vs) (suc lane) h = in_list vs lane (omega (arith, h))

  -- ---- all lines

  module _ (end : Status) (so : AreUpkept status.Done s b cs old) (last : c ≡ command.Maintain → HasSpans k old new ⊎ ((end ≡ status.NoMemory) × (new.upkeeps ≡ old.upkeeps))) where
    abbrev cs' : List Asked
    cs' = cs ++ c ∷ []

    passed : c ≡ command.Maintain → MayHaveAllPassed old.lanes new.lanes
    passed own = (subst (λ (x : Asked). IsAfter s k x old new) own after).lanes

    not_done : {A : Type 0} → status.Done ≡ status.NoMemory → A
    not_done e = cc e

    earlier_answered : (at : ℕ) → AsksAt at cs → HasStood s (b at) (suc at) old
    earlier_answered at asks = elim (so.answered at asks) [
      | inl stood ↦ stood
      | inr cut ↦ not_done cut.memory
    ]

    old_answered : (at : ℕ) → AsksAt at cs → HasStood s (d at) (suc at) new
    old_answered at asks =
        let within = slice_get_within cs at command.Maintain asks in
        stood_on s old new (grew_after s c old new k after) (suc at) (same_as (suc at) (λ e. absurd (omega (arith, e, is, within)))) (b at) (d at) (λ lane. stays at lane (omega (arith, within))) (earlier_answered at asks)

    own_answered : c ≡ command.Maintain → HasStood s (d (length cs)) (suc (length cs)) new ⊎ WasCut end cs' (suc (length cs)) new
    own_answered own = elim (last own) [
      | inl h ↦ inl (subst (λ n. HasStood s (d (length cs)) n new) (number is) (stood (passed own) h))
      | inr cut ↦ inr (record {
        memory = cut.0;
        last = omega (arith, length-append cs (c ∷ []));
        none = ap (λ us. spans_of (suc (length cs)) us) cut.1 ∙ subst (λ n. spans_of n old.upkeeps ≡ None) (number is) own_none;
      })
    ]
      where
        number : k ≡ length cs + 1 → k ≡ suc (length cs)
        number e = omega (arith, e)

    answered : (at : ℕ) → AsksAt at cs' → HasStood s (d at) (suc at) new ⊎ WasCut end cs' (suc at) new
    answered at asks = elim (pushed cs c at command.Maintain asks) [
      | inl before ↦ inl (old_answered at before)
      | inr here ↦ subst (λ n. HasStood s (d n) (suc n) new ⊎ WasCut end cs' (suc n) new) (sym here.0) (own_answered here.1)
    ]

    -- whose spans there are
    old_others : (line : ℕ) → IsSome (spans_of line old.upkeeps) → (at : ℕ) × ((line ≡ suc at) × AsksAt at cs')
    old_others line some = let was = so.others line some in (was.0, (was.1.0, still cs c was.0 command.Maintain was.1.1))

    own_asked : IsSome (spans_of k new.upkeeps) → c ≡ command.Maintain
    own_asked some = elim (noted_after s c old new k after) [
      | inl own ↦ own
      | inr same ↦ absurd (false≢true (subst IsSome (ap (spans_of k) same ∙ own_none) some))
    ]

    others : (line : ℕ) → IsSome (spans_of line new.upkeeps) → (at : ℕ) × ((line ≡ suc at) × AsksAt at cs')
    others line some = elim (cases_eq k line) [
      | inl here ↦ (length cs, (omega (arith, here, is), subst (λ (x : Asked). slice_get cs' (length cs) ≡ Some x) (own_asked (subst (λ n. IsSome (spans_of n new.upkeeps)) (sym here) some)) (last_there cs c)))
      | inr other ↦ old_others line (subst IsSome (same_as line other) some)
    ]

    -- ---- their order

    -- a span of an earlier line ends within the journal
    ends_within : (lane line : ℕ) (a : UpkeepSpan) (v : LaneValue) → span_in lane line old.upkeeps ≡ Some a → slice_get old.lanes lane ≡ Some v → a.to ≤ length v.journal
    ends_within lane line a v has there =
        let found = spans_there lane (spans_of line old.upkeeps) a has in
        let was = so.others line (subst IsSome (sym found.1.0) refl) in
        let stood = earlier_answered was.0 was.1.1 in
        let same : stood.spans ≡ found.0 = some_is (sym stood.are ∙ ap (λ n. spans_of n old.upkeeps) (sym was.1.0) ∙ found.1.0) in
        stands_within s (bucket_in s lane) (b was.0 lane) v.given v.journal a (stood.stand lane v a there (ap (λ ss. slice_get ss lane) same ∙ found.1.1))

    same_in : (lane line : ℕ) → k ≢ line → span_in lane line new.upkeeps ≡ span_in lane line old.upkeeps
    same_in lane line other = ap (λ o. option_and_then (λ spans. slice_get spans lane) o) (same_as line other)

    -- a line that is still to come has none
    none_later : (lane line : ℕ) (b : UpkeepSpan) → k < line → span_in lane line new.upkeeps ≡ Some b → ⊥
    none_later lane line b later has =
        none_some (span_in lane line old.upkeeps) b (ap (λ o. option_and_then (λ spans. slice_get spans lane) o) (kept.unkept line (omega (arith, later, is, kept.dealt))))
        (sym (same_in lane line (λ e. absurd (omega (arith, e, later)))) ∙ has)

    own_last : (lane earlier : ℕ) → earlier < k → (a b : UpkeepSpan) → span_in lane earlier new.upkeeps ≡ Some a → span_in lane k new.upkeeps ≡ Some b → a.to ≤ b.from
    own_last lane earlier early a b has there = by_last (last own)
      where
        found : (spans : List UpkeepSpan) × ((spans_of k new.upkeeps ≡ Some spans) × (slice_get spans lane ≡ Some b))
        found = spans_there lane (spans_of k new.upkeeps) b there

        own : c ≡ command.Maintain
        own = own_asked (subst IsSome (sym found.1.0) refl)

        by_last : HasSpans k old new ⊎ ((end ≡ status.NoMemory) × (new.upkeeps ≡ old.upkeeps)) → a.to ≤ b.from
        by_last (inl h) =
            let same : h.spans ≡ found.0 = some_is (sym (own_are (passed own) h) ∙ found.1.0) in
            let start = begins (passed own) h lane b (ap (λ ss. slice_get ss lane) same ∙ found.1.1) in
            let low = ends_within lane earlier a start.0 (sym (same_in lane earlier (λ e. absurd (omega (arith, e, early)))) ∙ has) start.1.0 in
            omega (arith, low, start.1.1)
        by_last (inr cut) = absurd (none_some (spans_of k new.upkeeps) found.0 (ap (spans_of k) cut.1 ∙ own_none) found.1.0)

    in_order : (lane earlier line : ℕ) → earlier < line → (a b : UpkeepSpan) → span_in lane earlier new.upkeeps ≡ Some a → span_in lane line new.upkeeps ≡ Some b → a.to ≤ b.from
    in_order lane earlier line early a b has there = elim (cases_eq k line) [
      | inl here ↦ own_last lane earlier (omega (arith, early, here)) a b has (subst (λ n. span_in lane n new.upkeeps ≡ Some b) (sym here) there)
      | inr other ↦ elim (cases_eq k earlier) [
        | inl first ↦ absurd (none_later lane line b (omega (arith, early, first)) there)
        | inr neither ↦ so.in_order lane earlier line early a b (sym (same_in lane earlier neither) ∙ has) (sym (same_in lane line other) ∙ there)
      ]
    ]

    pub upkept_behind : AreUpkept end s d cs' new
    upkept_behind = record { answered = answered; others = others; in_order = in_order }

-- of lines one after the other
pub upkept_more : (s : Setting) (plans : ℕ → List Fate) (cs : List Asked) (c : Asked) (old new : Cell) (k : ℕ) → IsKept s plans cs old → k ≡ length cs + 1 → IsAfter s k c old new → (end : Status) → AreUpkept status.Done s (deeds_before s cs old) cs old
    → (c ≡ command.Maintain → HasSpans k old new ⊎ ((end ≡ status.NoMemory) × (new.upkeeps ≡ old.upkeeps))) → AreUpkept end s (deeds_before s (cs ++ c ∷ []) new) (cs ++ c ∷ []) new
upkept_more s plans cs c old new k kept is after end so last =
    upkept_behind s plans cs (λ lane. deeds_of_lane s old.upkeeps lane cs) c old new k kept is after (deeds_before s cs old) (deeds_before s (cs ++ c ∷ []) new)
    (before_stays s cs c old new k is after) (before_own s cs c old new k is after) end so last

-- ---- lines that ask for no upkeep

-- what was said stays where no span came, and the lanes grew
pub upkept_on : (end : Status) (s : Setting) (old new : Cell) (cs ds : List Asked) → new.upkeeps ≡ old.upkeeps → AllGrew old new → (b d : ℕ → ℕ → List Deed) → AreAsBefore (length cs) b d
    → ((at : ℕ) → AsksAt at ds → AsksAt at cs) → ((at : ℕ) → AsksAt at cs → AsksAt at ds) → AreUpkept status.Done s b cs old → AreUpkept end s d ds new
upkept_on end s old new cs ds same grew b d stays none asks so = record {
  answered = λ at asked. inl (elim (so.answered at (none at asked)) [
    | inl h ↦
        let within = slice_get_within cs at command.Maintain (none at asked) in
        stood_on s old new grew (suc at) (ap (spans_of (suc at)) same) (b at) (d at) (λ lane. stays at lane within) h
    | inr cut ↦ not_done cut.memory
  ]);
  others = λ line some. let was = so.others line (subst (λ us. IsSome (spans_of line us)) same some) in (was.0, (was.1.0, asks was.0 was.1.1));
  in_order = λ lane earlier line early a c has there.
      so.in_order lane earlier line early a c (subst (λ us. span_in lane earlier us ≡ Some a) same has) (subst (λ us. span_in lane line us ≡ Some c) same there);
}
  where
    not_done : {A : Type 0} → status.Done ≡ status.NoMemory → A
    not_done e = cc e

-- ---- the last line

-- a line that was noted
pub noted_last : (s : Setting) (c : Asked) (old new : Cell) (k : ℕ) (end : Status) → IsSpanNoted k c old new → c ≡ command.Maintain → HasSpans k old new ⊎ ((end ≡ status.NoMemory) × (new.upkeeps ≡ old.upkeeps))
noted_last s c old new k end noted own = inl (subst (λ (x : Asked). IsSpanNoted k x old new) own noted)

-- or that want of memory cut
pub cut_last : (s : Setting) (c : Asked) (old new : Cell) (k : ℕ) → IsAfter s k c old new → c ≡ command.Maintain → HasSpans k old new ⊎ ((status.NoMemory ≡ status.NoMemory) × (new.upkeeps ≡ old.upkeeps))
cut_last s c old new k after own = by_spans (subst (λ (x : Asked). IsAfter s k x old new) own after).spans
  where
    by_spans : (new.upkeeps ≡ old.upkeeps) ⊎ HasSpans k old new → HasSpans k old new ⊎ ((status.NoMemory ≡ status.NoMemory) × (new.upkeeps ≡ old.upkeeps))
    by_spans (inl same) = inr (refl, same)
    by_spans (inr h) = inl h

-- ---- where no line was dealt with

no_asked : (at : ℕ) → AsksAt at [] → ⊥
no_asked zero h = cc h
no_asked (suc at) h = cc h

no_spans : (line : ℕ) (c : Cell) → c.upkeeps ≡ [] → spans_of line c.upkeeps ≡ None
no_spans line c none = ap (spans_of line) none

pub none_upkept : (end : Status) (s : Setting) (b : ℕ → ℕ → List Deed) (c : Cell) → c.upkeeps ≡ [] → AreUpkept end s b [] c
none_upkept end s b c none = record {
  answered = λ at asks. absurd (no_asked at asks);
  others = λ line some. absurd (false≢true (subst IsSome (no_spans line c none) some));
  in_order = λ lane earlier line early a b has there. absurd (none_some (span_in lane line c.upkeeps) b (ap (λ o. option_and_then (λ spans. slice_get spans lane) o) (no_spans line c none)) there);
}

-- ---- what stands at the end of a session stands whatever ends it

pub upkept_at : (end : Status) (s : Setting) (b : ℕ → ℕ → List Deed) (cs : List Asked) (c : Cell) → AreUpkept status.Done s b cs c → AreUpkept end s b cs c
upkept_at end s b cs c so = record {
  answered = λ at asks. elim (so.answered at asks) [
    | inl stood ↦ inl stood
    | inr cut ↦ absurd (not_done cut.memory)
  ];
  others = so.others;
  in_order = so.in_order;
}
  where
    not_done : status.Done ≡ status.NoMemory → ⊥
    not_done e = cc e

-- where room was made, all lanes grew
pub grew_roomier : (old new : Cell) → ((lane : ℕ) (w : LaneValue) → slice_get new.lanes lane ≡ Some w → (v : LaneValue) × ((slice_get old.lanes lane ≡ Some v) × (w.journal ≡ v.journal) × (w.given ≡ v.given))) → AllGrew old new
grew_roomier old new seen lane w at =
    let v = seen lane w at in (
      v.0,
      (
        v.1.0,
        record {
          journal = subst (λ J. Grown J (v.0).journal) (sym v.1.1) (grown_itself (v.0).journal);
          fates = subst (λ g. GaveOn g (v.0).given) (sym v.1.2) (gave_none (v.0).given);
        },
      ),
    )
