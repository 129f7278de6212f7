-- What each call of a segment adds to the lane's journal, and what is known of the operations under way.
use Rattle.std.proofs.Common.{◌≡◌, ◌≢◌, ◌==◌, ℕ, Bool, true, false, List, [], ◌∷◌, ◌++◌, Option, None, Some, IsSome, is_some, inl, inr, refl, sym, ap, ◌∙◌, subst, slice_get, slice_set, if◌then◌else◌}
use Rattle.std.specs.List.{remove}
use Rattle.std.proofs.lemmas.Bool.{eqb-true}
use Rattle.bucket_ids.specs.Buckets.{Low}
use Rattle.cluster_states.specs.declared.cluster_state.ClusterState.{ClusterState}
use Rattle.distributor_part.specs.declared.rules.Rules.{Rules}
use Rattle.ideal_nodes.specs.Placement.{IsOwner}
use Rattle.messages.specs.declared.operation.Operation.{Operation}
use Rattle.messages.specs.declared.outcome.Outcome.{Outcome}
use Rattle.lane_journals.specs.Buckets.{Id}
use Rattle.lane_journals.specs.Readers.{held, began, sent, returned}
use Rattle.lane_journals.specs.Meanings.{history}
use Rattle.lane_journals.specs.declared.event.LaneEvent.{LaneEvent}
use Rattle.lane_journals.specs.declared.event.LaneEvent.TheVariants as event
use Rattle.lane_keeping.specs.Lines.{IsFresh}
use Rattle.lane_keeping.specs.Tidings.{is_older, heard_next, last_state}
use Rattle.operation_keeping.specs.Others as others
use Rattle.operation_keeping.specs.Others.{AreOthers}
use Rattle.operation_keeping.specs.Wants.{IsCarriageSince, IsRunSince, Still, Longer, IsCutRunSince}
use Rattle.operation_keeping.proofs.OthersRuns.{run-others, cut-others}
use Rattle.lane_calls.specs.declared.answers.Begin.{Begin}
use Rattle.lane_calls.specs.declared.answers.Begin.TheVariants as begin
use Rattle.lane_calls.specs.declared.answers.Hear.{Hear}
use Rattle.lane_calls.specs.declared.answers.Hear.TheVariants as hear
use Rattle.lane_calls.specs.declared.progress.UnderWay.{UnderWay}
use Rattle.lane_calls.specs.declared.progress.Progress.{Progress}
use Rattle.lane_calls.specs.declared.progress.Progress.TheVariants as progress
use Rattle.lane_calls.specs.LaneValues.{LaneValue, IsLaneValue, OfNone, IsOfDocument, IsHearing, EndsAs, drawn, under_way_of}
use Rattle.lane_calls.specs.Lines.{FeedLine, Lines}
use Rattle.lane_calls.proofs.Quiet.{IsAdded, since_added}
use Rattle.lane_calls.specs.Segments.{IsAmong, IsNext, IsOfLines, BeginsAs, WentTo, GoesOn, IsCall, Hears, Starts, Continues, Ends, Stays, Calls, Here, Then, IsSegment}
use Rattle.lane_calls.specs.Courses as courses
use Rattle.lane_calls.specs.Courses.{GoesTo, IsBegun, NoneReturns, Course, GoesItsCourse}
use Rattle.lane_calls.specs.Growth as growth
use Rattle.lane_calls.specs.Growth.{Grows, Same, More}
use Rattle.lane_calls.proofs.Lists.{AtEach, each-none, each-push, each-set, each-remove, ApartBy, apart-none, apart-push, apart-set, apart-remove}
use Rattle.lane_calls.proofs.Growing.{grows-run, grows-cut, grows-heard, newest-heard, next-heard}

-- ---- operations under way

module _ (lines : Lines) (lane : Low) (rules : Rules) where
  -- it is that of a line, and came by its course to where it is
  pub record IsOwn (J : List LaneEvent) (u : UnderWay) : Type 0 where
    pub of_lines : IsOfLines lines u
    pub course : Course lane rules of_lines.line J u.progress

  -- all that came is of others than this line
  abbrev OthersOf : List LaneEvent → List LaneEvent → FeedLine → Type 0
  OthersOf J K line = AreOthers line.number line.operation.id J K × NoneReturns J K

  own-waits : (J K : List LaneEvent) (u : UnderWay) (o : IsOwn J u) → OthersOf J K (o.of_lines).line → IsOwn K u
  own-waits J K u o others = record { of_lines = o.of_lines; course = courses.Waits J K u.progress o.course others.0 others.1 }

  own-begun : (J : List LaneEvent) (e : LaneEvent) (line : FeedLine) → IsAmong lines line → (d left : ℕ) → IsBegun lane line J e → IsOwn (e ∷ J) (under_way_of line.number line.operation d progress.Begun left)
  own-begun J e line among d left begun = record { of_lines = record { line = line; among = among; number_is = refl; operation_is = refl }; course = courses.Starts J e begun }

-- what a distributor hears is of no line
heard-others : (line : FeedLine) (d : ℕ) (s : ClusterState) (J : List LaneEvent) → AreOthers line.number line.operation.id J (heard_next d (Some s) J) × NoneReturns J (heard_next d (Some s) J)
heard-others line d s J = by_test (is_older (held d (history J)) s.version)
  where
    by_test : (t : Bool) → AreOthers line.number line.operation.id J (if t then event.Heard d s.version ∷ J else J) × NoneReturns J (if t then event.Heard d s.version ∷ J else J)
    by_test true = (others.More _ J others.Same tt, λ number some. refl)
    by_test false = (others.Same, λ number some. refl)

-- nor does any reply come back in a call to what was sent before it
module _ (lane : Low) (rules : Rules) (n : ℕ) (o : Operation) (J : List LaneEvent) where
  carried-none : (number : ℕ) (e : LaneEvent) (L : List LaneEvent) → IsSome (sent number (history J)) → IsCarriageSince (history J) e → returned number (history (e ∷ L)) ≡ returned number (history L)
  carried-none number (event.Delivered k r) L some c = refl
  carried-none number (event.Returned k) L some c = by_test (k == number) refl
    where
      by_test : (t : Bool) → (k == number) ≡ t → (if t then true else returned number (history L)) ≡ returned number (history L)
      by_test false is = refl
      by_test true is =
          let same : k ≡ number = eqb-true k number is in
          let none : is_some (sent number (history J)) ≡ false = ap is_some (ap (λ (i : ℕ). sent i (history J)) (sym same) ∙ c) in
          let clash : true ≡ false = sym some ∙ none in absurd cc
  carried-none number _ L some c = absurd c

  added-none : (number : ℕ) (e : LaneEvent) (L : List LaneEvent) → IsAdded n e → returned number (history (e ∷ L)) ≡ returned number (history L)
  added-none number (event.Returned k) L h = absurd h
  added-none number _ L h = refl

  run-none : (K : List LaneEvent) → IsRunSince lane rules n o (history J) J K → NoneReturns J K
  run-none K Still = λ number some. refl
  run-none K (Longer e L run w) = λ number some. elim w [
    | inl c ↦ carried-none number e L some c ∙ run-none L run number some
    | inr x ↦ added-none number e L (since_added lane rules n o (history J) e L x) ∙ run-none L run number some
  ]

  cut-none : (K : List LaneEvent) → IsCutRunSince lane rules n o (history J) J K → NoneReturns J K
  cut-none K c = elim c.2 [
    | inl same ↦ subst (NoneReturns J) (sym same) (run-none c.0 c.1)
    | inr cut ↦ subst (NoneReturns J) (sym cut.ended) (run-none c.0 c.1)
  ]

-- ---- a segment so far

abbrev line_of : UnderWay → ℕ
line_of u = u.line

abbrev document_of : UnderWay → Id
document_of u = u.operation.id

-- what no call of a segment touches
record IsSame (v w : LaneValue) : Type 0 where
  lane_is : w.lane ≡ v.lane
  rules_are : w.rules ≡ v.rules
  types_are : w.types ≡ v.types
  planned_are : w.planned ≡ v.planned
  takes_are : w.takes_plans ≡ v.takes_plans

same-of : (v w x : LaneValue) → w ≡ x → x.lane ≡ v.lane → x.rules ≡ v.rules → x.types ≡ v.types → x.planned ≡ v.planned → x.takes_plans ≡ v.takes_plans → IsSame v w
same-of v w x is lane rules types planned takes = record {
  lane_is = ap (λ (y : LaneValue). y.lane) is ∙ lane;
  rules_are = ap (λ (y : LaneValue). y.rules) is ∙ rules;
  types_are = ap (λ (y : LaneValue). y.types) is ∙ types;
  planned_are = ap (λ (y : LaneValue). y.planned) is ∙ planned;
  takes_are = ap (λ (y : LaneValue). y.takes_plans) is ∙ takes;
}

module _ (feeders : ℕ) (lines : Lines) (first : LaneValue) where
  pub record Keeps (v : LaneValue) : Type 0 where
    pub lane_is : v.lane ≡ first.lane
    pub rules_are : v.rules ≡ first.rules
    pub types_are : v.types ≡ first.types
    pub planned_are : v.planned ≡ first.planned
    pub takes_are : v.takes_plans ≡ first.takes_plans
    pub holds : IsLaneValue v
    pub grew : Grows feeders lines first.lane first.rules first.journal v.journal
    pub own : AtEach (IsOwn lines first.lane first.rules v.journal) v.under_way
    pub lines_apart : ApartBy line_of v.under_way
    pub documents_apart : ApartBy document_of v.under_way

  abbrev By : List LaneEvent → Type 0
  By K = Grows feeders lines first.lane first.rules first.journal K

  abbrev Own : List LaneEvent → UnderWay → Type 0
  Own K = IsOwn lines first.lane first.rules K

  -- the same of what a call left
  record Left (K : List LaneEvent) (us : List UnderWay) : Type 0 where
    grew : By K
    own : AtEach (Own K) us
    lines_apart : ApartBy line_of us
    documents_apart : ApartBy document_of us

  module _ (v : LaneValue) (k : Keeps v) where
    keeps-with : (K : List LaneEvent) (us : List UnderWay) (w : LaneValue) → IsLaneValue w → Left K us → IsSame v w → w.journal ≡ K → w.under_way ≡ us → Keeps w
    keeps-with K us w holds l same journal under = record {
      lane_is = same.lane_is ∙ k.lane_is;
      rules_are = same.rules_are ∙ k.rules_are;
      types_are = same.types_are ∙ k.types_are;
      planned_are = same.planned_are ∙ k.planned_are;
      takes_are = same.takes_are ∙ k.takes_are;
      holds = holds;
      grew = subst By (sym journal) l.grew;
      own = subst (λ (J : List LaneEvent). AtEach (Own J) w.under_way) (sym journal) (subst (AtEach (Own K)) (sym under) l.own);
      lines_apart = subst (ApartBy line_of) (sym under) l.lines_apart;
      documents_apart = subst (ApartBy document_of) (sym under) l.documents_apart;
    }

    -- nothing that is under way is fresh
    not-fresh : (n at : ℕ) (u : UnderWay) → IsFresh (history v.journal) n → slice_get v.under_way at ≡ Some u → u.line ≡ n → ⊥
    not-fresh n at u fresh found same =
        let begun : IsSome (began n (history v.journal)) = subst (λ (l : ℕ). IsSome (began l (history v.journal))) same (((k.holds).lines).unclosed at u found).0 in
        let none : is_some (began n (history v.journal)) ≡ false = ap is_some fresh.unbegun in
        let clash : true ≡ false = sym begun ∙ none in cc

    -- ---- a line is to begin

    -- all under way go on, and this one with them
    more-begun : (line : FeedLine) (d : ℕ) (J : List LaneEvent) (e : LaneEvent) → By (e ∷ J) → IsBegun first.lane line J e → IsNext feeders lines line v.journal → OfNone (IsOfDocument line.operation.id) v.under_way
        → ((at : ℕ) (u : UnderWay) → slice_get v.under_way at ≡ Some u → (o : Own v.journal u) → OthersOf lines first.lane first.rules v.journal (e ∷ J) (o.of_lines).line)
        → Left (e ∷ J) (v.under_way ++ under_way_of line.number line.operation d progress.Begun 65 ∷ [])
    more-begun line d J e grew begun next free others = record {
      grew = grew;
      own = each-push (Own (e ∷ J)) v.under_way (under_way_of line.number line.operation d progress.Begun 65)
          (λ at u found. own-waits lines first.lane first.rules v.journal (e ∷ J) u (k.own at u found) (others at u found (k.own at u found)))
          (own-begun lines first.lane first.rules J e line next.among d 65 begun);
      lines_apart = apart-push line_of v.under_way (under_way_of line.number line.operation d progress.Begun 65) k.lines_apart (λ at u found same. not-fresh line.number at u next.fresh found same);
      documents_apart = apart-push document_of v.under_way (under_way_of line.number line.operation d progress.Begun 65) k.documents_apart (λ at u found same. free at u found same);
    }

    -- another line than one under way
    off-next : (line : FeedLine) → IsNext feeders lines line v.journal → (at : ℕ) (u : UnderWay) → slice_get v.under_way at ≡ Some u → (o : Own v.journal u) → line.number ≢ (o.of_lines).line.number
    off-next line next at u found o = λ same. not-fresh line.number at u next.fresh found ((o.of_lines).number_is ∙ sym same)

    begun-at : (line : FeedLine) (via : Option ℕ) → line.via ≡ via → IsNext feeders lines line v.journal → (answer : Begin) (w : LaneValue) → IsLaneValue w → BeginsAs line via v w answer → Keeps w
    begun-at line None named next begin.Begun w now b =
        let heard = heard_next b.owner (Some b.state) v.journal in
        let owns : IsOwner first.lane b.state b.owner = subst (λ (l : Low). IsOwner l b.state b.owner) k.lane_is (b.acting).owner in
        let grew : By heard = grows-heard feeders lines first.lane first.rules b.owner b.state first.journal v.journal b.newest owns k.grew in
        let holds : held b.owner (history heard) ≡ Some (b.state).version = subst (λ (J : List LaneEvent). held b.owner (history J) ≡ Some (b.state).version) b.heard_is (b.acting).holds in
        let e = event.Begun line.number b.owner (b.state).version line.operation.id (drawn line.operation.kind (b.state).version heard) in
        let begun : IsBegun first.lane line heard e = record {
          distributor = b.owner;
          state = b.state;
          goes = subst (λ (o : Option ℕ). GoesTo o b.owner b.state heard) (sym named) (newest-heard feeders lines first.lane first.rules b.owner b.state v.journal b.newest);
          holds = holds;
          owns = owns;
          event = refl;
        } in
        keeps-with (e ∷ heard) (v.under_way ++ under_way_of line.number line.operation b.owner progress.Begun 65 ∷ []) w now
        (more-begun line b.owner heard e (More e heard grew (growth.Begins line (next-heard feeders lines first.lane first.rules line b.owner b.state v.journal next) begun)) begun next b.free
        (λ at u found o. let p = heard-others (o.of_lines).line b.owner b.state v.journal in (others.More e heard p.0 (off-next line next at u found o), p.1)))
        (same-of v w _ b.after refl refl refl refl refl)
        (ap (λ (x : LaneValue). x.journal) b.after ∙ ap (λ (J : List LaneEvent). event.Begun line.number b.owner (b.state).version line.operation.id (drawn line.operation.kind (b.state).version J) ∷ J) b.heard_is)
        (ap (λ (x : LaneValue). x.under_way) b.after)
    begun-at line None named next (begin.Refused outcome) w now b = absurd b
    begun-at line None named next (begin.Held by) w now b = subst Keeps (sym b.same) k
    begun-at line None named next begin.NoMemory w now b = subst Keeps (sym b) k
    begun-at line (Some d) named next begin.Begun w now b =
        let e = event.Begun line.number d (b.state).version line.operation.id (drawn line.operation.kind (b.state).version v.journal) in
        let begun : IsBegun first.lane line v.journal e = record {
          distributor = d;
          state = b.state;
          goes = subst (λ (o : Option ℕ). GoesTo o d b.state v.journal) (sym named) (refl, (b.acting).published);
          holds = (b.acting).holds;
          owns = subst (λ (l : Low). IsOwner l b.state d) k.lane_is (b.acting).owner;
          event = refl;
        } in
        keeps-with (e ∷ v.journal) (v.under_way ++ under_way_of line.number line.operation d progress.Begun 65 ∷ []) w now
        (more-begun line d v.journal e (More e v.journal k.grew (growth.Begins line next begun)) begun next b.free (λ at u found o. (others.More e v.journal others.Same (off-next line next at u found o), λ number some. refl)))
        (same-of v w _ b.after refl refl refl refl refl) (ap (λ (x : LaneValue). x.journal) b.after) (ap (λ (x : LaneValue). x.under_way) b.after)
    begun-at line (Some d) named next (begin.Refused outcome) w now b =
        let e = event.Refused line.number d outcome in
        let grew : By (e ∷ v.journal) = More e v.journal k.grew (growth.Refuses line next (record {
          distributor = d;
          via_is = named;
          state = b.state;
          holds = b.holds;
          published = b.published;
          refused = record {
            not_owner = subst (λ (l : Low). IsOwner l b.state d → ⊥) k.lane_is b.not_owner;
            owner = b.owner;
            owns = subst (λ (l : Low). IsOwner l b.state b.owner) k.lane_is b.owns;
            refused = ap (λ (x : Outcome). event.Refused line.number d x ∷ v.journal) b.outcome_is;
          };
        })) in
        keeps-with (e ∷ v.journal) v.under_way w now
        (record {
          grew = grew;
          own = λ at u found. own-waits lines first.lane first.rules v.journal (e ∷ v.journal) u (k.own at u found) (others.More e v.journal others.Same (off-next line next at u found (k.own at u found)), λ number some. refl);
          lines_apart = k.lines_apart;
          documents_apart = k.documents_apart;
        })
        (same-of v w _ b.after refl refl refl refl refl) (ap (λ (x : LaneValue). x.journal) b.after) (ap (λ (x : LaneValue). x.under_way) b.after)
    begun-at line (Some d) named next (begin.Held by) w now b = subst Keeps (sym b.same) k
    begun-at line (Some d) named next begin.NoMemory w now b = subst Keeps (sym b) k

    -- ---- it goes on

    module _ (at : ℕ) (u : UnderWay) (found : slice_get v.under_way at ≡ Some u) where
      own-here : Own v.journal u
      own-here = k.own at u found

      abbrev line-here : FeedLine
      line-here = (own-here.of_lines).line

      -- what is said of the operation, said of the line in the lane as it began
      said : (F : Low → Rules → ℕ → Operation → Type 0) → F v.lane v.rules u.line u.operation → F first.lane first.rules line-here.number line-here.operation
      said F f =
          subst (λ (o : Operation). F first.lane first.rules line-here.number o) (own-here.of_lines).operation_is
          (subst (λ (n : ℕ). F first.lane first.rules n u.operation) (own-here.of_lines).number_is
          (subst (λ (r : Rules). F first.lane r u.line u.operation) k.rules_are (subst (λ (l : Low). F l v.rules u.line u.operation) k.lane_is f)))

      -- the other operations are of other lines and documents
      off-line : (b : ℕ) (m : UnderWay) → b ≢ at → slice_get v.under_way b ≡ Some m → (o : Own v.journal m) → line-here.number ≢ (o.of_lines).line.number
      off-line b m off got o = λ same. off (k.lines_apart b at m u got found ((o.of_lines).number_is ∙ sym same ∙ sym (own-here.of_lines).number_is))

      off-document : (b : ℕ) (m : UnderWay) → b ≢ at → slice_get v.under_way b ≡ Some m → (o : Own v.journal m) → line-here.operation.id ≢ (o.of_lines).line.operation.id
      off-document b m off got o = λ same. off (k.documents_apart b at m u got found (ap (λ (x : Operation). x.id) (o.of_lines).operation_is ∙ sym same ∙ ap (λ (x : Operation). x.id) (sym (own-here.of_lines).operation_is)))

      abbrev OthersGo : List LaneEvent → Type 0
      OthersGo K = (b : ℕ) (m : UnderWay) → b ≢ at → slice_get v.under_way b ≡ Some m → (o : Own v.journal m) → OthersOf lines first.lane first.rules v.journal K (o.of_lines).line

      -- what one call adds, and what it is to others
      record Went (K : List LaneEvent) : Type 0 where
        grew : By K
        others : OthersGo K

      went-run : (K : List LaneEvent) → IsRunSince first.lane first.rules line-here.number line-here.operation (history v.journal) v.journal K → Went K
      went-run K r = record {
        grew = (grows-run feeders lines first.lane first.rules line-here (own-here.of_lines).among first.journal v.journal k.grew K r).0;
        others = λ b m off got o. (
          run-others (o.of_lines).line.number (o.of_lines).line.operation.id first.lane first.rules line-here.number line-here.operation (off-line b m off got o) (off-document b m off got o) v.journal K r,
          run-none first.lane first.rules line-here.number line-here.operation v.journal K r,
        );
      }

      went-to : (K : List LaneEvent) (p : Progress) → WentTo first.lane first.rules line-here.number line-here.operation v.journal K p → Went K
      went-to K progress.Begun w = absurd w
      went-to K progress.Runs w = went-run K w.0
      went-to K (progress.Over x) w = went-run K w.0
      went-to K progress.Short w = record {
        grew = (grows-cut feeders lines first.lane first.rules line-here (own-here.of_lines).among first.journal v.journal k.grew K w).0;
        others = λ b m off got o. (
          cut-others (o.of_lines).line.number (o.of_lines).line.operation.id first.lane first.rules line-here.number line-here.operation (off-line b m off got o) (off-document b m off got o) v.journal K w,
          cut-none first.lane first.rules line-here.number line-here.operation v.journal K w,
        );
      }

      gone-on : (w : LaneValue) → IsLaneValue w → GoesOn at u v w → Keeps w
      gone-on w now g =
          let by = said (λ l s n o. WentTo l s n o v.journal w.journal g.progress) g.went in
          let r = went-to w.journal g.progress by in
          let further = under_way_of u.line u.operation u.distributor g.progress g.left in
          keeps-with w.journal (slice_set v.under_way at further) w now
          (record {
            grew = r.grew;
            own = each-set (Own w.journal) v.under_way at further
                (λ b m off got. own-waits lines first.lane first.rules v.journal w.journal m (k.own b m got) (r.others b m off got (k.own b m got)))
                (record {
                  of_lines = record { line = line-here; among = (own-here.of_lines).among; number_is = (own-here.of_lines).number_is; operation_is = (own-here.of_lines).operation_is };
                  course = courses.Goes v.journal w.journal u.progress g.progress own-here.course by;
                });
            lines_apart = apart-set line_of v.under_way at u further found refl k.lines_apart;
            documents_apart = apart-set document_of v.under_way at u further found refl k.documents_apart;
          })
          (same-of v w _ g.after refl refl refl refl refl) refl (ap (λ (x : LaneValue). x.under_way) g.after)

      -- ---- it is closed

      ended : (line : ℕ) (x : Outcome) (w : LaneValue) → IsLaneValue w → u.line ≡ line → EndsAs u.progress x → w ≡ record v { journal = event.Closed line x ∷ v.journal; under_way = remove v.under_way at } → Keeps w
      ended line x w now is ends after =
          let e = event.Closed line x in
          let number : line ≡ line-here.number = sym is ∙ (own-here.of_lines).number_is in
          let off : (b : ℕ) (m : UnderWay) → b ≢ at → slice_get v.under_way b ≡ Some m → (o : Own v.journal m) → line ≢ (o.of_lines).line.number = λ b m off got o same. off-line b m off got o (sym number ∙ same) in
          keeps-with (e ∷ v.journal) (remove v.under_way at) w now
          (record {
            grew = More e v.journal k.grew (growth.Closes line-here (own-here.of_lines).among (record {
              outcome = x;
              ended = record { progress = u.progress; course = own-here.course; ends = ends };
              event = ap (λ (n : ℕ). event.Closed n x) number;
            }));
            own = each-remove (Own (e ∷ v.journal)) v.under_way at (λ b m away got. own-waits lines first.lane first.rules v.journal (e ∷ v.journal) m (k.own b m got) (others.More e v.journal others.Same (off b m away got (k.own b m got)), λ number some. refl));
            lines_apart = apart-remove line_of v.under_way at k.lines_apart;
            documents_apart = apart-remove document_of v.under_way at k.documents_apart;
          })
          (same-of v w _ after refl refl refl refl refl) (ap (λ (x : LaneValue). x.journal) after) (ap (λ (x : LaneValue). x.under_way) after)

    -- ---- a state is heard

    heard-at : (d : ℕ) (s : ClusterState) → last_state v.journal ≡ Some s → IsOwner first.lane s d → (answer : Hear) (w : LaneValue) → IsLaneValue w → IsHearing d v w answer → Keeps w
    heard-at d s newest owns (hear.Heard version) w now h =
        let heard = heard_next d (Some s) v.journal in
        keeps-with heard v.under_way w now
        (record {
          grew = grows-heard feeders lines first.lane first.rules d s first.journal v.journal newest owns k.grew;
          own = λ at u found. own-waits lines first.lane first.rules v.journal heard u (k.own at u found) (heard-others ((k.own at u found).of_lines).line d s v.journal);
          lines_apart = k.lines_apart;
          documents_apart = k.documents_apart;
        })
        (same-of v w _ h.after refl refl refl refl refl)
        (ap (λ (x : LaneValue). x.journal) h.after ∙ ap (λ (o : Option ClusterState). heard_next d o v.journal) newest)
        (ap (λ (x : LaneValue). x.under_way) h.after)
    heard-at d s newest owns (hear.Held by) w now h = subst Keeps (sym h.same) k
    heard-at d s newest owns hear.NoMemory w now h = subst Keeps (sym h) k

    -- ---- any call

    called : (w : LaneValue) → IsLaneValue w → IsCall feeders lines v w → Keeps w
    called w now (Hears h) = heard-at h.owner h.state h.newest (subst (λ (l : Low). IsOwner l h.state h.owner) k.lane_is h.owns) h.answer w now h.hears
    called w now (Starts line answer next b) = begun-at line line.via refl next answer w now b
    called w now (Continues at u g) = gone-on at u g.found w now g
    called w now (Ends line x c) = ended c.at c.operation (c.place).found line x w now (c.place).line_is c.ends c.after
    called w now (Stays is) = subst Keeps (sym is) k

  keeps-first : IsLaneValue first → first.under_way ≡ [] → Keeps first
  keeps-first holds idle = record {
    lane_is = refl;
    rules_are = refl;
    types_are = refl;
    planned_are = refl;
    takes_are = refl;
    holds = holds;
    grew = Same;
    own = each-none (Own first.journal) first.under_way idle;
    lines_apart = apart-none line_of first.under_way idle;
    documents_apart = apart-none document_of first.under_way idle;
  }

  pub keeps : IsLaneValue first → first.under_way ≡ [] → (v : LaneValue) → Calls feeders lines first v → Keeps v
  keeps holds idle v Here = keeps-first holds idle
  keeps holds idle v (Then u w calls call now) = called u (keeps holds idle u calls) w now call

-- ---- the segment

module _ (feeders : ℕ) (lines : Lines) (first last : LaneValue) (s : IsSegment feeders lines first last) where
  abbrev known : Keeps feeders lines first last
  known = keeps feeders lines first s.holds s.idle last s.calls

  pub segment-holds : IsLaneValue last
  segment-holds = known.holds

  pub segment-grows : Grows feeders lines first.lane first.rules first.journal last.journal
  segment-grows = known.grew

  pub segment-same : (last.lane ≡ first.lane) × (last.rules ≡ first.rules)
  segment-same = (known.lane_is, known.rules_are)

  pub segment-kept : (last.types ≡ first.types) × (last.planned ≡ first.planned) × (last.takes_plans ≡ first.takes_plans)
  segment-kept = (known.types_are, known.planned_are, known.takes_are)

  pub segment-own : (at : ℕ) (u : UnderWay) → slice_get last.under_way at ≡ Some u → GoesItsCourse lines first last u
  segment-own at u found = let o = known.own at u found in record { of_lines = o.of_lines; course = o.course }

  pub segment-goes : (next : LaneValue) → IsCall feeders lines last next → IsLaneValue next → IsSegment feeders lines first next
  segment-goes next call holds = record { holds = s.holds; idle = s.idle; calls = Then last next s.calls call holds }
