-- A line of a segment of which no message is lost comes to what nodes answer, whatever others sent.
use Rattle.std.proofs.Common.{◌≡◌, ◌==◌, ◌⊎◌, ◌+◌, ◌<◌, ◌≤◌, ℕ, false, not, List, [], ◌∷◌, ◌++◌, length, Option, None, Some, is_some, inl, inr, refl, sym, ap, ◌∙◌, subst, arith}
use Rattle.std.specs.Option.{IsSome}
use Rattle.std.proofs.lemmas.Bool.{cases_lt, eqb-true}
use Rattle.std.proofs.lemmas.List.{length-append, append_assoc}
use Rattle.bucket_ids.specs.Buckets.{Low}
use Rattle.stamps.specs.declared.stamp.Stamp.{Stamp}
use Rattle.carriers.specs.declared.fate.Fate.{Fate}
use Rattle.cluster_states.specs.declared.cluster_state.ClusterState.{ClusterState}
use Rattle.ideal_nodes.specs.Placement.{IsOwner}
use Rattle.distributor_part.specs.declared.rules.Rules.{Rules}
use Rattle.messages.specs.declared.outcome.Outcome.{Outcome}
use Rattle.messages.specs.declared.outcome.Outcome.TheVariants.{NoMemory}
use Rattle.op_machine.specs.Judging.{looks}
use Rattle.lane_journals.specs.Readers.{Beginning, Message, began, held, published, stopped, sent}
use Rattle.lane_journals.specs.Legal.{MayBegin}
use Rattle.lane_journals.specs.Meanings.{history, meaning}
use Rattle.lane_journals.specs.Places as places
use Rattle.lane_journals.specs.KeptJournals.{IsLegal}
use Rattle.lane_journals.specs.declared.event.LaneEvent.{LaneEvent}
use Rattle.lane_journals.specs.declared.event.LaneEvent.TheVariants as event
use Rattle.lane_journals.proofs.Basics.{began-stays, or_else-cases, only_if-some}
use Rattle.lane_carriage.specs.Carriage.{IsCarried, Other}
use Rattle.lane_carriage.specs.Readers.{fate_of, is_returned, receives}
use Rattle.lane_completeness.specs.Completeness.{HaveReturned, AreAnswered, RunSince, NoneStops, EndsWell}
use Rattle.lane_completeness.specs.Causes.{IsRunLine, IsRunLineSince, IsHeardLine, ReturnInTurn}
use Rattle.lane_keeping.specs.LaneKeeping.{setting_of}
use Rattle.lane_keeping.specs.Lines.{IsFresh}
use Rattle.lane_keeping.specs.Tidings.{last_state}
use Rattle.operation_keeping.specs.RuleBounds.{AreRules}
use Rattle.lane_calls.specs.LaneValues.{LaneValue, drawn}
use Rattle.lane_calls.specs.Lines.{FeedLine, Lines}
use Rattle.lane_calls.specs.Readings.{outcome_in, told_events}
use Rattle.lane_calls.specs.Segments.{IsAmong}
use Rattle.lane_calls.specs.Courses.{GoesTo, IsBegun, HasEnded}
use Rattle.lane_calls.specs.Growth.{IsLater, IsTurnedAway, Grows, Same, More}
use Rattle.lane_calls.proofs.Growing.{grows-later}
use Rattle.lane_calls.proofs.OneLine.{fresh_none}
use Rattle.lane_calls.proofs.Steps.{step-tells, grown-newest}
use Rattle.lane_calls.proofs.Wanted.{sent-on, others-later, CameTo, Searching, Running, IsOverBy, course-begun, ended-by}
use Rattle.lane_lives.specs.declared.setting.Setting.{Setting}
use Rattle.lane_promises.specs.Promises.{IsAcked, IsServed, LosesNone, LacksNothing, GoesToOwner, IsNoRefusal, WentBetween, IsDoneWellBeside, AreDoneWell}
use Rattle.lane_promises.proofs.Before.{Grown, legal_tail}
use Rattle.lane_promises.proofs.CarriedBefore.{IsCarriedThen, carried_then, fate_then}
use Rattle.lane_promises.proofs.Completing.{Laws, lacks_nothing, no_refusal, began_first, some_of}
use Rattle.lane_promises.proofs.Ends.{EndOf, AsRefused, AsClosed, StepEnds, NoEnd, AnEnd, step_ends}
use Rattle.lane_promises.proofs.Hearing.{held_fed}
use Rattle.lane_promises.proofs.Later.{Stays, served_later}
use Rattle.lane_promises.proofs.Newest.{IsNewest, newest_is, held_newest}
use Rattle.lane_promises.proofs.ShortfallsBeside.{turn_tail}

-- each reply comes back in turn
abbrev ReturnsTo : Type 0
ReturnsTo = (given : List Fate) (J K : List LaneEvent) → IsCarried given K → ReturnInTurn J K

-- ---- journals that became longer

tail-same : (a b : LaneEvent) (U V : List LaneEvent) → a ∷ U ≡ b ∷ V → U ≡ V
tail-same a b U V is = cc

-- of two that became one, the shorter was there before the longer
pub first-of : (A B X Y : List LaneEvent) → A ++ X ≡ B ++ Y → length X ≤ length Y → (C : List LaneEvent) × (Y ≡ C ++ X)
first-of A [] X Y is le = (A, sym is)
first-of [] (b ∷ B) X Y is le =
    let size : length X ≡ length (b ∷ B) + length Y = ap length is ∙ length-append (b ∷ B) Y in
    absurd (omega (arith, size, le))
first-of (a ∷ A) (b ∷ B) X Y is le = first-of A B X Y (tail-same a b (A ++ X) (B ++ Y) is) le

-- a line that was begun stays so
began-on : (more J : List LaneEvent) (n : ℕ) (b : Beginning) → began n (history J) ≡ Some b → began n (history (more ++ J)) ≡ Some b
began-on [] J n b h = h
began-on (e ∷ more) J n b h = began-stays n (history (more ++ J)) b (meaning (more ++ J) e) (began-on more J n b h)

-- ---- in a segment

-- no node stops or starts there
abbrev StopsNone : LaneEvent → Type 0
StopsNone (event.Stopped n) = ⊥
StopsNone (event.Started n) = ⊥
StopsNone _ = Unit {0}

none-longer : (e : LaneEvent) (E : List LaneEvent) → e ∷ E ≡ E → ⊥
none-longer e E is = let size : length (e ∷ E) ≡ length E = ap length is in omega (arith, size)

told-none : (e : LaneEvent) (L : List LaneEvent) → told_events (e ∷ L) ≡ told_events L → StopsNone e
told-none (event.Stopped n) L is = none-longer (event.Stopped n) (told_events L) is
told-none (event.Started n) L is = none-longer (event.Started n) (told_events L) is
told-none _ L is = tt

stops-more : (e : LaneEvent) (M : List LaneEvent) → StopsNone e → NoneStops M → NoneStops (e ∷ M)
stops-more (event.Stopped n) M none rest = none
stops-more (event.Started n) M none rest = none
stops-more _ M none rest = rest

module _ (feeders : ℕ) (lines : Lines) (lane : Low) (rules : Rules) where
  abbrev By : List LaneEvent → List LaneEvent → Type 0
  By J K = Grows feeders lines lane rules J K

  too-long : (J M more : List LaneEvent) (c : LaneEvent) → J ≡ c ∷ (more ++ M) → length J ≤ length M → ⊥
  too-long J M more c is le =
      let size : length J ≡ length (c ∷ more) + length M = ap length is ∙ length-append (c ∷ more) M in
      omega (arith, size, le)

  -- each journal in between grew so
  grown-at : (J L : List LaneEvent) → By J L → (more M : List LaneEvent) → L ≡ more ++ M → length J ≤ length M → By J M
  grown-at J L grew [] M is le = subst (By J) is grew
  grown-at J L Same (c ∷ more) M is le = absurd (too-long J M more c is le)
  grown-at J L (More e K grew step) (c ∷ more) M is le = let rest : K ≡ more ++ M = cc in grown-at J K grew more M rest le

  none-stops : (J L : List LaneEvent) → By J L → (more M : List LaneEvent) → L ≡ more ++ M → length J ≤ length M → NoneStops more
  none-stops J L grew [] M is le = tt
  none-stops J L Same (c ∷ more) M is le = absurd (too-long J M more c is le)
  none-stops J L (More e K grew step) (c ∷ more) M is le =
      let rest : K ≡ more ++ M = cc in
      let here : e ≡ c = cc in
      stops-more c more (subst StopsNone here (told-none e K (step-tells feeders lines lane rules K e step))) (none-stops J K grew more M rest le)

  -- ---- the event that ended a line

  record WasEndedAt (J : List LaneEvent) (K : List LaneEvent) (n : ℕ) (x : Outcome) : Type 0 where
    at : List LaneEvent
    event : LaneEvent
    later : List LaneEvent
    is : K ≡ later ++ event ∷ at
    grew : By J at
    line : FeedLine
    among : IsAmong lines line
    number_is : line.number ≡ n
    end : EndOf lane rules line at event x

  ended-at : (J K : List LaneEvent) → By J K → (n : ℕ) (x : Outcome) → outcome_in n J ≡ None → outcome_in n K ≡ Some x → WasEndedAt J K n x
  ended-at J K Same n x none h = let clash : ◌≡◌ {A = Option Outcome} None (Some x) = sym none ∙ h in absurd cc
  ended-at J K (More e L grew step) n x none h = by_end (step_ends feeders lines lane rules L e step) (λ was. ended-at J L grew n x none was)
    where
      further : WasEndedAt J L n x → WasEndedAt J (e ∷ L) n x
      further w = record { at = w.at; event = w.event; later = e ∷ w.later; is = ap (λ (M : List LaneEvent). e ∷ M) w.is; grew = w.grew; line = w.line; among = w.among; number_is = w.number_is; end = w.end }

      by_end : StepEnds lines lane rules L e → (outcome_in n L ≡ Some x → WasEndedAt J L n x) → WasEndedAt J (e ∷ L) n x
      by_end (NoEnd same) rest = further (rest (sym (same n) ∙ h))
      by_end (AnEnd line outcome among end read) rest = elim (or_else-cases (outcome_in n L) _ x (sym (read n) ∙ h)) [
        | inl was ↦ further (rest was)
        | inr now ↦
            let own = only_if-some (line.number == n) outcome x now.1 in
            record { at = L; event = e; later = []; is = refl; grew = grew; line = line; among = among; number_is = eqb-true line.number n own.0; end = subst (EndOf lane rules line L e) own.1 end }
      ]

-- ---- one line

-- a line that goes to the owner of the newest state
module _ (feeders : ℕ) (lines : Lines) (lane : Low) (rules : Rules) (line : FeedLine) (J L : List LaneEvent) (grew : Grows feeders lines lane rules J L) (legal : IsLegal (setting_of lane rules) L) where
  abbrev S : places.Setting
  S = setting_of lane rules

  -- it isn't refused
  not-refused : (via : Option ℕ) → line.via ≡ via → GoesToOwner lane via J → (e : LaneEvent) → IsTurnedAway lane line L e → ⊥
  not-refused None named goes e r = let clash : ◌≡◌ {A = Option ℕ} None (Some r.distributor) = sym named ∙ r.via_is in cc
  not-refused (Some d) named goes e r =
      let same : d ≡ r.distributor = (let is : ◌≡◌ {A = Option ℕ} (Some d) (Some r.distributor) = sym named ∙ r.via_is in cc) in
      let last : last_state L ≡ Some goes.state = grown-newest feeders lines lane rules J L grew ∙ goes.newest in
      let holds : held d (history L) ≡ Some (goes.state).version = held_fed feeders lines lane rules J L goes.state d grew goes.newest goes.holds in
      let one : r.state ≡ goes.state = held_newest L d r.state goes.state (newest_is S L legal goes.state last) holds (subst (λ (f : ℕ). held f (history L) ≡ Some (r.state).version) (sym same) r.holds) r.published in
      (r.refused).not_owner (subst (λ (t : ClusterState). IsOwner lane t r.distributor) (sym one) (subst (IsOwner lane goes.state) same goes.owns))

  -- and is begun under it
  begun-newest : (via : Option ℕ) → line.via ≡ via → GoesToOwner lane via J → (e : LaneEvent) (b : IsBegun lane line L e) → last_state J ≡ Some b.state
  begun-newest None named goes e b =
      let g = subst (λ (o : Option ℕ). GoesTo o b.distributor b.state L) named b.goes in
      sym (grown-newest feeders lines lane rules J L grew) ∙ g
  begun-newest (Some d) named goes e b =
      let g = subst (λ (o : Option ℕ). GoesTo o b.distributor b.state L) named b.goes in
      let last : last_state L ≡ Some goes.state = grown-newest feeders lines lane rules J L grew ∙ goes.newest in
      let holds : held d (history L) ≡ Some (goes.state).version = held_fed feeders lines lane rules J L goes.state d grew goes.newest goes.holds in
      let one : b.state ≡ goes.state = held_newest L d b.state goes.state (newest_is S L legal goes.state last) holds (subst (λ (f : ℕ). held f (history L) ≡ Some (b.state).version) g.0 b.holds) g.1 in
      goes.newest ∙ ap (λ (t : ClusterState). Some t) (sym one)

-- ---- a line that was closed

module _ (laws : Laws) (lane : Low) (rules : Rules) (are : AreRules rules) (given : List Fate) (feeders : ℕ) (lines : Lines) (line : FeedLine) (J run : List LaneEvent) (grew : Grows feeders lines lane rules J run) (legal : IsLegal (setting_of lane rules) run)
    (t : IsCarriedThen given run) (fresh : IsFresh (history J) line.number) (goes : GoesToOwner lane line.via J) where
  -- from where it was begun
  module _ (start : List LaneEvent) (e : LaneEvent) (b : IsBegun lane line start e) (later : IsLater (e ∷ start) run) where
    abbrev d : ℕ
    d = b.distributor

    abbrev v : ℕ
    v = (b.state).version

    abbrev stamp : Option Stamp
    stamp = drawn line.operation.kind v start

    abbrev first : List LaneEvent
    first = event.Begun line.number d v line.operation.id stamp ∷ start

    since : run ≡ later.added ++ first
    since = later.is ∙ ap (λ (x : LaneEvent). later.added ++ x ∷ start) b.event

    legal-first : IsLegal (setting_of lane rules) first
    legal-first = legal_tail (setting_of lane rules) later.added first (subst (IsLegal (setting_of lane rules)) since legal)

    may-begin : MayBegin (history start) line.number d v line.operation.id stamp
    may-begin = legal-first.1.permitted

    abbrev beginning : Beginning
    beginning = record { distributor = d; version = v; id = line.operation.id; stamp = stamp }

    begun-first : began line.number (history first) ≡ Some beginning
    begun-first = began_first line.number d v line.operation.id stamp (history start) may-begin.fresh

    -- it was begun in the segment
    start-inside : length J ≤ length start
    start-inside = elim (cases_lt (length start) (length J)) [
      | inl before ↦ absurd (by_before before)
      | inr within ↦ omega (arith, within)
    ]
      where
        by_before : length start < length J → ⊥
        by_before less =
            let l = grows-later feeders lines lane rules J run grew in
            let sizes : length first ≤ length J = omega (arith, less) in
            let c = first-of later.added l.added first J (sym since ∙ l.is) sizes in
            let there : began line.number (history J) ≡ Some beginning = ap (λ (M : List LaneEvent). began line.number (history M)) c.1 ∙ began-on c.0 first line.number beginning begun-first in
            let clash : ◌≡◌ {A = Option Beginning} None (Some beginning) = sym fresh.unbegun ∙ there in
            cc

    grown-start : Grows feeders lines lane rules J start
    grown-start = grown-at feeders lines lane rules J run grew (later.added ++ e ∷ []) start (later.is ∙ sym (append_assoc later.added (e ∷ []) start)) start-inside

    newest-then : last_state J ≡ Some b.state
    newest-then = begun-newest feeders lines lane rules line J start grown-start legal-first.0 line.via refl goes e b

    -- ---- its messages

    before-carried : IsCarriedThen t.first start
    before-carried = carried_then t.first run t.carried later.added (event.Begun line.number d v line.operation.id stamp) start tt since

    none-before : (k : ℕ) → length before-carried.first < k → sent k (history start) ≡ None
    none-before k more = laws.unsent before-carried.first start before-carried.carried k (by_fate (fate_of k before-carried.first) refl)
      where
        by_fate : (o : Option Fate) → fate_of k before-carried.first ≡ o → fate_of k before-carried.first ≡ None
        by_fate None is = is
        by_fate (Some f) is = let n = (laws.numbers before-carried.first k).0 (ap is_some is) in absurd (omega (arith, n.1, more))

    module _ (none : LosesNone given start run) where
      answered : AreAnswered (length before-carried.first) t.first
      answered number more most =
          let low : 1 ≤ number = omega (arith, more) in
          let some = (laws.numbers t.first number).1 (low, most) in
          let m = some_of (sent number (history run)) (laws.was_sent t.first run t.carried number low most) in
          ap is_returned (sym (fate_then number given run t some)) ∙ (none number m.0 m.1 (none-before number more)).0

      -- no node stops or starts meanwhile
      ran-since : RunSince first run
      ran-since number m is was =
          let quiet = none-stops feeders lines lane rules J run grew later.added (e ∷ start) later.is (omega (arith, start-inside)) in
          let runs : stopped m.receiver (history run) ≡ false = (none number m is was).1 in
          ap (λ (M : List LaneEvent). receives number number M) since
          ∙ laws.running first later.added quiet number m (ap (λ (M : List LaneEvent). sent number (history M)) (sym since) ∙ is) was
          ∙ ap (λ (M : List LaneEvent). not (stopped m.receiver (history M))) (sym since) ∙ ap not runs

      all-returned : HaveReturned first run
      all-returned = (laws.since before-carried.first t.first first run (Other before-carried.first start _ tt before-carried.carried) t.carried answered ran-since).all
      -- ---- its end

  -- ---- its end

  module _ (x : Outcome) (o : IsOverBy lane rules line run x) where
    abbrev begun-at : List LaneEvent
    begun-at = first o.start o.event o.begun o.later

    -- what came since it wanted to end
    after : IsLater o.moment run
    after = others-later lane rules line o.moment run o.since

    moment-legal : IsLegal (setting_of lane rules) o.moment
    moment-legal = legal_tail (setting_of lane rules) after.added o.moment (subst (IsLegal (setting_of lane rules)) after.is legal)

    turn-to : ReturnsTo → (F : List LaneEvent) → ReturnInTurn F o.moment
    turn-to in-turn F = turn_tail F after.added o.moment (subst (ReturnInTurn F) after.is (in-turn t.first F run t.carried))

    moment-newest : IsNewest o.moment (o.begun).state
    moment-newest = newest_is (setting_of lane rules) o.moment moment-legal (o.begun).state (grown-newest feeders lines lane rules J o.moment grown ∙ newest-then o.start o.event o.begun o.later)
      where
        long : length J ≤ length o.moment
        long =
            let inside = start-inside o.start o.event o.begun o.later in
            let size = ap length (o.from_there).is ∙ length-append (o.from_there).added (o.event ∷ o.start) in
            omega (arith, inside, size)

        grown : Grows feeders lines lane rules J o.moment
        grown = grown-at feeders lines lane rules J run grew after.added o.moment after.is long

    begun-is : o.event ∷ o.start ≡ begun-at
    begun-is = ap (λ (e : LaneEvent). e ∷ o.start) (o.begun).event

    module _ (none : LosesNone given o.start run) where
      returned-then : HaveReturned begun-at o.moment
      returned-then number m is was =
          sym (o.settled number (subst (λ (y : Option Message). IsSome y) (sym is) refl))
          ∙ all-returned o.start o.event o.begun o.later none number m (ap (λ (M : List LaneEvent). sent number (history M)) after.is ∙ sent-on after.added o.moment number m is) was

      heard : ReturnsTo → IsHeardLine lane rules line.number (o.begun).distributor ((o.begun).state).version line.operation (drawn line.operation.kind ((o.begun).state).version o.start) o.start o.moment x
      heard in-turn = record { ran = by_course (subst (λ (F : List LaneEvent). CameTo lane rules line F o.moment x) begun-is o.came); newest = moment-newest.0; all = returned-then }
        where
          by_course : CameTo lane rules line begun-at o.moment x
              → IsRunLine lane rules line.number (o.begun).distributor ((o.begun).state).version line.operation (drawn line.operation.kind ((o.begun).state).version o.start) o.start o.moment x
              ⊎ ((F : List LaneEvent) × IsRunLineSince lane rules line.number (o.begun).distributor ((o.begun).state).version line.operation (drawn line.operation.kind ((o.begun).state).version o.start) o.start F o.moment x)
          by_course (Searching from early ran end) = inr (from, record { legal = moment-legal; early = early.added; begun = early.is; run = ran; in_turn = turn-to in-turn from; end = end })
          by_course (Running ran end) = inl (record { legal = moment-legal; run = ran; in_turn = turn-to in-turn begun-at; end = end })

      lacks : ReturnsTo → LacksNothing x
      lacks in-turn = lacks_nothing (history o.moment) line.number x (laws.heard lane rules are line.number (o.begun).distributor ((o.begun).state).version line.operation _ o.start o.moment x (heard in-turn))

      well : ReturnsTo → looks line.operation ≡ false → EndsWell (drawn line.operation.kind ((o.begun).state).version o.start) (history o.moment) line.number x
      well in-turn plain = laws.heard_well lane rules are line.number (o.begun).distributor ((o.begun).state).version line.operation _ o.start o.moment x plain (heard in-turn)

-- ---- as the segment ended

module _ (laws : Laws) (lane : Low) (rules : Rules) (are : AreRules rules) (v : LaneValue) (carried : IsCarried v.given v.journal) (feeders : ℕ) (lines : Lines) (J K : List LaneEvent) (legal : IsLegal (setting_of lane rules) K)
    (grown : Grown v.journal K) (keep : Stays K v.journal) (grew : Grows feeders lines lane rules J K) (line : FeedLine) (fresh : IsFresh (history J) line.number) (goes : GoesToOwner lane line.via J) where
  module _ (x : Outcome) (h : outcome_in line.number K ≡ Some x) (at : List LaneEvent) (later : List LaneEvent) (is : K ≡ later ++ event.Closed line.number x ∷ at) (so-far : Grows feeders lines lane rules J at) (ended : HasEnded lane rules line at x) where
    closing : IsLegal (setting_of lane rules) (event.Closed line.number x ∷ at)
    closing = legal_tail (setting_of lane rules) later _ (subst (IsLegal (setting_of lane rules)) is legal)

    unrefused : IsNoRefusal x
    unrefused = let e = closing.1.ended in no_refusal (setting_of lane rules) at line.number e.0 x e.2

    whole : v.journal ≡ (grown.0 ++ later) ++ event.Closed line.number x ∷ at
    whole = grown.1 ∙ ap (λ (M : List LaneEvent). grown.0 ++ M) is ∙ sym (append_assoc grown.0 later (event.Closed line.number x ∷ at))

    then : IsCarriedThen v.given at
    then = carried_then v.given v.journal carried (grown.0 ++ later) (event.Closed line.number x) at tt whole

    module _ (start : List LaneEvent) (e : LaneEvent) (b : IsBegun lane line start e) (l : IsLater (e ∷ start) at) where
      abbrev first-event : LaneEvent
      first-event = event.Begun line.number b.distributor (b.state).version line.operation.id (drawn line.operation.kind (b.state).version start)

      begun-there : at ≡ l.added ++ first-event ∷ start
      begun-there = l.is ∙ ap (λ (y : LaneEvent). l.added ++ y ∷ start) b.event

      abbrev beginning-there : Beginning
      beginning-there = record { distributor = b.distributor; version = (b.state).version; id = line.operation.id; stamp = drawn line.operation.kind (b.state).version start }

      begun-now : began line.number (history K) ≡ Some beginning-there
      begun-now =
          ap (λ (M : List LaneEvent). began line.number (history M)) (is ∙ ap (λ (M : List LaneEvent). later ++ event.Closed line.number x ∷ M) begun-there)
          ∙ began-on later (event.Closed line.number x ∷ (l.added ++ first-event ∷ start)) line.number beginning-there (began-on l.added (first-event ∷ start) line.number beginning-there (begun-first laws lane rules are v.given feeders lines line J at so-far closing.0 then fresh goes start e b l))

      between : WentBetween line x K start at
      between = record { distributor = b.distributor; version = (b.state).version; stamp = drawn line.operation.kind (b.state).version start; since = l.added; begun = begun-there; later = later; closed = is }

      done : (LosesNone v.given start at → IsServed K line) → IsDoneWellBeside v line K
      done served = record {
        outcome = x;
        ended = keep.outcomes line.number x h;
        unrefused = unrefused;
        before = start;
        run = at;
        between = between;
        served = λ none. served_later K v.journal keep line (served none);
      }

    by_end : ReturnsTo → IsOverBy lane rules line at x ⊎ (x ≡ NoMemory) → IsDoneWellBeside v line K
    by_end in-turn (inl o) = done o.start o.event o.begun o.later (λ none. record {
      outcome = x;
      closed = h;
      answered = lacks laws lane rules are v.given feeders lines line J at so-far closing.0 then fresh goes x o none in-turn;
      acknowledged = λ plain. acked (well laws lane rules are v.given feeders lines line J at so-far closing.0 then fresh goes x o none in-turn plain);
    })
      where
        acked : EndsWell (drawn line.operation.kind ((o.begun).state).version o.start) (history o.moment) line.number x → IsAcked K line.number x ⊎ (x ≡ NoMemory)
        acked (inl a) = inl (record { beginning = _; stamp = a.0; begun = begun-now o.start o.event o.begun o.later; drawn = a.1; is = a.2 })
        acked (inr m) = inr m.0
    by_end in-turn (inr wanted) =
        let b = course-begun lane rules line at ended.progress ended.course in
        done b.start b.event b.begun b.later (λ none. record {
          outcome = x;
          closed = h;
          answered = subst LacksNothing (sym wanted) tt;
          acknowledged = λ plain. inr wanted;
        })

  by_event : ReturnsTo → (x : Outcome) → outcome_in line.number K ≡ Some x → (w : WasEndedAt feeders lines lane rules J K line.number x) → w.line ≡ line → IsDoneWellBeside v line K
  by_event in-turn x h w same = by_kind (subst (λ (l : FeedLine). EndOf lane rules l w.at w.event x) same w.end)
    where
      at-legal : IsLegal (setting_of lane rules) w.at
      at-legal = (legal_tail (setting_of lane rules) w.later (w.event ∷ w.at) (subst (IsLegal (setting_of lane rules)) w.is legal)).0

      by_kind : EndOf lane rules line w.at w.event x → IsDoneWellBeside v line K
      by_kind (AsRefused r is) = absurd (not-refused feeders lines lane rules line J w.at w.grew at-legal line.via refl goes w.event r)
      by_kind (AsClosed ended is) = by_end x h w.at w.later (w.is ∙ ap (λ (y : LaneEvent). w.later ++ y ∷ w.at) is) w.grew ended in-turn (ended-by lane rules line w.at x ended)

pub lines_done : (laws : Laws) (s : Setting) → AreRules s.rules → (lane : Low) (v : LaneValue) → IsCarried v.given v.journal → (feeders : ℕ) (lines : Lines) (J K : List LaneEvent) → IsLegal (setting_of lane s.rules) K → Grown v.journal K → Stays K v.journal
    → Grows feeders lines lane s.rules J K → AreDoneWell lane v lines J K
lines_done laws s are lane v carried feeders lines J K legal grown keep grew apart line among fresh goes some =
    let x = some_of (outcome_in line.number K) some in
    let w = ended-at feeders lines lane s.rules J K grew line.number x.0 (fresh_none line.number J fresh) x.1 in
    by_event laws lane s.rules are v carried feeders lines J K legal grown keep grew line fresh goes laws.in_turn x.0 x.1 w (apart w.line line w.among among w.number_is)
