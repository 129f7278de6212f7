-- With what a line wanted to end, since when it searched for that, and where it was begun.
use Rattle.std.proofs.Common.{◌≡◌, ◌⊎◌, ◌++◌, ℕ, List, [], ◌∷◌, Option, None, Some, IsSome, inl, inr, refl, sym, ap, ◌∙◌, subst}
use Rattle.bucket_ids.specs.Buckets.{Low}
use Rattle.distributor_part.specs.declared.rules.Rules.{Rules}
use Rattle.messages.specs.declared.outcome.Outcome.{Outcome}
use Rattle.messages.specs.declared.outcome.Outcome.TheVariants.{NoMemory}
use Rattle.lane_journals.specs.Readers.{Message, before_line, sent}
use Rattle.lane_journals.specs.Meanings.{history, meaning}
use Rattle.lane_journals.specs.declared.event.LaneEvent.{LaneEvent}
use Rattle.lane_journals.proofs.Basics.{sent-stays}
use Rattle.operation_keeping.specs.Others as others
use Rattle.operation_keeping.specs.Others.{AreOthers}
use Rattle.operation_keeping.specs.Wants as wants
use Rattle.operation_keeping.specs.Wants.{IsRun, IsEnd, IsCutRun, IsRunSince, IsEndSince, IsCutRunSince}
use Rattle.operation_keeping.proofs.Others.{others-trans}
use Rattle.lane_calls.specs.declared.progress.Progress.{Progress}
use Rattle.lane_calls.specs.declared.progress.Progress.TheVariants as progress
use Rattle.lane_calls.specs.LaneValues.{EndsAs}
use Rattle.lane_calls.specs.Lines.{FeedLine}
use Rattle.lane_calls.specs.Segments.{WentTo}
use Rattle.lane_calls.specs.Courses.{IsBegun, RanTo, NoneReturns, Course, Starts, Goes, Waits, Alone, HasEnded, WantedEnd}
use Rattle.lane_calls.specs.Growth.{IsLater}
use Rattle.lane_calls.proofs.Lists.{later-same, later-more, later-then}

-- ---- what was sent stays sent

pub sent-on : (more J : List LaneEvent) (number : ℕ) (m : Message) → sent number (history J) ≡ Some m → sent number (history (more ++ J)) ≡ Some m
sent-on [] J number m h = h
sent-on (e ∷ more) J number m h = sent-stays number (history (more ++ J)) m (meaning (more ++ J) e) (sent-on more J number m h)

some-on : (I J : List LaneEvent) → IsLater I J → (number : ℕ) → IsSome (sent number (history I)) → IsSome (sent number (history J))
some-on I J l number some = by_sent (sent number (history I)) refl some
  where
    by_sent : (o : Option Message) → sent number (history I) ≡ o → IsSome o → IsSome (sent number (history J))
    by_sent None is some = absurd cc
    by_sent (Some m) is some = subst (λ (o : Option Message). IsSome o) (sym (ap (λ (K : List LaneEvent). sent number (history K)) l.is ∙ sent-on l.added I number m is)) refl

none-then : (I J K : List LaneEvent) → IsLater I J → NoneReturns I J → NoneReturns J K → NoneReturns I K
none-then I J K l a b number some = b number (some-on I J l number some) ∙ a number some

module _ (lane : Low) (rules : Rules) (line : FeedLine) where
  abbrev RunsOn : List LaneEvent → List LaneEvent → Type 0
  RunsOn J K = IsRunSince lane rules line.number line.operation (history J) J K

  -- ---- each part of a course makes the journal longer

  run-later : (J K : List LaneEvent) → RunsOn J K → IsLater J K
  run-later J K wants.Still = later-same J
  run-later J K (wants.Longer e L run w) = later-more J L e (run-later J L run)

  cut-later : (J K : List LaneEvent) → IsCutRunSince lane rules line.number line.operation (history J) J K → IsLater J K
  cut-later J K c = elim c.2 [
    | inl same ↦ subst (IsLater J) (sym same) (run-later J c.0 c.1)
    | inr cut ↦ subst (IsLater J) (sym cut.ended) (later-more J c.0 _ (run-later J c.0 c.1))
  ]

  went-later : (J K : List LaneEvent) (p : Progress) → WentTo lane rules line.number line.operation J K p → IsLater J K
  went-later J K progress.Begun w = absurd w
  went-later J K progress.Runs w = run-later J K w.0
  went-later J K (progress.Over x) w = run-later J K w.0
  went-later J K progress.Short w = cut-later J K w

  alone-later : (J K : List LaneEvent) → IsRun lane rules line.number line.operation J K → IsLater J K
  alone-later J K wants.Same = later-same J
  alone-later J K (wants.More e L run w) = later-more J L e (alone-later J L run)

  cut-alone-later : (J K : List LaneEvent) → IsCutRun lane rules line.number line.operation J K → IsLater J K
  cut-alone-later J K c = elim c.2 [
    | inl same ↦ subst (IsLater J) (sym same) (alone-later J c.0 c.1)
    | inr cut ↦ subst (IsLater J) (sym cut.ended) (later-more J c.0 _ (alone-later J c.0 c.1))
  ]

  ran-later : (J K : List LaneEvent) (p : Progress) → RanTo lane rules line.number line.operation J K p → IsLater J K
  ran-later J K (progress.Over x) r = alone-later J K r.0
  ran-later J K progress.Short r = cut-alone-later J K r
  ran-later J K progress.Begun r = absurd r
  ran-later J K progress.Runs r = absurd r

  pub others-later : (J K : List LaneEvent) → AreOthers line.number line.operation.id J K → IsLater J K
  others-later J K others.Same = later-same J
  others-later J K (others.More e L a off) = later-more J L e (others-later J L a)

  -- ---- where it was begun

  pub record WasBegun (J : List LaneEvent) : Type 0 where
    pub start : List LaneEvent
    pub event : LaneEvent
    pub begun : IsBegun lane line start event
    pub later : IsLater (event ∷ start) J

  begun-on : (J K : List LaneEvent) → WasBegun J → IsLater J K → WasBegun K
  begun-on J K b l = record { start = b.start; event = b.event; begun = b.begun; later = later-then (b.event ∷ b.start) J K b.later l }

  pub course-begun : (J : List LaneEvent) (p : Progress) → Course lane rules line J p → WasBegun J
  course-begun J p (Starts I e b) = record { start = I; event = e; begun = b; later = later-same (e ∷ I) }
  course-begun J p (Goes I K before now c w) = begun-on I K (course-begun I before c) (went-later I K now w)
  course-begun J p (Waits I K now c o none) = begun-on I K (course-begun I now c) (others-later I K o)
  course-begun J p (Alone I K e now b r) = record { start = I; event = e; begun = b; later = ran-later (e ∷ I) K now r }

  -- ---- how it came to its end

  -- by what it wanted since a call began, or since it was begun, where it was alone
  pub data CameTo (begun : List LaneEvent) (moment : List LaneEvent) (x : Outcome) : Type 0 where
    Searching : (from : List LaneEvent) → IsLater begun from → IsRunSince lane rules line.number line.operation (history from) from moment
        → IsEndSince lane rules line.number line.operation (history from) moment x → CameTo begun moment x
    Running : IsRun lane rules line.number line.operation begun moment → IsEnd lane rules line.number line.operation moment x → CameTo begun moment x

  pub record IsOverBy (J : List LaneEvent) (x : Outcome) : Type 0 where
    pub start : List LaneEvent
    pub event : LaneEvent
    pub begun : IsBegun lane line start event
    pub later : IsLater (event ∷ start) J
    pub moment : List LaneEvent
    pub from_there : IsLater (event ∷ start) moment
    pub came : CameTo (event ∷ start) moment x
    pub since : AreOthers line.number line.operation.id moment J
    pub settled : NoneReturns moment J

  pub over-by : (J : List LaneEvent) (x : Outcome) → Course lane rules line J (progress.Over x) → IsOverBy J x
  over-by J x (Goes I K p now c w) = let b = course-begun I p c in let l = later-then (b.event ∷ b.start) I K b.later (went-later I K now w) in
      record { start = b.start; event = b.event; begun = b.begun; later = l; moment = K; from_there = l; came = Searching I b.later w.0 w.1; since = others.Same; settled = λ number some. refl }
  over-by J x (Waits I K p c o none) = let b = over-by I x c in record {
    start = b.start;
    event = b.event;
    begun = b.begun;
    later = later-then (b.event ∷ b.start) I K b.later (others-later I K o);
    moment = b.moment;
    from_there = b.from_there;
    came = b.came;
    since = others-trans line.number line.operation.id b.moment I K b.since o;
    settled = none-then b.moment I K (others-later b.moment I b.since) b.settled none;
  }
  over-by J x (Alone I K e now b r) = let l = ran-later (e ∷ I) K now r in record { start = I; event = e; begun = b; later = l; moment = K; from_there = l; came = Running r.0 r.1; since = others.Same; settled = λ number some. refl }

  over-wanted : (J : List LaneEvent) (x : Outcome) → IsOverBy J x → WantedEnd lane rules line J x
  over-wanted J x b = by_came b.came
    where
      by_came : CameTo (b.event ∷ b.start) b.moment x → WantedEnd lane rules line J x
      by_came (Searching from l run end) = record { from = history from; moment = b.moment; wants = end; since = b.since; settled = b.settled }
      by_came (Running run end) = record { from = before_line line.number (history b.moment); moment = b.moment; wants = end; since = b.since; settled = b.settled }

  -- or memory was wanted
  pub ended-by : (J : List LaneEvent) (x : Outcome) → HasEnded lane rules line J x → IsOverBy J x ⊎ (x ≡ NoMemory)
  ended-by J x h = by_progress h.progress h.course h.ends
    where
      by_progress : (p : Progress) → Course lane rules line J p → EndsAs p x → IsOverBy J x ⊎ (x ≡ NoMemory)
      by_progress progress.Begun c e = absurd e
      by_progress progress.Runs c e = absurd e
      by_progress (progress.Over y) c e = inl (subst (IsOverBy J) (sym e) (over-by J y c))
      by_progress progress.Short c e = inr e

  pub ended-wanted : (J : List LaneEvent) (x : Outcome) → HasEnded lane rules line J x → WantedEnd lane rules line J x ⊎ (x ≡ NoMemory)
  ended-wanted J x h = elim (ended-by J x h) [ inl b ↦ inl (over-wanted J x b) | inr none ↦ inr none ]
