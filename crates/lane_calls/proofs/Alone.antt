-- A line that is carried out alone.
use Rattle.std.proofs.Common.{◌≡◌, ℕ, List, ◌∷◌, Option, None, Some, inl, inr, refl, sym, ◌∙◌, subst}
use Rattle.bucket_ids.specs.Buckets.{Low}
use Rattle.cluster_states.specs.declared.cluster_state.ClusterState.{ClusterState}
use Rattle.distributor_part.specs.declared.rules.Rules.{Rules}
use Rattle.ideal_nodes.specs.Placement.{IsOwner}
use Rattle.messages.specs.declared.outcome.Outcome.{Outcome}
use Rattle.lane_journals.specs.Readers.{Journal, before_line, held}
use Rattle.lane_journals.specs.Meanings.{history}
use Rattle.lane_journals.specs.Places.{state_in}
use Rattle.lane_journals.specs.KeptJournals.{IsLegal}
use Rattle.lane_journals.specs.declared.event.LaneEvent.{LaneEvent}
use Rattle.lane_journals.specs.declared.event.LaneEvent.TheVariants as event
use Rattle.lane_journals.proofs.Beginnings.{before-now}
use Rattle.lane_keeping.specs.LaneKeeping.{setting_of}
use Rattle.lane_keeping.specs.Tidings.{heard_next}
use Rattle.operation_keeping.specs.Wants as wants
use Rattle.operation_keeping.specs.Wants.{Want, WantsSince, IsRun, IsCutRun, IsCutRound}
use Rattle.operation_keeping.proofs.Since.{SameStart, wants-from}
use Rattle.lane_calls.specs.LaneValues.{drawn}
use Rattle.lane_calls.specs.declared.progress.Progress.TheVariants as progress
use Rattle.lane_calls.specs.Lines.{FeedLine, Lines, begun_at, RunsTo, IsRunAt, IsRefused, IsCarriedOut}
use Rattle.lane_calls.proofs.Leaving.{leaves_run}
use Rattle.lane_calls.specs.Segments.{IsAmong, IsNext}
use Rattle.lane_calls.specs.Courses as courses
use Rattle.lane_calls.specs.Courses.{GoesTo, IsBegun, HasEnded}
use Rattle.lane_calls.specs.Growth.{IsLater, Begins, Refuses, Wants, CutsOff, Closes, Carries, Grows, Same, More}
use Rattle.lane_calls.proofs.Lists.{later-same, later-more}
use Rattle.lane_calls.proofs.Growing.{grows-heard, newest-heard, next-heard}

module _ (feeders : ℕ) (lines : Lines) (lane : Low) (rules : Rules) (line : FeedLine) where
  abbrev By : List LaneEvent → List LaneEvent → Type 0
  By J K = Grows feeders lines lane rules J K

  -- ---- from its beginning on

  module _ (among : IsAmong lines line) (I L : List LaneEvent) (d : ℕ) (s : ClusterState) (begun : IsBegun lane line L (event.Begun line.number d s.version line.operation.id (drawn line.operation.kind s.version L))) (grew : By I (begun_at line d s L)) where
    abbrev first : List LaneEvent
    first = begun_at line d s L

    -- nothing that it wants looks different from there
    same-start : (K : List LaneEvent) → IsRun lane rules line.number line.operation first K → SameStart (before_line line.number (history K)) (history first)
    same-start K run = subst (λ (B : Journal). SameStart B (history first))
        (sym ((leaves_run lane rules line.number line.operation first K run).before_is line.number ∙ before-now (history L) line.number d s.version line.operation.id (drawn line.operation.kind s.version L)))
        (record { sents = λ k. refl; rounds = λ v b. refl })

    wants-here : (K : List LaneEvent) → IsRun lane rules line.number line.operation first K → (want : Want) → wants.Wants lane rules line.number line.operation K want → WantsSince lane rules line.number line.operation (history first) K want
    wants-here K run want w = wants-from lane rules line.number line.operation (before_line line.number (history K)) (history first) (same-start K run) K want w

    run-alone : (K : List LaneEvent) → IsRun lane rules line.number line.operation first K → By I K × IsLater first K
    run-alone K wants.Same = (grew, later-same first)
    run-alone K (wants.More e M run wanted) =
        let rest = run-alone M run in (
          More e M rest.0 (elim wanted [ inl c ↦ Carries c | inr w ↦ Wants line among (record { from = first; since = rest.1; wants = wants-here M run (wants.Adds e) w }) ]),
          later-more first M e rest.1,
        )

    cut-alone : (K : List LaneEvent) → IsCutRun lane rules line.number line.operation first K → By I K
    cut-alone K c = let rest = run-alone c.0 c.1 in elim c.2 [
      | inl same ↦ subst (λ (M : List LaneEvent). By I M) (sym same) rest.0
      | inr cut ↦ subst (λ (M : List LaneEvent). By I M) (sym cut.ended) (More _ c.0 rest.0 (CutsOff (subst (IsCutRound lane c.0) cut.ended cut)))
    ]

    ended-alone : (run : List LaneEvent) (x : Outcome) → RunsTo lane rules line.number line.operation first run x → HasEnded lane rules line run x
    ended-alone run x (inl r) = record { progress = progress.Over x; course = courses.Alone L run _ (progress.Over x) begun r; ends = refl }
    ended-alone run x (inr r) = record { progress = progress.Short; course = courses.Alone L run _ progress.Short begun r.0; ends = r.1 }

    run-to : (run : List LaneEvent) (x : Outcome) → RunsTo lane rules line.number line.operation first run x → By I run
    run-to run x (inl r) = (run-alone run r.0).0
    run-to run x (inr r) = cut-alone run r.0

    closed-alone : (run : List LaneEvent) (x : Outcome) → RunsTo lane rules line.number line.operation first run x → By I (event.Closed line.number x ∷ run)
    closed-alone run x r = More (event.Closed line.number x) run (run-to run x r) (Closes line among (record { outcome = x; ended = ended-alone run x r; event = refl }))

  -- ---- it begins

  -- what a legal journal began with is legal
  legal-before : (start K : List LaneEvent) → IsLegal (setting_of lane rules) K → IsRun lane rules line.number line.operation start K → IsLegal (setting_of lane rules) start
  legal-before start K legal wants.Same = legal
  legal-before start K legal (wants.More e M run wanted) = legal-before start M legal.0 run

  legal-cut : (start K : List LaneEvent) → IsLegal (setting_of lane rules) K → IsCutRun lane rules line.number line.operation start K → IsLegal (setting_of lane rules) start
  legal-cut start K legal c = elim c.2 [
    | inl same ↦ legal-before start c.0 (subst (IsLegal (setting_of lane rules)) same legal) c.1
    | inr cut ↦ legal-before start c.0 (subst (IsLegal (setting_of lane rules)) cut.ended legal).0 c.1
  ]

  legal-first : (start run : List LaneEvent) (x : Outcome) → IsLegal (setting_of lane rules) run → RunsTo lane rules line.number line.operation start run x → IsLegal (setting_of lane rules) start
  legal-first start run x legal (inl r) = legal-before start run legal r.0
  legal-first start run x legal (inr r) = legal-cut start run legal r.0

  run-at : (d : ℕ) (s : ClusterState) (I L K : List LaneEvent) → By I L → IsNext feeders lines line L → GoesTo line.via d s L → IsOwner lane s d → IsLegal (setting_of lane rules) K → IsRunAt lane rules line d s L K → By I K
  run-at d s I L K grew next goes owns legal r =
      let before : IsLegal (setting_of lane rules) (event.Closed line.number r.outcome ∷ r.run) = subst (IsLegal (setting_of lane rules)) r.closed legal in
      let legal-begun = legal-first (begun_at line d s L) r.run r.outcome before.0 r.runs in
      let begun : IsBegun lane line L (event.Begun line.number d s.version line.operation.id (drawn line.operation.kind s.version L)) = record { distributor = d; state = s; goes = goes; holds = ((legal-begun.1).permitted).holder; owns = owns; event = refl } in
      subst (λ (M : List LaneEvent). By I M) (sym r.closed) (closed-alone next.among I L d s begun (More _ L grew (Begins line next begun)) r.run r.outcome r.runs)

  turned-away : (d : ℕ) (s : ClusterState) (J K : List LaneEvent) → line.via ≡ Some d → held d (history J) ≡ Some s.version → state_in s.version J ≡ Some s → IsNext feeders lines line J → IsRefused lane line d s J K → By J K
  turned-away d s J K via holds published next r = subst (λ (M : List LaneEvent). By J M) (sym r.refused) (More _ J Same (Refuses line next (record {
    distributor = d;
    via_is = via;
    state = s;
    holds = holds;
    published = published;
    refused = record { not_owner = r.not_owner; owner = r.owner; owns = r.owns; refused = refl };
  })))

  -- at the owner, or where the line says
  carried-out : (via : Option ℕ) → line.via ≡ via → (J K : List LaneEvent) → IsNext feeders lines line J → IsLegal (setting_of lane rules) K → IsCarriedOut lane rules line via J K → By J K
  carried-out None named J K next legal c =
      let heard = heard_next c.owner (Some c.state) J in
      run-at c.owner c.state J heard K (grows-heard feeders lines lane rules c.owner c.state J J c.newest c.owns Same) (next-heard feeders lines lane rules line c.owner c.state J next)
      (subst (λ (o : Option ℕ). GoesTo o c.owner c.state heard) (sym named) (newest-heard feeders lines lane rules c.owner c.state J c.newest)) c.owns legal c.run
  carried-out (Some d) named J K next legal c = elim c.ends [
    | inl r ↦ run-at d c.state J J K Same next (subst (λ (o : Option ℕ). GoesTo o d c.state J) (sym named) (refl, c.published)) r.0 legal r.1
    | inr r ↦ turned-away d c.state J K named c.holds c.published next r
  ]

  pub alone-grows : (J K : List LaneEvent) → IsNext feeders lines line J → IsLegal (setting_of lane rules) K → IsCarriedOut lane rules line line.via J K → By J K
  alone-grows J K next legal c = carried-out line.via refl J K next legal c
