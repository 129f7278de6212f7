-- A round that was begun, run to its end and ended in a quiet span.
use Rattle.std.proofs.Common.{◌≡◌, ◌++◌, ◌+◌, ℕ, Bool, List, [], ◌∷◌, length, refl, sym, ap, subst, ◌∙◌}
use Rattle.std.proofs.lemmas.List.{append-nil}
use Rattle.bucket_ids.specs.Buckets.{Low}
use Rattle.node_sets.specs.Members.{has_node}
use Rattle.cluster_states.specs.declared.cluster_state.ClusterState.{ClusterState}
use Rattle.carriers.specs.declared.fate.Fate.{Fate}
use Rattle.messages.specs.declared.late.Late.{Late}
use Rattle.entry_maps.specs.Entries.{documents_of}
use Rattle.pieces.specs.Runs.{AreRuns}
use Rattle.messages.specs.declared.decision.Decision.TheVariants.{RoundBegun}
use Rattle.node_model.specs.Nodes as lane
use Rattle.merge_rounds.specs.Rounds.{RoundState}
use Rattle.lane_journals.specs.Readers.{version}
use Rattle.lane_journals.specs.Places.{Setting}
use Rattle.lane_journals.specs.KeptJournals.{IsLegal}
use Rattle.lane_journals.specs.Meanings.{history}
use Rattle.lane_journals.specs.declared.event.LaneEvent.{LaneEvent}
use Rattle.lane_journals.specs.declared.event.LaneEvent.TheVariants.{Decided}
use Rattle.lane_keeping.specs.Spans.{GoBy, NodesGo}
use Rattle.lane_carriage.specs.Carriage.{IsCarried, due}
use Rattle.lane_carriage.specs.Waits.{numbers, IsWaiting}
use Rattle.lane_carriage.specs.Laws.{OfTaken}
use Rattle.round_keeping.specs.declared.round_run.RoundRun.{RoundRun}
use Rattle.round_keeping.specs.declared.round_run.RoundEnd.{RoundEnd}
use Rattle.lane_carriage.specs.Carrying.{AreCarried}
use Rattle.round_keeping.proofs.Runs.{runs-carried}
use Rattle.lane_rest.specs.Rest.{documents}
use Rattle.pass_model.specs.Scripts.{Script}
use Rattle.pass_model.specs.Shapes.{IsApart}
use Rattle.pass_model.proofs.Lanes.{seen-sound}
use Rattle.upkeep_spans.specs.Spans.{later, AreUpkeep, OfUpkeep, Nothing, More}
use Rattle.undisturbed_spans.specs.Undisturbed.{GoesUndisturbed}
use Rattle.undisturbed_spans.specs.Telling.{seen_nodes}
use Rattle.undisturbed_spans.proofs.Takings.{one-span}
use Rattle.undisturbed_spans.specs.Rounding.{applied_if}
use Rattle.undisturbed_spans.specs.Running.{RunsQuietly, IsRunTo, IsStarted}
use Rattle.undisturbed_spans.specs.Noting.{newest_in, IsRounded, IsRoundNoted}
use Rattle.undisturbed_spans.specs.Ending.{IsWholeRound, HasEnded}
use Rattle.undisturbed_spans.proofs.Bounds.{started, over, number, as-told, whole-round, fine, knows-whole, whole-over}

abbrev Nodes : Type 0
Nodes = ℕ → lane.Node

module _ (runs : (d : Script) (lane : Low) (distributor : ℕ) (s : ClusterState) (given fates : List Fate) (last : ℕ) (late rest : List Late) (J K : List LaneEvent) (old now : Nodes) (number : ℕ) (b : Low)
    → RunsQuietly d lane distributor s given fates last late rest J K old now number b → IsRunTo d s J K old now number b)
    (noted : (d : Script) (s : ClusterState) (lane : Low) (distributor : ℕ) (J K : List LaneEvent) (old now : Nodes) (number : ℕ) (r : RoundState) → IsRounded d s lane distributor J K old now number r → IsRoundNoted s K old number r)
    (counts : (d : Script) (s : ClusterState) (lane : Low) (distributor : ℕ) (J K : List LaneEvent) (old now : Nodes) (number : ℕ) (r : RoundState) (S : Setting) → IsRounded d s lane distributor J K old now number r → IsLegal S K
    → documents r.row (newest_in s old) K ≡ documents_of r.union)
    (first : (e v : ℕ) (d : Script) (given more : List Fate) (J K L : List LaneEvent) → AreUpkeep e v J K → AreUpkeep e v K L → IsCarried given K → IsCarried (given ++ more) L → GoesUndisturbed d (given ++ more) J L → GoesUndisturbed d given J K)
    (second : (e v : ℕ) (d : Script) (given more : List Fate) (J K L : List LaneEvent) → AreUpkeep e v J K → AreUpkeep e v K L → IsCarried given K → IsCarried (given ++ more) L → GoesUndisturbed d (given ++ more) J L → GoesUndisturbed d (given ++ more) K L)
    (span : OfUpkeep (λ J K. K ≡ later (length J) K ++ J)) (behind : (J N : List LaneEvent) → later (length J) (N ++ J) ≡ N)
    (waiting : OfTaken (λ given last late f taken rest. IsWaiting (given ++ f ∷ []) (last + 1) rest)) (are_due : OfTaken (λ given last late f taken rest. numbers taken ≡ due (given ++ f ∷ []) (last + 1)))
    (laid : AreRuns)
    (d : Script) (lane : Low) (key : ℕ) (J M K : List LaneEvent) (x y : RoundRun) (e : RoundEnd) (given after : List Fate) (last until : ℕ) (late rest : List Late) (old now : Nodes)
    (h : IsWholeRound d lane key J M K x y e given after last until late rest old now) where
  abbrev s : ClusterState
  s = x.state

  abbrev v : ℕ
  v = s.version

  abbrev before : List LaneEvent
  before = (h.whole).before

  abbrev fates : List Fate
  fates = ((h.whole).on).fates

  abbrev ev : LaneEvent
  ev = over lane M K x y e given after last until late rest h.whole h.goes h.is_end

  abbrev round : RoundState
  round = whole-round lane M K x y e given after last until late rest h.whole h.goes h.is_end

  abbrev told-round : RoundState
  told-round = as-told lane M K x y e given after last until late rest h.whole h.goes h.is_end

  abbrev i : ℕ
  i = number lane M K x y e given after last until late rest h.whole h.goes h.is_end

  -- ---- the spans

  on-begin : AreUpkeep x.distributor v J M
  on-begin = subst (λ (L : List LaneEvent). AreUpkeep x.distributor v J L) (sym (h.begins).grows) (More J (Decided x.distributor v (RoundBegun (x.round).row (x.round).receivers)) (refl, refl) Nothing)

  on-end : AreUpkeep x.distributor v before K
  on-end = subst (λ (L : List LaneEvent). AreUpkeep x.distributor v before L) (sym (h.whole).ended)
      (More before ev (ap (λ (q : RoundRun). q.distributor) ((h.whole).same).run_is, ap (λ (q : RoundRun). (q.state).version) ((h.whole).same).run_is) Nothing)

  then : (I L N : List LaneEvent) → AreUpkeep x.distributor v I L → AreUpkeep x.distributor v L N → AreUpkeep x.distributor v I N
  then I L N a Nothing = a
  then I L N a (More O o is b) = More O o is (then I L O a b)

  start : IsStarted s given last late M i (x.round).row
  start = started lane key J M x h.begins given last late h.carried h.current h.few

  carried-then : AreCarried after before until rest
  carried-then = runs-carried waiting are_due lane x.distributor s given after last until late rest M before (h.whole).on start.carried

  fates-are : after ≡ given ++ fates
  fates-are = ((h.whole).on).given_are

  quiet-behind : GoesUndisturbed d after M K
  quiet-behind = subst (λ (f : List Fate). GoesUndisturbed d f M K) (sym fates-are)
      (second x.distributor v d given fates J M K on-begin (then M before K h.on on-end) (start.carried).carried
      (subst (λ (f : List Fate). IsCarried f K) fates-are h.carried_then) (subst (λ (f : List Fate). GoesUndisturbed d f J K) fates-are h.quiet))

  quiet-run : GoesUndisturbed d after M before
  quiet-run = first x.distributor v d after [] M before K h.on on-end carried-then.carried
      (subst (λ (f : List Fate). IsCarried f K) (sym (append-nil after)) h.carried_then) (subst (λ (f : List Fate). GoesUndisturbed d f M K) (sym (append-nil after)) quiet-behind)

  nodes-run : NodesGo M old before now
  nodes-run = record { span = later (length M) before; grows = grown; went = subst (λ (N : List LaneEvent). GoBy N M old now) same (h.nodes).went }
    where
      grown : before ≡ later (length M) before ++ M
      grown = span x.distributor v M before h.on

      same : (h.nodes).span ≡ ev ∷ later (length M) before
      same = one-span behind M K (h.nodes).span (ev ∷ later (length M) before) (h.nodes).grows ((h.whole).ended ∙ ap (λ (L : List LaneEvent). ev ∷ L) grown)

  -- ---- the round

  run : IsRunTo d s M before old now i (x.round).row
  run = runs d lane x.distributor s given fates last late rest M before old now i (x.round).row (record {
    started = start;
    run = ((h.whole).on).run;
    nodes = nodes-run;
    quiet = subst (λ (f : List Fate). GoesUndisturbed d f M before) fates-are quiet-run;
    fine = fine lane M K x y e given after last until late rest h.whole h.goes h.is_end h.all_read h.all_applied;
  })

  rounded : IsRounded d s lane x.distributor M before old now i round
  rounded = record {
    has = run.has;
    knows = knows-whole lane M K x y e given after last until late rest h.whole h.goes h.is_end;
    over = whole-over lane M K x y e given after last until late rest h.whole h.goes h.is_end;
    valid = h.few;
  }

  is-noted : IsRoundNoted s before old i round
  is-noted = noted d s lane x.distributor M before old now i round rounded

  apart : (n : ℕ) → IsApart (old n).pieces
  apart n = (seen-sound (d n) 0 laid (old n) (h.valid n)).apart

  legal-before : IsLegal h.setting before
  legal-before = (subst (λ (L : List LaneEvent). IsLegal h.setting L) (h.whole).ended h.legal).0

  seen-by : (n : ℕ) → seen_nodes d K now n ≡ applied_if (has_node (x.round).receivers n) (x.round).row (newest_in s old) (seen_nodes d J old n)
  seen-by n =
      ap (λ (L : List LaneEvent). seen_nodes d L now n) (h.whole).ended
      ∙ ((run.has).seen n
      ∙ (ap (λ (t : Bool). applied_if t (x.round).row (newest_in s old) (seen_nodes d M old n)) (is-noted.told n)
      ∙ ap (λ (L : List LaneEvent). applied_if (has_node (x.round).receivers n) (x.round).row (newest_in s old) (seen_nodes d L old n)) (h.begins).grows))

  versions-by : (n : ℕ) → version n (history K) ≡ version n (history J)
  versions-by n = ap (λ (L : List LaneEvent). version n (history L)) (h.whole).ended ∙ (run.versions n ∙ ap (λ (L : List LaneEvent). version n (history L)) (h.begins).grows)

  counted-by : documents (x.round).row (newest_in s old) K ≡ documents_of (y.round).union
  counted-by = ap (λ (L : List LaneEvent). documents (x.round).row (newest_in s old) L) (h.whole).ended ∙ counts d s lane x.distributor M before old now i round h.setting rounded legal-before

  told-so : HasEnded d s J K old now told-round
  told-so = record {
    whole = is-noted.whole;
    answering = λ n g. sym (((rounded.knows).answers).readers_are n) ∙ ((rounded.knows).answers).reading n g;
    taking = (rounded.knows).receivers_serve;
    seen = seen-by;
    versions = versions-by;
    holders = is-noted.holders;
    counted = counted-by;
    shapes = λ n g. is-noted.shapes n g (apart n);
    over = λ n g any. is-noted.over n g (apart n) any;
    inside = λ n g any. is-noted.inside n g (apart n) any;
  }

  pub has-ended : HasEnded d s J K old now y.round
  has-ended = subst (λ (q : RoundState). HasEnded d s J K old now q) (sym (h.goes).round_is) told-so
