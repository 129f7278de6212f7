-- What a round of the row of a place leaves.
use Rattle.std.proofs.Common.{◌≡◌, ◌≢◌, ◌||◌, ℕ, zero, suc, List, [], ◌∷◌, Option, None, Some, slice_get, refl, sym, ap, subst, ◌∙◌}
use Rattle.bucket_ids.specs.Buckets.{Low}
use Rattle.node_sets.specs.Members.{has_node}
use Rattle.cluster_states.specs.declared.cluster_state.ClusterState.{ClusterState}
use Rattle.carriers.specs.declared.fate.Fate.{Fate}
use Rattle.messages.specs.declared.late.Late.{Late}
use Rattle.bucket_db.specs.Changes.{at_row}
use Rattle.bucket_db.specs.Rows.{Rows, buckets_of}
use Rattle.bucket_db.specs.declared.row.Row.{Row}
use Rattle.distributor_part.specs.declared.rules.Rules.{Rules}
use Rattle.distributor_part.specs.declared.stage.Stage.{Stage}
use Rattle.distributor_part.specs.declared.stage.Stage.TheVariants.{Before, Running, Over}
use Rattle.distributor_part.specs.Parts.{Part, rows_of}
use Rattle.distributor_part.specs.Steps.{with_marks}
use Rattle.distributor_part.specs.Upkeep.{BeginsRoundAt}
use Rattle.merge_rounds.specs.Rounds.{RoundState}
use Rattle.node_model.specs.Nodes.{Node}
use Rattle.lane_keeping.specs.Spans.{NodesGo}
use Rattle.lane_journals.specs.declared.event.LaneEvent.{LaneEvent}
use Rattle.lane_keeping.specs.LaneKeeping.{node_in, part_in}
use Rattle.lane_keeping.specs.Acting.{IsActing}
use Rattle.lane_keeping.specs.Asking.{OthersStay}
use Rattle.lane_keeping.specs.RoundKeeping.{KnowsAnswers}
use Rattle.round_keeping.specs.declared.round_run.RoundRun.{RoundRun}
use Rattle.round_keeping.specs.declared.round_run.RoundEnd.{RoundEnd}
use Rattle.lane_states.specs.declared.lane_state.LaneState.{LaneState}
use Rattle.lane_states.specs.LaneStates.{journal_of, part_of, NodesOn, IsResting}
use Rattle.round_keeping.specs.RoundRuns.{GoesOn, Begins, EndsRun, IsEnd, IsWholeRun}
use Rattle.round_keeping.proofs.Staying.{stays-round}
use Rattle.lane_states.proofs.SameStates.{same-state}
use Rattle.upkeep_spans.specs.Spans.{AreUpkeep}
use Rattle.lane_upkeep.specs.declared.owner.Owner.{Owner}
use Rattle.pass_machine.specs.declared.notes.RowNote.{RowNote}
use Rattle.lane_upkeep.specs.Passing.{IsPassing}
use Rattle.lane_upkeep.specs.Notes.{KnowsNote}
use Rattle.lane_upkeep.specs.RoundNotes.{GainsMarks, RanRound}
use Rattle.lane_upkeep.proofs.Upkept.{upkeep-then, upkeep-begun}
use Rattle.lane_upkeep.proofs.NotesStay.{note-message, note-begun, note-ended}

-- ---- marks

-- a change that leaves buckets leaves all of them
pub buckets-at : (at : ℕ) (f : Row → Row) (rows : List Row) → ((r : Row) → (f r).bucket ≡ r.bucket) → buckets_of (at_row at f rows) ≡ buckets_of rows
buckets-at at f [] same = refl
buckets-at zero f (r ∷ rows) same = ap (λ (b : Low). b ∷ buckets_of rows) (same r)
buckets-at (suc at) f (r ∷ rows) same = ap (λ (bs : List Low). r.bucket ∷ bs) (buckets-at at f rows same)

pub buckets-gained : (p q : Part) (at complete : ℕ) → GainsMarks p q at complete → buckets_of (rows_of q.rows) ≡ buckets_of (rows_of p.rows)
buckets-gained p q at complete g =
    ap (λ (z : Part). buckets_of (rows_of z.rows)) g.after
    ∙ buckets-at at (λ r. record r { complete = g.marks }) (g.rows).rows (λ r. refl)
    ∙ sym (ap (λ (o : Option Rows). buckets_of (rows_of o)) g.opened)

over-same : (a b c d e f : ℕ) → ◌≡◌ {A = Stage} (Over a b c) (Over d e f) → (a ≡ d) × (b ≡ e)
over-same a b c d e f h = (cc, cc)

running-same : (a b c d : ℕ) → ◌≡◌ {A = Stage} (Running a b) (Running c d) → a ≡ c
running-same a b c d h = cc

-- the part began the round of the place, and it ended with these holders
module _ (p q r : Part) (at : ℕ) (x y : RoundRun) (row : Row) (rest : IsResting p) (b : BeginsRoundAt p q at (x.round).row (x.round).receivers) (go : GoesOn x y) (e : EndsRun q r y row) where
  told-place : (e.told).at ≡ at
  told-place = running-same (e.told).at (e.told).receivers at (x.round).receivers (sym (e.told).running ∙ ap (λ (z : Part). z.stage) b.after)

  stages : (((e.ends).ends).at ≡ (e.told).at) × ((e.ends).complete ≡ (y.round).holders)
  stages = let h = over-same ((e.ends).ends).at (e.ends).complete ((e.ends).ends).missing (e.told).at (y.round).holders (e.told).missing
      (sym ((e.ends).ends).over ∙ ap (λ (z : Part). z.stage) (e.told).after) in h

  place : ((e.ends).ends).at ≡ at
  place = stages.0 ∙ told-place

  opened-is : p.rows ≡ Some ((e.ends).ends).rows
  opened-is = sym (ap (λ (z : Part). z.rows) b.after) ∙ sym (ap (λ (z : Part). z.rows) (e.told).after) ∙ ((e.ends).ends).opened

  abbrev marked : Option Rows
  marked = Some (with_marks ((e.ends).ends).rows ((e.ends).ends).at ((e.ends).ends).marks)

  still : record p { asked = 0; awaited = None; stage = Before; rows = marked } ≡ record p { rows = marked }
  still = ap (λ (n : ℕ). record p { asked = n; awaited = None; stage = Before; rows = marked }) (sym rest.unasked)
      ∙ ap (λ (n : Option ℕ). record p { awaited = n; stage = Before; rows = marked }) (sym rest.told)
      ∙ ap (λ (s : Stage). record p { stage = s; rows = marked }) (sym rest.no_round)

  ended-is : r ≡ record p { rows = marked }
  ended-is = (e.ends).after
      ∙ ap (λ (z : Part). record z { asked = 0; awaited = None; stage = Before }) ((e.ends).ends).after
      ∙ ap (λ (z : Part). record z { asked = 0; awaited = None; stage = Before; rows = marked }) (e.told).after
      ∙ ap (λ (z : Part). record z { asked = 0; awaited = None; stage = Before; rows = marked }) b.after
      ∙ still

  pub gains-of : GainsMarks p r at (y.round).holders
  gains-of = record {
    rows = ((e.ends).ends).rows;
    row = ((e.ends).ends).row;
    opened = opened-is;
    found = subst (λ (i : ℕ). slice_get (((e.ends).ends).rows).rows i ≡ Some ((e.ends).ends).row) place ((e.ends).ends).found;
    marks = ((e.ends).ends).marks;
    gained = subst (λ (set : ℕ). (n : ℕ) → has_node ((e.ends).ends).marks n ≡ (has_node (((e.ends).ends).row).complete n || has_node set n)) stages.1 ((e.ends).ends).gained;
    after = subst (λ (i : ℕ). r ≡ record p { rows = Some (with_marks ((e.ends).ends).rows i ((e.ends).ends).marks) }) place ended-is;
  }

-- the round's bucket is that of the row
pub row-of : (p q : Part) (at : ℕ) (bucket : Low) (receivers : ℕ) (row : Row) → BeginsRoundAt p q at bucket receivers → slice_get (rows_of p.rows) at ≡ Some row → bucket ≡ row.bucket
row-of p q at bucket receivers row b found =
    let here : slice_get (b.rows).rows at ≡ Some row = sym (ap (λ (o : Option Rows). slice_get (rows_of o) at) (b.opened).opened) ∙ found in
    let same : b.row ≡ row = (let h = sym b.found ∙ here in cc) in
    b.same_bucket ∙ ap (λ (x : Row). x.bucket) same

-- ---- what is known of other rows

module _ (s : ClusterState) (note : RowNote) (lane : Low) (x : RoundRun) (off : note.bucket ≢ (x.round).row) where
  pub note-whole : (d key : ℕ) (e : RoundEnd) (given after : List Fate) (last now : ℕ) (late rest : List Late) (I J K : List LaneEvent) → Begins lane I J d key x → IsWholeRun lane x e given after last now late rest J K → KnowsNote I s note → KnowsNote K s note
  note-whole d key e given after last now late rest I J K b w k =
      subst (λ (L : List LaneEvent). KnowsNote L s note) (sym w.ended)
      (note-ended s note (w.run).distributor ((w.run).state).version ((w.run).round).row ((w.run).round).holders w.before
      (stays-round (λ (L : List LaneEvent). KnowsNote L s note) (note-message s note) lane x.distributor x.state last late J (w.on).fates rest w.before (w.on).run
      (subst (λ (L : List LaneEvent). KnowsNote L s note) (sym b.grows) (note-begun s note d (x.state).version (x.round).row (x.round).receivers I off k))))

-- ---- a round that began, and what it ended as

module _ (x m n : LaneState) (o : Owner) (at : ℕ) (run y : RoundRun) (row : Row) (given : List Fate) (p : IsPassing x o given)
    (begins : Begins x.lane (journal_of x) (journal_of m) o.distributor run.key run)
    (step : BeginsRoundAt (part_of x o.distributor) (part_of m o.distributor) at (run.round).row (run.round).receivers)
    (go : GoesOn run y) (job : EndsRun (part_of m run.distributor) (part_of n run.distributor) y row) where
  acting-then : IsActing x.lane (journal_of m) o.distributor o.state
  acting-then = subst (λ (J : List LaneEvent). IsActing x.lane J o.distributor o.state) (sym begins.grows)
      (record { holds = (p.acting).holds; published = (p.acting).published; owner = (p.acting).owner })

  pub state-is : run.state ≡ o.state
  state-is = same-state x.lane (journal_of m) o.distributor run.state o.state
      (subst (λ (k : ℕ). IsActing x.lane (journal_of m) k run.state) begins.distributor_is (begins.runs).acting) acting-then

  pub gains-left : GainsMarks (part_of x o.distributor) (part_of n o.distributor) at (y.round).holders
  gains-left = gains-of (part_of x o.distributor) (part_of m o.distributor) (part_of n o.distributor) at run y row p.resting step go
      (subst (λ (k : ℕ). EndsRun (part_of m k) (part_of n k) y row) begins.distributor_is job)

  pub upkeep-left : AreUpkeep run.distributor (run.state).version (journal_of m) (journal_of n) → AreUpkeep o.distributor (o.state).version (journal_of x) (journal_of n)
  upkeep-left u = upkeep-then o.distributor (o.state).version (journal_of x) (journal_of m) (journal_of n)
      (subst (λ (s : ClusterState). AreUpkeep o.distributor s.version (journal_of x) (journal_of m)) state-is (upkeep-begun x.lane (journal_of x) (journal_of m) o.distributor run.key run begins))
      (subst (λ (k : ℕ). AreUpkeep k (o.state).version (journal_of m) (journal_of n)) begins.distributor_is (subst (λ (s : ClusterState). AreUpkeep run.distributor s.version (journal_of m) (journal_of n)) state-is u))

  -- the parts of others
  pub others-left : m.lane ≡ x.lane → m.rules ≡ x.rules → OthersStay x.lane x.rules x.parts.items m.parts.items o.distributor → OthersStay m.lane m.rules m.parts.items n.parts.items run.distributor
      → OthersStay x.lane x.rules x.parts.items n.parts.items o.distributor
  others-left lane rules first then k off =
      subst (λ (l : Low). part_in l x.rules n.parts.items k ≡ part_in l x.rules m.parts.items k) lane
      (subst (λ (r : Rules). part_in m.lane r n.parts.items k ≡ part_in m.lane r m.parts.items k) rules (then k (λ same. off (same ∙ begins.distributor_is))))
      ∙ first k off

  -- the answers of the round
  pub answers-left : KnowsAnswers (journal_of n) y.state y.round → KnowsAnswers (journal_of n) o.state y.round
  answers-left k = subst (λ (s : ClusterState). KnowsAnswers (journal_of n) s y.round) (ap (λ (z : RoundRun). z.state) go.run_is ∙ state-is) k

  -- the round as it was begun and run, in the words of the lane before
  pub ran-left : (z : LaneState) → m ≡ record z { journal = m.journal; parts = m.parts } → z.lane ≡ x.lane → z.last ≡ x.last → z.late.late ≡ x.late.late → z.nodes.items ≡ x.nodes.items → NodesOn m n → (e : RoundEnd) (before after : List Fate)
      → IsWholeRun m.lane run e before after m.last n.last m.late.late n.late.late (journal_of m) (journal_of n) → IsEnd (journal_of n) y e → RanRound x n o at before after y
  ran-left z same lane last late nodes took e before after whole end = record {
    begun = run;
    state_is = state-is;
    part = part_of m o.distributor;
    step = step;
    journal = journal_of m;
    begins = begins;
    goes = go;
    end = e;
    whole = subst (λ (l : Low). IsWholeRun l run e before after x.last n.last x.late.late n.late.late (journal_of m) (journal_of n)) (ap (λ (w : LaneState). w.lane) same ∙ lane)
        (subst (λ (i : ℕ). IsWholeRun m.lane run e before after i n.last x.late.late n.late.late (journal_of m) (journal_of n)) (ap (λ (w : LaneState). w.last) same ∙ last)
        (subst (λ (ls : List Late). IsWholeRun m.lane run e before after m.last n.last ls n.late.late (journal_of m) (journal_of n)) (ap (λ (w : LaneState). w.late.late) same ∙ late) whole));
    is_end = end;
    nodes = subst (λ (ns : List Node). NodesGo (journal_of m) (node_in ns) (journal_of n) (node_in n.nodes.items)) (ap (λ (w : LaneState). w.nodes.items) same ∙ nodes) took;
  }

  pub row-left : (r : Row) → slice_get (rows_of (part_of x o.distributor).rows) at ≡ Some r → (y.round).row ≡ r.bucket
  row-left r found = ap (λ (z : RoundState). z.row) go.round_is ∙ row-of (part_of x o.distributor) (part_of m o.distributor) at (run.round).row (run.round).receivers r step found
