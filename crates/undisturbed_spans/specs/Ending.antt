-- A round that a lane begins, runs to its end and ends, in a quiet span.
use Rattle.std.specs.Prelude.{◌≡◌, ◌⊎◌, ◌<◌, ℕ, true, false, List}
use Rattle.std.specs.List.{list_any}
use Rattle.bucket_ids.specs.Buckets.{Low}
use Rattle.node_sets.specs.Members.{has_node}
use Rattle.cluster_states.specs.declared.cluster_state.ClusterState.{ClusterState}
use Rattle.cluster_states.specs.Publishing.{serves}
use Rattle.carriers.specs.declared.fate.Fate.{Fate}
use Rattle.entry_maps.specs.Entries.{documents_of}
use Rattle.messages.specs.declared.late.Late.{Late}
use Rattle.replica_store.specs.Replicas.{IsReplica}
use Rattle.node_model.specs.Nodes.{Node, stored}
use Rattle.merge_rounds.specs.Rounds.{RoundState, HaveAllShown, did_show, pieces_by}
use Rattle.lane_journals.specs.Readers.{version}
use Rattle.lane_journals.specs.Places.{Setting}
use Rattle.lane_journals.specs.KeptJournals.{IsLegal}
use Rattle.lane_journals.specs.Meanings.{history}
use Rattle.lane_journals.specs.declared.event.LaneEvent.{LaneEvent}
use Rattle.lane_keeping.specs.Spans.{NodesGo}
use Rattle.lane_carriage.specs.Carriage.{IsCarried}
use Rattle.round_keeping.specs.declared.round_run.RoundRun.{RoundRun}
use Rattle.round_keeping.specs.declared.round_run.RoundEnd.{RoundEnd}
use Rattle.lane_carriage.specs.Carrying.{AreCarried}
use Rattle.round_keeping.specs.RoundRuns.{GoesOn, Begins, IsEnd, IsWholeRun}
use Rattle.lane_rest.specs.Rest.{documents}
use Rattle.pass_model.specs.Scripts.{Script}
use Rattle.pass_model.specs.Shapes.{Over, Inside, shape_of}
use Rattle.upkeep_spans.specs.Spans.{AreUpkeep}
use Rattle.pass_model.specs.Shown.{lies_over, lies_inside, shape_shown}
use Rattle.undisturbed_spans.specs.Undisturbed.{GoesUndisturbed}
use Rattle.undisturbed_spans.specs.Telling.{seen_nodes}
use Rattle.undisturbed_spans.specs.Rounding.{applied_if}
use Rattle.undisturbed_spans.specs.Noting.{newest_in}

-- the round was begun, run to its end and ended, and no node wanted memory for it; the span is quiet, and each node that
-- serves knew the version when it began
pub record IsWholeRound (d : Script) (lane : Low) (key : ℕ) (J M K : List LaneEvent) (x y : RoundRun) (e : RoundEnd) (given after : List Fate) (last until : ℕ) (late rest : List Late) (old now : ℕ → Node) : Type 0 where
  pub begins : Begins lane J M x.distributor key x
  pub whole : IsWholeRun lane x e given after last until late rest M K
  pub goes : GoesOn x y
  pub is_end : IsEnd K y e
  pub all_read : y.unread ≡ false
  pub all_applied : y.unapplied ≡ false
  pub on : AreUpkeep x.distributor (x.state).version M whole.before
  pub nodes : NodesGo M old K now
  pub carried : AreCarried given J last late
  pub carried_then : IsCarried after K
  pub quiet : GoesUndisturbed d after J K
  pub current : (n : ℕ) → serves x.state n ≡ true → version n (history J) ≡ (x.state).version
  pub few : (n : ℕ) → serves x.state n ≡ true → n < 32
  pub valid : (n : ℕ) → IsReplica (stored (old n))
  pub setting : Setting
  pub legal : IsLegal setting K

-- all who serve answered, and nobody else; just the receivers were told the union, and all of them took it; and what was
-- shown is how the pieces stood
pub record HasEnded (d : Script) (s : ClusterState) (J K : List LaneEvent) (old now : ℕ → Node) (r : RoundState) : Type 0 where
  pub whole : HaveAllShown r.readers r.shown
  pub answering : (n : ℕ) → did_show n r.shown ≡ true → serves s n ≡ true
  pub taking : (n : ℕ) → has_node r.receivers n ≡ true → serves s n ≡ true
  pub seen : (n : ℕ) → seen_nodes d K now n ≡ applied_if (has_node r.receivers n) r.row (newest_in s old) (seen_nodes d J old n)
  pub versions : (n : ℕ) → version n (history K) ≡ version n (history J)
  pub holders : (n : ℕ) → has_node r.holders n ≡ has_node r.receivers n
  pub counted : documents r.row (newest_in s old) K ≡ documents_of r.union
  pub shapes : (n : ℕ) → serves s n ≡ true → shape_shown r.row (pieces_by n r.shown) ≡ shape_of r.row (old n).pieces
  pub over : (n : ℕ) → serves s n ≡ true → list_any (lies_over r.row) (pieces_by n r.shown) ≡ true → shape_shown r.row (pieces_by n r.shown) ≡ Over
  pub inside : (n : ℕ) → serves s n ≡ true → list_any (lies_inside r.row) (pieces_by n r.shown) ≡ true
      → (shape_shown r.row (pieces_by n r.shown) ≡ Over) ⊎ (shape_shown r.row (pieces_by n r.shown) ≡ Inside)
