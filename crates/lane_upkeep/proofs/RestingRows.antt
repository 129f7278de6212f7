-- The nodes and rows of a lane after a pass are those of its journal.
use Rattle.std.proofs.Common.{◌≡◌, ◌^◌, ◌<◌, ℕ, Bool, true, false, List, [], ◌∷◌, map, Option, Some, None, if◌then◌else◌, inl, inr, refl, ap, subst}
use Rattle.std.specs.BTreeMap.{BTreeMap}
use Rattle.cluster_states.specs.Publishing.{serves}
use Rattle.bucket_db.specs.declared.row.Row.{Row}
use Rattle.node_model.specs.Nodes as service
use Rattle.lane_journals.specs.Buckets.{contains}
use Rattle.lane_journals.specs.Readers.{version}
use Rattle.lane_journals.specs.Legal.{Legal}
use Rattle.lane_journals.specs.RowLists as listed
use Rattle.lane_journals.specs.RowLists.{IsIn, row_with, rows}
use Rattle.lane_journals.specs.Meanings.{history}
use Rattle.lane_journals.specs.declared.event.LaneEvent.{LaneEvent}
use Rattle.lane_journals.proofs.BucketLaws.{own-low}
use Rattle.lane_journals.proofs.Parted.{PartedRows, parted, in-list}
use Rattle.lane_keeping.specs.NodeKeeping.{NodeKeeps}
use Rattle.lane_keeping.specs.LaneKeeping.{node_in, row_by, IsRow, IsRowOf}
use Rattle.lane_states.specs.declared.lane_state.LaneState.{LaneState}
use Rattle.lane_states.specs.LaneStates.{journal_of, IsKept}
use Rattle.pass_model.specs.Nodes.{Node}
use Rattle.pass_model.specs.Rows as rest
use Rattle.pass_model.specs.Passes.{In}
use Rattle.pass_model.specs.Worlds.{IsSaid, HasMarks, IsWorldOf}
use Rattle.pass_model.specs.Lanes.{seen_node}
use Rattle.pass_model.specs.Scripts.{Script, came}
use Rattle.lane_upkeep.specs.declared.owner.Owner.{Owner}
use Rattle.pass_machine.specs.declared.notes.RowNote.{RowNote}
use Rattle.lane_upkeep.specs.Passing.{rows_in}
use Rattle.cluster_states.specs.declared.cluster_state.ClusterState.{ClusterState}
use Rattle.pass_model.specs.Rows.{Settings}
use Rattle.pass_machine.specs.Notes.{note_for, whole_in}
use Rattle.pass_runs.specs.Worlds.{row_of}
use Rattle.pass_runs.specs.Worlds as worlds
use Rattle.lane_upkeep.specs.Quiet.{world_in}

-- ---- rows of a list

-- a row of the journal fits its bits
row-fits : (r : listed.Row) (rs : List listed.Row) → PartedRows rs → IsIn r rs → (r.bucket).low < 2 ^ (r.bucket).bits
row-fits r [] p h = absurd h
row-fits r (q ∷ rs) p (inl is) = subst (λ (x : listed.Row). (x.bucket).low < 2 ^ (x.bucket).bits) is p.0
row-fits r (q ∷ rs) p (inr h) = row-fits r rs p.2 h

-- the row with a key is in the list
by-in : (f : Row → rest.Row) (key : ℕ) (rs : List Row) (r : Row) → row_by key rs ≡ Some r → In (f r) (map f rs)
by-in f key [] r e = cc
by-in f key (q ∷ rs) r e = by_test (contains q.bucket key) e (by-in f key rs r)
  where
    by_test : (t : Bool) → (if t then Some q else row_by key rs) ≡ Some r → (row_by key rs ≡ Some r → In (f r) (map f rs)) → In (f r) (map f (q ∷ rs))
    by_test true e ih = inl (ap f (same q r e))
      where
        same : (x y : Row) → ◌≡◌ {A = Option Row} (Some x) (Some y) → y ≡ x
        same x y e = cc
    by_test false e ih = inr (ih e)

-- a row with a note or without has the row's marks
row-marks : (state : ClusterState) (still : ℕ → Node) (note : Option RowNote) (r : Row) (row : listed.Row) → IsRow r row → HasMarks row (worlds.row_by state still note r)
row-marks state still None r row is = record { bucket = is.bucket_is; complete = is.complete_is; active = is.active_is }
row-marks state still (Some note) r row is = record { bucket = is.bucket_is; complete = is.complete_is; active = is.active_is }

record HasRowOf (o : Option Row) (row : listed.Row) : Type 0 where
  found : Row
  there : o ≡ Some found
  is : IsRow found row

row-of : (o : Option Row) (row : listed.Row) → IsRowOf o (Some row) → HasRowOf o row
row-of None row h = absurd h
row-of (Some r) row h = record { found = r; there = refl; is = h }

-- ---- the world

module _ (said : (J : List LaneEvent) (n many : ℕ) (doubled : ℕ → Bool) (y : service.Node) → NodeKeeps J n y → IsSaid n (history J) (seen_node doubled many y))
    (acks : ℕ) (P : ℕ → ℕ → Bool) (d : Script) (s : Settings) (still : ℕ → Node) (e : LaneState) (o : Owner) (notes : BTreeMap ℕ RowNote) where
  row-there : Legal acks P (history (journal_of e)) → ((key : ℕ) → IsRowOf (row_by key (rows_in e o)) (row_with key (rows (o.state).version (history (journal_of e)))))
      → (row : listed.Row) → IsIn row (rows (o.state).version (history (journal_of e))) → (r : rest.Row) × In r (map (row_of o.state still notes) (rows_in e o)) × HasMarks row r
  row-there legal are row h =
      let apart : PartedRows (rows (o.state).version (history (journal_of e))) = parted acks P (history (journal_of e)) legal (o.state).version in
      let key : ℕ = (row.bucket).low in
      let found : row_with key (rows (o.state).version (history (journal_of e))) ≡ Some row = in-list row (rows (o.state).version (history (journal_of e))) apart h key (own-low row.bucket (row-fits row (rows (o.state).version (history (journal_of e))) apart h)) in
      let x : HasRowOf (row_by key (rows_in e o)) row = row-of (row_by key (rows_in e o)) row (subst (λ (z : Option listed.Row). IsRowOf (row_by key (rows_in e o)) z) found (are key)) in
      (row_of o.state still notes x.found, by-in (row_of o.state still notes) key (rows_in e o) x.found x.there, row-marks o.state still (whole_in (note_for (x.found).bucket notes)) x.found row x.is)

  pub world-of : Legal acks P (history (journal_of e)) → IsKept e → ((n : ℕ) → serves o.state n ≡ true → version n (history (journal_of e)) ≡ (o.state).version)
      → ((key : ℕ) → IsRowOf (row_by key (rows_in e o)) (row_with key (rows (o.state).version (history (journal_of e))))) → IsWorldOf o.state (journal_of e) (world_in d s still e o notes)
  world-of legal kept current are = record {
    nodes = λ n. said (journal_of e) n (came n (history (journal_of e))) (d n) (node_in e.nodes.items n) ((kept.keeps).nodes_are n);
    current = current;
    rows = row-there legal are;
  }
