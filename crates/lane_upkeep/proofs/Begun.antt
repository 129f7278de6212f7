-- A pass may begin wherever one is under way: what is asked of nodes and rows there holds at any time.
use Rattle.std.proofs.Common.{◌≡◌, ◌∙◌, ℕ, suc, Bool, true, false, List, [], ◌∷◌, map, Option, Some, None, refl, sym, ap, subst, slice_get, eqb-true}
use Rattle.std.specs.List.{list_any}
use Rattle.std.specs.BTreeMap.{BTreeMap}
use mathlib.Core.Bool.{true≢false}
use Rattle.bucket_ids.specs.Buckets.{Low, IsBucket, has_key}
use Rattle.carriers.specs.declared.fate.Fate.{Fate}
use Rattle.bucket_db.specs.Rows.{Rows, AreRows, buckets_of}
use Rattle.bucket_db.specs.declared.row.Row.{Row}
use Rattle.cluster_states.specs.declared.cluster_state.ClusterState.{ClusterState}
use Rattle.cluster_states.specs.Publishing.{serves}
use Rattle.replica_store.specs.Replicas.{IsReplica}
use Rattle.node_model.specs.Nodes.{Node, stored}
use Rattle.distributor_part.specs.Parts.{rows_of, version_of}
use Rattle.lane_journals.specs.Readers.{Journal}
use Rattle.lane_journals.specs.Facts.{InRegion}
use Rattle.lane_journals.specs.Meanings.{history}
use Rattle.lane_keeping.proofs.Holding.{regions-hold}
use Rattle.lane_keeping.specs.LaneKeeping.{node_in, setting_of}
use Rattle.row_keeping.proofs.Serving.{actives}
use Rattle.lane_rest.specs.Targets.{is_active}
use Rattle.pass_model.specs.Nodes as rest_nodes
use Rattle.pass_model.specs.Rows as rest
use Rattle.pass_model.specs.Rows.{Settings}
use Rattle.pass_model.specs.Passes.{AllRows}
use Rattle.pass_model.specs.Shapes.{IsSound, IsActiveOn}
use Rattle.pass_model.specs.Resting.{IsRow, HasBegun}
use Rattle.pass_model.specs.Lanes.{seen_node}
use Rattle.pass_model.specs.Scripts.{Script, came}
use Rattle.lane_states.specs.declared.lane_state.LaneState.{LaneState}
use Rattle.lane_states.specs.LaneStates.{journal_of, part_of}
use Rattle.lane_states.specs.Accepting.{IsAccepted}
use Rattle.lane_rounds.proofs.RowLists.{all-get}
use Rattle.lane_upkeep.specs.declared.owner.Owner.{Owner}
use Rattle.pass_machine.specs.declared.notes.RowNote.{RowNote}
use Rattle.lane_upkeep.specs.Passing.{IsPassing, rows_in, HasRow}
use Rattle.pass_runs.proofs.Orders.{rows_apart}
use Rattle.pass_machine.specs.Notes.{note_for, whole_in}
use Rattle.pass_machine.specs.Abstract.{is_accepted}
use Rattle.pass_runs.specs.Worlds.{row_by, row_of}
use Rattle.pass_runs.proofs.Rows.{row_by_bucket, row_valid}
use Rattle.lane_upkeep.specs.Quiet.{nodes_in, IsCurrent, world_in, AreSettingsIn}

-- ---- rows of a list

-- what holds of each row of a place holds of the rows that they become
all-of-places : (Q : rest.Row → Type 0) (f : Row → rest.Row) (rows : List Row) → ((at : ℕ) (row : Row) → slice_get rows at ≡ Some row → Q (f row)) → AllRows Q (map f rows)
all-of-places Q f [] h = tt
all-of-places Q f (r ∷ rows) h = (h 0 r refl, all-of-places Q f rows (λ at row found. h (suc at) row found))

-- ---- a row with its note or without one

module _ (state : ClusterState) (still : ℕ → rest_nodes.Node) (row : Row) where
  with-active : (note : Option RowNote) → (row_by state still note row).active ≡ row.active
  with-active None = refl
  with-active (Some note) = refl

  with-accepted : (note : Option RowNote) → (row_by state still note row).accepted ≡ is_accepted row.active row.accepted
  with-accepted None = refl
  with-accepted (Some note) = refl

active-is : (active : Option ℕ) (n : ℕ) → is_active active n ≡ true → active ≡ Some n
active-is None n h = absurd (true≢false (sym h))
active-is (Some m) n h = ap (λ (k : ℕ). Some k) (eqb-true m n h)

accepted-is : (active : Option ℕ) (accepted : Bool) → is_accepted active accepted ≡ true → accepted ≡ true
accepted-is None accepted h = absurd (true≢false (sym h))
accepted-is (Some m) accepted h = h

none-accepted : (active : Option ℕ) (accepted : Bool) → active ≡ None → is_accepted active accepted ≡ false
none-accepted active accepted is = ap (λ (a : Option ℕ). is_accepted a accepted) is

some-same : (o : Option ℕ) (m n : ℕ) → o ≡ Some m → o ≡ Some n → m ≡ n
some-same o m n a b = let e : Some m ≡ Some n = sym a ∙ b in cc

-- ---- the lane

module _ (sound : (many : ℕ) (doubled : ℕ → Bool) (y : Node) → IsReplica (stored y) → IsSound (seen_node doubled many y))
    (d : Script) (c : LaneState) (o : Owner) (given : List Fate) (s : Settings) (still : ℕ → rest_nodes.Node) (notes : BTreeMap ℕ RowNote) (whole : AreRows c.lane (buckets_of (rows_in c o))) (p : IsPassing c o given) (set : AreSettingsIn c o s) (current : IsCurrent c o) where
  abbrev H : Journal
  H = history (journal_of c)

  abbrev ns : ℕ → rest_nodes.Node
  ns = nodes_in d c

  abbrev f : Row → rest.Row
  f = row_of o.state still notes

  good : (n : ℕ) → IsSound (ns n)
  good n = sound (came n H) (d n) (node_in c.nodes.items n) ((p.keeps.keeps).nodes_are n).valid

  -- the rows as those of the part
  opened-row : (at : ℕ) (row : Row) → HasRow c o at row → slice_get (p.rows).rows at ≡ Some row
  opened-row at row found = sym (ap (λ (x : Option Rows). slice_get (rows_of x) at) (p.opened).opened) ∙ found

  serving : (at : ℕ) (row : Row) (n : ℕ) → HasRow c o at row → row.active ≡ Some n → serves o.state n ≡ true
  serving at row n found is = actives c.lane c.rules (journal_of c) c.newest c.last c.nodes.items c.parts.items p.keeps.keeps o.distributor o.state p.acting p.rows (p.opened).opened at row n (opened-row at row found) is

  -- a row that was accepted is active on its node
  remembered : (at : ℕ) (row : Row) → HasRow c o at row → IsAccepted (o.state).version H row
  remembered at row found =
      subst (λ (v : ℕ). IsAccepted v H row) (ap version_of (p.opened).heard)
      (all-get (IsAccepted (version_of (part_of c o.distributor).state) H) (rows_in c o) at row ((p.keeps).accepted o.distributor) found)

  regions-of : (n key : ℕ) → serves o.state n ≡ true → InRegion (o.state).version n key H → list_any (λ r. has_key r key) (ns n).regions ≡ true
  regions-of n key serve g =
      let know = (p.keeps.keeps).nodes_are n in
      (regions-hold (setting_of c.lane c.rules) (journal_of c) n (node_in c.nodes.items n) (p.keeps.keeps).legal know key).1
      (subst (λ (v : ℕ). InRegion v n key H) (sym (know.version_is ∙ current n serve)) g)

  active-on : (at : ℕ) (row : Row) (n : ℕ) → HasRow c o at row → row.active ≡ Some n → row.accepted ≡ true → IsActiveOn row.bucket (ns n)
  active-on at row n found is accepted key k =
      let has = remembered at row found accepted in
      regions-of n key (serving at row n found is) (subst (λ (m : ℕ). InRegion (o.state).version m key H) (some-same row.active has.node n has.active is) (has.keys key k))

  row-begun : (at : ℕ) (row : Row) → HasRow c o at row → IsRow s ns (f row)
  row-begun at row found =
      let note = whole_in (note_for row.bucket notes) in
      let bucket = row_by_bucket o.state still note row in
      let active = with-active o.state still row note in
      record {
        valid = subst IsBucket (sym bucket) (row_valid c.lane (rows_in c o) whole at row found);
        serves = λ n h. (set.lane).serving n ∙ serving at row n found (active-is row.active n (ap (λ (a : Option ℕ). is_active a n) (sym active) ∙ h));
        accepted = λ acc n h. subst (λ (b : Low). IsActiveOn b (ns n)) (sym bucket)
            (active-on at row n found (active-is row.active n (ap (λ (a : Option ℕ). is_active a n) (sym active) ∙ h)) (accepted-is row.active row.accepted (sym (with-accepted o.state still row note) ∙ acc)));
        undecided = λ none. with-accepted o.state still row note ∙ none-accepted row.active row.accepted (sym active ∙ none);
      }

  pub begun : HasBegun s (world_in d s still c o notes)
  begun = record {
    good = good;
    rows = all-of-places (IsRow s ns) f (rows_in c o) row-begun;
    apart = rows_apart c.lane (rows_in c o) whole f (λ row. row_by_bucket o.state still (whole_in (note_for row.bucket notes)) row);
  }
