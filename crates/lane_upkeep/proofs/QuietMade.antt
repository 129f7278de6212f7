-- What a round makes of nodes and of its row, where it was run to its end in a quiet span.
use Rattle.std.proofs.Common.{◌≡◌, ◌<◌, ◌||◌, ℕ, Bool, true, false, List, Option, Some, None, slice_get, slice_set, refl, sym, ap, ◌∙◌}
use Rattle.std.specs.Prelude.{if◌then◌else◌}
use mathlib.Core.Bool.{true≢false}
use Rattle.bucket_ids.specs.Buckets.{Low}
use Rattle.node_sets.specs.Members.{has_node}
use Rattle.cluster_states.specs.declared.cluster_state.ClusterState.{ClusterState}
use Rattle.cluster_states.specs.Publishing.{serves}
use Rattle.ideal_nodes.specs.Placement.{IsIdeal}
use Rattle.bucket_db.specs.Changes.{at_row}
use Rattle.bucket_db.specs.Rows.{Rows}
use Rattle.bucket_db.specs.declared.row.Row.{Row}
use Rattle.distributor_part.specs.Parts.{Part, rows_of}
use Rattle.distributor_part.specs.Targets.{AreTargets}
use Rattle.merge_rounds.specs.Rounds.{RoundState}
use Rattle.lane_journals.specs.Events.{Content}
use Rattle.lane_keeping.specs.LaneKeeping.{node_in}
use Rattle.lane_states.specs.declared.lane_state.LaneState.{LaneState}
use Rattle.lane_states.specs.LaneStates.{journal_of, part_of}
use Rattle.lane_rest.specs.Rest.{documents}
use Rattle.pass_model.specs.Rows as rest
use Rattle.pass_model.specs.Rows.{Settings, is_target, united, round_node, round_row}
use Rattle.pass_model.specs.Scripts.{Script}
use Rattle.lane_rest.specs.Sets.{newest_of}
use Rattle.pass_model.specs.Shapes.{Shape, Nothing, shape_of}
use Rattle.lane_rest.specs.Targets.{is_target_in}
use Rattle.undisturbed_spans.specs.Rounding.{applied_if}
use Rattle.undisturbed_spans.specs.Noting.{newest_in}
use Rattle.undisturbed_spans.specs.Ending.{HasEnded}
use Rattle.lane_upkeep.specs.declared.owner.Owner.{Owner}
use Rattle.pass_machine.specs.declared.notes.RowNote.{RowNote}
use Rattle.lane_upkeep.specs.Passing.{rows_in, HasRow}
use Rattle.lane_upkeep.specs.RoundNotes.{IsNoteOf, GainsMarks}
use Rattle.pass_machine.specs.Abstract.{shown_in, row_with, IsParted}
use Rattle.pass_runs.specs.Worlds.{shown_at, row_by}
use Rattle.pass_runs.proofs.Rows.{set_at_row}
use Rattle.lane_upkeep.specs.Quiet.{nodes_in, AreSettingsIn, NodesBecome, OthersStay, IsRoundQuietly}
use Rattle.lane_upkeep.proofs.QuietNoted.{note-whole, note-documents, note-holders, note-shape, note-over, note-inside, note-exact}

-- the law of the set of a row's targets
abbrev pub TargetsAreListed : Type 0
TargetsAreListed = (redundancy : ℕ) (s : ClusterState) (b : Low) (active : Option ℕ) (set : ℕ) (ideal : List ℕ) → AreTargets redundancy s b active set → IsIdeal b s ideal
    → (n : ℕ) → has_node set n ≡ is_target_in redundancy ideal active n

or-turned : (a b : Bool) → (a || b) ≡ (b || a)
or-turned true true = refl
or-turned true false = refl
or-turned false true = refl
or-turned false false = refl

-- who doesn't serve is no receiver, and stays
pub round-still : (d : Script) (c e : LaneState) (o : Owner) (r : RoundState) → HasEnded d o.state (journal_of c) (journal_of e) (node_in c.nodes.items) (node_in e.nodes.items) r → OthersStay d c e o
round-still d c e o r h n off =
    h.seen n
    ∙ ap (λ (t : Bool). applied_if t r.row (newest_in o.state (node_in c.nodes.items)) (nodes_in d c n)) (untold (has_node r.receivers n) refl)
  where
    untold : (t : Bool) → has_node r.receivers n ≡ t → has_node r.receivers n ≡ false
    untold true g = absurd (true≢false (sym (h.taking n g) ∙ off))
    untold false g = g

module _ (targets : TargetsAreListed) (d : Script) (c e : LaneState) (o : Owner) (at : ℕ) (row : Row) (note : RowNote) (r : RoundState) (s : Settings) (are : AreSettingsIn c o s)
    (h : HasEnded d o.state (journal_of c) (journal_of e) (node_in c.nodes.items) (node_in e.nodes.items) r) (i : IsNoteOf r note) (row-is : r.row ≡ row.bucket)
    (goes-to : AreTargets (c.rules).redundancy o.state row.bucket row.active r.receivers) (gains : GainsMarks (part_of c o.distributor) (part_of e o.distributor) at note.holders) (found : HasRow c o at row)
    (counted : (b : Low) (held : Content) → documents b held (journal_of e) ≡ documents b held (journal_of c)) where
  abbrev bare : rest.Row
  bare = row_with (λ n. Nothing) None row

  few : (n : ℕ) → serves o.state n ≡ true → n < 32
  few n g = (are.sound).few n ((are.lane).serving n ∙ g)

  target-is : (n : ℕ) → has_node r.receivers n ≡ is_target s bare n
  target-is n =
      targets (c.rules).redundancy o.state row.bucket row.active r.receivers (s.ideal row.bucket) goes-to ((are.lane).ideal row.bucket) n
      ∙ ap (λ (k : ℕ). is_target_in k (s.ideal row.bucket) row.active n) (sym (are.lane).redundancy)

  union-is : newest_in o.state (node_in c.nodes.items) ≡ united s (nodes_in d c)
  union-is = ap (λ (f : ℕ → Bool). newest_of f (λ n. (nodes_in d c n).store)) (sym serving-is)
    where
      serving-is : s.serving ≡ serves o.state
      serving-is = λ j n. (are.lane).serving n j

  pub round-nodes : NodesBecome d c e (round_node s bare)
  round-nodes n =
      h.seen n
      ∙ (ap (λ (t : Bool). applied_if t r.row (newest_in o.state (node_in c.nodes.items)) (nodes_in d c n)) (target-is n)
      ∙ (ap (λ (b : Low). applied_if (is_target s bare n) b (newest_in o.state (node_in c.nodes.items)) (nodes_in d c n)) row-is
      ∙ ap (λ (U : Content). applied_if (is_target s bare n) row.bucket U (nodes_in d c n)) union-is))

  parted : IsParted (serves o.state) note
  parted = record {
    over = note-over d o.state (journal_of c) (journal_of e) (node_in c.nodes.items) (node_in e.nodes.items) r note h i few;
    inside = note-inside d o.state (journal_of c) (journal_of e) (node_in c.nodes.items) (node_in e.nodes.items) r note h i few;
    exact = note-exact d o.state (journal_of c) (journal_of e) (node_in c.nodes.items) (node_in e.nodes.items) r note h i few;
  }

  -- ---- the row

  was : gains.row ≡ row
  was = same gains.row row (sym gains.found ∙ (sym (ap (λ (q : Option Rows). slice_get (rows_of q) at) gains.opened) ∙ found))
    where
      same : (x y : Row) → ◌≡◌ {A = Option Row} (Some x) (Some y) → x ≡ y
      same x y g = cc

  abbrev after : Row
  after = record row { complete = gains.marks }

  marked : rows_in e o ≡ at_row at (λ q. record q { complete = gains.marks }) (rows_in c o)
  marked = ap (λ (p : Part). rows_of p.rows) gains.after ∙ ap (at_row at (λ q. record q { complete = gains.marks })) (sym (ap rows_of gains.opened))

  becomes-rows : rows_in e o ≡ slice_set (rows_in c o) at after
  becomes-rows = marked ∙ set_at_row at (λ q. record q { complete = gains.marks }) (rows_in c o) row found

  holder-is : (n : ℕ) → has_node note.holders n ≡ is_target s bare n
  holder-is n = note-holders d o.state (journal_of c) (journal_of e) (node_in c.nodes.items) (node_in e.nodes.items) r note h i few n ∙ target-is n

  complete-is : (n : ℕ) → has_node gains.marks n ≡ (is_target s bare n || has_node row.complete n)
  complete-is n =
      gains.gained n
      ∙ (ap (λ (q : Row). has_node q.complete n || has_node note.holders n) was
      ∙ (or-turned (has_node row.complete n) (has_node note.holders n)
      ∙ ap (λ (t : Bool). t || has_node row.complete n) (holder-is n)))

  documents-are : note.documents ≡ s.documents (united s (nodes_in d c)) row.bucket
  documents-are =
      note-documents d o.state (journal_of c) (journal_of e) (node_in c.nodes.items) (node_in e.nodes.items) r note h i few
      ∙ (ap (λ (b : Low). documents b (newest_in o.state (node_in c.nodes.items)) (journal_of e)) row-is
      ∙ (ap (λ (U : Content). documents row.bucket U (journal_of e)) union-is
      ∙ (counted row.bucket (united s (nodes_in d c))
      ∙ sym ((are.lane).documents (united s (nodes_in d c)) row.bucket))))

  shown-is : (n : ℕ) → shown_at o.state (nodes_in d c) row.bucket note n ≡ shape_of row.bucket (nodes_in d c n).pieces
  shown-is n = by_test (serves o.state n) refl
    where
      by_test : (t : Bool) → serves o.state n ≡ t → (if t then shown_in note n else shape_of row.bucket (nodes_in d c n).pieces) ≡ shape_of row.bucket (nodes_in d c n).pieces
      by_test true g = note-shape d o.state (journal_of c) (journal_of e) (node_in c.nodes.items) (node_in e.nodes.items) r note h i few n g ∙ ap (λ (b : Low). shape_of b (nodes_in d c n).pieces) row-is
      by_test false g = refl

  abbrev row-of : (ℕ → Bool) → ℕ → (ℕ → Bool) → (ℕ → Shape) → rest.Row
  row-of complete documents holders shown = record { bucket = row.bucket; complete = complete; active = bare.active; accepted = bare.accepted; documents = documents; holders = holders; shown = shown }

  abbrev target : ℕ → Bool
  target = is_target s bare

  becomes : row_by o.state (nodes_in d c) (Some note) after ≡ round_row s bare (nodes_in d c)
  becomes =
      ap (λ (f : ℕ → Bool). row-of f note.documents (λ n. has_node note.holders n) (shown_at o.state (nodes_in d c) row.bucket note)) (λ j n. complete-is n j)
      ∙ (ap (λ (k : ℕ). row-of (λ n. is_target s bare n || has_node row.complete n) k (λ n. has_node note.holders n) (shown_at o.state (nodes_in d c) row.bucket note)) documents-are
      ∙ (ap (λ (f : ℕ → Bool). row-of (λ n. is_target s bare n || has_node row.complete n) (s.documents (united s (nodes_in d c)) row.bucket) f (shown_at o.state (nodes_in d c) row.bucket note)) (λ j n. holder-is n j)
      ∙ ap (λ (f : ℕ → Shape). row-of (λ n. is_target s bare n || has_node row.complete n) (s.documents (united s (nodes_in d c)) row.bucket) target f) (λ j n. shown-is n j)))

  pub round-quietly : IsRoundQuietly d s c e o at row note
  round-quietly = record {
    of_row = i.bucket_is ∙ row-is;
    whole = note-whole d o.state (journal_of c) (journal_of e) (node_in c.nodes.items) (node_in e.nodes.items) r note h i few;
    parted = parted;
    nodes = round-nodes;
    after = after;
    rows = becomes-rows;
    becomes = becomes;
    deleting = refl;
  }
