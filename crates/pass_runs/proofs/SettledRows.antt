-- The row of a place that is settled: where it stays, where it becomes another, and where the next row comes.
use Rattle.std.proofs.Common.{◌≡◌, ◌∙◌, ◌+◌, ℕ, List, map, Some, None, refl, sym, ap, subst, slice_get, slice_set}
use Rattle.std.specs.BTreeMap.{BTreeMap}
use Rattle.bucket_ids.specs.Buckets.{Low}
use Rattle.cluster_states.specs.declared.cluster_state.ClusterState.{ClusterState}
use Rattle.cluster_states.specs.Publishing.{serves}
use Rattle.bucket_db.specs.declared.row.Row.{Row}
use Rattle.pass_model.specs.Nodes.{Node}
use Rattle.pass_model.specs.Rows as rest
use Rattle.pass_model.specs.Turns.{with_place_row}
use Rattle.pass_machine.specs.declared.doing.Settle.{Settle}
use Rattle.pass_machine.specs.declared.doing.Settle.TheVariants as settle
use Rattle.pass_machine.specs.declared.notes.RowNote.{RowNote}
use Rattle.pass_machine.specs.Notes.{note_for, whole_in}
use Rattle.pass_machine.specs.Turns.{View}
use Rattle.pass_machine.specs.Abstract.{row_with, Pends}
use Rattle.pass_runs.specs.Worlds.{shown_at, row_of, world_of}
use Rattle.pass_runs.specs.Standing.{HasNote, NoneDeletes, IsSettled}
use Rattle.pass_runs.proofs.Rows.{at_or, same_some, same_there, row_noted, get_set_same, get_set_other, world_set}

-- ---- what is under way with a row

pub pends_at : (state : ClusterState) (still : ℕ → Node) (notes : BTreeMap ℕ RowNote) (next : Settle) (row r : Row) (note n : RowNote) → whole_in (note_for row.bucket notes) ≡ Some note → row ≡ r → whole_in (note_for r.bucket notes) ≡ Some n
    → Pends (serves state) next (shown_at state still row.bucket note) row → Pends (serves state) next (shown_at state still r.bucket n) r
pends_at state still notes next row r note n noted same is h =
    let e : note ≡ n = same_some (whole_in (note_for row.bucket notes)) note n noted (subst (λ (x : Row). whole_in (note_for x.bucket notes) ≡ Some n) (sym same) is) in
    subst (λ (m : RowNote). Pends (serves state) next (shown_at state still r.bucket m) r) e (subst (λ (x : Row). Pends (serves state) next (shown_at state still x.bucket note) x) same h)

module _ (still : ℕ → Node) (v : View) (notes : BTreeMap ℕ RowNote) (at : ℕ) (before : Settle) (row : Row) (note : RowNote) (found : slice_get v.rows at ≡ Some row) (noted : whole_in (note_for row.bucket notes) ≡ Some note) (k : IsSettled still v notes at before) where
  -- ---- the row stays

  pub stays_settled : (next : Settle) → Pends (serves v.state) next (shown_at v.state still row.bucket note) row → IsSettled still v notes at next
  stays_settled next h = record {
    noted = k.noted;
    others = k.others;
    pends = λ r n there is. pends_at v.state still notes next row r note n noted (same_some (slice_get v.rows at) row r found there) is h;
  }

  -- ---- the row has no Delete

  pub none_settled : row.deleting ≡ None → NoneDeletes v.rows
  none_settled idle i r there = at_or (r.deleting ≡ None) i at (λ e. subst (λ (x : Row). x.deleting ≡ None) (same_there v.rows i at row r found e there) idle) (λ off. k.others i r off there)

  -- and the next one comes
  pub next_settled : row.deleting ≡ None → IsSettled still v notes (at + 1) settle.Beginning
  next_settled idle = record {
    noted = k.noted;
    others = λ i r off there. none_settled idle i r there;
    pends = λ r n there is. none_settled idle (at + 1) r there;
  }

  -- ---- the row becomes another of the same bucket

  module _ (then : Row) (same : then.bucket ≡ row.bucket) where
    abbrev changed : View
    changed = record v { rows = slice_set v.rows at then }

    then-noted : whole_in (note_for then.bucket notes) ≡ Some note
    then-noted = subst (λ (b : Low). whole_in (note_for b notes) ≡ Some note) (sym same) noted

    there-then : (i : ℕ) (r : Row) → i ≡ at → slice_get (slice_set v.rows at then) i ≡ Some r → then ≡ r
    there-then i r e there = same_there (slice_set v.rows at then) i at then r (get_set_same v.rows at row then found) e there

    there-other : (i : ℕ) (r : Row) → (i ≡ at → ⊥) → slice_get (slice_set v.rows at then) i ≡ Some r → slice_get v.rows i ≡ Some r
    there-other i r off there = sym (get_set_other v.rows at i then off) ∙ there

    goes-on : (b : Low) → HasNote v notes b → HasNote changed notes b
    goes-on b h = record { note = h.note; noted = h.noted; parted = h.parted }

    pub set_settled : (next : Settle) → Pends (serves v.state) next (shown_at v.state still row.bucket note) then → IsSettled still changed notes at next
    set_settled next h = record {
      noted = λ i r there. at_or (HasNote changed notes r.bucket) i at
          (λ e. subst (λ (b : Low). HasNote changed notes b) (sym same ∙ ap (λ (x : Row). x.bucket) (there-then i r e there)) (goes-on row.bucket (k.noted at row found)))
          (λ off. goes-on r.bucket (k.noted i r (there-other i r off there)));
      others = λ i r off there. k.others i r off (there-other i r off there);
      pends = λ r n there is. pends_at v.state still notes next then r note n then-noted (there-then at r refl there) is (subst (λ (b : Low). Pends (serves v.state) next (shown_at v.state still b note) then) (sym same) h);
    }

    pub set_world : (ns : ℕ → Node) → with_place_row at (row_with (shown_at v.state still row.bucket note) (Some note) then) (world_of still v notes ns) ≡ world_of still changed notes ns
    set_world ns = ap (λ (rows : List rest.Row). record { nodes = ns; rows = rows })
        (ap (λ (r : rest.Row). slice_set (map (row_of v.state still notes) v.rows) at r) (sym (row_noted v.state still notes then note then-noted ∙ ap (λ (b : Low). row_with (shown_at v.state still b note) (Some note) then) same))
        ∙ sym (world_set v.state still notes notes v.rows at then (λ i r off there. refl)))
