-- That an active node accepted its row is no matter of the journal.
use Rattle.std.proofs.Common.{◌≡◌, ℕ, Bool, true, false, List, Option, Some, None, is_some, inl, inr, refl, sym, ap, ◌∙◌, subst, slice_get}
use Rattle.std.proofs.lemmas.Bool.{cases_eq}
use Rattle.bucket_ids.specs.Buckets.{Low}
use Rattle.cluster_states.specs.declared.cluster_state.ClusterState.{ClusterState}
use Rattle.bucket_db.specs.Rows.{Rows, buckets_of}
use Rattle.bucket_db.specs.Changes.{at_row, with_rows}
use Rattle.bucket_db.specs.declared.row.Row.{Row}
use Rattle.node_model.specs.Nodes.{Node}
use Rattle.distributor_part.specs.declared.rules.Rules.{Rules}
use Rattle.distributor_part.specs.Parts.{Part, rows_of}
use Rattle.distributor_part.specs.Upkeep.{AcceptsAt}
use Rattle.lane_journals.specs.Buckets.{contains}
use Rattle.lane_journals.specs.Legal.{Parted}
use Rattle.lane_journals.specs.RowLists as listed
use Rattle.lane_journals.specs.RowLists.{row_with, rows}
use Rattle.lane_journals.specs.Meanings.{history}
use Rattle.lane_journals.specs.declared.event.LaneEvent.{LaneEvent}
use Rattle.lane_keeping.specs.LaneKeeping.{IsRowOf, row_by, PartKeeps, part_in, Keeps}
use Rattle.lane_keeping.specs.Asking.{OthersStay}
use Rattle.lane_keeping.proofs.Acting.{HoldsAt}
use Rattle.row_keeping.proofs.RowLists.{Apart, apart-of, parted-of, place-row, changed-apart, changed-here, changed-other}

abbrev accepted : Row → Row
accepted r = record r { accepted = true }

still-row : (row : Row) (o : Option listed.Row) → IsRowOf (Some row) o → IsRowOf (Some (accepted row)) o
still-row row None h = absurd h
still-row row (Some l) h = record { bucket_is = h.bucket_is; complete_is = h.complete_is; active_is = h.active_is; delete_is = h.delete_is }

still-rows : (at : ℕ) (rs : List Row) (row : Row) → Apart rs → slice_get rs at ≡ Some row → (row_at : ℕ → Option listed.Row) → ((key : ℕ) → IsRowOf (row_by key rs) (row_at key)) → (key : ℕ) → IsRowOf (row_by key (at_row at accepted rs)) (row_at key)
still-rows at rs row free found row_at match key = by_key (contains row.bucket key) refl
  where
    by_key : (t : Bool) → contains row.bucket key ≡ t → IsRowOf (row_by key (at_row at accepted rs)) (row_at key)
    by_key true i = subst (λ (o : Option Row). IsRowOf o (row_at key)) (sym (changed-here accepted (λ r. refl) key at rs row free found i))
        (still-row row (row_at key) (subst (λ (o : Option Row). IsRowOf o (row_at key)) (place-row rs at row free found key i) (match key)))
    by_key false out = subst (λ (o : Option Row). IsRowOf o (row_at key)) (sym (changed-other accepted (λ r. refl) key at rs row found out)) (match key)

module _ (lane : Low) (rules : Rules) (J : List LaneEvent) (newest : Option ClusterState) (last : ℕ) (nodes : List Node) (parts : List Part) (keep : Keeps lane rules J newest last nodes parts) (now : List Part) (d at : ℕ)
    (x : AcceptsAt (part_in lane rules parts d) (part_in lane rules now d) at) (others : OthersStay lane rules parts now d) where
  abbrev p : Part
  p = part_in lane rules parts d

  abbrev q : Part
  q = record p { rows = Some (with_rows x.rows (at_row at accepted (x.rows).rows)) }

  not_none : ◌≡◌ {A = Option Rows} (Some (with_rows x.rows (at_row at accepted (x.rows).rows))) None → ⊥
  not_none e = cc

  holds-still : (o : Option ClusterState) → HoldsAt lane J d o (part_in lane rules parts d) → HoldsAt lane J d o q
  holds-still None h = h
  holds-still (Some s) h = (
    h.0,
    h.1,
    λ own.
        let know = h.2 own in
        let free : Apart (x.rows).rows = apart-of (x.rows).rows (subst (λ (o : Option Rows). Parted (buckets_of (rows_of o))) x.opened know.parted) in
        record {
          answered_are = know.answered_are;
          serving = know.serving;
          shown_are = λ e. absurd (not_none e);
          opened_as = know.opened_as ∙ ap is_some x.opened;
          rows_are = still-rows at (x.rows).rows x.row free x.found (λ key. row_with key (rows s.version (history J)))
              (λ key. subst (λ (o : Option Rows). IsRowOf (row_by key (rows_of o)) (row_with key (rows s.version (history J)))) x.opened (know.rows_are key));
          parted = parted-of (at_row at accepted (x.rows).rows) (changed-apart accepted (λ r. refl) at (x.rows).rows free);
        },
  )

  here : PartKeeps lane rules J d (part_in lane rules now d)
  here = let was = keep.parts_are d in subst (λ (y : Part). PartKeeps lane rules J d y) (sym x.after) (record {
    number_is = was.number_is;
    lane_is = was.lane_is;
    rules_are = was.rules_are;
    heard = holds-still (part_in lane rules parts d).state was.heard;
  })

  pub keeps-accepted : Keeps lane rules J newest last nodes now
  keeps-accepted = record {
    legal = keep.legal;
    newest_is = keep.newest_is;
    numbered = keep.numbered;
    nodes_are = keep.nodes_are;
    parts_are = λ e. elim (cases_eq e d) [
      | inl is ↦ subst (λ (z : ℕ). PartKeeps lane rules J z (part_in lane rules now z)) (sym is) here
      | inr off ↦ subst (λ (y : Part). PartKeeps lane rules J e y) (sym (others e off)) (keep.parts_are e)
    ];
  }
