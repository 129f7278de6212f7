-- The active node of a row serves, and so does the node of its unanswered Delete.
use Rattle.std.proofs.Common.{◌≡◌, ℕ, Bool, true, List, [], ◌∷◌, Option, Some, None, inl, inr, refl, sym, ◌∙◌, subst, slice_get}
use Rattle.bucket_ids.specs.Buckets.{Low}
use Rattle.cluster_states.specs.declared.cluster_state.ClusterState.{ClusterState}
use Rattle.cluster_states.specs.Publishing.{serves}
use Rattle.bucket_db.specs.Rows.{Rows}
use Rattle.bucket_db.specs.declared.row.Row.{Row}
use Rattle.bucket_db.specs.declared.row.Deleting.{Deleting}
use Rattle.node_model.specs.Nodes.{Node}
use Rattle.distributor_part.specs.declared.rules.Rules.{Rules}
use Rattle.distributor_part.specs.Parts.{Part}
use Rattle.lane_journals.specs.Events.{Decided, DeleteFrom}
use Rattle.lane_journals.specs.Readers as readers
use Rattle.lane_journals.specs.Readers.{Journal, active, deleting}
use Rattle.lane_journals.specs.Legal.{Permits, Legal}
use Rattle.lane_journals.specs.States.{state_of}
use Rattle.lane_journals.specs.Meanings.{history}
use Rattle.lane_journals.specs.Places.{Setting}
use Rattle.lane_journals.specs.declared.event.LaneEvent.{LaneEvent}
use Rattle.lane_journals.proofs.Basics.{sent-member}
use Rattle.lane_journals.proofs.BucketLaws.{own-low}
use Rattle.lane_journals.proofs.Meant.{meant-legal}
use Rattle.lane_journals.proofs.Serials.{answer-shown}
use Rattle.lane_journals.proofs.Deletes.{deleting-cases}
use Rattle.lane_journals.proofs.Marks.{complete-took, active-complete}
use Rattle.lane_keeping.specs.LaneKeeping.{setting_of, IsDelete, part_in, Keeps}
use Rattle.lane_keeping.specs.Acting.{IsActing}
use Rattle.lane_keeping.proofs.Owners.{serving, place-fits}
use Rattle.row_keeping.specs.Deciding.{HasDelete}
use Rattle.row_keeping.proofs.RowLists.{Apart, parted-of, place-row}
use Rattle.row_keeping.proofs.Reading.{Says, SaysRow}
use Rattle.row_keeping.proofs.Decided.{rows-apart, rows-say}

-- ---- legal journals

module _ (acks : ℕ) (P : ℕ → ℕ → Bool) where
  -- an active node took a union of its version
  active-serves : (H : Journal) → Legal acks P H → (v key n : ℕ) → active v key H ≡ Some n → P v n ≡ true
  active-serves H l v key n h =
      let t = (complete-took acks P H l v n key (active-complete acks P H l v key n h)).took in
      subst (λ (w : ℕ). P w n ≡ true) t.version (subst (λ (m : ℕ). P (t.message).version m ≡ true) t.receiver (sent-member acks P H l t.number t.message t.was_sent))

  -- a node with a Delete answered a Read of its version
  delete-serves : (H : Journal) → Legal acks P H → (v key : ℕ) (x : readers.Deleting) → deleting v key H ≡ Some x → P v x.node ≡ true
  delete-serves [] l v key x h = cc
  delete-serves (e ∷ H) l v key x h = elim (deleting-cases acks P v key H e x h) [
    | inl kept ↦ delete-serves H l.0 v key x kept.had
    | inr (inl came) ↦
        (let q : Permits acks P H (Decided came.distributor v (DeleteFrom x.bucket x.node x.serial)) = rw came.is at l.1 in
        let t = (answer-shown v _ x.node H (q.1).given (q.1).read).1 in
        subst (λ (w : ℕ). P w x.node ≡ true) t.version (subst (λ (m : ℕ). P (t.message).version m ≡ true) t.receiver (sent-member acks P H l.0 t.number t.message t.was_sent)))
    | inr (inr from) ↦ delete-serves H l.0 v _ x from.had
  ]

-- ---- the lane

module _ (lane : Low) (rules : Rules) (J : List LaneEvent) (newest : Option ClusterState) (last : ℕ) (nodes : List Node) (parts : List Part) (keep : Keeps lane rules J newest last nodes parts) (d : ℕ) (s : ClusterState) where
  abbrev S : Setting
  S = setting_of lane rules

  legal : Legal rules.acks (state_of (history J)) (history J)
  legal = meant-legal S J keep.legal

  module _ (a : IsActing lane J d s) (rs : Rows) (has : (part_in lane rules parts d).rows ≡ Some rs) where
    free : Apart rs.rows
    free = rows-apart lane rules J newest last nodes parts keep d s a rs has

    says : (at : ℕ) (row : Row) → slice_get rs.rows at ≡ Some row → SaysRow s.version (row.bucket).low (history J) row
    says at row found = subst (λ (o : Option Row). Says s.version (row.bucket).low (history J) o)
        (place-row rs.rows at row free found (row.bucket).low (own-low row.bucket (place-fits rs.rows at row (parted-of rs.rows free) found)))
        (rows-say lane rules J newest last nodes parts keep d s a rs has (row.bucket).low)

    pub actives : (at : ℕ) (row : Row) (node : ℕ) → slice_get rs.rows at ≡ Some row → row.active ≡ Some node → serves s node ≡ true
    actives at row node found is = sym (serving lane rules J newest last nodes parts keep d s a node)
        ∙ active-serves rules.acks (state_of (history J)) (history J) legal s.version (row.bucket).low node ((says at row found).actives ∙ is)

    pub deletes : (delete : Deleting) → HasDelete rs delete → serves s delete.node ≡ true
    deletes delete h = sym (serving lane rules J newest last nodes parts keep d s a delete.node)
        ∙ by_delete (deleting s.version ((h.row).bucket).low (history J)) refl (subst (λ (o : Option Deleting). IsDelete o (deleting s.version ((h.row).bucket).low (history J))) h.deleting (says h.at h.row h.found).deletes)
      where
        by_delete : (o : Option readers.Deleting) → deleting s.version ((h.row).bucket).low (history J) ≡ o → IsDelete (Some delete) o → state_of (history J) s.version delete.node ≡ true
        by_delete None e same = absurd same
        by_delete (Some y) e same = subst (λ (n : ℕ). state_of (history J) s.version n ≡ true) (sym same.1) (delete-serves rules.acks (state_of (history J)) (history J) legal s.version ((h.row).bucket).low y e)
