-- Notes that are kept: one in place of an older one of its row.
use Rattle.std.proofs.Common.{◌≡◌, ◌≢◌, ◌∙◌, ℕ, Bool, true, false, cond, List, Some, refl, sym, ap, subst}
use Rattle.std.specs.Ordering.{nat_cmp, is_eq}
use Rattle.std.specs.declared.cmp.Ordering.{Ordering}
use Rattle.std.specs.declared.cmp.Ordering.TheVariants.{Less, Equal, Greater}
use Rattle.std.specs.Cmp.{nat_cmp_is}
use Rattle.std.specs.FinMap.{nat_cmp-IsAntisymmetric}
use Rattle.std.specs.BTreeMap as tree
use Rattle.std.specs.BTreeMap.{BTreeMap}
use mathlib.Core.Bool.{true≢false}
use Rattle.bucket_ids.specs.Buckets.{IsBucket}
use Rattle.bucket_ids.specs.Printed.{number_of}
use Rattle.cluster_states.specs.declared.cluster_state.ClusterState.{ClusterState}
use Rattle.lane_journals.specs.declared.event.LaneEvent.{LaneEvent}
use Rattle.pass_machine.specs.declared.notes.RowNote.{RowNote}
use Rattle.lane_upkeep.specs.Notes.{KnowsNote}
use Rattle.lane_upkeep.specs.Noted.{IsNoted, AreNotes}

equal-of : (o : Ordering) → is_eq o ≡ true → o ≡ Equal
equal-of Less e = absurd (true≢false (sym e))
equal-of Equal e = refl
equal-of Greater e = absurd (true≢false (sym e))

equal-at : (x y : ℕ) → x ≡ y → is_eq (nat_cmp x y) ≡ true
equal-at x y e = ap is_eq (sym (nat_cmp_is x y Equal e))

module _ (J K : List LaneEvent) (s : ClusterState) (m : BTreeMap ℕ RowNote) (note : RowNote) (are : AreNotes J s m) (knows : KnowsNote K s note)
    (stays : (other : RowNote) → other.bucket ≢ note.bucket → KnowsNote J s other → KnowsNote K s other) (k : ℕ) (numbered : number_of note.bucket ≡ k) (valid : IsBucket note.bucket) where
  by-case : (b : Bool) (q : ℕ) (other : RowNote) → is_eq (nat_cmp k q) ≡ b → cond b (Some note) (tree.get nat_cmp m q) ≡ Some other → IsNoted K s q other
  by-case true q other e h =
      let same : Some note ≡ Some other = h in
      let is : note ≡ other = cc in
      subst (λ (x : RowNote). IsNoted K s q x) is (record { numbered = numbered ∙ nat_cmp-IsAntisymmetric k q (equal-of _ e); valid = valid; knows = knows })
  by-case false q other e h =
      let i : IsNoted J s q other = are q other h in
      record {
        numbered = i.numbered;
        valid = i.valid;
        knows = stays other (λ same. true≢false (sym (equal-at k q (sym numbered ∙ (sym (ap number_of same) ∙ i.numbered))) ∙ e)) i.knows;
      }

  -- the notes with that one
  pub noted_next : (n : BTreeMap ℕ RowNote) → ((q : ℕ) → tree.get nat_cmp n q ≡ cond (is_eq (nat_cmp k q)) (Some note) (tree.get nat_cmp m q)) → AreNotes K s n
  noted_next n puts q other h = by-case (is_eq (nat_cmp k q)) q other refl (sym (puts q) ∙ h)
