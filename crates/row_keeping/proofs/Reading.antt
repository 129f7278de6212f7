-- What the readers of a journal say by key of the row of a key, and the lists of rows.
use Rattle.std.proofs.Common.{◌≡◌, ℕ, Option, Some, None, refl, sym, ap, ◌∙◌, subst}
use Rattle.bucket_ids.specs.Buckets.{Low}
use Rattle.node_sets.specs.Members.{has_node}
use Rattle.bucket_db.specs.declared.row.Row.{Row}
use Rattle.lane_journals.specs.Readers.{Journal, Deleting, row_at, complete, active, deleting}
use Rattle.lane_journals.specs.RowLists as listed
use Rattle.lane_journals.specs.RowLists.{row_with, rows, bucket_of, member_of, active_of, delete_of}
use Rattle.lane_journals.proofs.RowLists.{Linked}
use Rattle.lane_keeping.specs.LaneKeeping.{IsDelete, IsRowOf}

-- the row of the key is this one, with its marks
pub record SaysRow (v key : ℕ) (H : Journal) (r : Row) : Type 0 where
  pub row : row_at v key H ≡ Some r.bucket
  pub members : (n : ℕ) → complete v n key H ≡ has_node r.complete n
  pub actives : active v key H ≡ r.active
  pub deletes : IsDelete r.deleting (deleting v key H)

-- or the key has none
abbrev pub Says : ℕ → ℕ → Journal → Option Row → Type 0
Says v key H None = row_at v key H ≡ None
Says v key H (Some r) = SaysRow v key H r

module _ (v key : ℕ) (H : Journal) (k : Linked v key H) where
  pub matched : (o : Option Row) → Says v key H o → IsRowOf o (row_with key (rows v H))
  matched o s = by_found (row_with key (rows v H)) refl o s
    where
      by_found : (l : Option listed.Row) → row_with key (rows v H) ≡ l → (o : Option Row) → Says v key H o → IsRowOf o l
      by_found None e None s = tt
      by_found None e (Some r) s = absurd (let w : ◌≡◌ {A = Option Low} None (Some r.bucket) = sym (k.row ∙ ap bucket_of e) ∙ s.row in cc)
      by_found (Some l) e None s = absurd (let w : ◌≡◌ {A = Option Low} None (Some l.bucket) = sym s ∙ k.row ∙ ap bucket_of e in cc)
      by_found (Some l) e (Some r) s = record {
        bucket_is = let w : ◌≡◌ {A = Option Low} (Some r.bucket) (Some l.bucket) = sym s.row ∙ k.row ∙ ap bucket_of e in cc;
        complete_is = λ n. sym (s.members n) ∙ k.members n ∙ ap (member_of n) e;
        active_is = sym s.actives ∙ k.actives ∙ ap active_of e;
        delete_is = subst (λ (x : Option Deleting). IsDelete r.deleting x) (k.deletes ∙ ap delete_of e) s.deletes;
      }

  pub saying : (o : Option Row) → IsRowOf o (row_with key (rows v H)) → Says v key H o
  saying o m = by_found (row_with key (rows v H)) refl o m
    where
      by_found : (l : Option listed.Row) → row_with key (rows v H) ≡ l → (o : Option Row) → IsRowOf o l → Says v key H o
      by_found None e None m = k.row ∙ ap bucket_of e
      by_found None e (Some r) m = absurd m
      by_found (Some l) e None m = absurd m
      by_found (Some l) e (Some r) m = record {
        row = k.row ∙ ap bucket_of e ∙ ap (λ (b : Low). Some b) (sym m.bucket_is);
        members = λ n. k.members n ∙ ap (member_of n) e ∙ sym (m.complete_is n);
        actives = k.actives ∙ ap active_of e ∙ sym m.active_is;
        deletes = subst (λ (x : Option Deleting). IsDelete r.deleting x) (sym (k.deletes ∙ ap delete_of e)) m.delete_is;
      }
