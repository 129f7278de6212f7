-- That a view goes on showing what a node keeps.
use Rattle.std.proofs.Common.{◌≡◌, ℕ, Bool, true, false, cond, nat_lt, List, [], Option, None, Some, refl, sym, ap, subst, ◌∙◌}
use mathlib.Core.Bool.{true≢false}
use Rattle.std.specs.Str.{bytes_eq}
use Rattle.std.specs.Cmp.Lexicographic.{nat_list_cmp_total}
use Rattle.std.specs.FinMap as fin
use Rattle.std.specs.FinMap.{get-insert}
use Rattle.std.proofs.lemmas.Map.Text.{is_eq-slice_cmp}
use Rattle.std.proofs.lemmas.Slice.Eq.{bytes_eq-Decides}
use Rattle.bucket_ids.specs.Buckets.{Low}
use Rattle.global_ids.specs.Keys.{key_of}
use Rattle.doc_types.specs.SchemaCodes.{Types}
use Rattle.documents.specs.Fields.{Contents}
use Rattle.documents.specs.declared.entry.Entry.{Entry}
use Rattle.document_rows.specs.Rows.{Rows, has_row, free_place, put_free, replaced, without, fitted, with_document, after_body, document_of}
use Rattle.view_changes.specs.Views.{NodeView, in_regions, adopted, stopped_as, taken}
use Rattle.view_changes.specs.Shown.{shown, body_shown, Keeping, ShowsNode, HasRoom, adopt, keep}
use Rattle.document_rows.proofs.RowLaws.{same_id, replaced-is, put-is, without-is}

-- ---- one entry

pub turned : (a b : List ℕ) → bytes_eq a b ≡ bytes_eq b a
turned a b = by_tests (bytes_eq a b) (bytes_eq b a) refl refl
  where
    by_tests : (s t : Bool) → bytes_eq a b ≡ s → bytes_eq b a ≡ t → s ≡ t
    by_tests true true e f = refl
    by_tests false false e f = refl
    by_tests true false e f = sym (sym f ∙ (bytes_eq-Decides b a).1 (sym (same_id a b e)))
    by_tests false true e f = sym e ∙ (bytes_eq-Decides a b).1 (sym (same_id b a f))

-- what an entry leaves of each document
pub body-is : (types : Types) (id : List ℕ) (body : Option Contents) (q : List ℕ) (rows : Rows) → HasRoom rows → document_of q (after_body types id body rows) ≡ cond (bytes_eq id q) (body_shown types id body) (document_of q rows)
body-is types id None q rows room = without-is id q rows
body-is types id (Some d) q rows room = by_id (bytes_eq d.id id) refl
  where
    by_row : (t : Bool) → has_row d.id rows ≡ t → document_of q (cond t (replaced (fitted types d) rows) (cond (nat_lt (free_place rows) 4294967295) (put_free (fitted types d) rows) rows)) ≡ cond (bytes_eq d.id q) (Some (fitted types d)) (document_of q rows)
    by_row true e = replaced-is (fitted types d) q rows e
    by_row false e = rw room (put-is (fitted types d) q rows e)

    by_id : (t : Bool) → bytes_eq d.id id ≡ t → document_of q (cond t (with_document (fitted types d) rows) (without id rows)) ≡ cond (bytes_eq id q) (cond t (Some (fitted types d)) None) (document_of q rows)
    by_id true e = by_row (has_row d.id rows) refl ∙ ap (λ (x : List ℕ). cond (bytes_eq x q) (Some (fitted types d)) (document_of q rows)) (same_id d.id id e)
    by_id false e = without-is id q rows

-- ---- a greater version, a stop

pub shows-adopted : (types : Types) (k : Keeping) (s : Bool) (n : NodeView) (w : ℕ) → ShowsNode types k s n → ShowsNode types (adopt w k) s (adopted w n)
shows-adopted types k s n w h = by_test (nat_lt k.version w) (nat_lt n.version w) refl (ap (λ x. nat_lt x w) h.version_is)
  where
    by_test : (t u : Bool) → nat_lt k.version w ≡ t → u ≡ nat_lt k.version w → ShowsNode types (cond t (record { version = w; regions = []; entries = k.entries }) k) s (cond u (record { version = w; stopped = n.stopped; regions = []; rows = [] }) n)
    by_test true true e f = record { version_is = refl; stopped_is = h.stopped_is; regions_are = refl; documents_are = λ id. refl }
    by_test false false e f = h
    by_test true false e f = absurd (true≢false (sym (f ∙ e)))
    by_test false true e f = absurd (true≢false (f ∙ e))

pub shows-stopped : (types : Types) (k : Keeping) (s t : Bool) (n : NodeView) → ShowsNode types k s n → ShowsNode types k t (stopped_as t n)
shows-stopped types k s t n h = record { version_is = h.version_is; stopped_is = refl; regions_are = h.regions_are; documents_are = h.documents_are }

-- ---- an entry that is kept in a region

pub shows-taken : (types : Types) (k : Keeping) (s : Bool) (n : NodeView) (e : Entry) → HasRoom n.rows → in_regions k.regions (key_of e.id) ≡ true → ShowsNode types k s n → ShowsNode types (keep e k) s (taken types e n)
shows-taken types k s n e room inside h =
    subst (λ (x : NodeView). ShowsNode types (keep e k) s x) (sym here) (record { version_is = h.version_is; stopped_is = h.stopped_is; regions_are = h.regions_are; documents_are = documents })
  where
    now : NodeView
    now = record { version = n.version; stopped = n.stopped; regions = n.regions; rows = after_body types e.id e.body n.rows }

    here : taken types e n ≡ now
    here = ap (λ t. cond t now n) (ap (λ (rs : List Low). in_regions rs (key_of e.id)) h.regions_are ∙ inside)

    by_id : (id : List ℕ) (t : Bool) → bytes_eq e.id id ≡ t → cond t (body_shown types e.id e.body) (document_of id n.rows) ≡ cond (in_regions k.regions (key_of id)) (shown types id (cond t (Some e) (fin.get k.entries id))) None
    by_id id true is = let same = same_id e.id id is in
        subst (λ (x : List ℕ). body_shown types e.id e.body ≡ cond (in_regions k.regions (key_of x)) (body_shown types x e.body) None) same (rw inside refl)
    by_id id false is = h.documents_are id

    documents : (id : List ℕ) → document_of id (after_body types e.id e.body n.rows) ≡ cond (in_regions k.regions (key_of id)) (shown types id (fin.get (fin.insert k.entries e.id e) id)) None
    documents id = body-is types e.id e.body id n.rows room ∙ (by_id id (bytes_eq e.id id) refl
        ∙ ap (λ (o : Option Entry). cond (in_regions k.regions (key_of id)) (shown types id o) None) (sym (get-insert nat_list_cmp_total k.entries e.id e id ∙ ap (λ t. cond t (Some e) (fin.get k.entries id)) (is_eq-slice_cmp id e.id ∙ turned id e.id))))

-- an entry outside the regions is kept unseen
pub shows-outside : (types : Types) (k : Keeping) (s : Bool) (n : NodeView) (e : Entry) → in_regions k.regions (key_of e.id) ≡ false → ShowsNode types k s n → ShowsNode types (keep e k) s n
shows-outside types k s n e outside h = record { version_is = h.version_is; stopped_is = h.stopped_is; regions_are = h.regions_are; documents_are = documents }
  where
    by_id : (id : List ℕ) (t : Bool) → bytes_eq e.id id ≡ t → document_of id n.rows ≡ cond (in_regions k.regions (key_of id)) (shown types id (cond t (Some e) (fin.get k.entries id))) None
    by_id id true is =
        let out : in_regions k.regions (key_of id) ≡ false = subst (λ (x : List ℕ). in_regions k.regions (key_of x) ≡ false) (same_id e.id id is) outside in
        h.documents_are id ∙ rw out refl
    by_id id false is = h.documents_are id

    documents : (id : List ℕ) → document_of id n.rows ≡ cond (in_regions k.regions (key_of id)) (shown types id (fin.get (fin.insert k.entries e.id e) id)) None
    documents id = by_id id (bytes_eq e.id id) refl
        ∙ ap (λ (o : Option Entry). cond (in_regions k.regions (key_of id)) (shown types id o) None) (sym (get-insert nat_list_cmp_total k.entries e.id e id ∙ ap (λ t. cond t (Some e) (fin.get k.entries id)) (is_eq-slice_cmp id e.id ∙ turned id e.id)))
