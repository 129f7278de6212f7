-- What a join has of each document.
use Rattle.std.proofs.Common.{◌≡◌, ℕ, Bool, true, false, cond, List, [], ◌∷◌, refl, sym, ap, ◌∙◌, Option, None, Some}
use mathlib.Core.Bool.{true≢false}
use Rattle.std.specs.Ordering.{eq_by_cmp, is_eq}
use Rattle.std.specs.declared.cmp.Ordering.{Ordering}
use Rattle.std.specs.declared.cmp.Ordering.TheVariants.{Less, Equal, Greater}
use Rattle.std.specs.FinMap as fin
use Rattle.std.specs.FinMap.{get-insert, get-entries, find, same_map, slice_cmp-IsAntisymmetric, nat_cmp-IsAntisymmetric}
use Rattle.std.specs.Cmp.Lexicographic.{nat_list_cmp_total}
use Rattle.documents.specs.declared.entry.Entry.{Entry}
use Rattle.documents.specs.EntryCodes.{id_cmp}
use Rattle.entry_maps.specs.EntryCodes.{Entries}
use Rattle.entry_maps.specs.Entries.{is_newer, newer_of}
use Rattle.entry_maps.specs.Joins.{newer_entry, joined_onto, joined}

equal_of : (o : Ordering) → is_eq o ≡ true → o ≡ Equal
equal_of Less e = absurd (true≢false (sym e))
equal_of Equal e = refl
equal_of Greater e = absurd (true≢false (sym e))

same_id-is : (a b : List ℕ) → eq_by_cmp id_cmp a b ≡ true → a ≡ b
same_id-is a b e = slice_cmp-IsAntisymmetric nat_cmp-IsAntisymmetric a b (equal_of _ e)

picked : (o : Option Entry) (e : Entry) → Some (newer_entry o e) ≡ newer_of o (Some e)
picked None e = refl
picked (Some there) e = by_test (is_newer e (Some there))
  where
    by_test : (t : Bool) → Some (cond t e there) ≡ cond t (Some e) (Some there)
    by_test true = refl
    by_test false = refl

get-joined_onto : (m : Entries) (es : List (List ℕ × Entry)) (q : List ℕ) → fin.get (joined_onto m es) q ≡ newer_of (fin.get m q) (find id_cmp q es)
get-joined_onto m [] q = refl
get-joined_onto m (p ∷ ps) q =
    get-insert nat_list_cmp_total (joined_onto m ps) p.0 (newer_entry (fin.get m p.0) p.1) q
    ∙ ap (cond (eq_by_cmp id_cmp q p.0) (Some (newer_entry (fin.get m p.0) p.1))) (get-joined_onto m ps q)
    ∙ by_id (eq_by_cmp id_cmp q p.0) refl
  where
    by_id : (c : Bool) → eq_by_cmp id_cmp q p.0 ≡ c
        → cond c (Some (newer_entry (fin.get m p.0) p.1)) (newer_of (fin.get m q) (find id_cmp q ps)) ≡ newer_of (fin.get m q) (cond c (Some p.1) (find id_cmp q ps))
    by_id true e = picked (fin.get m p.0) p.1 ∙ ap (λ id. newer_of (fin.get m id) (Some p.1)) (sym (same_id-is q p.0 e))
    by_id false e = refl

pub get-joined : (m other : Entries) (q : List ℕ) → fin.get (joined m other) q ≡ newer_of (fin.get m q) (fin.get other q)
unfolding joined
get-joined m other q = get-joined_onto m (fin.entries other) q ∙ ap (newer_of (fin.get m q)) (sym (get-entries other q))

pub joined-alone : (m other new : Entries) → ((q : List ℕ) → fin.get new q ≡ newer_of (fin.get m q) (fin.get other q)) → new ≡ joined m other
joined-alone m other new h = same_map nat_list_cmp_total (slice_cmp-IsAntisymmetric nat_cmp-IsAntisymmetric) new (joined m other) (λ q. h q ∙ sym (get-joined m other q))
