-- The entries of a bucket, as a list.
use Rattle.std.proofs.Common.{◌≡◌, ℕ, Bool, true, false, cond, ◌||◌, List, [], ◌∷◌, Option, None, Some, is_some, refl, sym, ap, ap₂, ◌∙◌}
use Rattle.std.specs.Str.{bytes_eq}
use Rattle.std.specs.Cmp.Lexicographic.{nat_list_cmp_total}
use Rattle.std.specs.FinMap as fin
use Rattle.std.specs.FinMap.{get-retain_keys, get-from_entries, slice_cmp-IsAntisymmetric, nat_cmp-IsAntisymmetric}
use Rattle.std.proofs.lemmas.Map.Text.{is_eq-slice_cmp}
use Rattle.bucket_ids.specs.Buckets.{Low}
use Rattle.documents.specs.declared.entry.Entry.{Entry}
use Rattle.documents.specs.EntryCodes.{id_cmp}
use Rattle.entry_maps.specs.EntryCodes.{Entries}
use Rattle.entry_maps.specs.Entries.{in_bucket, by_id, AreSingle}
use Rattle.entry_maps.proofs.SlotLists.{same_id, same_id-refl, same_id-is, cond_none}
use Rattle.document_rows.specs.Rows.{Rows, has_entry}
use Rattle.node_rows.specs.TypedRows.{all_left, without_in}
use Rattle.node_rows.proofs.UndoLaws.{left_in}
use Rattle.view_changes.specs.Room.{AllAt, AllHave}
use Rattle.view_changes.proofs.ShownLaws.{turned}
use Rattle.sub_databases.proofs.RowSteps.{not_one}

-- the first entry of an id among some
abbrev pub found : List ℕ → List Entry → Option Entry
found q es = fin.find id_cmp q (by_id es)

pub other_id : (q : List ℕ) (e : Entry) → same_id q e.id ≡ false → bytes_eq e.id q ≡ false
other_id q e h = sym (turned q e.id) ∙ (sym (is_eq-slice_cmp q e.id) ∙ h)

pub own_entry : (q : List ℕ) (e : Entry) → same_id q e.id ≡ true → bytes_eq e.id q ≡ true
own_entry q e h = sym (turned q e.id) ∙ (sym (is_eq-slice_cmp q e.id) ∙ h)

pub none_found : (q : List ℕ) (es : List Entry) → found q es ≡ None → has_entry q es ≡ false
none_found q [] h = refl
none_found q (e ∷ es) h =
    let k = cond_none (same_id q e.id) e (found q es) h in
    ap₂ (λ a b. a || b) (other_id q e k.0) (none_found q es k.1)

pub all_found : (m : Entries) (es : List Entry) → AreSingle (by_id es) → ((q : List ℕ) (x : Entry) → found q es ≡ Some x → fin.get m q ≡ Some x) → AllAt m es
all_found m [] single in_m = tt
all_found m (e ∷ es) single in_m = (in_m e.id e (ap (λ t. cond t (Some e) (found e.id es)) (same_id-refl e.id)), all_found m es single.1 (λ q x h. in_m q x (later q x h (same_id q e.id) refl)))
  where
    later : (q : List ℕ) (x : Entry) → found q es ≡ Some x → (t : Bool) → same_id q e.id ≡ t → cond t (Some e) (found q es) ≡ Some x
    later q x h true same = absurd (not_one x (sym (ap (λ i. found i es) (same_id-is q e.id same) ∙ single.0) ∙ h))
    later q x h false other = h

get_within : (m : Entries) (b : Low) (q : List ℕ) → fin.get (fin.retain_keys m (in_bucket b)) q ≡ cond (in_bucket b q) (fin.get m q) None
get_within m b q = get-retain_keys m (in_bucket b) q (λ x e. ap (in_bucket b) (sym (slice_cmp-IsAntisymmetric nat_cmp-IsAntisymmetric q x e)))

pub found_within : (m : Entries) (b : Low) (es : List Entry) → fin.from_entries (by_id es) ≡ fin.retain_keys m (in_bucket b) → (q : List ℕ) → found q es ≡ cond (in_bucket b q) (fin.get m q) None
found_within m b es listed q = sym (get-from_entries nat_list_cmp_total (by_id es) q) ∙ (ap (λ n. fin.get n q) listed ∙ get_within m b q)

pub list_at : (m : Entries) (b : Low) (es : List Entry) → fin.from_entries (by_id es) ≡ fin.retain_keys m (in_bucket b) → AreSingle (by_id es) → AllAt m es
list_at m b es listed single = all_found m es single (λ q x h. by_test q x (in_bucket b q) (sym (found_within m b es listed q) ∙ h))
  where
    by_test : (q : List ℕ) (x : Entry) (t : Bool) → cond t (fin.get m q) None ≡ Some x → fin.get m q ≡ Some x
    by_test q x true k = k
    by_test q x false k = absurd (not_one x k)

-- ---- the rows that they leave

has_found : (q : List ℕ) (es : List Entry) → has_entry q es ≡ is_some (found q es)
has_found q [] = refl
has_found q (e ∷ es) = by_test (same_id q e.id) refl (has_found q es)
  where
    by_test : (t : Bool) → same_id q e.id ≡ t → has_entry q es ≡ is_some (found q es) → (bytes_eq e.id q || has_entry q es) ≡ is_some (cond t (Some e) (found q es))
    by_test true same ih = ap (λ a. a || has_entry q es) (own_entry q e same)
    by_test false other ih = ap₂ (λ a c. a || c) (other_id q e other) ih

-- rows whose documents have entries, without those of a bucket
pub bucket_left : (m : Entries) (b : Low) (es : List Entry) → fin.from_entries (by_id es) ≡ fin.retain_keys m (in_bucket b) → (rows : Rows) → AllHave m rows → all_left es rows ≡ without_in b rows
bucket_left m b es listed rows have = left_in b es rows (λ q has. has_found q es ∙ (ap is_some (found_within m b es listed q) ∙ by_some (fin.get m q) (in_bucket b q) (have q has)))
  where
    by_some : (o : Option Entry) (t : Bool) → is_some o ≡ true → is_some (cond t o None) ≡ t
    by_some o true k = k
    by_some o false k = refl
