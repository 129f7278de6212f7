-- Entries that join a map.
use Rattle.std.proofs.Common.{◌≡◌, ◌∙◌, ℕ, ◌+◌, ◌<◌, Bool, true, false, cond, List, ◌∷◌, length, drop, get_or, Option, Some, option_and_then, Result, Ok, Err, OnOk, IfOk, is_some, refl, sym, ap, subst}
use mathlib.Core.Bool.{true≢false}
use Rattle.std.specs.FinMap as fin
use Rattle.std.specs.FinMap.{get-insert, get-empty}
use Rattle.std.specs.Cmp.Lexicographic.{nat_list_cmp_total}
use Rattle.std.specs.Ordering.{eq_by_cmp}
use Rattle.std.proofs.lemmas.List.{drop_more}
use Rattle.serde_json.specs.View.{view, items_view}
use Rattle.serde_json.specs.declared.value.Value.{Value}
use Rattle.bucket_ids.specs.Buckets.{Low}
use Rattle.doc_types.specs.SchemaCodes.{Types}
use Rattle.documents.specs.declared.entry.Entry.{Entry}
use Rattle.documents.specs.EntryCodes.{id_cmp}
use Rattle.entry_maps.specs.EntryCodes.{Entries}
use Rattle.entry_maps.specs.Entries.{in_bucket, is_newer, with_entry}
use Rattle.message_texts.specs.Entries.{entry_in, joined, gathered}
use Rattle.message_texts.specs.Fitting.{FitsEntry, FitsAt, FitEntries}
use Rattle.message_texts.proofs.OrderLaws.{one_id}

-- an entry that fits joins others that fit
pub fits_joined : (types : Types) (b : Low) (m : Entries) (e : Entry) → FitsEntry types e → in_bucket b e.id ≡ true → FitEntries types b m → FitEntries types b (with_entry m e)
fits_joined types b m e entry inside fit = by (is_newer e (fin.get m e.id))
  where
    here : (id : List ℕ) (f : Entry) (t : Bool) → eq_by_cmp id_cmp id e.id ≡ t → cond t (Some e) (fin.get m id) ≡ Some f → FitsAt types b id f
    here id f true same is =
        let one = one_id id e.id same in
        subst (FitsAt types b id) (some_is e f is) (record { entry = entry; own = sym one; inside = ap (in_bucket b) one ∙ inside })
      where
        some_is : (a b : Entry) → Some a ≡ Some b → a ≡ b
        some_is a b k = cc
    here id f false same is = fit id f is

    by : (t : Bool) → FitEntries types b (cond t (fin.insert m e.id e) m)
    by true = λ id f has. here id f (eq_by_cmp id_cmp id e.id) refl (sym (get-insert nat_list_cmp_total m e.id e id) ∙ has)
    by false = fit

pub if_joined : {E : Type 0} (m n : Entries) (P : Entries → Type 0) (r : Result Bool E) → OnOk r (n ≡ m) → P m → IfOk r (λ is. is ≡ true → P n)
if_joined m n P (Ok t) is p = λ e. subst P (sym is) p
if_joined m n P (Err e) is p = tt

-- nothing is in an empty map
pub none_fit : (types : Types) (b : Low) (m : Entries) → m ≡ fin.empty → FitEntries types b m
none_fit types b m empty id e has = absurd (true≢false (ap is_some (sym has ∙ ap (λ (n : Entries). fin.get n id) empty ∙ get-empty id_cmp id)))

-- one item more
pub gather_more : (types : Types) (b : Low) (m n : Entries) (vs : List Value) (i : ℕ) (v : Value) (e : Entry) → i < length vs → v ≡ get_or vs i v → Some e ≡ entry_in types (view v) → joined b m (Some e) ≡ Some n
    → gathered types b n (items_view (drop (i + 1) vs)) ≡ gathered types b m (items_view (drop i vs))
gather_more types b m n vs i v e lt is read joins =
    let rest : Entries → Option Entries = λ k. gathered types b k (items_view (drop (i + 1) vs)) in
    sym (
    ap (λ (l : List Value). gathered types b m (items_view l)) (drop_more vs i v lt ∙ ap (λ (x : Value). x ∷ drop (i + 1) vs) (sym is))
    ∙ ap (λ (o : Option Entry). option_and_then rest (joined b m o)) (sym read)
    ∙ ap (option_and_then rest) joins)
