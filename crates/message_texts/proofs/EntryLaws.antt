-- Entries are read again.
use Rattle.std.proofs.Common.{◌≡◌, ◌∙◌, ◌≤◌, ℕ, Bool, true, false, cond, ◌&&◌, List, [], ◌∷◌, map, Option, Some, None, option_and_then, is_some, Ok, refl, sym, ap, subst}
use mathlib.Core.Bool.{true≢false}
use Rattle.std.specs.FinMap as fin
use Rattle.std.specs.FinMap.{get-insert, get-empty, same_map, slice_cmp-IsAntisymmetric, nat_cmp-IsAntisymmetric}
use Rattle.std.specs.Cmp.{eq_by_cmp_equiv}
use Rattle.std.specs.Cmp.Lexicographic.{nat_list_cmp_total}
use Rattle.std.specs.Ordering.{eq_by_cmp}
use Rattle.serde_json.specs.View.{items_of}
use Rattle.bucket_ids.specs.Buckets.{Low}
use Rattle.document_ids.specs.Grammar.{Parts, HasParts}
use Rattle.document_ids.specs.Parts.{parts_of, type_of}
use Rattle.stamps.specs.declared.stamp.Stamp.{Stamp}
use Rattle.stamps.specs.Printed.{printed, IsStamp, stamp_in}
use Rattle.doc_types.specs.SchemaCodes.{Types}
use Rattle.documents.specs.Fields.{Contents, FieldMap}
use Rattle.documents.specs.Fitting.{Fits}
use Rattle.documents.specs.Kinds.{kinds_of}
use Rattle.documents.specs.Sizes.{size_of, largest}
use Rattle.documents.specs.declared.entry.Entry.{Entry}
use Rattle.documents.specs.EntryCodes.{id_cmp}
use Rattle.entry_maps.specs.EntryCodes.{Entries}
use Rattle.entry_maps.specs.Entries.{by_id, in_bucket, is_newer, with_entry}
use Rattle.json_documents.specs.DocumentFaults.{document_fault}
use Rattle.json_documents.specs.Json.{fields_in, fields_json}
use Rattle.message_texts.specs.ByKey.{by_key}
use Rattle.message_texts.specs.Entries.{fields_data, entry_data, if_fits, body_in, entry_by, body_under, entry_in, joined, gathered}
use Rattle.message_texts.specs.Fitting.{FitsDocument, FitsIfThere, FitsEntry, FitsAt, FitEntries}
use Rattle.message_texts.specs.Parts.{id_in}
use Rattle.message_texts.proofs.PartLaws.{read_id}
use Rattle.message_texts.proofs.FitLaws.{passes_document}
use Rattle.message_texts.proofs.OrderLaws.{IsOwn, AreApart, apart_by_key, find_by_key, one_id}

-- what the crates below say of ids, stamps and fields
pub record AreRead : Type 0 where
  pub ids : (text : List ℕ) (p : Parts) → HasParts text p → parts_of text ≡ Ok p
  pub stamps : (s : Stamp) → IsStamp s → stamp_in (printed s) ≡ Some s
  pub right : (types : Types) (type_name : List ℕ) (fields : FieldMap) → is_some (fin.get types type_name) ≡ true
      → Fits (kinds_of types type_name) (fin.entries fields) → size_of fields ≤ largest → document_fault types type_name (fields_json fields) ≡ None
  pub same : (types : Types) (type_name : List ℕ) (fields : FieldMap) → Fits (kinds_of types type_name) (fin.entries fields)
      → fields_in (kinds_of types type_name) (fields_json fields) ≡ fields

same_contents : (a b : Contents) → a.id ≡ b.id → a.fields ≡ b.fields → a ≡ b
same_contents a b p q = λ i. record { id = p i; fields = q i }

-- ---- all entries of a map fit

module _ (types : Types) where
  -- each entry fits, and its key lies in the bucket
  abbrev pub AllFit : Low → List Entry → Type 0
  AllFit b [] = Unit {0}
  AllFit b (e ∷ es) = (FitsEntry types e × (in_bucket b e.id ≡ true)) × AllFit b es

  found_later : (e : Entry) (b : Bool) (o : Option Entry) → (b ≡ true → o ≡ None) → (f : Entry) → o ≡ Some f → cond b (Some e) o ≡ Some f
  found_later e true o none f is = absurd (true≢false (ap is_some (sym is ∙ none refl)))
  found_later e false o none f is = is

  id_itself : (a : List ℕ) → eq_by_cmp id_cmp a a ≡ true
  id_itself a = (eq_by_cmp_equiv nat_list_cmp_total).refl a

  pub all_fit : (b : Low) (es : List Entry) → AreApart es → ((q : List ℕ) (e : Entry) → fin.find id_cmp q (by_id es) ≡ Some e → FitsAt types b q e) → AllFit b es
  all_fit b [] apart fit = tt
  all_fit b (e ∷ es) apart fit =
      let here = fit e.id e (ap (λ (t : Bool). cond t (Some e) (fin.find id_cmp e.id (by_id es))) (id_itself e.id)) in (
        (here.entry, here.inside),
        all_fit b es apart.1 (λ q f is. fit q f (found_later e (eq_by_cmp id_cmp q e.id) (fin.find id_cmp q (by_id es)) (λ t. ap (λ (i : List ℕ). fin.find id_cmp i (by_id es)) (one_id q e.id t) ∙ apart.0) f is)),
      )

-- ---- they are read again

module _ (read : AreRead) (types : Types) where
  -- a document that fits is read again
  body_back : (id : List ℕ) (body : Option Contents) → FitsIfThere types id body → body_in types id (fields_data body) ≡ Some body
  body_back id None fits = refl
  body_back id (Some d) fits =
      let kinds = kinds_of types (type_of id) in
      let said : Contents = record { id = id; fields = fields_in kinds (fields_json d.fields) } in
      let one : said ≡ d = same_contents said d (sym fits.own) (read.same types (type_of id) d.fields fits.fields) in
      let some : Contents → Option (Option Contents) = λ c. Some (Some c) in
      let own = subst (λ (i : List ℕ). FitsDocument types i d) (sym fits.own) fits in
      ap (λ (t : Bool). cond t None (if_fits types said)) (ap is_some (read.right types (type_of id) d.fields fits.there fits.fields fits.size))
      ∙ ap (if_fits types) one
      ∙ ap (λ (t : Bool). cond t (some d) None) (passes_document types d own)

  pub entry_back : (e : Entry) → FitsEntry types e → entry_in types (entry_data e) ≡ Some e
  unfolding entry_in
  entry_back e fits =
      let id = read_id read.ids e.id fits.id in
      ap (λ (s : Option Stamp). entry_by s (id_in e.id) (body_under types (entry_data e) (id_in e.id))) (read.stamps e.stamp fits.stamp)
      ∙ ap (λ (i : Option (List ℕ)). entry_by (Some e.stamp) i (body_under types (entry_data e) i)) id
      ∙ ap (λ (b : Option (Option Contents)). entry_by (Some e.stamp) (Some e.id) b) (body_back e.id e.body fits.body)

  -- ---- the entries of a map

  abbrev filled : Entries → List Entry → Entries
  filled m [] = m
  filled m (e ∷ es) = filled (fin.insert m e.id e) es

  abbrev or_else : Option Entry → Option Entry → Option Entry
  or_else None o = o
  or_else (Some e) o = Some e

  cond_else : (b : Bool) (e : Entry) (found o : Option Entry) → (b ≡ true → found ≡ None) → or_else found (cond b (Some e) o) ≡ or_else (cond b (Some e) found) o
  cond_else true e None o none = refl
  cond_else true e (Some f) o none = absurd (true≢false (ap is_some (none refl)))
  cond_else false e found o none = refl

  get_filled : (es : List Entry) (m : Entries) (q : List ℕ) → AreApart es → fin.get (filled m es) q ≡ or_else (fin.find id_cmp q (by_id es)) (fin.get m q)
  get_filled [] m q apart = refl
  get_filled (e ∷ es) m q apart =
      get_filled es (fin.insert m e.id e) q apart.1
      ∙ ap (or_else (fin.find id_cmp q (by_id es))) (get-insert nat_list_cmp_total m e.id e q)
      ∙ cond_else (eq_by_cmp id_cmp q e.id) e (fin.find id_cmp q (by_id es)) (fin.get m q) (λ t. ap (λ (i : List ℕ). fin.find id_cmp i (by_id es)) (one_id q e.id t) ∙ apart.0)

  -- none of them is in a map
  abbrev AreNew : Entries → List Entry → Type 0
  AreNew m [] = Unit {0}
  AreNew m (e ∷ es) = (fin.get m e.id ≡ None) × AreNew m es

  cond_none : (b : Bool) (e : Entry) (o : Option Entry) → cond b (Some e) o ≡ None → (b ≡ false) × (o ≡ None)
  cond_none true e o is = absurd (true≢false (ap is_some is))
  cond_none false e o is = (refl, is)

  id_symm : (a b : List ℕ) → eq_by_cmp id_cmp a b ≡ eq_by_cmp id_cmp b a
  id_symm a b = (eq_by_cmp_equiv nat_list_cmp_total).symm a b

  still_new : (es : List Entry) (m : Entries) (e : Entry) → AreNew m es → fin.find id_cmp e.id (by_id es) ≡ None → AreNew (fin.insert m e.id e) es
  still_new [] m e new none = tt
  still_new (f ∷ es) m e new none =
      let h = cond_none (eq_by_cmp id_cmp e.id f.id) f (fin.find id_cmp e.id (by_id es)) none in (
        get-insert nat_list_cmp_total m e.id e f.id ∙ ap (λ (t : Bool). cond t (Some e) (fin.get m f.id)) (id_symm f.id e.id ∙ h.0) ∙ new.0,
        still_new es m e new.1 h.1,
      )

  joins : (b : Low) (m : Entries) (e : Entry) → in_bucket b e.id ≡ true → fin.get m e.id ≡ None → joined b m (Some e) ≡ Some (fin.insert m e.id e)
  joins b m e inside none =
      let newer : is_newer e (fin.get m e.id) ≡ true = ap (is_newer e) none in
      ap (λ (t : Bool). cond (t && is_newer e (fin.get m e.id)) (Some (with_entry m e)) None) inside
      ∙ ap (λ (t : Bool). cond t (Some (cond t (fin.insert m e.id e) m)) None) newer

  gathers : (b : Low) (es : List Entry) (m : Entries) → AllFit types b es → AreNew m es → AreApart es → gathered types b m (items_of (map entry_data es)) ≡ Some (filled m es)
  gathers b [] m fit new apart = refl
  gathers b (e ∷ es) m fit new apart =
      let rest : Entries → Option Entries = λ n. gathered types b n (items_of (map entry_data es)) in
      ap (λ (o : Option Entry). option_and_then rest (joined b m o)) (entry_back e fit.0.0)
      ∙ ap (option_and_then rest) (joins b m e fit.0.1 new.0)
      ∙ gathers b es (fin.insert m e.id e) fit.1 (still_new es m e new.1 apart.0) apart.1

  all_new : (es : List Entry) → AreNew fin.empty es
  all_new [] = tt
  all_new (e ∷ es) = (get-empty id_cmp e.id, all_new es)

  else_empty : (o : Option Entry) (q : List ℕ) → or_else o (fin.get (fin.empty {X = Entry} {R = id_cmp}) q) ≡ o
  else_empty None q = get-empty id_cmp q
  else_empty (Some e) q = refl

  -- the entries of an Apply are read again
  pub map_back : (b : Low) (m : Entries) → FitEntries types b m → gathered types b fin.empty (items_of (map entry_data (by_key m))) ≡ Some m
  map_back b m fit =
      let own : IsOwn m = λ id e has. (fit id e has).own in
      let es = by_key m in
      let apart = apart_by_key m in
      let some : Entries → Option Entries = λ n. Some n in
      gathers b es fin.empty (all_fit types b es apart (λ q e is. fit q e (sym (find_by_key m q own) ∙ is))) (all_new es) apart
      ∙ ap some (same_map nat_list_cmp_total (slice_cmp-IsAntisymmetric nat_cmp-IsAntisymmetric) (filled fin.empty es) m (λ q.
      get_filled es fin.empty q apart ∙ else_empty (fin.find id_cmp q (by_id es)) q ∙ find_by_key m q own))
