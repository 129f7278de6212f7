-- The fields of a document stand in the order of their names.
use Rattle.std.proofs.Common.{◌≡◌, ◌&&◌, ℕ, Bool, true, false, List, [], ◌∷◌, T, refl, ◌∙◌}
use Rattle.std.specs.FinMap as fin
use Rattle.std.specs.FinMap.Entries.{below_all, is_sorted}
use Rattle.std.specs.Ordering.{is_lt, match_ordering}
use Rattle.std.specs.declared.cmp.Ordering.{Ordering}
use Rattle.std.specs.declared.cmp.Ordering.TheVariants.{Less, Equal, Greater}
use Rattle.doc_types.specs.SchemaCodes.{name_cmp}
use Rattle.doc_types.specs.declared.values.FieldValue.{FieldValue}
use Rattle.documents.specs.Fields.{FieldMap}
use Rattle.json_documents.specs.Json.{members_json, fields_json}
use Rattle.reports.specs.Telling.{are_rising}

first : (a b : Bool) → T (a && b) → T a
first true b p = tt
first false b p = p

second : (a b : Bool) → T (a && b) → T b
second true b p = p
second false b p = absurd p

if_less : (o : Ordering) (rest : Bool) → T (is_lt o) → match_ordering o rest false false ≡ rest
if_less Less rest h = refl
if_less Equal rest h = absurd h
if_less Greater rest h = absurd h

sorted_rise : (es : List (List ℕ × FieldValue)) → T (is_sorted name_cmp es) → are_rising (members_json es) ≡ true
sorted_rise [] h = refl
sorted_rise (e ∷ []) h = refl
sorted_rise (e ∷ g ∷ es) h =
    let below = first (below_all name_cmp e.0 (g ∷ es)) (is_sorted name_cmp (g ∷ es)) h in
    if_less (name_cmp e.0 g.0) (are_rising (members_json (g ∷ es))) (first (is_lt (name_cmp e.0 g.0)) (below_all name_cmp e.0 es) below)
    ∙ sorted_rise (g ∷ es) (second (below_all name_cmp e.0 (g ∷ es)) (is_sorted name_cmp (g ∷ es)) h)

pub fields_rise : (fields : FieldMap) → are_rising (fields_json fields) ≡ true
fields_rise fields = sorted_rise (fin.entries fields) (fin.entries_sorted fields)
