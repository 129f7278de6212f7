-- The tokens of a document's fields, written one after the other, are those of their object.
use Rattle.std.proofs.Common.{◌≡◌, ℕ, ℤ, pos, negsuc, List, [], ◌∷◌, ◌++◌, map, refl, ap, ◌∙◌, append_assoc}
use Rattle.std.specs.List.{flat_map}
use Rattle.json.specs.Token.{Token, begin_object, end_array, end_object, string}
use Rattle.json.specs.Tree.{json_tokens, items_tokens, members_tokens}
use Rattle.serde_json.specs.Data as shown
use Rattle.serde_json.specs.View.{items_of}
use Rattle.serde_json.specs.Written.{outline, items_outline, members_outline}
use Rattle.doc_types.specs.declared.values.FieldValue.{FieldValue}
use Rattle.json_documents.specs.Json.{number_json, members_json}
use Rattle.reports.specs.Writing.{number_token, field_tokens}

-- the numbers of a list, with the closing bracket
pub numbers_said : (zs : List ℤ) → map number_token zs ++ end_array ∷ [] ≡ items_tokens (items_outline (items_of (map number_json zs)))
numbers_said [] = refl
numbers_said (pos n ∷ zs) = ap (λ l. number_token (pos n) ∷ l) (numbers_said zs)
numbers_said (negsuc n ∷ zs) = ap (λ l. number_token (negsuc n) ∷ l) (numbers_said zs)

-- the texts of a list, with the closing bracket
pub texts_said : (ts : List (List ℕ)) → map string ts ++ end_array ∷ [] ≡ items_tokens (items_outline (items_of (map shown.string ts)))
texts_said [] = refl
texts_said (t ∷ ts) = ap (λ l. string t ∷ l) (texts_said ts)

-- the fields, with the closing brace
pub fields_said : (es : List (List ℕ × FieldValue)) → flat_map field_tokens es ++ end_object ∷ [] ≡ members_tokens (members_outline (members_json es))
fields_said [] = refl
fields_said (e ∷ es) = append_assoc (field_tokens e) (flat_map field_tokens es) (end_object ∷ []) ∙ ap (λ l. field_tokens e ++ l) (fields_said es)

-- the object of the fields behind what was written before
pub object_said : (old begun filled new : List Token) (es fs : List (List ℕ × FieldValue)) → es ≡ fs → begun ≡ old ++ begin_object ∷ [] → filled ≡ begun ++ flat_map field_tokens es → new ≡ filled ++ end_object ∷ []
    → new ≡ old ++ json_tokens (outline (shown.object (members_json fs)))
object_said old begun filled new es fs same first all last =
    last ∙ ap (λ l. l ++ end_object ∷ []) (all ∙ ap (λ l. l ++ flat_map field_tokens es) first)
    ∙ append_assoc (old ++ begin_object ∷ []) (flat_map field_tokens es) (end_object ∷ []) ∙ append_assoc old (begin_object ∷ []) (flat_map field_tokens es ++ end_object ∷ [])
    ∙ ap (λ l. old ++ begin_object ∷ l) (fields_said es ∙ ap (λ l. members_tokens (members_outline (members_json l))) same)

-- four parts, each behind the one before
pub four_said : (old a b c new ps qs rs ts : List Token) → a ≡ old ++ ps → b ≡ a ++ qs → c ≡ b ++ rs → new ≡ c ++ ts → new ≡ old ++ (ps ++ (qs ++ (rs ++ ts)))
four_said old a b c new ps qs rs ts first second third last =
    last ∙ ap (λ l. l ++ ts) (third ∙ ap (λ l. l ++ rs) (second ∙ ap (λ l. l ++ qs) first))
    ∙ append_assoc ((old ++ ps) ++ qs) rs ts ∙ append_assoc (old ++ ps) qs (rs ++ ts) ∙ append_assoc old ps (qs ++ (rs ++ ts))

-- two parts, one behind the other
pub two_said : (old a new ps qs : List Token) → a ≡ old ++ ps → new ≡ a ++ qs → new ≡ old ++ (ps ++ qs)
two_said old a new ps qs first last = last ∙ ap (λ l. l ++ qs) first ∙ append_assoc old ps qs
