-- The tokens of groups, written one after the other, are those of their list.
use Rattle.std.proofs.Common.{◌≡◌, ℕ, ◌+◌, ◌<◌, ℤ, pos, negsuc, List, [], ◌∷◌, ◌++◌, codes, length, drop, get_or, drop-cons, add-one, refl, sym, ap, ap₂, ◌∙◌, append_assoc, String, string_bytes, string_cmp}
use Rattle.std.specs.declared.alloc.Global.{Global}
use Rattle.std.specs.Fmt.{signed_decimal}
use Rattle.std.specs.List.{flat_map}
use Rattle.std.specs.Ordering.{match_ordering}
use Rattle.std.specs.declared.cmp.Ordering.{Ordering}
use Rattle.std.specs.declared.cmp.Ordering.TheVariants.{Less, Equal, Greater}
use Rattle.std.specs.BTreeMap.{insert_entry}
use Rattle.json.specs.Token.{Token, begin_object, end_object, begin_array, end_array, key, number}
use Rattle.json.specs.Tree.{json_tokens, items_tokens, members_tokens}
use Rattle.serde_json.specs.Data.{array, object, Members, put}
use Rattle.serde_json.specs.View.{items_of}
use Rattle.serde_json.specs.Written.{outline, items_outline, members_outline}
use Rattle.doc_types.specs.declared.values.FieldValue.{FieldValue}
use Rattle.json_documents.specs.Json.{number_json}
use Rattle.query_groups.specs.declared.answers.Group.{Group}
use Rattle.query_groups.specs.declared.answers.Output.{Output}
use Rattle.reports.specs.GroupText.{output_key, output_json, with_outputs, groups_json}
use Rattle.reports.specs.Writing.{said_json, said_members, said_tokens, group_tokens}
use Rattle.reports.specs.declared.groups.Said.{Said}

pub number_said : (z : ℤ) → number (signed_decimal z) ∷ [] ≡ json_tokens (outline (number_json z))
number_said (pos n) = refl
number_said (negsuc n) = refl

said_either : (v : FieldValue) (o : Ordering) (a b c : List (String Global × Said)) → said_members v (match_ordering o a b c) ≡ match_ordering o (said_members v a) (said_members v b) (said_members v c)
said_either v Less a b c = refl
said_either v Equal a b c = refl
said_either v Greater a b c = refl

-- what is said under one more key
pub said_put : (v : FieldValue) (es : List (String Global × Said)) (k : String Global) (s : Said) → said_members v (insert_entry string_cmp es k s) ≡ put (string_bytes k) (said_json v s) (said_members v es)
said_put v [] k s = refl
said_put v (e ∷ es) k s = said_either v (string_cmp k e.0) _ _ _ ∙ rw (said_put v es k s)

-- one output more is said, and one fewer is left
pub said_step : (v : FieldValue) (os : List Output) (i : ℕ) (o : Output) (es fs : List (String Global × Said)) (k : String Global) (s : Said) (ms : Members) → i < length os → get_or os i o ≡ o
    → string_bytes k ≡ output_key o.kind → said_json v s ≡ output_json o.kind o.value → fs ≡ insert_entry string_cmp es k s → with_outputs (drop i os) (said_members v es) ≡ ms → with_outputs (drop (i + 1) os) (said_members v fs) ≡ ms
said_step v os i o es fs k s ms within there named said new before =
    let left = drop-cons os i o within ∙ ap₂ (λ x j. x ∷ drop j os) there (sym (add-one i)) in
    ap (λ l. with_outputs (drop (i + 1) os) (said_members v l)) new
    ∙ ap (with_outputs (drop (i + 1) os)) (said_put v es k s ∙ ap₂ (λ b d. put b d (said_members v es)) named said)
    ∙ sym (ap (λ l. with_outputs l (said_members v es)) left) ∙ before

-- what is said of a group, with the closing brace
pub members_said : (v : FieldValue) (es : List (String Global × Said)) → flat_map (said_tokens v) es ++ end_object ∷ [] ≡ members_tokens (members_outline (said_members v es))
members_said v [] = refl
members_said v (e ∷ es) = append_assoc (said_tokens v e) (flat_map (said_tokens v) es) (end_object ∷ []) ∙ ap (λ l. said_tokens v e ++ l) (members_said v es)

-- the groups, with the closing bracket
pub groups_said : (gs : List Group) → flat_map group_tokens gs ++ end_array ∷ [] ≡ items_tokens (items_outline (items_of (groups_json gs)))
groups_said [] = refl
groups_said (g ∷ gs) = append_assoc (group_tokens g) (flat_map group_tokens gs) (end_array ∷ []) ∙ ap (λ l. group_tokens g ++ l) (groups_said gs)

-- the object of a group behind what was written before
pub group_said : (old begun filled new : List Token) (v : FieldValue) (es : List (String Global × Said)) (ms : Members) → said_members v es ≡ ms → begun ≡ old ++ begin_object ∷ [] → filled ≡ begun ++ flat_map (said_tokens v) es
    → new ≡ filled ++ end_object ∷ [] → new ≡ old ++ json_tokens (outline (object ms))
group_said old begun filled new v es ms same first all last =
    last ∙ ap (λ l. l ++ end_object ∷ []) (all ∙ ap (λ l. l ++ flat_map (said_tokens v) es) first)
    ∙ append_assoc (old ++ begin_object ∷ []) (flat_map (said_tokens v) es) (end_object ∷ []) ∙ append_assoc old (begin_object ∷ []) (flat_map (said_tokens v) es ++ end_object ∷ [])
    ∙ ap (λ l. old ++ begin_object ∷ l) (members_said v es ∙ ap (λ l. members_tokens (members_outline l)) same)

-- the list of all groups, behind its key
pub list_said : (old named begun filled new : List Token) (gs : List Group) → named ≡ old ++ key (codes "groups") ∷ [] → begun ≡ named ++ begin_array ∷ [] → filled ≡ begun ++ flat_map group_tokens gs
    → new ≡ filled ++ end_array ∷ [] → new ≡ old ++ key (codes "groups") ∷ json_tokens (outline (array (items_of (groups_json gs))))
list_said old named begun filled new gs first second all last =
    let ks = key (codes "groups") ∷ [] in
    last ∙ ap (λ l. l ++ end_array ∷ []) (all ∙ ap (λ l. l ++ flat_map group_tokens gs) (second ∙ ap (λ l. l ++ begin_array ∷ []) first))
    ∙ append_assoc ((old ++ ks) ++ begin_array ∷ []) (flat_map group_tokens gs) (end_array ∷ []) ∙ append_assoc (old ++ ks) (begin_array ∷ []) (flat_map group_tokens gs ++ end_array ∷ [])
    ∙ append_assoc old ks (begin_array ∷ (flat_map group_tokens gs ++ end_array ∷ []))
    ∙ ap (λ l. old ++ (ks ++ begin_array ∷ l)) (groups_said gs)
