use Rattle.std.proofs.Common.{◌≡◌, ◌∙◌, ℕ, List, [], ◌∷◌, ◌++◌, ap, append_assoc}
use Rattle.std.specs.Prelude.{codes}
use Rattle.std.proofs.lemmas.Result.{IfOk-weaker}
use Rattle.json.specs.Token.{Token, begin_object, end_object, key, string}
use Rattle.json.specs.Tree.{json_tokens, members_tokens}
use Rattle.serde_json.specs.Written.{outline, members_outline}
use Rattle.stamps.specs.declared.stamp.Stamp.{Stamp}
use Rattle.stamps.specs.Printed.{printed}
use Rattle.documents.specs.Fields.{Contents}
use Rattle.reports.specs.ReportText.{fields_of, found_members}
use Rattle.reports.specs.Writing.{result_tokens}
use Rattle.reports.proofs.reports.found_report.Goals as goal

-- what was written, each part behind the one before, are the tokens of the members
found_said : (line : ℕ) (id : List ℕ) (document : Contents) (stamp : Stamp) (begun named told whole : List Token) → begun ≡ begin_object ∷ key (codes "fields") ∷ json_tokens (outline (fields_of document)) → named ≡ begun ++ (key (codes "id") ∷ string id ∷ [])
    → told ≡ named ++ result_tokens line (codes "found") → whole ≡ told ++ (key (codes "stamp") ∷ string (printed stamp) ∷ []) → whole ++ end_object ∷ [] ≡ begin_object ∷ members_tokens (members_outline (found_members line id document stamp))
unfolding found_members
found_said line id document stamp begun named told whole b n t w =
    let ps = key (codes "id") ∷ string id ∷ [] in
    let qs = result_tokens line (codes "found") in
    let rs = key (codes "stamp") ∷ string (printed stamp) ∷ [] in
    let xs = begin_object ∷ key (codes "fields") ∷ json_tokens (outline (fields_of document)) in
    ap (λ l. l ++ end_object ∷ []) (w ∙ ap (λ l. l ++ rs) (t ∙ ap (λ l. l ++ qs) (n ∙ ap (λ l. l ++ ps) b)))
    ∙ append_assoc ((xs ++ ps) ++ qs) rs (end_object ∷ []) ∙ append_assoc (xs ++ ps) qs (rs ++ end_object ∷ []) ∙ append_assoc xs ps (qs ++ (rs ++ end_object ∷ []))

pub returns : goal.returns
returns c =
    IfOk-weaker c.ended.result _ _ (λ bytes whole. whole (found_members c.args.line c.args.id.now c.args.document.now c.args.stamp)
    (c.in_ok-put_stamp.ensures.before ∙ c.in_ok-put_result.ensures.before ∙ c.in_ok-put_text.ensures.before ∙ c.in_ok-out.ensures.before)
    (found_said c.args.line c.args.id.now c.args.document.now c.args.stamp _ _ _ _ c.in_ok-out.ensures.tokens
    (c.in_ok-put_text.ensures.tokens ∙ ap (λ t. c.in_ok-out.out.tokens ++ (key (codes "id") ∷ string t ∷ [])) c.text.ensures.text)
    c.in_ok-put_result.ensures.tokens c.in_ok-put_stamp.ensures.tokens)) c.ended.ensures
