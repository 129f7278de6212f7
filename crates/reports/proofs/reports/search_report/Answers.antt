use Rattle.std.proofs.Common.{◌≡◌, ◌∙◌, ℕ, List, [], ◌∷◌, ◌++◌, ap, append_assoc}
use Rattle.std.specs.Prelude.{codes}
use Rattle.std.proofs.lemmas.Result.{IfOk-weaker}
use Rattle.json.specs.Token.{Token, begin_object, end_object, key}
use Rattle.json.specs.Tree.{json_tokens, members_tokens}
use Rattle.serde_json.specs.Data.{array}
use Rattle.serde_json.specs.View.{items_of}
use Rattle.serde_json.specs.Written.{outline, members_outline}
use Rattle.query_groups.specs.declared.answers.SearchAnswer.{SearchAnswer}
use Rattle.reports.specs.GroupText.{groups_json}
use Rattle.reports.specs.ReportText.{search_members}
use Rattle.reports.specs.Writing.{measure_tokens, search_tokens}
use Rattle.reports.proofs.reports.search_report.Goals as goal

-- what was written, each part behind the one before, are the tokens of the members
search_said : (line : ℕ) (found : SearchAnswer) (begun measured grouped whole : List Token) → begun ≡ begin_object ∷ [] → measured ≡ begun ++ measure_tokens found
    → grouped ≡ measured ++ (key (codes "groups") ∷ json_tokens (outline (array (items_of (groups_json found.groups))))) → whole ≡ grouped ++ search_tokens line found.version
    → whole ++ end_object ∷ [] ≡ begin_object ∷ members_tokens (members_outline (search_members line found))
unfolding search_members
search_said line found begun measured grouped whole b m g w =
    let xs = begin_object ∷ measure_tokens found in
    let gs = key (codes "groups") ∷ json_tokens (outline (array (items_of (groups_json found.groups)))) in
    let rs = search_tokens line found.version in
    ap (λ l. l ++ end_object ∷ []) (w ∙ ap (λ l. l ++ rs) (g ∙ ap (λ l. l ++ gs) (m ∙ ap (λ l. l ++ measure_tokens found) b)))
    ∙ append_assoc (xs ++ gs) rs (end_object ∷ []) ∙ append_assoc xs gs (rs ++ end_object ∷ [])

pub returns : goal.returns
returns c =
    IfOk-weaker c.ended.result _ _ (λ bytes whole. whole (search_members c.args.line c.args.found.now)
    (c.in_ok-put_search.ensures.before ∙ c.in_ok-put_groups.ensures.before ∙ c.in_ok-put_measures.ensures.before ∙ c.in_ok-out.ensures.before)
    (search_said c.args.line c.args.found.now _ _ _ _ c.in_ok-out.ensures.tokens c.in_ok-put_measures.ensures.tokens
    (c.in_ok-put_groups.ensures.tokens ∙ ap (λ gs. c.put_measures.new.out.tokens ++ (key (codes "groups") ∷ json_tokens (outline (array (items_of (groups_json gs)))))) c.items.ensures)
    c.in_ok-put_search.ensures.tokens)) c.ended.ensures
