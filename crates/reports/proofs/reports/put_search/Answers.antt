use Rattle.std.proofs.Common.{◌∙◌, ◌++◌, ◌∷◌, [], ap, codes, decimal}
use Rattle.std.proofs.lemmas.Result.{on_ok_weaker}
use Rattle.json.specs.Token.{key, number}
use Rattle.reports.proofs.FieldTokens.{two_said}
use Rattle.reports.proofs.reports.put_search.Goals as goal

pub returns : goal.returns
returns c =
    on_ok_weaker c.put_count.result (λ p. record {
      before = p.before ∙ c.in_ok-put_result.ensures.before;
      tokens = two_said _ _ _ _ _ c.in_ok-put_result.ensures.tokens (p.tokens ∙ ap (λ n. c.put_result.new.out.tokens ++ (key (codes "version") ∷ number (decimal n) ∷ [])) c.from.ensures);
    }) c.put_count.ensures
