use Rattle.std.proofs.Common.{not, bytes_eq, rules, tests}
use Rattle.std.proofs.lemmas.Fn.{filter_same}
use Rattle.documents.proofs.field_lists.clear_in.Goals as goal

pub returns : goal.returns
returns c = filter_same _ (λ f. not (bytes_eq f.name c.args.name.now)) _ (λ x b q k. search (rules, tests)) _ _ c.retain.ensures.filtered
