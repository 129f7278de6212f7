use Rattle.std.proofs.Common.{rules}
use Rattle.std.proofs.lemmas.Fn.{filter_same}
use Rattle.sub_databases.specs.Uniting.{does_come}
use Rattle.sub_databases.proofs.uniting.coming.Goals as goal

pub returns : goal.returns
returns c = filter_same _ (does_come c.args.there.now) _ (λ x b f' k. search rules) _ _ c.retain.ensures.filtered
