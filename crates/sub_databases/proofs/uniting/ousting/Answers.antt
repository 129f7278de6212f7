use Rattle.std.proofs.Common.{rules}
use Rattle.std.proofs.lemmas.Fn.{filter_same}
use Rattle.sub_databases.specs.Uniting.{does_oust}
use Rattle.sub_databases.proofs.uniting.ousting.Goals as goal

pub returns : goal.returns
returns c = filter_same _ (does_oust c.args.there.now c.args.rows.now.rows) _ (λ x b f' k. search rules) _ _ c.retain.ensures.filtered
