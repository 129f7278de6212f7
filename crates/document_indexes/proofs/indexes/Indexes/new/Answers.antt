use Rattle.std.proofs.Common.{ap, ◌∙◌, []}
use Rattle.std.specs.Option.{unwrap_or}
use Rattle.std.specs.Ordering.{nat_cmp}
use Rattle.std.specs.Cmp.Lexicographic.{slice_cmp}
use Rattle.std.specs.FinMap.{get-empty}
use Rattle.word_index.specs.Index.{list_of}
use Rattle.document_indexes.proofs.indexes.Indexes.new.Goals as goal

pub returns-clause-listed : goal.returns-clause-listed
returns-clause-listed c = λ name. ap (list_of name) c.new.ensures ∙ ap (λ o. unwrap_or o []) (get-empty (slice_cmp nat_cmp) name)
