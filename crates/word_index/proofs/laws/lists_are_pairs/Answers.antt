use Rattle.word_index.proofs.IndexLaws.{pairs_with, pairs_without}
use Rattle.word_index.proofs.laws.lists_are_pairs.Goals as goal

pub returns-clause-with : goal.returns-clause-with
returns-clause-with c = pairs_with

pub returns-clause-without : goal.returns-clause-without
returns-clause-without c = pairs_without
