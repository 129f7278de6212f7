use Rattle.doc_types.proofs.TokenLaws.{token_front, word_longest, number_longest}
use Rattle.doc_types.proofs.laws.tokens_are_fronts.Goals as goal

pub returns-clause-front : goal.returns-clause-front
returns-clause-front c = token_front

pub returns-clause-words : goal.returns-clause-words
returns-clause-words c = word_longest

pub returns-clause-numbers : goal.returns-clause-numbers
returns-clause-numbers c = number_longest
