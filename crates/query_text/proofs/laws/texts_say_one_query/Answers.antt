use Rattle.query_text.proofs.Spelled.{one_query, says_none, refused_once}
use Rattle.query_text.proofs.laws.texts_say_one_query.Goals as goal

pub returns-clause-once : goal.returns-clause-once
returns-clause-once c = one_query

pub returns-clause-refused : goal.returns-clause-refused
returns-clause-refused c = says_none

pub returns-clause-place : goal.returns-clause-place
returns-clause-place c = refused_once
