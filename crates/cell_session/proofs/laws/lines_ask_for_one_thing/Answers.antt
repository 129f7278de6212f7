use Rattle.cell_session.proofs.OneAsked.{asked_once, first_once}
use Rattle.cell_session.proofs.laws.lines_ask_for_one_thing.Goals as goal

pub returns-clause-line : goal.returns-clause-line
returns-clause-line c = let law = c.texts_say_one_query.ensures in asked_once (record { once = law.once; refused = law.refused; place = law.place })

pub returns-clause-first : goal.returns-clause-first
returns-clause-first c = let law = c.texts_say_one_query.ensures in first_once (record { once = law.once; refused = law.refused; place = law.place })
