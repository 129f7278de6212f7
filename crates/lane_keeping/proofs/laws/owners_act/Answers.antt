use Rattle.lane_keeping.proofs.Owners.{row-inside, acting-stays, acts, heard, knows, told, serving, known-row}
use Rattle.lane_keeping.proofs.laws.owners_act.Goals as goal

pub returns-clause-acts : goal.returns-clause-acts
returns-clause-acts c = λ lane rules J newest last nodes parts keep d s e own. acts lane rules J newest last nodes parts keep d s e own

pub returns-clause-heard : goal.returns-clause-heard
returns-clause-heard c = λ lane rules J newest last nodes parts keep d s a. heard lane rules J newest last nodes parts keep d s a

pub returns-clause-knows : goal.returns-clause-knows
returns-clause-knows c = λ lane rules J newest last nodes parts keep d s a. knows lane rules J newest last nodes parts keep d s a

pub returns-clause-opened : goal.returns-clause-opened
returns-clause-opened c = λ lane rules J newest last nodes parts keep d s a. (knows lane rules J newest last nodes parts keep d s a).opened_as

pub returns-clause-answered : goal.returns-clause-answered
returns-clause-answered c = λ lane rules J newest last nodes parts keep d s a n. (knows lane rules J newest last nodes parts keep d s a).answered_are n

pub returns-clause-told : goal.returns-clause-told
returns-clause-told c = λ lane rules J newest last nodes parts keep d s a n. told lane rules J newest last nodes parts keep d s a n

pub returns-clause-serving : goal.returns-clause-serving
returns-clause-serving c = λ lane rules J newest last nodes parts keep d s a n. serving lane rules J newest last nodes parts keep d s a n

pub returns-clause-rows : goal.returns-clause-rows
returns-clause-rows c = λ lane rules J newest last nodes parts keep d s a rs key at row has is. known-row lane rules J newest last nodes parts keep d s a rs has at row is.found

pub returns-clause-inside : goal.returns-clause-inside
returns-clause-inside c = row-inside

pub returns-clause-stays : goal.returns-clause-stays
returns-clause-stays c = acting-stays
