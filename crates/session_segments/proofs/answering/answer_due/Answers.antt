use Rattle.std.proofs.Common.{inr, subst}
use Rattle.proof_basics.proofs.Results.{if_ok}
use Rattle.session_segments.specs.Sorted.{IsDueFor}
use Rattle.session_segments.proofs.AnsweredLines.{answered_outcome, answered_search}
use Rattle.session_segments.proofs.answering.answer_due.Goals as goal

pub returns-in-Outcome-clause-ok : goal.returns-in-Outcome-clause-ok
returns-in-Outcome-clause-ok g c =
    if_ok c.answer_outcome.result (λ answer h. λ s lines d may is.
    answered_outcome s lines c.args.stages.now c.args.line c.in-Outcome.lane c.in-Outcome.place d answer h.0 c.args.session.now.cell may (subst (IsDueFor s lines c.args.line d) c.in-Outcome.is is) h.1 h.2)
    c.answer_outcome.ensures

pub returns-in_ok-search_now-in-Search-clause-ok : goal.returns-in_ok-search_now-in-Search-clause-ok
returns-in_ok-search_now-in-Search-clause-ok g c = λ s lines d may is.
    answered_search s c.args.line d c.in-Search.query c.in_ok-search_now-in-Search.field-0 c.args.session.now.cell c.search_now.new.self.cell (subst (IsDueFor s lines c.args.line d) c.in-Search.is is) (c.in_ok-search_now-in-Search.ensures.ok s.schema may.typed)

pub returns-in_ok-search_now-in-Search-clause-read : goal.returns-in_ok-search_now-in-Search-clause-read
returns-in_ok-search_now-in-Search-clause-read g c = inr (c.in_ok-search_now-in-Search.ensures.ok c.requires.typed.0 c.requires.typed.1).0
