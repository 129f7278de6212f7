use Rattle.std.proofs.Common.{◌≡◌, IfOk, sym, subst}
use Rattle.std.proofs.lemmas.Result.{IfOk-weaker}
use Rattle.session_cluster.specs.Output.{answer_in}
use Rattle.session_cluster.specs.Steps.{IsDealt}
use Rattle.session_cluster.specs.declared.asked.Asked.{Asked}
use Rattle.session_cluster.proofs.InLane.{all_telling, all_may_maintain, all_typed, few_of, new_line, new_search}
use Rattle.session_cluster.proofs.session.Session.deal.Goals as goal

pub tell-requires-clause-telling : goal.tell-requires-clause-telling
tell-requires-clause-telling g c = all_telling _ _ _ c.requires.ready

pub stop-requires-clause-telling : goal.stop-requires-clause-telling
stop-requires-clause-telling g c = all_telling _ _ _ c.requires.ready

pub start-requires-clause-telling : goal.start-requires-clause-telling
start-requires-clause-telling g c = all_telling _ _ _ c.requires.ready

pub maintain-requires-clause-may : goal.maintain-requires-clause-may
maintain-requires-clause-may g c = all_may_maintain _ _ _ c.requires.ready

pub maintain-requires-clause-few : goal.maintain-requires-clause-few
maintain-requires-clause-few g c = few_of _ _ _ c.requires.ready

pub maintain-requires-clause-new : goal.maintain-requires-clause-new
maintain-requires-clause-new g c = new_line _ _ _ c.requires.ready

pub search-requires-clause-few : goal.search-requires-clause-few
search-requires-clause-few g c = few_of _ _ _ c.requires.ready

pub search-requires-clause-new : goal.search-requires-clause-new
search-requires-clause-new g c = new_search _ _ _ c.requires.ready

pub returns-in-Search-clause-ok : goal.returns-in-Search-clause-ok
returns-in-Search-clause-ok g c =
    subst (λ (x : Asked). IfOk c.search.result (λ answer. IsDealt c.args.setting.now c.args.line x c.args.self.now.cell c.search.new.self.cell × (answer ≡ answer_in c.args.setting.now c.args.self.now.cell.told c.args.line x c.search.new.self.cell)))
    (sym c.in-Search.is) (IfOk-weaker c.search.result _ _ (λ answer told. ((told.0, tt), told.1)) (c.search.ensures.ok c.args.setting.now.schema (all_typed _ _ _ c.requires.ready)))
