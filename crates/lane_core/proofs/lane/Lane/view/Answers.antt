use Rattle.std.proofs.lemmas.Result.{IfOk-weaker}
use Rattle.lane_keeping.specs.LaneKeeping.{setting_of}
use Rattle.lane_states.specs.LaneStates.{journal_of}
use Rattle.lane_core.proofs.Shelves.{kept-nodes}
use Rattle.lane_core.proofs.lane.Lane.view.Goals as goal

pub returns-clause-shows : goal.returns-clause-shows
returns-clause-shows g c =
    let x = c.self.inside.work in
    rw (← c.self.view_is)
    (IfOk-weaker c.view_of_nodes.result _ _ (λ view all room. all (setting_of x.state.lane x.state.rules) (journal_of x.state) (kept-nodes x c.deref.result.now c.deref.ensures.value c.self.invariant.works room)) c.view_of_nodes.ensures.shows)

pub returns-clause-view : goal.returns-clause-view
returns-clause-view g c =
    let x = c.self.inside.work in
    rw (← c.self.view_is)
    (IfOk-weaker c.view_of_nodes.result _ _ (λ view all room. all (setting_of x.state.lane x.state.rules) (journal_of x.state) (kept-nodes x c.deref.result.now c.deref.ensures.value c.self.invariant.works room)) c.view_of_nodes.ensures.view)

pub returns-clause-lies : goal.returns-clause-lies
returns-clause-lies g c =
    let x = c.self.inside.work in
    rw (← c.self.view_is)
    (IfOk-weaker c.view_of_nodes.result _ _ (λ view all room. all (setting_of x.state.lane x.state.rules) (journal_of x.state) (kept-nodes x c.deref.result.now c.deref.ensures.value c.self.invariant.works room)) c.view_of_nodes.ensures.lane)
