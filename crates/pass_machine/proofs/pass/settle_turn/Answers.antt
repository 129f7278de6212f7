use Rattle.std.proofs.Common.{◌≡◌, ◌∙◌, ℕ, Some, sym, ap}
use Rattle.node_sets.specs.Members.{has_node}
use Rattle.cluster_states.specs.Publishing.{serves}
use Rattle.cluster_states.specs.declared.cluster_state.ClusterState.{ClusterState}
use Rattle.pass_machine.specs.declared.doing.Settle.{Settle}
use Rattle.pass_machine.specs.Settling.{delete_told}
use Rattle.pass_machine.specs.Turns.{settle_turn}
use Rattle.pass_machine.proofs.pass.settle_turn.Goals as goal

pub returns-in-DeleteTold : goal.returns-in-DeleteTold
returns-in-DeleteTold c = λ v sees.
    let same : c.args.state.now ≡ v.state = let e : Some c.args.state.now ≡ Some v.state = sym c.requires.heard ∙ sees.heard in cc in
    let serving : (m : ℕ) → has_node c.serving-serving.result m ≡ serves v.state m = λ m. c.serving-serving.ensures m ∙ ap (λ (s : ClusterState). serves s m) same in
    c.delete_told.ensures ∙ ((λ i. delete_told c.args.time c.args.at c.args.row.now (λ m. serving m i) c.in-DeleteTold.node)
    ∙ ap (λ (x : Settle). settle_turn v c.args.made.now c.args.time c.args.at c.args.row.now c.args.note.now x) (sym c.in-DeleteTold.is))
