use Rattle.std.proofs.Common.{◌≡◌, ◌∙◌, ◌&&◌, ◌||◌, Bool, Some, sym, ap, ap₂, take}
use Rattle.node_sets.specs.Members.{has_node}
use Rattle.cluster_states.specs.Publishing.{serves}
use Rattle.cluster_states.specs.declared.cluster_state.ClusterState.{ClusterState}
use Rattle.pass_machine.proofs.NodesOfRows.{asked_is}
use Rattle.pass_machine.proofs.asked.asked_of.Goals as goal

pub returns : goal.returns
returns c = λ v sees row has n.
    let same : c.args.state.now ≡ v.state = let e : Some c.args.state.now ≡ Some v.state = sym c.requires.heard ∙ sees.heard in cc in
    c.intersection.ensures n ∙ ap₂ (λ (s t : Bool). s && t) (c.serving.ensures n ∙ ap (λ (s : ClusterState). serves s n) same)
    (asked_is c.args.part.now v c.args.at row sees has c.to_be_ready.result c.to_be_ready.ensures n)
