use Rattle.std.proofs.Common.{◌≡◌, ◌∙◌, ◌&&◌, ◌||◌, Bool, true, Some, sym, ap, take}
use Rattle.cluster_states.specs.Publishing.{serves}
use Rattle.cluster_states.specs.declared.cluster_state.ClusterState.{ClusterState}
use Rattle.lane_rest.specs.Targets.{is_member, is_active}
use Rattle.pass_machine.specs.Turns.{to_be_active}
use Rattle.pass_machine.proofs.NodesOfRows.{asked_is}
use Rattle.pass_machine.proofs.asked.is_asked.Goals as goal

pub returns-then-has : goal.returns-then-has
returns-then-has c = λ v sees row has.
    let b = is_member (take (v.rules).searchable (v.ideal row.bucket)) c.args.node || is_active (to_be_active v row) c.args.node in
    let same : c.args.state.now ≡ v.state = let e : Some c.args.state.now ≡ Some v.state = sym c.requires.heard ∙ sees.heard in cc in
    let yes : serves v.state c.args.node ≡ true = ap (λ (s : ClusterState). serves s c.args.node) (sym same) ∙ (sym (c.serving.ensures c.args.node) ∙ (sym c.has.ensures ∙ c.if-has.true)) in
    c.has-then-has.ensures ∙ (asked_is c.args.part.now v c.args.at row sees has c.to_be_ready.result c.to_be_ready.ensures c.args.node ∙ ap (λ (t : Bool). t && b) (sym yes))
