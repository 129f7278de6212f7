use Rattle.cluster_states.proofs.TextSizes.{written_of}
use Rattle.cluster_states.proofs.cluster_state.ClusterState.print.Goals as goal

pub returns : goal.returns
returns c = (
  c.version-version.ensures.valid,
  written_of c.args.self.now _ _ _ _ _ _ _ _ _ _ c.version-version.ensures.value c.marks_of-distributors.ensures c.marks_of-nodes.ensures
      c.len-distributor_count.ensures.value c.len-node_count.ensures.value c.groups.ensures c.in_ok-text.ensures.ok c.in_ok-push_groups.ensures
      c.in_ok-push_marks.ensures c.in_ok-push_marks-2.ensures,
)
