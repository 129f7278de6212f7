use Rattle.std.proofs.Common.{◌≡◌, ◌∙◌, ◌<◌, ◌≤◌, ◌&&◌, not, ℕ, Bool, Some, None, false, sym, ap, subst, if◌then◌else◌}
use Rattle.node_sets.specs.Members.{has_node}
use Rattle.cluster_states.specs.Publishing.{serves}
use Rattle.cluster_states.specs.declared.cluster_state.ClusterState.{ClusterState}
use Rattle.pass_machine.specs.declared.doing.Settle.{Settle}
use Rattle.pass_machine.specs.declared.doing.Settle.TheVariants as settle
use Rattle.pass_machine.specs.declared.doing.Doing.TheVariants.{Settling}
use Rattle.pass_machine.specs.Settling.{alignment_in}
use Rattle.pass_machine.specs.Going.{GoesOver, Stays}
use Rattle.pass_machine.proofs.Overs.{goes_to}
use Rattle.pass_machine.proofs.Silent.{aligned_on, readied_on, kept_on}
use Rattle.pass_machine.proofs.skips.past_silent.Goals as goal

pub returns-in-Aligning : goal.returns-in-Aligning
returns-in-Aligning c = λ v sees has made notes whole time.
    let same : c.args.state.now ≡ v.state = let e : Some c.args.state.now ≡ Some v.state = sym c.requires.heard ∙ sees.heard in cc in
    let to = c.first_from.result in
    let any = c.in-Aligning.any in
    subst (λ (x : Settle). GoesOver v made notes (Settling time c.args.at x) (Settling time c.args.at (settle.Aligning to any))) (sym c.in-Aligning.is)
    (goes_to v made notes (λ n. Settling time c.args.at (settle.Aligning n any)) c.in-Aligning.node to c.first_from.ensures.from
    (λ n a b. aligned_on v made notes time c.args.at c.args.row.now c.args.note.now has whole any n (c.first_from.ensures.within n a b)
    (ap (λ (x : Bool). if x then alignment_in c.args.row.now.bucket c.args.note.now n else None) (ap (λ (s : ClusterState). serves s n) (sym same) ∙ sym (c.serving.ensures n))
    ∙ c.askew.ensures c.args.row.now.bucket n (c.first_from.ensures.passed n a b))))

pub returns-in-Readying : goal.returns-in-Readying
returns-in-Readying c = λ v sees has made notes whole time.
    let to = c.first_from-in-Readying.result in
    let ready = c.in-Readying.ready in
    subst (λ (x : Settle). GoesOver v made notes (Settling time c.args.at x) (Settling time c.args.at (settle.Readying to ready))) (sym c.in-Readying.is)
    (goes_to v made notes (λ n. Settling time c.args.at (settle.Readying n ready)) c.in-Readying.node to c.first_from-in-Readying.ensures.from
    (λ n a b. readied_on v made notes time c.args.at c.args.row.now c.args.note.now has whole ready n (c.first_from-in-Readying.ensures.within n a b)
    (sym (c.asked_of.ensures v sees c.args.row.now has n) ∙ c.first_from-in-Readying.ensures.passed n a b)))

pub returns-in-Deleting : goal.returns-in-Deleting
returns-in-Deleting c = λ v sees has made notes whole time.
    let to = c.first_from-in-Deleting.result in
    subst (λ (x : Settle). GoesOver v made notes (Settling time c.args.at x) (Settling time c.args.at (settle.Deleting to))) (sym c.in-Deleting.is)
    (goes_to v made notes (λ n. Settling time c.args.at (settle.Deleting n)) c.in-Deleting.node to c.first_from-in-Deleting.ensures.from
    (λ n a b. kept_on v made notes time c.args.at c.args.row.now c.args.note.now has whole n (c.first_from-in-Deleting.ensures.within n a b)
    (sym (c.spare.ensures v sees c.args.row.now has n (c.first_from-in-Deleting.ensures.within n a b)) ∙ c.first_from-in-Deleting.ensures.passed n a b)))

pub returns-in_default : goal.returns-in_default
returns-in_default c = λ v sees has made notes whole time. Stays (Settling time c.args.at c.args.next)
