use Rattle.std.proofs.Common.{◌<◌, ◌≤◌, length, sym, ap, ◌∙◌, subst, arith, below_more}
use Rattle.node_sets.specs.Members.{has_node}
use Rattle.distributor_part.specs.Targets.{IsFirstMember}
use Rattle.distributor_part.proofs.Firsts.{first_at, none_at}
use Rattle.distributor_part.proofs.targets.first_member.Goals as goal

pub loop-place-init : goal.loop-place-init
loop-place-init c before lt = absurd (omega arith)

pub returns-then-has-clause-some : goal.returns-then-has-clause-some
returns-then-has-clause-some c =
    let size = c.len-place-end.ensures in
    let within : c.loop-place.place < length c.args.list.now = omega arith in
    subst (IsFirstMember c.args.bucket c.args.state.now c.args.list.now c.args.members) (sym c.at-node.ensures)
    (first_at c.args.bucket c.args.state.now c.args.list.now c.args.members c.loop-place.place c.requires within c.loop-place.invariant
    (ap (has_node c.args.members) (sym c.at-node.ensures) ∙ sym c.has.ensures ∙ c.if-has.true))

pub loop-place-preserved : goal.loop-place-preserved
loop-place-preserved c =
    below_more _ _ c.loop-place.invariant (ap (has_node c.args.members) (sym c.at-node.ensures) ∙ sym c.has.ensures ∙ c.if-has.false)

pub returns-clause-none : goal.returns-clause-none
returns-clause-none c =
    let size = c.len-place-end.ensures in
    let past : length c.args.list.now ≤ c.loop-place.place = omega arith in
    none_at c.args.list.now c.args.members c.loop-place.place past c.loop-place.invariant
