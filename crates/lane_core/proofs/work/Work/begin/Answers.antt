use Rattle.std.proofs.Common.{◌≡◌, ◌∙◌, ℕ, Option, Some, refl, sym, subst}
use Rattle.ideal_nodes.specs.Placement.{IsOwner}
use Rattle.lane_states.specs.LaneStates.{part_of}
use Rattle.lane_calls.specs.LaneValues.{IsOfDocument}
use Rattle.lane_core.specs.declared.work.Job.{Job}
use Rattle.lane_core.specs.Works.{IsOneOrNone, OfFirstJob}
use Rattle.lane_core.proofs.Under.{first-under}
use Rattle.lane_core.proofs.work.Work.begin.Goals as goal

pub returns-in-Some-holder_of-clause-begins : goal.returns-in-Some-holder_of-clause-begins
returns-in-Some-holder_of-clause-begins c = λ given planned takes.
    let x = c.args.self.now in
    let d = c.args.via in
    let s = c.in-Some.state in
    let o = c.args.operation.now in
    let heard : (part_of x.state d).state ≡ Some s = sym c.state_at.ensures ∙ c.in-Some.is in
    let owns : IsOwner x.state.lane s d = subst (λ (n : ℕ). IsOwner x.state.lane s n) c.if-owner-via.true c.owner_by-owner.ensures in
    let one : IsOneOrNone (λ (j : Job). j.operation.id ≡ o.id) x.jobs.items c.holder_of.result = rw c.deref.ensures.value at c.holder_of.ensures in
    let first : OfFirstJob (λ (j : Job). j.operation.id ≡ o.id) x.jobs.items c.in-Some-holder_of.by = subst (λ (r : Option ℕ). IsOneOrNone (λ (j : Job). j.operation.id ≡ o.id) x.jobs.items r) c.in-Some-holder_of.is one in
    record {
      state = s;
      acting = c.owners_act.ensures.acts _ _ _ _ _ _ _ c.requires.keeps.kept.keeps d s heard owns;
      first = first-under (λ (j : Job). j.operation.id ≡ o.id) (IsOfDocument o.id) x.jobs.items (λ at j got is. is) c.in-Some-holder_of.by (λ at j got is. is) first;
      same = refl;
    }
