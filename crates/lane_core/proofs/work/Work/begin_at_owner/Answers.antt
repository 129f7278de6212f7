use Rattle.std.proofs.Common.{◌≡◌, ◌∙◌, ℕ, true, Option, Some, IfSome, inl, inr, refl, sym, subst}
use Rattle.cluster_states.specs.declared.cluster_state.ClusterState.{ClusterState}
use Rattle.lane_journals.specs.Readers.{held}
use Rattle.lane_journals.specs.Meanings.{history}
use Rattle.lane_keeping.specs.Tidings.{is_older, last_state}
use Rattle.lane_states.specs.LaneStates.{journal_of}
use Rattle.lane_calls.specs.LaneValues.{IsBegunAt, IsOfDocument}
use Rattle.lane_core.specs.declared.work.Job.{Job}
use Rattle.lane_core.specs.Works.{IsOneOrNone, OfFirstJob}
use Rattle.lane_core.proofs.Under.{none-under, first-under}
use Rattle.lane_core.proofs.work.Work.begin_at_owner.Goals as goal

pub returns-in-Some-hearing_held-clause-begins : goal.returns-in-Some-hearing_held-clause-begins
returns-in-Some-hearing_held-clause-begins c = λ given planned takes.
    let x = c.args.self.now in
    let J = journal_of x.state in
    let d = c.owner_by-owner.result in
    let last : last_state J ≡ Some c.in-Some.state = sym c.requires.keeps.newest_is ∙ c.in-Some.is in
    let h = c.in-Some-hearing_held.ensures.held in
    record {
      owner = d;
      state = c.in-Some.state;
      newest = last;
      owns = c.owner_by-owner.ensures;
      cause = inl (
        subst (λ (o : Option ClusterState). IfSome o (λ s. is_older (held d (history J)) s.version ≡ true)) (sym last) h.0,
        first-under (λ (j : Job). j.distributor ≡ d) (IsBegunAt d) x.jobs.items (λ at j got is. is) c.in-Some-hearing_held.by (λ at j got is. is) h.1,
      );
      same = refl;
    }

pub returns-in-Some-holder_of-clause-begins : goal.returns-in-Some-holder_of-clause-begins
returns-in-Some-holder_of-clause-begins c = λ given planned takes.
    let x = c.args.self.now in
    let J = journal_of x.state in
    let d = c.owner_by-owner.result in
    let o = c.args.operation.now in
    let last : last_state J ≡ Some c.in-Some.state = sym c.requires.keeps.newest_is ∙ c.in-Some.is in
    let one : IsOneOrNone (λ (j : Job). j.operation.id ≡ o.id) x.jobs.items c.holder_of.result = rw c.deref.ensures.value at c.holder_of.ensures in
    let first : OfFirstJob (λ (j : Job). j.operation.id ≡ o.id) x.jobs.items c.in-Some-holder_of.by = subst (λ (r : Option ℕ). IsOneOrNone (λ (j : Job). j.operation.id ≡ o.id) x.jobs.items r) c.in-Some-holder_of.is one in
    record {
      owner = d;
      state = c.in-Some.state;
      newest = last;
      owns = c.owner_by-owner.ensures;
      cause = inr (
        (λ behind. none-under (λ (j : Job). j.distributor ≡ d) (IsBegunAt d) x.jobs.items (λ at j got is. is)
            (c.in_default-hearing_held.ensures.free (subst (λ (z : Option ClusterState). IfSome z (λ s. is_older (held d (history J)) s.version ≡ true)) last behind))),
        first-under (λ (j : Job). j.operation.id ≡ o.id) (IsOfDocument o.id) x.jobs.items (λ at j got is. is) c.in-Some-holder_of.by (λ at j got is. is) first,
      );
      same = refl;
    }
