use Rattle.std.proofs.Common.{◌≡◌, ◌∙◌, sym, ap}
use Rattle.lane_states.specs.LaneStates.{journal_of}
use Rattle.lane_core.specs.declared.work.Job.{Job}
use Rattle.lane_core.specs.Works.{OfJob}
use Rattle.lane_core.proofs.Places.{get-one}
use Rattle.lane_core.proofs.LaneJobs.{may-advance, more-at, advance-at}
use Rattle.lane_core.proofs.Searching.{to-step}
use Rattle.upkeep_spans.specs.Watches.{takes_plans, planned_in}
use Rattle.lane_core.proofs.lane.Lane.advance.Goals as goal

pub place_of-at-requires : goal.place_of-at-requires
place_of-at-requires g c = rw c.deref.ensures.value (may-advance c.self.inside.work.jobs.items c.args.line (rw (← c.self.view_is) at c.requires))

pub prepare-requires-clause-begun : goal.prepare-requires-clause-begun
prepare-requires-clause-begun g c =
    let b = c.is_begun.ensures in
    (b.0, b.1, sym b.2 ∙ c.if-is_begun.true)

pub step-requires-clause-prepared : goal.step-requires-clause-prepared
step-requires-clause-prepared g c =
    let x = c.self.inside.work in
    let b = c.is_begun.ensures in
    let p : OfJob (λ (z : Job). z.line ≡ c.args.line) c.self.inside.work.jobs.items c.place_of-at.result = rw c.deref.ensures.value at c.place_of-at.ensures in
    let same = get-one x.jobs.items c.place_of-at.result b.0 p.0 b.1 p.1 in (
      b.0,
      b.1,
      to-step b.0 (more-at x.jobs.items c.args.line x.state.lane x.state.rules (journal_of x.state) c.self.invariant.works.jobs_are (rw (← c.self.view_is) at c.requires) c.place_of-at.result b.0 b.1
          (ap (λ (z : Job). z.line) same ∙ p.2)) (sym b.2 ∙ c.if-is_begun.false),
    )

pub returns-then-is_begun-clause-advances : goal.returns-then-is_begun-clause-advances
returns-then-is_begun-clause-advances g c =
    let x = c.self.inside.work in
    let p : OfJob (λ (z : Job). z.line ≡ c.args.line) x.jobs.items c.place_of-at.result = rw c.deref.ensures.value at c.place_of-at.ensures in
    let w = more-at x.jobs.items c.args.line x.state.lane x.state.rules (journal_of x.state) c.self.invariant.works.jobs_are (rw (← c.self.view_is) at c.requires) c.place_of-at.result p.0 p.1 p.2 in
    rw (← c.self.view_is, c.prepare.ensures.planned, c.prepare.ensures.kind)
    (advance-at c.self.inside.work _ _ _ _ c.args.line c.place_of-at.result p.0 p.1 p.2 w c.prepare.result (c.prepare.ensures.advances (planned_in c.self.inside.carrier.plans) (takes_plans c.self.inside.carrier.plans)))

pub returns-clause-advances : goal.returns-clause-advances
returns-clause-advances g c =
    let x = c.self.inside.work in
    let p : OfJob (λ (z : Job). z.line ≡ c.args.line) x.jobs.items c.place_of-at.result = rw c.deref.ensures.value at c.place_of-at.ensures in
    let w = more-at x.jobs.items c.args.line x.state.lane x.state.rules (journal_of x.state) c.self.invariant.works.jobs_are (rw (← c.self.view_is) at c.requires) c.place_of-at.result p.0 p.1 p.2 in
    rw (← c.self.view_is, c.step.ensures.planned, c.step.ensures.kind)
    (advance-at c.self.inside.work _ _ _ _ c.args.line c.place_of-at.result p.0 p.1 p.2 w c.step.result (c.step.ensures.advances (planned_in c.self.inside.carrier.plans) (takes_plans c.self.inside.carrier.plans)))
