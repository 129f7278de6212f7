use Rattle.std.proofs.Common.{◌≡◌, ◌<◌, ℕ, Some, slice_get, slice_set, refl, sym, ap, subst}
use Rattle.lane_core.specs.declared.work.Job.{Job}
use Rattle.lane_lines.specs.Steps.{GoesIn, RunsIn}
use Rattle.lane_core.specs.Phases.{ComesTo, IsAtMessages}
use Rattle.lane_core.proofs.Places.{get-index, get-within, of-place}
use Rattle.lane_core.proofs.JobsGo.{prepared-of, step-stands, step-key, step-left, keeps-stepped, advances-stepped}
use Rattle.lane_core.proofs.work.Work.step.Goals as goal

pub index_mut-requires : goal.index_mut-requires
index_mut-requires g c = subst (λ (n : ℕ). c.args.at < n) (sym c.args.self.now.jobs.ok.0) (get-within c.args.self.now.jobs.items c.args.at c.requires.prepared.0 c.requires.prepared.1)

pub step_job-requires-clause-stands : goal.step_job-requires-clause-stands
step_job-requires-clause-stands g c =
    let x = c.args.self.now in
    let j : Job = c.index_mut.result.now in
    let within = get-within x.jobs.items c.args.at c.requires.prepared.0 c.requires.prepared.1 in
    let found : slice_get x.jobs.items c.args.at ≡ Some j = get-index x.jobs.items c.args.at j within c.index_mut.ensures.value in
    step-stands x c.args.at j c.requires.keeps found (of-place (λ (z : Job). IsAtMessages z.phase) x.jobs.items c.args.at j found c.requires.prepared)

pub step_job-requires-clause-key : goal.step_job-requires-clause-key
step_job-requires-clause-key g c =
    let x = c.args.self.now in
    let j : Job = c.index_mut.result.now in
    let within = get-within x.jobs.items c.args.at c.requires.prepared.0 c.requires.prepared.1 in
    let found : slice_get x.jobs.items c.args.at ≡ Some j = get-index x.jobs.items c.args.at j within c.index_mut.ensures.value in
    step-key x c.args.at j c.requires.keeps found (of-place (λ (z : Job). IsAtMessages z.phase) x.jobs.items c.args.at j found c.requires.prepared)

pub step_job-requires-clause-left : goal.step_job-requires-clause-left
step_job-requires-clause-left g c =
    let x = c.args.self.now in
    let j : Job = c.index_mut.result.now in
    let within = get-within x.jobs.items c.args.at c.requires.prepared.0 c.requires.prepared.1 in
    let found : slice_get x.jobs.items c.args.at ≡ Some j = get-index x.jobs.items c.args.at j within c.index_mut.ensures.value in
    step-left x c.args.at j c.requires.keeps found (of-place (λ (z : Job). IsAtMessages z.phase) x.jobs.items c.args.at j found c.requires.prepared)

pub returns-clause-keeps : goal.returns-clause-keeps
returns-clause-keeps g c =
    let x = c.args.self.now in
    let j : Job = c.index_mut.result.now in
    let within = get-within x.jobs.items c.args.at c.requires.prepared.0 c.requires.prepared.1 in
    let found : slice_get x.jobs.items c.args.at ≡ Some j = get-index x.jobs.items c.args.at j within c.index_mut.ensures.value in
    let s = c.step_job in
    let p = prepared-of j.phase (of-place (λ (z : Job). IsAtMessages z.phase) x.jobs.items c.args.at j found c.requires.prepared) in
    let comes : ComesTo s.new.state j.line p.1 p.0 s.new.job.phase s.result = rw p.3 at s.ensures.comes in
    let going : GoesIn s.new.state j.line p.0.plan = rw p.3 at s.ensures.going in
    let run : RunsIn x.state s.new.state j.line p.0 = rw p.3 at s.ensures.run in
    keeps-stepped x _ c.args.at j p.0 p.1 p.2 c.requires.keeps found p.3 s.ensures.keeps s.ensures.after s.ensures.quiet
    c.operations_end.ensures.ends c.operations_end.ensures.acked s.new.job.phase s.result comes going run refl refl (ap (slice_set x.jobs.items c.args.at) s.ensures.job) s.ensures.spare s.ensures.finds

pub returns-clause-advances : goal.returns-clause-advances
returns-clause-advances g c = λ planned takes.
    let x = c.args.self.now in
    let j : Job = c.index_mut.result.now in
    let within = get-within x.jobs.items c.args.at c.requires.prepared.0 c.requires.prepared.1 in
    let found : slice_get x.jobs.items c.args.at ≡ Some j = get-index x.jobs.items c.args.at j within c.index_mut.ensures.value in
    let s = c.step_job in
    let p = prepared-of j.phase (of-place (λ (z : Job). IsAtMessages z.phase) x.jobs.items c.args.at j found c.requires.prepared) in
    let comes : ComesTo s.new.state j.line p.1 p.0 s.new.job.phase s.result = rw p.3 at s.ensures.comes in
    let going : GoesIn s.new.state j.line p.0.plan = rw p.3 at s.ensures.going in
    let run : RunsIn x.state s.new.state j.line p.0 = rw p.3 at s.ensures.run in
    advances-stepped x (record { state = s.new.state; schema = x.schema; drawn = x.drawn; places = x.places; has_room = x.has_room; jobs = x.jobs }) c.args.at j p.0 p.1 p.2 c.requires.keeps found p.3 s.ensures.keeps s.ensures.after s.ensures.quiet
    c.operations_end.ensures.ends c.operations_end.ensures.acked s.new.job.phase s.result comes going run (slice_set x.jobs.items c.args.at s.new.job) (ap (slice_set x.jobs.items c.args.at) s.ensures.job) _ _ planned takes s.ensures.one s.ensures.few
