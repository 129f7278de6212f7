use Rattle.lane_core.proofs.Places.{get-within, of-place}
use Rattle.std.proofs.Common.{◌≡◌, ◌<◌, ℕ, slice_set, refl, sym, subst}
use Rattle.lane_core.specs.declared.work.Job.{Job}
use Rattle.lane_core.specs.declared.work.Phase.TheVariants.{Over}
use Rattle.lane_core.proofs.Shortfalls.{work-over, over-value}
use Rattle.lane_core.proofs.work.Work.fall_short.Goals as goal

pub set_phase-requires : goal.set_phase-requires
set_phase-requires c = subst (λ (n : ℕ). c.args.at < n) (sym c.args.self.now.jobs.ok.0) (get-within c.args.self.now.jobs.items c.args.at c.requires.short.0 c.requires.short.1)

pub returns-clause-keeps : goal.returns-clause-keeps
returns-clause-keeps c =
    let x = c.args.self.now in
    let h = c.requires.short in
    work-over x (record { state = x.state; schema = x.schema; drawn = x.drawn; places = x.places; has_room = x.has_room; jobs = c.set_phase.new.jobs }) c.args.at c.args.outcome c.args.told c.none.result c.requires.keeps h.0 h.1 h.2 refl refl refl refl refl
    (of-place (λ (z : Job). c.set_phase.new.jobs.items ≡ slice_set x.jobs.items c.args.at (record z { phase = Over c.args.outcome c.args.told c.none.result })) x.jobs.items c.args.at h.0 h.1 c.set_phase.ensures)

pub returns-clause-over : goal.returns-clause-over
returns-clause-over c = λ given planned takes.
    let x = c.args.self.now in
    let h = c.requires.short in
    over-value x (record { state = x.state; schema = x.schema; drawn = x.drawn; places = x.places; has_room = x.has_room; jobs = c.set_phase.new.jobs }) c.args.at c.args.outcome c.args.told c.none.result c.requires.keeps h.0 h.1 h.2 refl refl refl refl refl
    (of-place (λ (z : Job). c.set_phase.new.jobs.items ≡ slice_set x.jobs.items c.args.at (record z { phase = Over c.args.outcome c.args.told c.none.result })) x.jobs.items c.args.at h.0 h.1 c.set_phase.ensures) given planned takes
