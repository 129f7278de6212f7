use Rattle.std.proofs.Common.{◌≡◌, ◌∙◌, List, [], length, slice_get, refl, sym, ap, subst}
use Rattle.std.specs.Option.{option_copied}
use Rattle.lane_states.specs.LaneStates.{journal_of}
use Rattle.upkeep_spans.specs.Watches.{takes_plans, planned_in}
use Rattle.lane_calls.specs.LaneValues.{LaneValue, OfFirst, IsAny}
use Rattle.lane_core.specs.declared.work.Job.{Job}
use Rattle.lane_core.specs.Works.{value_of}
use Rattle.lane_core.proofs.Told.{behind-pass, inside-of, before-of, none-there, held-first, lane-told, lane-short, lane-passed, none-passed}
use Rattle.lane_core.proofs.Shelves.{lane-is}
use Rattle.lane_core.proofs.lane.Lane.upkeep.Goals as goal
use Rattle.lane_core.proofs.lane.Lane.upkeep.Goals.{in-Ok, in-Err}

pub tell-requires-clause-inside : goal.tell-requires-clause-inside
tell-requires-clause-inside g c =
    let from : c.len-from.result ≡ length c.self.inside.work.state.journal.events.items = c.len-from.ensures ∙ c.self.inside.work.state.journal.events.ok.0 in
    rw (from, c.deref-in-Ok.ensures.value) (inside-of c.self.inside.work.state.journal.events.items c.upkeep.new.self.state.journal.events.items
    (behind-pass _ _ (c.in-Ok.ensures.ok (planned_in c.self.inside.carrier.plans) (takes_plans c.self.inside.carrier.plans))))

pub tell-requires-clause-before : goal.tell-requires-clause-before
tell-requires-clause-before g c =
    let from : c.len-from.result ≡ length c.self.inside.work.state.journal.events.items = c.len-from.ensures ∙ c.self.inside.work.state.journal.events.ok.0 in
    rw (from, c.deref-in-Ok.ensures.value) (before-of c.self.inside.work.state.journal.events.items c.upkeep.new.self.state.journal.events.items c.self.inside.carrier.given c.self.inside.work.state.last
    (behind-pass _ _ (c.in-Ok.ensures.ok (planned_in c.self.inside.carrier.plans) (takes_plans c.self.inside.carrier.plans)))
    c.self.invariant.carried.waiting.counted (c.messages_are_carried.ensures.last c.self.inside.carrier.given (journal_of c.self.inside.work.state) c.self.invariant.carried.carried))

pub returns-in-Some-clause-upkept : goal.returns-in-Some-clause-upkept
returns-in-Some-clause-upkept g c = (
  subst (λ (v : LaneValue). OfFirst IsAny v.under_way (c.in-Some.job.now).line) (lane-is c.self.view_is)
      (held-first c.self.inside.work.jobs.items c.in-Some.job.now (sym (ap (λ (js : List Job). slice_get js 0) c.deref.ensures.value) ∙ sym c.in-Some.ensures.value)),
  refl,
)

pub returns-clause-upkept : goal.returns-clause-upkept
returns-clause-upkept g c = elim c.match-upkeep.branch [
  | in-Ok w ↦ lane-told c.self.inside.work c.upkeep.new.self c.self.inside.carrier.given c.upkeep.new.carrier.given (planned_in c.self.inside.carrier.plans) _ (takes_plans c.self.inside.carrier.plans) _ (c.args.self.now).lane w.tell.result c.match-upkeep.result c.len-from.result
      (lane-is c.self.view_is) c.upkeep.ensures.planned c.upkeep.ensures.kind (idle c) (c.len-from.ensures ∙ c.self.inside.work.state.journal.events.ok.0) w.in-Ok.ensures.ok w.in-Ok.ensures.opened w.in-Ok.ensures.rests (rw w.deref-in-Ok.ensures.value at w.tell.ensures) w.result-is
  | in-Err w ↦ lane-short c.self.inside.work c.upkeep.new.self c.self.inside.carrier.given c.upkeep.new.carrier.given (planned_in c.self.inside.carrier.plans) _ (takes_plans c.self.inside.carrier.plans) _ (c.args.self.now).lane c.match-upkeep.result
      (lane-is c.self.view_is) c.upkeep.ensures.planned c.upkeep.ensures.kind (idle c) w.in-Err.ensures.err w.result-is
]
  where
    idle : (x : goal.Joined-upkeep g) → x.self.inside.work.jobs.items ≡ []
    idle x = none-there x.self.inside.work.jobs.items (sym (ap (λ (js : List Job). slice_get js 0) x.deref.ensures.value) ∙ sym x.first.ensures.value ∙ ap option_copied x.in_default.is)

pub returns-clause-passes : goal.returns-clause-passes
returns-clause-passes g c = elim c.match-upkeep.branch [
  | in-Ok w ↦ lane-passed c.self.inside.work c.upkeep.new.self c.self.inside.carrier.given c.upkeep.new.carrier.given (planned_in c.self.inside.carrier.plans) (planned_in c.upkeep.new.carrier.plans) (takes_plans c.self.inside.carrier.plans) (takes_plans c.upkeep.new.carrier.plans) (c.args.self.now).lane c.match-upkeep.result
      (lane-is c.self.view_is) w.in-Ok.ensures.passes
  | in-Err w ↦ none-passed (c.args.self.now).lane (value_of c.upkeep.new.self c.upkeep.new.carrier.given (planned_in c.upkeep.new.carrier.plans) (takes_plans c.upkeep.new.carrier.plans)) c.match-upkeep.result w.result-is
]
