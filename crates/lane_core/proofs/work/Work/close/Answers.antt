use Rattle.std.proofs.Common.{◌≡◌, ◌∷◌, ◌∙◌, List, Some, slice_get, refl, ap}
use Rattle.lane_journals.specs.declared.event.LaneEvent.TheVariants.{Closed}
use Rattle.lane_core.specs.declared.work.Job.{Job}
use Rattle.lane_states.specs.declared.lane_state.LaneState.{LaneState}
use Rattle.lane_states.specs.LaneStates.{journal_of}
use Rattle.lane_calls.specs.declared.progress.UnderWay.{UnderWay}
use Rattle.lane_core.specs.Works.{OfJob, IsJob, value_of, under_way_at, under_way_in}
use Rattle.lane_core.proofs.Places.{get-index, get-map, get-one, get-within, map-remove}
use Rattle.lane_core.proofs.JobEnds.{may-close, ends-so, to-close}
use Rattle.lane_lines.proofs.Carrying.{carried-more}
use Rattle.lane_core.proofs.Working.{value-by, work-closed}
use Rattle.lane_core.proofs.work.Work.close.Goals as goal

pub end_of-line-requires : goal.end_of-line-requires
end_of-line-requires c =
    let x = c.args.self.now in
    let p : OfJob (λ (z : Job). z.line ≡ c.args.line) x.jobs.items c.place_of-at.result = rw c.deref.ensures.value at c.place_of-at.ensures in
    let within = get-within x.jobs.items c.place_of-at.result p.0 p.1 in
    let found : slice_get x.jobs.items c.place_of-at.result ≡ Some c.remove-job.result = get-index x.jobs.items c.place_of-at.result c.remove-job.result within c.remove-job.ensures.value in
    let same = get-one x.jobs.items c.place_of-at.result c.remove-job.result p.0 found p.1 in
    to-close x.state.lane x.state.rules (journal_of x.state) x.jobs.items c.args.line c.requires.keeps.jobs_are c.requires.over c.place_of-at.result c.remove-job.result found (ap (λ (z : Job). z.line) same ∙ p.2)

pub note_end-requires-clause-may : goal.note_end-requires-clause-may
note_end-requires-clause-may c =
    let x = c.args.self.now in
    let j : Job = c.remove-job.result in
    let p : OfJob (λ (z : Job). z.line ≡ c.args.line) x.jobs.items c.place_of-at.result = rw c.deref.ensures.value at c.place_of-at.ensures in
    let within = get-within x.jobs.items c.place_of-at.result p.0 p.1 in
    let found : slice_get x.jobs.items c.place_of-at.result ≡ Some j = get-index x.jobs.items c.place_of-at.result j within c.remove-job.ensures.value in
    let k : IsJob x.state.lane x.state.rules (journal_of x.state) j = c.requires.keeps.jobs_are.each c.place_of-at.result j found in
    may-close _ j k _ _ _ _ _ _ c.end_of-line.ensures (c.operations_end.ensures.gives_up _ _ _ _ _ _ _ c.requires.keeps.kept.keeps _ _ _ _ _ k.under_way)

pub returns-clause-keeps : goal.returns-clause-keeps
returns-clause-keeps c =
    let x = c.args.self.now in
    let j : Job = c.remove-job.result in
    let e = c.end_of-line.result in
    let p : OfJob (λ (z : Job). z.line ≡ c.args.line) x.jobs.items c.place_of-at.result = rw c.deref.ensures.value at c.place_of-at.ensures in
    let within = get-within x.jobs.items c.place_of-at.result p.0 p.1 in
    let found : slice_get x.jobs.items c.place_of-at.result ≡ Some j = get-index x.jobs.items c.place_of-at.result j within c.remove-job.ensures.value in
    let after = c.note_end.ensures.after in
    work-closed x (record { state = c.note_end.new.lane; schema = x.schema; drawn = x.drawn; places = x.places; has_room = x.has_room; jobs = c.remove-job.new.self }) c.place_of-at.result j e.outcome c.requires.keeps found c.remove-job.ensures.items refl refl refl
    (ap (λ (z : LaneState). z.lane) after) (ap (λ (z : LaneState). z.rules) after) (ap (λ (z : LaneState). z.newest) after) (ap (λ (z : LaneState). z.spare) after) c.note_end.ensures.parts (ap (λ (z : LaneState). z.turn_room) after)
    c.note_end.ensures.keeps (c.note_end.ensures.resting c.requires.keeps.resting) (c.note_end.ensures.grows ∙ rw c.end_of-line.ensures.line_is refl) c.note_end.ensures.len c.note_end.ensures.capacity

pub returns-clause-closes : goal.returns-clause-closes
returns-clause-closes c = λ given planned takes.
    let x = c.args.self.now in
    let at = c.place_of-at.result in
    let j : Job = c.remove-job.result in
    let e = c.end_of-line.result in
    let p : OfJob (λ (z : Job). z.line ≡ c.args.line) x.jobs.items c.place_of-at.result = rw c.deref.ensures.value at c.place_of-at.ensures in
    let within = get-within x.jobs.items at p.0 p.1 in
    let found : slice_get x.jobs.items at ≡ Some j = get-index x.jobs.items at j within c.remove-job.ensures.value in
    let same = get-one x.jobs.items at j p.0 found p.1 in
    let is : j.line ≡ c.args.line = ap (λ (z : Job). z.line) same ∙ p.2 in
    let k : IsJob x.state.lane x.state.rules (journal_of x.state) j = c.requires.keeps.jobs_are.each at j found in
    let after = c.note_end.ensures.after in
    let told : e.told ≡ e.outcome = (ends-so x.state j k _ _ _ _ _ _ c.end_of-line.ensures).0 in
    let grows : journal_of c.note_end.new.lane ≡ Closed c.args.line e.told ∷ journal_of x.state = c.note_end.ensures.grows ∙ rw (c.end_of-line.ensures.line_is, is, told) refl in
    record {
      at = at;
      operation = under_way_at j;
      place = record { found = get-map under_way_at x.jobs.items at j found; line_is = is };
      ends = (ends-so x.state j k _ _ _ _ _ _ c.end_of-line.ensures).1;
      after = value-by x (record { state = c.note_end.new.lane; schema = x.schema; drawn = x.drawn; places = x.places; has_room = x.has_room; jobs = c.remove-job.new.self }) given planned takes (Closed c.args.line e.told ∷ journal_of x.state)
          (ap (λ (z : LaneState). z.lane) after) (ap (λ (z : LaneState). z.rules) after) refl grows refl
          ∙ ap (λ (us : List UnderWay). record (value_of x given planned takes) { journal = Closed c.args.line e.told ∷ journal_of x.state; under_way = us })
          (ap (λ (js : List Job). under_way_in js) c.remove-job.ensures.items ∙ map-remove under_way_at x.jobs.items at);
    }

pub returns-clause-carried : goal.returns-clause-carried
returns-clause-carried c = carried-more c.args.self.now.state c.note_end.new.lane _ tt c.note_end.ensures.grows (ap (λ (z : LaneState). z.last) c.note_end.ensures.after) (ap (λ (z : LaneState). z.late.late) c.note_end.ensures.after)
