use Rattle.std.proofs.Common.{◌≡◌, ◌∙◌, ap}
use Rattle.lane_calls.specs.LaneValues.{LaneValue, IsOfDocument}
use Rattle.lane_core.specs.declared.work.Job.{Job}
use Rattle.lane_core.specs.Works.{begun_by}
use Rattle.lane_core.proofs.Under.{none-under}
use Rattle.lane_core.proofs.work.Work.begin_at.Goals as goal

pub returns-clause-ok : goal.returns-clause-ok
returns-clause-ok c = λ given planned takes.
    let s = c.args.state.now in
    let o = c.args.operation.now in
    record {
      state = s;
      acting = c.owners_act.ensures.acts _ _ _ _ _ _ _ c.requires.keeps.kept.keeps _ s c.requires.holds c.requires.owner;
      free = none-under (λ (j : Job). j.operation.id ≡ o.id) (IsOfDocument o.id) c.args.self.now.jobs.items (λ at j got is. is) c.requires.free;
      after = (rw c.in_ok-copy.ensures at (c.note_begun.ensures.begun given planned takes)) ∙ ap (λ (v : LaneValue). begun_by c.args.line o c.args.via s.version v) (c.room_to_begin.ensures.same given planned takes);
    }
