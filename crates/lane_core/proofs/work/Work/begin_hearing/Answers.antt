use Rattle.std.proofs.Common.{◌≡◌, ◌∙◌, true, List, Option, Some, IfSome, refl, sym, ap, subst}
use Rattle.bucket_ids.specs.Buckets.{Low}
use Rattle.cluster_states.specs.declared.cluster_state.ClusterState.{ClusterState}
use Rattle.ideal_nodes.specs.Placement.{IsOwner}
use Rattle.lane_journals.specs.Readers.{held}
use Rattle.lane_journals.specs.Meanings.{history}
use Rattle.lane_journals.specs.KeptJournals.{past}
use Rattle.lane_journals.specs.declared.event.LaneEvent.{LaneEvent}
use Rattle.lane_keeping.specs.Acting.{IsActing}
use Rattle.lane_core.specs.declared.work.Job.{Job}
use Rattle.lane_core.specs.declared.work.Work.{Work}
use Rattle.lane_keeping.specs.Tidings.{heard_next, is_older, last_state}
use Rattle.lane_states.specs.LaneStates.{journal_of}
use Rattle.lane_calls.specs.LaneValues.{LaneValue, IsBegunAt, IsOfDocument}
use Rattle.lane_core.specs.Works.{begun_by}
use Rattle.lane_core.proofs.Idling.{fresh-heard}
use Rattle.lane_core.proofs.Under.{none-under}
use Rattle.lane_core.proofs.work.Work.begin_hearing.Goals as goal

pub note_begun-requires-clause-fresh : goal.note_begun-requires-clause-fresh
note_begun-requires-clause-fresh c =
    let J : List LaneEvent = journal_of c.args.self.now.state in
    let d = c.args.owner in
    let s = c.args.state.now in
    let same : journal_of c.need_part.new.self.state ≡ J = ap (λ (w : Work). journal_of w.state) c.need_part.ensures.after ∙ ap past c.room_to_begin.ensures.items in
    rw (c.hear_within.ensures.grows ∙ ap (λ (K : List LaneEvent). heard_next d (Some s) K) same) (fresh-heard J d s c.args.line c.requires.fresh)

pub note_begun-requires-clause-room : goal.note_begun-requires-clause-room
note_begun-requires-clause-room c = c.hear_within.ensures.room 2 (rw c.need_part.ensures.after c.in_ok-room_to_begin.ensures.room)

pub returns-clause-ok : goal.returns-clause-ok
returns-clause-ok c = λ given planned takes.
    let x = c.args.self.now in
    let J : List LaneEvent = journal_of x.state in
    let d = c.args.owner in
    let s = c.args.state.now in
    let o = c.args.operation.now in
    let last : last_state J ≡ Some s = sym c.requires.keeps.newest_is ∙ c.requires.newest in
    let same : journal_of c.need_part.new.self.state ≡ J = ap (λ (w : Work). journal_of w.state) c.need_part.ensures.after ∙ ap past c.room_to_begin.ensures.items in
    let grows : journal_of c.hear_within.new.self.state ≡ heard_next d (Some s) J = c.hear_within.ensures.grows ∙ ap (λ (K : List LaneEvent). heard_next d (Some s) K) same in
    let lane : c.need_part.new.self.state.lane ≡ x.state.lane = ap (λ (w : Work). w.state.lane) c.need_part.ensures.after ∙ ap (λ (w : Work). w.state.lane) c.room_to_begin.ensures.after in
    record {
      owner = d;
      state = s;
      newest = last;
      heard = heard_next d (Some s) J;
      heard_is = refl;
      acting = subst (λ (K : List LaneEvent). IsActing x.state.lane K d s) grows
          (subst (λ (b : Low). IsActing b (journal_of c.hear_within.new.self.state) d s) lane (c.hear_within.ensures.acting (subst (λ (b : Low). IsOwner b s d) (sym lane) c.requires.owner)));
      free_to_hear = λ behind. none-under (λ (j : Job). j.distributor ≡ d) (IsBegunAt d) x.jobs.items (λ at j got is. is)
          (c.requires.free_to_hear (subst (λ (z : Option ClusterState). IfSome z (λ t. is_older (held d (history J)) t.version ≡ true)) last behind));
      free = none-under (λ (j : Job). j.operation.id ≡ o.id) (IsOfDocument o.id) x.jobs.items (λ at j got is. is) c.requires.free;
      after = (rw c.in_ok-copy.ensures at (c.note_begun.ensures.begun given planned takes))
          ∙ ap (λ (v : LaneValue). begun_by c.args.line o d s.version v) (c.hear_within.ensures.heard given planned takes)
          ∙ ap (λ (v : LaneValue). begun_by c.args.line o d s.version (record v { journal = heard_next d (Some s) v.journal })) (c.need_part.ensures.same given planned takes ∙ c.room_to_begin.ensures.same given planned takes);
    }
