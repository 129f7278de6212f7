use Rattle.std.proofs.Common.{◌≡◌, ◌≤◌, ◌+◌, ◌∷◌, ◌++◌, [], ◌∙◌, length, vec_len, vec_capacity, refl, sym, ap, arith}
use Rattle.lane_journals.specs.KeptJournals.{IsLegal}
use Rattle.lane_journals.specs.declared.event.LaneEvent.TheVariants.{Begun}
use Rattle.lane_keeping.specs.LaneKeeping.{setting_of}
use Rattle.operation_keeping.specs.Laws.{MayBeginNext}
use Rattle.lane_states.specs.declared.lane_state.LaneState.{LaneState}
use Rattle.lane_states.specs.LaneStates.{journal_of}
use Rattle.lane_calls.specs.LaneValues.{drawn}
use Rattle.lane_core.specs.Works.{count_of, new_job, room_for, value_of, under_way_at, under_way_in}
use Rattle.lane_lines.proofs.Carrying.{carried-more}
use Rattle.lane_core.proofs.Places.{map-push, push-length}
use Rattle.lane_core.proofs.Working.{key-in, next-stamp, drawn-stamped, counts-begun, job-begun, free-of, jobs-begun, value-by, work-grown}
use Rattle.stamps.specs.Places.{place_of}
use Rattle.lane_lines.proofs.Entries.{finds-noted}
use Rattle.lane_core.proofs.work.Work.note_begun.Goals as goal

pub note-requires-clause-legal : goal.note-requires-clause-legal
note-requires-clause-legal c =
    let x = c.args.self.now.state in
    let s = c.args.state.now in
    let o = c.args.operation in
    let may : MayBeginNext x.lane x.rules (journal_of x) c.args.via s c.args.line o (drawn o.kind s.version (journal_of x))
    = c.operations_begin.ensures.begins _ _ _ _ _ _ _ c.requires.keeps.kept.keeps c.args.via s c.args.line o (drawn o.kind s.version (journal_of x)) c.requires.acting
    (free-of x.lane x.rules (journal_of x) c.args.self.now.jobs.items c.requires.keeps.jobs_are o.id c.requires.free) c.requires.fresh (key-in _ _ c.requires.in_lane) (next-stamp o.kind s.version (journal_of x)) in
    rw (c.next_stamp-stamp.ensures, c.operation.ensures, c.version-version.ensures.value, c.requires.id) may.legal

pub returns-clause-keeps : goal.returns-clause-keeps
returns-clause-keeps c =
    let x = c.args.self.now in
    let s = c.args.state.now in
    let o = c.args.operation in
    let J = journal_of x.state in
    let may : MayBeginNext x.state.lane x.state.rules J c.args.via s c.args.line o (drawn o.kind s.version J)
    = c.operations_begin.ensures.begins _ _ _ _ _ _ _ c.requires.keeps.kept.keeps c.args.via s c.args.line o (drawn o.kind s.version J) c.requires.acting
    (free-of x.state.lane x.state.rules J x.jobs.items c.requires.keeps.jobs_are o.id c.requires.free) c.requires.fresh (key-in _ _ c.requires.in_lane) (next-stamp o.kind s.version J) in
    let stamp : c.next_stamp-stamp.result ≡ drawn o.kind s.version J = c.next_stamp-stamp.ensures ∙ rw (c.operation.ensures, c.version-version.ensures.value) refl in
    let grows : journal_of c.note.new.self ≡ Begun c.args.line c.args.via s.version o.id (drawn o.kind s.version J) ∷ J
    = c.note.ensures.grows ∙ rw (stamp, c.version-version.ensures.value, c.requires.id) refl in
    let items : c.push_job.new.jobs.items ≡ x.jobs.items ++ new_job c.args.line o c.args.via (drawn o.kind s.version J) ∷ [] = c.push_job.ensures ∙ rw (stamp, c.requires.key) refl in
    let after = c.note.ensures.after in
    let lane : c.note.new.self.lane ≡ x.state.lane = ap (λ (z : LaneState). z.lane) after in
    let rules_are : c.note.new.self.rules ≡ x.state.rules = ap (λ (z : LaneState). z.rules) after in
    let newest : c.note.new.self.newest ≡ x.state.newest = ap (λ (z : LaneState). z.newest) after in
    let parts : c.note.new.self.parts ≡ x.state.parts = ap (λ (z : LaneState). z.parts) after in
    let spare : c.note.new.self.spare ≡ x.state.spare = ap (λ (z : LaneState). z.spare) after in
    let was : x.state.spare ≡ room_for x.has_room + length x.jobs.items = c.requires.keeps.spare_is in
    let many : length c.push_job.new.jobs.items ≡ length x.jobs.items + 1 = ap length items ∙ push-length x.jobs.items (new_job c.args.line o c.args.via (drawn o.kind s.version J)) in
    let room : vec_len x.state.journal.events + 2 + x.state.spare ≤ vec_capacity x.state.journal.events = c.requires.room in
    let legal : IsLegal (setting_of x.state.lane x.state.rules) (Begun c.args.line c.args.via s.version o.id (drawn o.kind s.version J) ∷ J) = rw (lane, rules_are, grows) at c.note.ensures.keeps.keeps.legal in
    work-grown x (record { state = record c.note.new.self { spare = c.note.new.self.spare + 1 }; schema = x.schema; drawn = c.count_stamp.new.counts; places = x.places; has_room = x.has_room; jobs = c.push_job.new.jobs })
    (Begun c.args.line c.args.via s.version o.id (drawn o.kind s.version J) ∷ J) c.requires.keeps lane rules_are grows c.note.ensures.keeps (λ d. rw (lane, rules_are, parts) (c.requires.keeps.resting d))
    (omega (arith, room, spare, c.note.ensures.len, c.note.ensures.capacity)) (omega (arith, spare, was, many)) (λ made. rw parts (c.requires.keeps.parted made)) (λ made. ap (λ (z : LaneState). z.turn_room) after ∙ c.requires.keeps.placed made)
    (rw (newest, items) (record {
      newest_is = c.requires.keeps.newest_is;
      counts_are = counts-begun J c.args.line c.args.via s.version o.id (drawn o.kind s.version J) (count_of x.drawn) (count_of c.count_stamp.new.counts) (next-stamp o.kind s.version J) c.requires.keeps.counts_are (rw (sym stamp) c.count_stamp.ensures);
      no_round = c.requires.keeps.no_round;
      jobs_are = jobs-begun x.state.lane x.state.rules J x.jobs.items c.requires.keeps.jobs_are c.args.line c.args.via s o (drawn o.kind s.version J) legal c.requires.fresh c.requires.free
          (job-begun x.state.lane x.state.rules J c.args.line c.args.via s o (drawn o.kind s.version J) c.requires.acting c.requires.in_lane c.requires.own c.requires.plain (drawn-stamped o.kind s.version J) may.preparing);
    }))
    (finds-noted (place_of x.places) x.state.journal.events.items (Begun c.args.line c.args.via s.version o.id (drawn o.kind s.version J)) refl c.requires.keeps.finds)

pub returns-clause-begun : goal.returns-clause-begun
returns-clause-begun c = λ given planned takes.
    let x = c.args.self.now in
    let s = c.args.state.now in
    let o = c.args.operation in
    let J = journal_of x.state in
    let stamp : c.next_stamp-stamp.result ≡ drawn o.kind s.version J = c.next_stamp-stamp.ensures ∙ rw (c.operation.ensures, c.version-version.ensures.value) refl in
    let grows : journal_of c.note.new.self ≡ Begun c.args.line c.args.via s.version o.id (drawn o.kind s.version J) ∷ J
    = c.note.ensures.grows ∙ rw (stamp, c.version-version.ensures.value, c.requires.id) refl in
    let items : c.push_job.new.jobs.items ≡ x.jobs.items ++ new_job c.args.line o c.args.via (drawn o.kind s.version J) ∷ [] = c.push_job.ensures ∙ rw (stamp, c.requires.key) refl in
    let after = c.note.ensures.after in
    value-by x (record { state = record c.note.new.self { spare = c.note.new.self.spare + 1 }; schema = x.schema; drawn = c.count_stamp.new.counts; places = x.places; has_room = x.has_room; jobs = c.push_job.new.jobs }) given planned takes
    (Begun c.args.line c.args.via s.version o.id (drawn o.kind s.version J) ∷ J) (ap (λ (z : LaneState). z.lane) after) (ap (λ (z : LaneState). z.rules) after) refl grows refl
    ∙ ap (λ us. record (value_of x given planned takes) { journal = Begun c.args.line c.args.via s.version o.id (drawn o.kind s.version J) ∷ J; under_way = us })
    (ap under_way_in items ∙ map-push under_way_at x.jobs.items (new_job c.args.line o c.args.via (drawn o.kind s.version J)))

pub returns-clause-carried : goal.returns-clause-carried
returns-clause-carried c = carried-more c.args.self.now.state c.note.new.self (Begun c.args.line c.args.via c.version-version.result c.args.id c.next_stamp-stamp.result) tt c.note.ensures.grows (ap (λ (z : LaneState). z.last) c.note.ensures.after) (ap (λ (z : LaneState). z.late.late) c.note.ensures.after)
