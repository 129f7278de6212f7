use Rattle.std.proofs.Common.{◌≡◌, ◌∙◌, List, Some, inr, sym, ap, subst}
use Rattle.bucket_ids.specs.Buckets.{Low}
use Rattle.ideal_nodes.specs.Placement.{IsOwner}
use Rattle.lane_journals.specs.KeptJournals.{past}
use Rattle.lane_journals.specs.declared.event.LaneEvent.{LaneEvent}
use Rattle.lane_keeping.specs.Tidings.{heard_next}
use Rattle.lane_states.specs.LaneStates.{journal_of}
use Rattle.lane_core.specs.declared.work.Work.{Work}
use Rattle.lane_calls.specs.LaneValues.{LaneValue}
use Rattle.lane_core.proofs.Upkeeping.{maintains-by, opens-by, rests-by, passes-by, on-any-ok, on-any-err}
use Rattle.lane_core.proofs.work.Work.upkeep.Goals as goal

pub maintain-requires-clause-there : goal.maintain-requires-clause-there
maintain-requires-clause-there g c = rw c.hear_within.ensures.parts c.in_ok-need_part.ensures.there

pub maintain-requires-clause-acting : goal.maintain-requires-clause-acting
maintain-requires-clause-acting g c =
    let lane : c.need_part.new.self.state.lane ≡ c.args.self.now.state.lane = ap (λ (w : Work). w.state.lane) c.need_part.ensures.after ∙ ap (λ (w : Work). w.state.lane) c.room_to_begin.ensures.after in
    rw (ap (λ (w : Work). w.state.lane) c.hear_within.ensures.after)
    (c.hear_within.ensures.acting (subst (λ (b : Low). IsOwner b c.in-Some.state c.owner_by-distributor.result) (sym lane) c.owner_by-distributor.ensures))

pub returns-clause-ok : goal.returns-clause-ok
returns-clause-ok g c =
    let x = c.args.self.now in
    let J : List LaneEvent = journal_of x.state in
    let d = c.owner_by-distributor.result in
    let s = c.in-Some.state in
    let same : journal_of c.need_part.new.self.state ≡ J = ap (λ (w : Work). journal_of w.state) c.need_part.ensures.after ∙ ap past c.room_to_begin.ensures.items in
    on-any-ok c.maintain.result (maintains-by x c.hear_within.new.self c.maintain.new.self (record { distributor = d; state = s }) (g.C.Carrier.given c.args.carrier.now) (g.C.Carrier.given c.maintain.new.carrier)
    (sym c.requires.keeps.newest_is ∙ c.in-Some.is) c.owner_by-distributor.ensures
    (λ given planned takes. c.hear_within.ensures.heard given planned takes
    ∙ ap (λ (v : LaneValue). record v { journal = heard_next d (Some s) v.journal }) (c.need_part.ensures.same given planned takes ∙ c.room_to_begin.ensures.same given planned takes))
    (c.hear_within.ensures.grows ∙ ap (λ (K : List LaneEvent). heard_next d (Some s) K) same)
    c.maintain.ensures.after c.maintain.ensures.on c.maintain.ensures.gives)

pub returns-clause-err : goal.returns-clause-err
returns-clause-err g c =
    let x = c.args.self.now in
    let J : List LaneEvent = journal_of x.state in
    let d = c.owner_by-distributor.result in
    let s = c.in-Some.state in
    let same : journal_of c.need_part.new.self.state ≡ J = ap (λ (w : Work). journal_of w.state) c.need_part.ensures.after ∙ ap past c.room_to_begin.ensures.items in
    on-any-err c.maintain.result (inr (maintains-by x c.hear_within.new.self c.maintain.new.self (record { distributor = d; state = s }) (g.C.Carrier.given c.args.carrier.now) (g.C.Carrier.given c.maintain.new.carrier)
    (sym c.requires.keeps.newest_is ∙ c.in-Some.is) c.owner_by-distributor.ensures
    (λ given planned takes. c.hear_within.ensures.heard given planned takes
    ∙ ap (λ (v : LaneValue). record v { journal = heard_next d (Some s) v.journal }) (c.need_part.ensures.same given planned takes ∙ c.room_to_begin.ensures.same given planned takes))
    (c.hear_within.ensures.grows ∙ ap (λ (K : List LaneEvent). heard_next d (Some s) K) same)
    c.maintain.ensures.after c.maintain.ensures.on c.maintain.ensures.gives))

pub returns-clause-opened : goal.returns-clause-opened
returns-clause-opened g c =
    let d = c.owner_by-distributor.result in
    let s = c.in-Some.state in
    let same : journal_of c.need_part.new.self.state ≡ journal_of c.args.self.now.state = ap (λ (w : Work). journal_of w.state) c.need_part.ensures.after ∙ ap past c.room_to_begin.ensures.items in
    opens-by c.upkeep_goes_on.ensures.span c.upkeep_goes_on.ensures.behind c.maintain.result c.args.self.now c.hear_within.new.self c.maintain.new.self (record { distributor = d; state = s })
    (sym c.requires.keeps.newest_is ∙ c.in-Some.is) (c.hear_within.ensures.grows ∙ ap (λ (K : List LaneEvent). heard_next d (Some s) K) same)
    c.maintain.ensures.on c.maintain.ensures.opened c.maintain.ensures.run

pub returns-clause-rests : goal.returns-clause-rests
returns-clause-rests g c =
    let d = c.owner_by-distributor.result in
    let s = c.in-Some.state in
    let same : journal_of c.need_part.new.self.state ≡ journal_of c.args.self.now.state = ap (λ (w : Work). journal_of w.state) c.need_part.ensures.after ∙ ap past c.room_to_begin.ensures.items in
    rests-by c.upkeep_goes_on.ensures.span c.upkeep_goes_on.ensures.behind c.maintain.result c.args.self.now c.hear_within.new.self c.maintain.new.self (record { distributor = d; state = s })
    (g.C.Carrier.given c.maintain.new.carrier) (c.hear_within.ensures.grows ∙ ap (λ (K : List LaneEvent). heard_next d (Some s) K) same)
    c.maintain.ensures.on c.maintain.ensures.rests

pub returns-clause-passes : goal.returns-clause-passes
returns-clause-passes g c =
    let d = c.owner_by-distributor.result in
    let s = c.in-Some.state in
    let h = c.hear_within.new.self in
    let same : journal_of c.need_part.new.self.state ≡ journal_of c.args.self.now.state = ap (λ (w : Work). journal_of w.state) c.need_part.ensures.after ∙ ap past c.room_to_begin.ensures.items in
    passes-by c.maintain.result c.args.self.now h c.maintain.new.self (record { distributor = d; state = s }) (g.C.Carrier.given c.maintain.new.carrier) c.hear_within.ensures.keeps.kept
    (ap (λ (w : Work). w.state.lane) c.hear_within.ensures.after ∙ (ap (λ (w : Work). w.state.lane) c.need_part.ensures.after ∙ ap (λ (w : Work). w.state.lane) c.room_to_begin.ensures.after))
    (ap (λ (w : Work). w.state.rules) c.hear_within.ensures.after ∙ (ap (λ (w : Work). w.state.rules) c.need_part.ensures.after ∙ ap (λ (w : Work). w.state.rules) c.room_to_begin.ensures.after))
    (ap (λ (w : Work). w.state.newest) c.hear_within.ensures.after ∙ (ap (λ (w : Work). w.state.newest) c.need_part.ensures.after ∙ (ap (λ (w : Work). w.state.newest) c.room_to_begin.ensures.after ∙ c.in-Some.is)))
    (c.hear_within.ensures.grows ∙ ap (λ (K : List LaneEvent). heard_next d (Some s) K) same)
    c.maintain.ensures.passes
