use Rattle.std.proofs.Common.{rules, ◌≡◌, ◌∙◌, ◌<◌, Some, length, slice_set, ap, refl, sym, subst}
use Rattle.messages.specs.declared.decision.Decision.TheVariants.{RoundBegun}
use Rattle.distributor_part.specs.declared.stage.Stage.TheVariants.{Before, Running}
use Rattle.distributor_part.specs.Parts.{Part}
use Rattle.distributor_part.specs.Steps.{BeginsRound}
use Rattle.distributor_part.proofs.UpkeepLaws.{round_at}
use Rattle.lane_journals.specs.declared.event.LaneEvent.TheVariants.{Decided}
use Rattle.lane_keeping.specs.LaneKeeping.{part_in, PartKeeps}
use Rattle.lane_keeping.specs.Acting.{IsActing}
use Rattle.round_keeping.specs.Laws.{IsBegun}
use Rattle.lane_states.specs.LaneStates.{journal_of}
use Rattle.round_keeping.specs.RoundRuns.{MayBegin, EndsEnough, IsRunBy}
use Rattle.lane_states.proofs.Kept.{kept_more, kept_still}
use Rattle.lane_states.proofs.Places.{part-at}
use Rattle.lane_keeping.proofs.Parts.{part-others}
use Rattle.round_keeping.proofs.RoundEnds.{owning-of, inside-of, owner-as, begun-of, begins-by, run-by, begins-at, both-at, now-at, alike-at}
use Rattle.round_keeping.proofs.Runs.{carried-decided}
use Rattle.lane_rounds.proofs.Accepting.{accepted-changed}
use Rattle.lane_rounds.proofs.FreeRows.{idle-begun}
use Rattle.lane_rounds.proofs.rounds.begin_round.Goals as goal

pub begin_step-requires-clause-owner : goal.begin_step-requires-clause-owner
begin_step-requires-clause-owner c =
    let x = c.args.lane.now in
    let d = c.args.distributor in
    let p : Part = c.index_mut-part.result.now in
    let here : d < length x.parts.items = search rules in
    let is : part_in x.lane x.rules x.parts.items d ≡ p = part-at x.lane x.rules x.parts.items d p here (rw c.from.ensures at c.index_mut-part.ensures.value) in
    let may : MayBegin x.lane d p c.args.key = subst (λ (z : Part). MayBegin x.lane d z c.args.key) is c.requires.may in
    let kept : PartKeeps x.lane x.rules (journal_of x) d p = subst (λ (z : Part). PartKeeps x.lane x.rules (journal_of x) d z) is (c.requires.keeps.keeps.parts_are d) in
    owning-of x.lane x.rules (journal_of x) d c.args.key p kept may

pub begin_step-requires-clause-inside : goal.begin_step-requires-clause-inside
begin_step-requires-clause-inside c =
    let x = c.args.lane.now in
    let d = c.args.distributor in
    let p : Part = c.index_mut-part.result.now in
    let here : d < length x.parts.items = search rules in
    let is : part_in x.lane x.rules x.parts.items d ≡ p = part-at x.lane x.rules x.parts.items d p here (rw c.from.ensures at c.index_mut-part.ensures.value) in
    let may : MayBegin x.lane d p c.args.key = subst (λ (z : Part). MayBegin x.lane d z c.args.key) is c.requires.may in
    let kept : PartKeeps x.lane x.rules (journal_of x) d p = subst (λ (z : Part). PartKeeps x.lane x.rules (journal_of x) d z) is (c.requires.keeps.keeps.parts_are d) in
    inside-of x.lane x.rules (journal_of x) d c.args.key p kept may.inside

pub begin_step-requires-clause-told : goal.begin_step-requires-clause-told
begin_step-requires-clause-told c =
    let x = c.args.lane.now in
    let d = c.args.distributor in
    let p : Part = c.index_mut-part.result.now in
    let here : d < length x.parts.items = search rules in
    let is : part_in x.lane x.rules x.parts.items d ≡ p = part-at x.lane x.rules x.parts.items d p here (rw c.from.ensures at c.index_mut-part.ensures.value) in
    let may : MayBegin x.lane d p c.args.key = subst (λ (z : Part). MayBegin x.lane d z c.args.key) is c.requires.may in
    let kept : PartKeeps x.lane x.rules (journal_of x) d p = subst (λ (z : Part). PartKeeps x.lane x.rules (journal_of x) d z) is (c.requires.keeps.keeps.parts_are d) in
    may.told

pub begin_step-requires-clause-no_round : goal.begin_step-requires-clause-no_round
begin_step-requires-clause-no_round c =
    let x = c.args.lane.now in
    let d = c.args.distributor in
    let p : Part = c.index_mut-part.result.now in
    let here : d < length x.parts.items = search rules in
    let is : part_in x.lane x.rules x.parts.items d ≡ p = part-at x.lane x.rules x.parts.items d p here (rw c.from.ensures at c.index_mut-part.ensures.value) in
    let may : MayBegin x.lane d p c.args.key = subst (λ (z : Part). MayBegin x.lane d z c.args.key) is c.requires.may in
    let kept : PartKeeps x.lane x.rules (journal_of x) d p = subst (λ (z : Part). PartKeeps x.lane x.rules (journal_of x) d z) is (c.requires.keeps.keeps.parts_are d) in
    may.no_round

pub begin_step-requires-clause-opened : goal.begin_step-requires-clause-opened
begin_step-requires-clause-opened c =
    let x = c.args.lane.now in
    let d = c.args.distributor in
    let p : Part = c.index_mut-part.result.now in
    let here : d < length x.parts.items = search rules in
    let is : part_in x.lane x.rules x.parts.items d ≡ p = part-at x.lane x.rules x.parts.items d p here (rw c.from.ensures at c.index_mut-part.ensures.value) in
    let may : MayBegin x.lane d p c.args.key = subst (λ (z : Part). MayBegin x.lane d z c.args.key) is c.requires.may in
    let kept : PartKeeps x.lane x.rules (journal_of x) d p = subst (λ (z : Part). PartKeeps x.lane x.rules (journal_of x) d z) is (c.requires.keeps.keeps.parts_are d) in
    rw may.opened refl

pub returns-clause-keeps : goal.returns-clause-keeps
returns-clause-keeps c =
    let x = c.args.lane.now in
    let d = c.args.distributor in
    let p : Part = c.index_mut-part.result.now in
    let q : Part = c.begin_step.new.part in
    let here : d < length x.parts.items = search rules in
    let is : part_in x.lane x.rules x.parts.items d ≡ p = part-at x.lane x.rules x.parts.items d p here (rw c.from.ensures at c.index_mut-part.ensures.value) in
    let keep = c.requires.keeps.keeps in
    let s = c.in-Some.state in
    let plan = c.in-Some-begin_step.plan in
    let heard : (part_in x.lane x.rules x.parts.items d).state ≡ Some s = ap (λ (z : Part). z.state) is ∙ sym c.in-Some.ensures in
    let acting : IsActing x.lane (journal_of x) d s = c.owners_act.ensures.acts _ _ _ _ _ _ _ keep d s heard (owner-as x.lane d c.args.key (part_in x.lane x.rules x.parts.items d) s c.requires.may heard) in
    let step : BeginsRound (part_in x.lane x.rules x.parts.items d) q c.args.key plan.bucket plan.receivers = subst (λ (z : Part). BeginsRound z q c.args.key plan.bucket plan.receivers) (sym is) c.in-Some-begin_step.ensures.some in
    let begun : IsBegun x.lane x.rules (journal_of x) x.parts.items d s q step.at plan.bucket plan.receivers = begun-of x.lane x.rules (journal_of x) x.parts.items d step.at c.args.key q plan.bucket plan.receivers s
    (round_at (part_in x.lane x.rules x.parts.items d) q c.args.key plan.bucket plan.receivers step) step.is_row.has acting c.bits-bits.ensures.valid
    (λ rows key at row e h. c.owners_act.ensures.rows _ _ _ _ _ _ _ keep d s acting rows key at row e h) (idle-begun (journal_of x) s x.rules (part_in x.lane x.rules x.parts.items d) q c.args.key plan.bucket plan.receivers (c.requires.free s heard) (keep.parts_are d).rules_are step (λ rows key at row e h. c.owners_act.ensures.rows _ _ _ _ _ _ _ keep d s acting rows key at row e h) (λ rows key at row h. c.owners_act.ensures.inside rows key at row h)) (c.requires.none_runs s.version) in
    let keep1 = c.events_are_kept.ensures.quiet _ _ _ _ _ _ _ keep (Decided d s.version (RoundBegun plan.bucket plan.receivers)) tt (c.rounds_begin.ensures.legal _ _ _ _ _ _ _ keep d s q step.at plan.bucket plan.receivers begun) in
    rw (c.push_within.ensures.past, c.version.ensures.value, c.from.ensures)
    (kept_more c.requires.keeps (c.parts_are_told.ensures.alike _ _ _ _ _ _ _ keep1 d (slice_set x.parts.items d q) p.asked p.awaited (Running c.in-Some-begin_step.ensures.some.at plan.receivers)
    (alike-at x.lane x.rules x.parts.items d p q here is p.asked p.awaited (Running c.in-Some-begin_step.ensures.some.at plan.receivers) c.in-Some-begin_step.ensures.some.after)
    (part-others x.lane x.rules x.parts.items d q)) tt
    (accepted-changed x.lane x.rules (journal_of x) x.parts.items d p q here is p.asked p.awaited (Running c.in-Some-begin_step.ensures.some.at plan.receivers) c.in-Some-begin_step.ensures.some.after c.requires.keeps.accepted))

pub returns-clause-begins : goal.returns-clause-begins
returns-clause-begins c =
    let x = c.args.lane.now in
    let d = c.args.distributor in
    let p : Part = c.index_mut-part.result.now in
    let q : Part = c.begin_step.new.part in
    let here : d < length x.parts.items = search rules in
    let is : part_in x.lane x.rules x.parts.items d ≡ p = part-at x.lane x.rules x.parts.items d p here (rw c.from.ensures at c.index_mut-part.ensures.value) in
    let keep = c.requires.keeps.keeps in
    let s = c.in-Some.state in
    let plan = c.in-Some-begin_step.plan in
    let heard : (part_in x.lane x.rules x.parts.items d).state ≡ Some s = ap (λ (z : Part). z.state) is ∙ sym c.in-Some.ensures in
    let acting : IsActing x.lane (journal_of x) d s = c.owners_act.ensures.acts _ _ _ _ _ _ _ keep d s heard (owner-as x.lane d c.args.key (part_in x.lane x.rules x.parts.items d) s c.requires.may heard) in
    let step : BeginsRound (part_in x.lane x.rules x.parts.items d) q c.args.key plan.bucket plan.receivers = subst (λ (z : Part). BeginsRound z q c.args.key plan.bucket plan.receivers) (sym is) c.in-Some-begin_step.ensures.some in
    let begun : IsBegun x.lane x.rules (journal_of x) x.parts.items d s q step.at plan.bucket plan.receivers = begun-of x.lane x.rules (journal_of x) x.parts.items d step.at c.args.key q plan.bucket plan.receivers s
    (round_at (part_in x.lane x.rules x.parts.items d) q c.args.key plan.bucket plan.receivers step) step.is_row.has acting c.bits-bits.ensures.valid
    (λ rows key at row e h. c.owners_act.ensures.rows _ _ _ _ _ _ _ keep d s acting rows key at row e h) (idle-begun (journal_of x) s x.rules (part_in x.lane x.rules x.parts.items d) q c.args.key plan.bucket plan.receivers (c.requires.free s heard) (keep.parts_are d).rules_are step (λ rows key at row e h. c.owners_act.ensures.rows _ _ _ _ _ _ _ keep d s acting rows key at row e h) (λ rows key at row h. c.owners_act.ensures.inside rows key at row h)) (c.requires.none_runs s.version) in
    rw (c.push_within.ensures.past, c.version.ensures.value)
    (begins-by x.lane (journal_of x) d s plan.bucket plan.receivers c.args.key c.run_of.result c.run_of.ensures acting c.requires.none_runs
    (c.rounds_begin.ensures.knows _ _ _ _ _ _ _ keep d s q step.at plan.bucket plan.receivers begun c.run_of.ensures.readers c.run_of.ensures.readers_are))

pub returns-clause-run_by : goal.returns-clause-run_by
returns-clause-run_by c =
    let x = c.args.lane.now in
    let d = c.args.distributor in
    let p : Part = c.index_mut-part.result.now in
    let q : Part = c.begin_step.new.part in
    let here : d < length x.parts.items = search rules in
    let is : part_in x.lane x.rules x.parts.items d ≡ p = part-at x.lane x.rules x.parts.items d p here (rw c.from.ensures at c.index_mut-part.ensures.value) in
    let may : MayBegin x.lane d p c.args.key = subst (λ (z : Part). MayBegin x.lane d z c.args.key) is c.requires.may in
    let kept : PartKeeps x.lane x.rules (journal_of x) d p = subst (λ (z : Part). PartKeeps x.lane x.rules (journal_of x) d z) is (c.requires.keeps.keeps.parts_are d) in
    rw c.from.ensures (now-at x.lane x.rules x.parts.items d p q here is (λ z. IsRunBy z c.run_of.result)
    (run-by x.lane (journal_of x) d c.in-Some.state c.in-Some-begin_step.plan.bucket c.in-Some-begin_step.plan.receivers c.args.key c.run_of.result c.run_of.ensures p q c.in-Some-begin_step.ensures.some.at (sym c.in-Some.ensures) may.unasked may.told
    (round_at p q c.args.key c.in-Some-begin_step.plan.bucket c.in-Some-begin_step.plan.receivers c.in-Some-begin_step.ensures.some) c.in-Some-begin_step.ensures.some.is_row.has))

pub returns-clause-step : goal.returns-clause-step
returns-clause-step c =
    let x = c.args.lane.now in
    let d = c.args.distributor in
    let p : Part = c.index_mut-part.result.now in
    let q : Part = c.begin_step.new.part in
    let here : d < length x.parts.items = search rules in
    let is : part_in x.lane x.rules x.parts.items d ≡ p = part-at x.lane x.rules x.parts.items d p here (rw c.from.ensures at c.index_mut-part.ensures.value) in
    rw c.from.ensures (both-at x.lane x.rules x.parts.items d p q here is (λ y z. BeginsRound y z c.args.key c.run_of.result.round.row c.run_of.result.round.receivers)
    (begins-at x.lane (journal_of x) d c.in-Some.state c.in-Some-begin_step.plan.bucket c.in-Some-begin_step.plan.receivers c.args.key c.run_of.result c.run_of.ensures p q c.in-Some-begin_step.ensures.some))

pub returns-in_default-begin_step-clause-keeps : goal.returns-in_default-begin_step-clause-keeps
returns-in_default-begin_step-clause-keeps c =
    let x = c.args.lane.now in
    let d = c.args.distributor in
    let p : Part = c.index_mut-part.result.now in
    let q : Part = c.begin_step.new.part in
    let here : d < length x.parts.items = search rules in
    let is : part_in x.lane x.rules x.parts.items d ≡ p = part-at x.lane x.rules x.parts.items d p here (rw c.from.ensures at c.index_mut-part.ensures.value) in
    rw c.from.ensures
    (kept_still c.requires.keeps (search rules) (c.parts_are_told.ensures.alike _ _ _ _ _ _ _ c.requires.keeps.keeps d (slice_set x.parts.items d q) 0 p.awaited Before
    (alike-at x.lane x.rules x.parts.items d p q here is 0 p.awaited Before c.in_default-begin_step.ensures.none.after) (part-others x.lane x.rules x.parts.items d q))
    (accepted-changed x.lane x.rules (journal_of x) x.parts.items d p q here is 0 p.awaited Before c.in_default-begin_step.ensures.none.after c.requires.keeps.accepted))

pub returns-in_default-begin_step-clause-enough : goal.returns-in_default-begin_step-clause-enough
returns-in_default-begin_step-clause-enough c =
    let x = c.args.lane.now in
    let d = c.args.distributor in
    let p : Part = c.index_mut-part.result.now in
    let q : Part = c.begin_step.new.part in
    let here : d < length x.parts.items = search rules in
    let is : part_in x.lane x.rules x.parts.items d ≡ p = part-at x.lane x.rules x.parts.items d p here (rw c.from.ensures at c.index_mut-part.ensures.value) in
    rw c.from.ensures (both-at x.lane x.rules x.parts.items d p q here is (λ y z. EndsEnough y z c.args.key) c.in_default-begin_step.ensures.none)

pub returns-clause-carried : goal.returns-clause-carried
returns-clause-carried c given h = rw c.push_within.ensures.past (carried-decided given (journal_of c.args.lane.now) c.args.lane.now.last c.args.lane.now.late.late _ _ _ h)
