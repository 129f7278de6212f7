use Rattle.std.proofs.Common.{ℕ, rules, ◌≡◌, ◌∙◌, ◌<◌, ◌∷◌, true, Some, length, slice_set, ap, refl, sym, subst}
use Rattle.bucket_ids.specs.Buckets.{Low, has_key}
use Rattle.messages.specs.declared.decision.Decision.TheVariants.{RoundBegun}
use Rattle.distributor_part.specs.declared.stage.Stage.TheVariants.{Running}
use Rattle.distributor_part.specs.Parts.{Part, rows_of}
use Rattle.distributor_part.specs.Upkeep.{BeginsRoundAt}
use Rattle.lane_journals.specs.declared.event.LaneEvent.TheVariants.{Decided}
use Rattle.lane_keeping.specs.LaneKeeping.{part_in}
use Rattle.lane_keeping.specs.Acting.{IsActing}
use Rattle.round_keeping.specs.Laws.{IsBegun}
use Rattle.lane_states.specs.LaneStates.{journal_of}
use Rattle.round_keeping.specs.declared.round_run.RoundRun.{RoundRun}
use Rattle.round_keeping.specs.RoundRuns.{MayBeginAt, IsRunBy, Begins}
use Rattle.lane_states.proofs.Kept.{kept_more}
use Rattle.lane_states.proofs.Places.{part-at}
use Rattle.lane_keeping.proofs.Parts.{part-others}
use Rattle.round_keeping.proofs.RoundEnds.{owner-place, begun-of, begins-by, run-by, begins-there, both-at, now-at, alike-at}
use Rattle.round_keeping.proofs.Runs.{carried-decided}
use Rattle.lane_rounds.proofs.Accepting.{accepted-changed}
use Rattle.lane_rounds.proofs.rounds.begin_round_at.Goals as goal

pub begin_at-plan-requires-clause-heard : goal.begin_at-plan-requires-clause-heard
begin_at-plan-requires-clause-heard c =
    let x = c.args.lane.now in
    let d = c.args.distributor in
    let p : Part = c.index_mut-part.result.now in
    let here : d < length x.parts.items = search rules in
    let is : part_in x.lane x.rules x.parts.items d ≡ p = part-at x.lane x.rules x.parts.items d p here (rw c.from.ensures at c.index_mut-part.ensures.value) in
    let may : MayBeginAt x.lane d p c.args.at = subst (λ (z : Part). MayBeginAt x.lane d z c.args.at) is c.requires.may in
    rw may.heard refl

pub begin_at-plan-requires-clause-opened : goal.begin_at-plan-requires-clause-opened
begin_at-plan-requires-clause-opened c =
    let x = c.args.lane.now in
    let d = c.args.distributor in
    let p : Part = c.index_mut-part.result.now in
    let here : d < length x.parts.items = search rules in
    let is : part_in x.lane x.rules x.parts.items d ≡ p = part-at x.lane x.rules x.parts.items d p here (rw c.from.ensures at c.index_mut-part.ensures.value) in
    let may : MayBeginAt x.lane d p c.args.at = subst (λ (z : Part). MayBeginAt x.lane d z c.args.at) is c.requires.may in
    rw may.opened refl

pub begin_at-plan-requires-clause-place : goal.begin_at-plan-requires-clause-place
begin_at-plan-requires-clause-place c =
    let x = c.args.lane.now in
    let d = c.args.distributor in
    let p : Part = c.index_mut-part.result.now in
    let here : d < length x.parts.items = search rules in
    let is : part_in x.lane x.rules x.parts.items d ≡ p = part-at x.lane x.rules x.parts.items d p here (rw c.from.ensures at c.index_mut-part.ensures.value) in
    let may : MayBeginAt x.lane d p c.args.at = subst (λ (z : Part). MayBeginAt x.lane d z c.args.at) is c.requires.may in
    subst (λ r. c.args.at < length (rows_of r)) (sym may.opened) may.place

pub begin_at-plan-requires-clause-no_round : goal.begin_at-plan-requires-clause-no_round
begin_at-plan-requires-clause-no_round c =
    let x = c.args.lane.now in
    let d = c.args.distributor in
    let p : Part = c.index_mut-part.result.now in
    let here : d < length x.parts.items = search rules in
    let is : part_in x.lane x.rules x.parts.items d ≡ p = part-at x.lane x.rules x.parts.items d p here (rw c.from.ensures at c.index_mut-part.ensures.value) in
    let may : MayBeginAt x.lane d p c.args.at = subst (λ (z : Part). MayBeginAt x.lane d z c.args.at) is c.requires.may in
    may.no_round

pub returns-clause-keeps : goal.returns-clause-keeps
returns-clause-keeps c =
    let x = c.args.lane.now in
    let d = c.args.distributor in
    let p : Part = c.index_mut-part.result.now in
    let here : d < length x.parts.items = search rules in
    let is : part_in x.lane x.rules x.parts.items d ≡ p = part-at x.lane x.rules x.parts.items d p here (rw c.from.ensures at c.index_mut-part.ensures.value) in
    let may : MayBeginAt x.lane d p c.args.at = subst (λ (z : Part). MayBeginAt x.lane d z c.args.at) is c.requires.may in
    let q : Part = c.begin_at-plan.new.part in
    let keep = c.requires.keeps.keeps in
    let s = c.in-Some.state in
    let plan = c.begin_at-plan.result in
    let heard : (part_in x.lane x.rules x.parts.items d).state ≡ Some s = ap (λ (z : Part). z.state) is ∙ sym c.in-Some.ensures in
    let acting : IsActing x.lane (journal_of x) d s = c.owners_act.ensures.acts _ _ _ _ _ _ _ keep d s heard (owner-place x.lane d c.args.at (part_in x.lane x.rules x.parts.items d) s c.requires.may heard) in
    let step : BeginsRoundAt (part_in x.lane x.rules x.parts.items d) q c.args.at plan.bucket plan.receivers = subst (λ (z : Part). BeginsRoundAt z q c.args.at plan.bucket plan.receivers) (sym is) c.begin_at-plan.ensures.begins in
    let has : has_key step.row.bucket plan.bucket.low ≡ true = subst (λ (b : Low). has_key b plan.bucket.low ≡ true) step.same_bucket c.begin_at-plan.ensures.key.own in
    let begun : IsBegun x.lane x.rules (journal_of x) x.parts.items d s q c.args.at plan.bucket plan.receivers = begun-of x.lane x.rules (journal_of x) x.parts.items d c.args.at plan.bucket.low q plan.bucket plan.receivers s
    step has acting c.bits-bits.ensures.valid
    (λ rows key at row e h. c.owners_act.ensures.rows _ _ _ _ _ _ _ keep d s acting rows key at row e h) (c.requires.idle s.version plan.bucket) (c.requires.none_runs s.version) in
    let keep1 = c.events_are_kept.ensures.quiet _ _ _ _ _ _ _ keep (Decided d s.version (RoundBegun plan.bucket plan.receivers)) tt (c.rounds_begin.ensures.legal _ _ _ _ _ _ _ keep d s q c.args.at plan.bucket plan.receivers begun) in
    rw (c.push_within.ensures.past, c.version.ensures.value, c.from.ensures)
    (kept_more c.requires.keeps (c.parts_are_told.ensures.alike _ _ _ _ _ _ _ keep1 d (slice_set x.parts.items d q) p.asked p.awaited (Running c.args.at plan.receivers)
    (alike-at x.lane x.rules x.parts.items d p q here is p.asked p.awaited (Running c.args.at plan.receivers) c.begin_at-plan.ensures.begins.after)
    (part-others x.lane x.rules x.parts.items d q)) tt
    (accepted-changed x.lane x.rules (journal_of x) x.parts.items d p q here is p.asked p.awaited (Running c.args.at plan.receivers) c.begin_at-plan.ensures.begins.after c.requires.keeps.accepted))

pub returns-clause-begins : goal.returns-clause-begins
returns-clause-begins c =
    let x = c.args.lane.now in
    let d = c.args.distributor in
    let p : Part = c.index_mut-part.result.now in
    let here : d < length x.parts.items = search rules in
    let is : part_in x.lane x.rules x.parts.items d ≡ p = part-at x.lane x.rules x.parts.items d p here (rw c.from.ensures at c.index_mut-part.ensures.value) in
    let may : MayBeginAt x.lane d p c.args.at = subst (λ (z : Part). MayBeginAt x.lane d z c.args.at) is c.requires.may in
    let q : Part = c.begin_at-plan.new.part in
    let keep = c.requires.keeps.keeps in
    let s = c.in-Some.state in
    let plan = c.begin_at-plan.result in
    let heard : (part_in x.lane x.rules x.parts.items d).state ≡ Some s = ap (λ (z : Part). z.state) is ∙ sym c.in-Some.ensures in
    let acting : IsActing x.lane (journal_of x) d s = c.owners_act.ensures.acts _ _ _ _ _ _ _ keep d s heard (owner-place x.lane d c.args.at (part_in x.lane x.rules x.parts.items d) s c.requires.may heard) in
    let step : BeginsRoundAt (part_in x.lane x.rules x.parts.items d) q c.args.at plan.bucket plan.receivers = subst (λ (z : Part). BeginsRoundAt z q c.args.at plan.bucket plan.receivers) (sym is) c.begin_at-plan.ensures.begins in
    let has : has_key step.row.bucket plan.bucket.low ≡ true = subst (λ (b : Low). has_key b plan.bucket.low ≡ true) step.same_bucket c.begin_at-plan.ensures.key.own in
    let begun : IsBegun x.lane x.rules (journal_of x) x.parts.items d s q c.args.at plan.bucket plan.receivers = begun-of x.lane x.rules (journal_of x) x.parts.items d c.args.at plan.bucket.low q plan.bucket plan.receivers s
    step has acting c.bits-bits.ensures.valid
    (λ rows key at row e h. c.owners_act.ensures.rows _ _ _ _ _ _ _ keep d s acting rows key at row e h) (c.requires.idle s.version plan.bucket) (c.requires.none_runs s.version) in
    let K = Decided d s.version (RoundBegun plan.bucket plan.receivers) ∷ journal_of x in
    let key : c.run_of.result.key ≡ c.low-key.result = ap (λ (z : RoundRun). z.key) c.run_of.ensures.is in
    let b : Begins x.lane (journal_of x) K d c.low-key.result c.run_of.result = begins-by x.lane (journal_of x) d s plan.bucket plan.receivers c.low-key.result c.run_of.result c.run_of.ensures acting c.requires.none_runs
    (c.rounds_begin.ensures.knows _ _ _ _ _ _ _ keep d s q c.args.at plan.bucket plan.receivers begun c.run_of.ensures.readers c.run_of.ensures.readers_are) in
    rw (c.push_within.ensures.past, c.version.ensures.value)
    (subst (λ (k : ℕ). Begins x.lane (journal_of x) K d k c.run_of.result) (sym key) b)

pub returns-clause-run_by : goal.returns-clause-run_by
returns-clause-run_by c =
    let x = c.args.lane.now in
    let d = c.args.distributor in
    let p : Part = c.index_mut-part.result.now in
    let here : d < length x.parts.items = search rules in
    let is : part_in x.lane x.rules x.parts.items d ≡ p = part-at x.lane x.rules x.parts.items d p here (rw c.from.ensures at c.index_mut-part.ensures.value) in
    let may : MayBeginAt x.lane d p c.args.at = subst (λ (z : Part). MayBeginAt x.lane d z c.args.at) is c.requires.may in
    let q : Part = c.begin_at-plan.new.part in
    let keep = c.requires.keeps.keeps in
    let s = c.in-Some.state in
    let plan = c.begin_at-plan.result in
    let heard : (part_in x.lane x.rules x.parts.items d).state ≡ Some s = ap (λ (z : Part). z.state) is ∙ sym c.in-Some.ensures in
    let acting : IsActing x.lane (journal_of x) d s = c.owners_act.ensures.acts _ _ _ _ _ _ _ keep d s heard (owner-place x.lane d c.args.at (part_in x.lane x.rules x.parts.items d) s c.requires.may heard) in
    let step : BeginsRoundAt (part_in x.lane x.rules x.parts.items d) q c.args.at plan.bucket plan.receivers = subst (λ (z : Part). BeginsRoundAt z q c.args.at plan.bucket plan.receivers) (sym is) c.begin_at-plan.ensures.begins in
    let has : has_key step.row.bucket plan.bucket.low ≡ true = subst (λ (b : Low). has_key b plan.bucket.low ≡ true) step.same_bucket c.begin_at-plan.ensures.key.own in
    let begun : IsBegun x.lane x.rules (journal_of x) x.parts.items d s q c.args.at plan.bucket plan.receivers = begun-of x.lane x.rules (journal_of x) x.parts.items d c.args.at plan.bucket.low q plan.bucket plan.receivers s
    step has acting c.bits-bits.ensures.valid
    (λ rows key at row e h. c.owners_act.ensures.rows _ _ _ _ _ _ _ keep d s acting rows key at row e h) (c.requires.idle s.version plan.bucket) (c.requires.none_runs s.version) in
    let own : has_key plan.bucket c.low-key.result ≡ true = subst (λ (k : ℕ). has_key plan.bucket k ≡ true) (sym c.low-key.ensures.value) c.begin_at-plan.ensures.key.own in
    rw c.from.ensures (now-at x.lane x.rules x.parts.items d p q here is (λ z. IsRunBy z c.run_of.result)
    (run-by x.lane (journal_of x) d s plan.bucket plan.receivers c.low-key.result c.run_of.result c.run_of.ensures p q c.args.at (sym c.in-Some.ensures) may.unasked may.told c.begin_at-plan.ensures.begins
    (subst (λ (b : Low). has_key b c.low-key.result ≡ true) c.begin_at-plan.ensures.begins.same_bucket own)))

pub returns-clause-step : goal.returns-clause-step
returns-clause-step c =
    let x = c.args.lane.now in
    let d = c.args.distributor in
    let p : Part = c.index_mut-part.result.now in
    let here : d < length x.parts.items = search rules in
    let is : part_in x.lane x.rules x.parts.items d ≡ p = part-at x.lane x.rules x.parts.items d p here (rw c.from.ensures at c.index_mut-part.ensures.value) in
    let may : MayBeginAt x.lane d p c.args.at = subst (λ (z : Part). MayBeginAt x.lane d z c.args.at) is c.requires.may in
    let q : Part = c.begin_at-plan.new.part in
    let plan = c.begin_at-plan.result in
    rw c.from.ensures (both-at x.lane x.rules x.parts.items d p q here is (λ y z. BeginsRoundAt y z c.args.at c.run_of.result.round.row c.run_of.result.round.receivers)
    (begins-there x.lane (journal_of x) d c.in-Some.state plan.bucket plan.receivers _ c.run_of.result c.run_of.ensures p q c.args.at c.begin_at-plan.ensures.begins))

pub returns-clause-carried : goal.returns-clause-carried
returns-clause-carried c given h = rw c.push_within.ensures.past (carried-decided given (journal_of c.args.lane.now) c.args.lane.now.last c.args.lane.now.late.late _ _ _ h)
