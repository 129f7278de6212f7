use Rattle.std.proofs.Common.{rules, ◌≡◌, ◌∙◌, ◌<◌, Some, length, slice_set, ap, refl, subst}
use Rattle.distributor_part.specs.declared.stage.Stage.TheVariants.{Before}
use Rattle.distributor_part.specs.Parts.{Part, version_of}
use Rattle.distributor_part.specs.Steps as steps
use Rattle.distributor_part.specs.Steps.{IsStep, Opens, Finishes}
use Rattle.messages.specs.declared.step.Step.{Step}
use Rattle.lane_keeping.specs.LaneKeeping.{part_in}
use Rattle.lane_journals.specs.Meanings.{history}
use Rattle.lane_states.specs.LaneStates.{journal_of}
use Rattle.lane_states.proofs.Kept.{kept_still, kept_more}
use Rattle.proof_basics.proofs.Lists.{set-own}
use Rattle.lane_keeping.proofs.Parts.{part-others}
use Rattle.lane_states.proofs.Places.{part-at}
use Rattle.lane_rounds.proofs.Opened.{changed-at, asks-at, may-ask-at, awaited-now, opens-at, version-opened, owner-at, owns-at, lacking-at, finished-at}
use Rattle.lane_states.proofs.Accepting.{accepted-at}
use Rattle.lane_rounds.proofs.Accepting.{accepted-changed, accepted-opened}
use Rattle.lane_rounds.proofs.opening.opening_step.Goals as goal

pub next_step-requires-clause-owner : goal.next_step-requires-clause-owner
next_step-requires-clause-owner c =
    let x = c.args.lane.now in
    let d = c.args.distributor in
    let p : Part = c.index_mut.result.now in
    let here : d < length x.parts.items = search rules in
    let is : part_in x.lane x.rules x.parts.items d ≡ p = part-at x.lane x.rules x.parts.items d p here (rw c.from.ensures at c.index_mut.ensures.value) in
    owns-at x.lane x.rules x.parts.items d p p here is c.requires.opening.owns

pub returns-in-Send-clause-keeps : goal.returns-in-Send-clause-keeps
returns-in-Send-clause-keeps c =
    let x = c.args.lane.now in
    let d = c.args.distributor in
    let p : Part = c.index_mut.result.now in
    let q : Part = c.next_step.new.self in
    let here : d < length x.parts.items = search rules in
    let is : part_in x.lane x.rules x.parts.items d ≡ p = part-at x.lane x.rules x.parts.items d p here (rw c.from.ensures at c.index_mut.ensures.value) in
    let a : steps.Asks p q c.in-Send.message = subst (λ (t : Step). IsStep p c.args.key t q) c.in-Send.is c.in_ok-step.ensures.step in
    rw (c.from.ensures, c.in_ok-reserve.ensures.items)
    (kept_still c.requires.keeps (search rules) (c.parts_are_told.ensures.alike _ _ _ _ _ _ _ c.requires.keeps.keeps d (slice_set x.parts.items d q) q.asked (Some c.in-Send.message.receiver) p.stage
    (changed-at x.lane x.rules x.parts.items d p q here is q.asked (Some c.in-Send.message.receiver) p.stage a.after) (part-others x.lane x.rules x.parts.items d q))
    (accepted-changed x.lane x.rules (journal_of x) x.parts.items d p q here is q.asked (Some c.in-Send.message.receiver) p.stage a.after c.requires.keeps.accepted))

pub returns-in-Send-clause-next : goal.returns-in-Send-clause-next
returns-in-Send-clause-next c =
    let x = c.args.lane.now in
    let d = c.args.distributor in
    let p : Part = c.index_mut.result.now in
    let q : Part = c.next_step.new.self in
    let here : d < length x.parts.items = search rules in
    let is : part_in x.lane x.rules x.parts.items d ≡ p = part-at x.lane x.rules x.parts.items d p here (rw c.from.ensures at c.index_mut.ensures.value) in
    let a : steps.Asks p q c.in-Send.message = subst (λ (t : Step). IsStep p c.args.key t q) c.in-Send.is c.in_ok-step.ensures.step in
    rw c.from.ensures (record {
      asks = asks-at x.lane x.rules x.parts.items d p q here is c.in-Send.message a;
      may_go = may-ask-at x.lane x.rules x.parts.items d p q here is (journal_of x) c.in-Send.message (c.requires.keeps.keeps.parts_are d) c.requires.opening.owns a;
      awaited = awaited-now x.lane x.rules x.parts.items d p q here is c.in-Send.message a;
      same = rw c.in_ok-reserve.ensures.items refl;
    })

pub returns-in-Open-clause-keeps : goal.returns-in-Open-clause-keeps
returns-in-Open-clause-keeps c =
    let x = c.args.lane.now in
    let d = c.args.distributor in
    let p : Part = c.index_mut.result.now in
    let q : Part = c.next_step.new.self in
    let here : d < length x.parts.items = search rules in
    let is : part_in x.lane x.rules x.parts.items d ≡ p = part-at x.lane x.rules x.parts.items d p here (rw c.from.ensures at c.index_mut.ensures.value) in
    let a : Opens p q c.in-Open.rows = subst (λ (t : Step). IsStep p c.args.key t q) c.in-Open.is c.in_ok-step.ensures.step in
    let r : Part = c.index.result.now in
    let same : r ≡ q = (rw (c.from.ensures, c.from-in-Open.ensures) at c.index.ensures) ∙ set-own x.parts.items d q r here in
    let v : c.version-version.result ≡ (a.state).version = c.version-version.ensures ∙ ap (λ (z : Part). version_of z.state) same ∙ version-opened x.lane x.rules x.parts.items d p q here is c.in-Open.rows a in
    rw (c.push_within.ensures.past, c.from.ensures, c.in_ok-reserve.ensures.items, v)
    (kept_more c.requires.keeps (c.openings_are_kept.ensures _ _ _ _ _ _ _ c.requires.keeps.keeps (slice_set x.parts.items d q) d c.in-Open.rows (opens-at x.lane x.rules x.parts.items d p q here is c.in-Open.rows a)
    (owner-at x.lane x.rules x.parts.items d p q here is (journal_of x) a.state (c.requires.keeps.keeps.parts_are d) c.requires.opening.owns (a.unopened).heard) (part-others x.lane x.rules x.parts.items d q)) tt
    (accepted-at x.lane x.rules (journal_of x) x.parts.items d p q here is (λ h. accepted-opened (history (journal_of x)) p q c.in-Open.rows a) c.requires.keeps.accepted))

pub returns-in-Open-clause-next : goal.returns-in-Open-clause-next
returns-in-Open-clause-next c =
    let x = c.args.lane.now in
    let d = c.args.distributor in
    let p : Part = c.index_mut.result.now in
    let q : Part = c.next_step.new.self in
    let here : d < length x.parts.items = search rules in
    let is : part_in x.lane x.rules x.parts.items d ≡ p = part-at x.lane x.rules x.parts.items d p here (rw c.from.ensures at c.index_mut.ensures.value) in
    let a : Opens p q c.in-Open.rows = subst (λ (t : Step). IsStep p c.args.key t q) c.in-Open.is c.in_ok-step.ensures.step in
    let r : Part = c.index.result.now in
    let same : r ≡ q = (rw (c.from.ensures, c.from-in-Open.ensures) at c.index.ensures) ∙ set-own x.parts.items d q r here in
    let v : c.version-version.result ≡ (a.state).version = c.version-version.ensures ∙ ap (λ (z : Part). version_of z.state) same ∙ version-opened x.lane x.rules x.parts.items d p q here is c.in-Open.rows a in
    rw c.from.ensures (record {
      buckets = c.in-Open.rows;
      opens = opens-at x.lane x.rules x.parts.items d p q here is c.in-Open.rows a;
      grows = rw (c.push_within.ensures.past, c.in_ok-reserve.ensures.items, v) refl;
      last = refl;
    })

pub returns-in-Finished-clause-keeps : goal.returns-in-Finished-clause-keeps
returns-in-Finished-clause-keeps c =
    let x = c.args.lane.now in
    let d = c.args.distributor in
    let p : Part = c.index_mut.result.now in
    let q : Part = c.next_step.new.self in
    let here : d < length x.parts.items = search rules in
    let is : part_in x.lane x.rules x.parts.items d ≡ p = part-at x.lane x.rules x.parts.items d p here (rw c.from.ensures at c.index_mut.ensures.value) in
    let a : Finishes p q c.args.key c.in-Finished.missing = subst (λ (t : Step). IsStep p c.args.key t q) c.in-Finished.is c.in_ok-step.ensures.step in
    rw (c.from.ensures, c.in_ok-reserve.ensures.items)
    (kept_still c.requires.keeps (search rules) (c.parts_are_told.ensures.alike _ _ _ _ _ _ _ c.requires.keeps.keeps d (slice_set x.parts.items d q) 0 p.awaited Before
    (changed-at x.lane x.rules x.parts.items d p q here is 0 p.awaited Before a.after) (part-others x.lane x.rules x.parts.items d q))
    (accepted-changed x.lane x.rules (journal_of x) x.parts.items d p q here is 0 p.awaited Before a.after c.requires.keeps.accepted))

pub returns-in-Finished-clause-next : goal.returns-in-Finished-clause-next
returns-in-Finished-clause-next c =
    let x = c.args.lane.now in
    let d = c.args.distributor in
    let p : Part = c.index_mut.result.now in
    let q : Part = c.next_step.new.self in
    let here : d < length x.parts.items = search rules in
    let is : part_in x.lane x.rules x.parts.items d ≡ p = part-at x.lane x.rules x.parts.items d p here (rw c.from.ensures at c.index_mut.ensures.value) in
    let a : Finishes p q c.args.key c.in-Finished.missing = subst (λ (t : Step). IsStep p c.args.key t q) c.in-Finished.is c.in_ok-step.ensures.step in
    rw c.from.ensures (record {
      lacks = lacking-at x.lane x.rules x.parts.items d p q here is c.args.key c.in-Finished.missing a c.requires.opening.unopened c.requires.opening.no_round;
      after = finished-at x.lane x.rules x.parts.items d p q here is c.args.key c.in-Finished.missing a;
      same = rw c.in_ok-reserve.ensures.items refl;
      last = refl;
    })
