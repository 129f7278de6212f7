use Rattle.std.proofs.Common.{rules, ◌≡◌, ◌≤◌, ◌<◌, true, false, ℕ, Some, is_some, length, slice_get, refl, sym, subst, arith}
use Rattle.bucket_ids.specs.Buckets.{IsIn}
use Rattle.bucket_db.specs.declared.row.Row.{Row}
use Rattle.node_sets.specs.Members.{size_of}
use Rattle.lane_states.specs.LaneStates.{part_of}
use Rattle.lane_lines.proofs.ClosedParts.{part-there}
use Rattle.lane_core.specs.declared.work.Job.{Job}
use Rattle.lane_core.specs.Searching.{is_begun}
use Rattle.lane_core.specs.Works.{IsOneOrNone, IsPreparedAt}
use Rattle.lane_core.proofs.Places.{get-index, get-within, of-place}
use Rattle.lane_core.proofs.Searching.{was-job, key-is}
use Rattle.lane_core.proofs.Blocking.{free-unopened, free-enough, row-fits, blocked}
use Rattle.lane_core.proofs.work.Work.blocker.Goals as goal

pub index-job-requires : goal.index-job-requires
index-job-requires c = subst (λ (n : ℕ). c.args.at < n) (sym c.args.self.now.jobs.ok.0) (get-within c.args.self.now.jobs.items c.args.at c.requires.begun.0 c.requires.begun.1)

pub has_opened-requires : goal.has_opened-requires
has_opened-requires c =
    let x = c.args.self.now in
    let at = c.args.at in
    let j : Job = c.index-job.result.now in
    let within = get-within x.jobs.items at c.requires.begun.0 c.requires.begun.1 in
    let found : slice_get x.jobs.items at ≡ Some j = get-index x.jobs.items at j within c.index-job.ensures in
    let begun = of-place (λ (z : Job). is_begun z.phase ≡ true) x.jobs.items at j found c.requires.begun in
    let keep = c.requires.keeps.kept.keeps in
    let opens = c.owners_act.ensures.opened _ _ _ _ _ _ _ keep in
    let job = was-job x at j c.requires.keeps found begun in
    let heard = c.owners_act.ensures.heard _ _ _ _ _ _ _ keep j.distributor job.state job.acting in
    let there : j.distributor < length x.state.parts.items = part-there x.state.lane x.state.rules x.state.parts.items j.distributor job.state heard in
    search rules

pub returns-then-not-has_opened : goal.returns-then-not-has_opened
returns-then-not-has_opened c =
    let x = c.args.self.now in
    let at = c.args.at in
    let j : Job = c.index-job.result.now in
    let within = get-within x.jobs.items at c.requires.begun.0 c.requires.begun.1 in
    let found : slice_get x.jobs.items at ≡ Some j = get-index x.jobs.items at j within c.index-job.ensures in
    let begun = of-place (λ (z : Job). is_begun z.phase ≡ true) x.jobs.items at j found c.requires.begun in
    let keep = c.requires.keeps.kept.keeps in
    let opens = c.owners_act.ensures.opened _ _ _ _ _ _ _ keep in
    let job = was-job x at j c.requires.keeps found begun in
    let heard = c.owners_act.ensures.heard _ _ _ _ _ _ _ keep j.distributor job.state job.acting in
    let shut : is_some (part_of x.state j.distributor).rows ≡ false = search rules in
    (j, found, free-unopened x at j c.requires.keeps found begun opens shut)

pub row_with-row-requires-clause-key : goal.row_with-row-requires-clause-key
row_with-row-requires-clause-key c =
    let x = c.args.self.now in
    let at = c.args.at in
    let j : Job = c.index-job.result.now in
    let within = get-within x.jobs.items at c.requires.begun.0 c.requires.begun.1 in
    let found : slice_get x.jobs.items at ≡ Some j = get-index x.jobs.items at j within c.index-job.ensures in
    let begun = of-place (λ (z : Job). is_begun z.phase ≡ true) x.jobs.items at j found c.requires.begun in
    let keep = c.requires.keeps.kept.keeps in
    let opens = c.owners_act.ensures.opened _ _ _ _ _ _ _ keep in
    let job = was-job x at j c.requires.keeps found begun in
    let heard = c.owners_act.ensures.heard _ _ _ _ _ _ _ keep j.distributor job.state job.acting in
    subst (λ (n : ℕ). IsIn x.state.lane n) (sym (key-is x at j c.requires.keeps found begun)) job.key_in

pub returns-then-self-len : goal.returns-then-self-len
returns-then-self-len c =
    let x = c.args.self.now in
    let at = c.args.at in
    let j : Job = c.index-job.result.now in
    let within = get-within x.jobs.items at c.requires.begun.0 c.requires.begun.1 in
    let found : slice_get x.jobs.items at ≡ Some j = get-index x.jobs.items at j within c.index-job.ensures in
    let begun = of-place (λ (z : Job). is_begun z.phase ≡ true) x.jobs.items at j found c.requires.begun in
    let keep = c.requires.keeps.kept.keeps in
    let opens = c.owners_act.ensures.opened _ _ _ _ _ _ _ keep in
    let job = was-job x at j c.requires.keeps found begun in
    let heard = c.owners_act.ensures.heard _ _ _ _ _ _ _ keep j.distributor job.state job.acting in
    let row : Row = c.row_with-row.result in
    let fit = row-fits x at j c.requires.keeps found begun opens row (part_of x.state j.distributor).rows refl c.row_with-row.ensures (c.owners_act.ensures.rows _ _ _ _ _ _ _ keep _ _ job.acting) c.owners_act.ensures.inside in
    let size = c.len.ensures.value in
    let most = c.if-self-len.true in
    let enough : x.state.rules.acks ≤ size_of row.complete = omega (arith, size, most) in
    (j, found, free-enough x at j c.requires.keeps found begun opens heard row fit.0 fit.1 enough)

pub returns : goal.returns
returns c =
    let x = c.args.self.now in
    let at = c.args.at in
    let j : Job = c.index-job.result.now in
    let within = get-within x.jobs.items at c.requires.begun.0 c.requires.begun.1 in
    let found : slice_get x.jobs.items at ≡ Some j = get-index x.jobs.items at j within c.index-job.ensures in
    let begun = of-place (λ (z : Job). is_begun z.phase ≡ true) x.jobs.items at j found c.requires.begun in
    let keep = c.requires.keeps.kept.keeps in
    let opens = c.owners_act.ensures.opened _ _ _ _ _ _ _ keep in
    let job = was-job x at j c.requires.keeps found begun in
    let heard = c.owners_act.ensures.heard _ _ _ _ _ _ _ keep j.distributor job.state job.acting in
    let row : Row = c.row_with-row.result in
    let fit = row-fits x at j c.requires.keeps found begun opens row (part_of x.state j.distributor).rows refl c.row_with-row.ensures (c.owners_act.ensures.rows _ _ _ _ _ _ _ keep _ _ job.acting) c.owners_act.ensures.inside in
    let size = c.len.ensures.value in
    let least = c.if-self-len.false in
    let few : size_of row.complete < x.state.rules.acks = omega (arith, size, least) in
    let some : is_some (part_of x.state j.distributor).rows ≡ true = search rules in
    let first : IsOneOrNone (IsPreparedAt j.distributor row.bucket) x.jobs.items c.prepared_in.result = rw c.deref.ensures.value at c.prepared_in.ensures in
    (j, found, blocked x at j c.requires.keeps found begun opens heard row fit.0 fit.1 some few c.prepared_in.result first)
