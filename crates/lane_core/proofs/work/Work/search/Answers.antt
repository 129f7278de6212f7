use Rattle.std.proofs.Common.{rules, ◌≡◌, ◌<◌, ℕ, true, Some, length, slice_get, slice_set, refl, sym, subst}
use Rattle.lane_core.specs.declared.work.Job.{Job}
use Rattle.lane_core.specs.declared.work.Work.{Work}
use Rattle.lane_core.specs.Searching.{is_begun, spent, IsFreeFor}
use Rattle.proof_basics.proofs.Results.{if_ok, on_err}
use Rattle.lane_lines.proofs.ClosedParts.{part-there}
use Rattle.lane_core.proofs.Places.{get-index, get-within, of-place}
use Rattle.lane_core.proofs.Searching.{onward-rested, was-job, has-call, for-line, keeps-searched, comes-searched, went-searched, cut-searched}
use Rattle.lane_core.proofs.work.Work.search.Goals as goal

pub index-job-requires : goal.index-job-requires
index-job-requires g c = subst (λ (n : ℕ). c.args.at < n) (sym c.args.self.now.jobs.ok.0) (get-within c.args.self.now.jobs.items c.args.at c.requires.begun.0 c.requires.begun.1)

pub spend-requires : goal.spend-requires
spend-requires g c =
    let x = c.args.self.now in
    let h = c.requires.begun in
    (h.0, h.1, has-call x c.args.at h.0 c.requires.keeps h.1 h.2)

pub find_row-requires-clause-part : goal.find_row-requires-clause-part
find_row-requires-clause-part g c =
    let x = c.args.self.now in
    let j : Job = c.index-job.result.now in
    let within = get-within x.jobs.items c.args.at c.requires.begun.0 c.requires.begun.1 in
    let found : slice_get x.jobs.items c.args.at ≡ Some j = get-index x.jobs.items c.args.at j within c.index-job.ensures in
    let begun = of-place (λ (z : Job). is_begun z.phase ≡ true) x.jobs.items c.args.at j found c.requires.begun in
    let k = was-job x c.args.at j c.requires.keeps found begun in
    let there : j.distributor < length x.state.parts.items = part-there x.state.lane x.state.rules x.state.parts.items j.distributor k.state (c.owners_act.ensures.heard _ _ _ _ _ _ _ c.requires.keeps.kept.keeps j.distributor k.state k.acting) in
    search rules

pub find_row-requires-clause-resting : goal.find_row-requires-clause-resting
find_row-requires-clause-resting g c = c.requires.keeps.resting c.index-job.result.now.distributor

pub find_row-requires-clause-none_runs : goal.find_row-requires-clause-none_runs
find_row-requires-clause-none_runs g c = c.requires.keeps.no_round

pub find_row-requires-clause-for_line : goal.find_row-requires-clause-for_line
find_row-requires-clause-for_line g c =
    let x = c.args.self.now in
    let j : Job = c.index-job.result.now in
    let within = get-within x.jobs.items c.args.at c.requires.begun.0 c.requires.begun.1 in
    let found : slice_get x.jobs.items c.args.at ≡ Some j = get-index x.jobs.items c.args.at j within c.index-job.ensures in
    let begun = of-place (λ (z : Job). is_begun z.phase ≡ true) x.jobs.items c.args.at j found c.requires.begun in
    for-line x c.args.at j c.requires.keeps found begun

pub find_row-requires-clause-free : goal.find_row-requires-clause-free
find_row-requires-clause-free g c =
    let x = c.args.self.now in
    let j : Job = c.index-job.result.now in
    let within = get-within x.jobs.items c.args.at c.requires.begun.0 c.requires.begun.1 in
    let found : slice_get x.jobs.items c.args.at ≡ Some j = get-index x.jobs.items c.args.at j within c.index-job.ensures in
    let f = of-place (IsFreeFor x) x.jobs.items c.args.at j found c.requires.free in
    f.row

pub returns-clause-keeps : goal.returns-clause-keeps
returns-clause-keeps g c =
    let x = c.args.self.now in
    let j : Job = c.index-job.result.now in
    let within = get-within x.jobs.items c.args.at c.requires.begun.0 c.requires.begun.1 in
    let found : slice_get x.jobs.items c.args.at ≡ Some j = get-index x.jobs.items c.args.at j within c.index-job.ensures in
    let begun = of-place (λ (z : Job). is_begun z.phase ≡ true) x.jobs.items c.args.at j found c.requires.begun in
    let items = of-place (λ (z : Job). c.spend.new.jobs.items ≡ slice_set x.jobs.items c.args.at (spent z)) x.jobs.items c.args.at j found c.spend.ensures in
    let f = c.find_row in
    let m : Work = record { state = f.new.lane; schema = x.schema; drawn = x.drawn; places = x.places; has_room = x.has_room; jobs = c.spend.new.jobs } in
    let on = onward-rested x.state f.new.lane j.distributor f.ensures.after f.ensures.quiet f.ensures.resting f.ensures.others f.ensures.parts in
    keeps-searched x c.args.at j c.requires.keeps found begun f.new.lane f.result f.ensures.goes_on f.ensures.cut on f.ensures.keeps m refl refl refl refl refl items f.ensures.spare f.ensures.entries

pub returns-clause-searches : goal.returns-clause-searches
returns-clause-searches g c =
    let x = c.args.self.now in
    let j : Job = c.index-job.result.now in
    let within = get-within x.jobs.items c.args.at c.requires.begun.0 c.requires.begun.1 in
    let found : slice_get x.jobs.items c.args.at ≡ Some j = get-index x.jobs.items c.args.at j within c.index-job.ensures in
    let begun = of-place (λ (z : Job). is_begun z.phase ≡ true) x.jobs.items c.args.at j found c.requires.begun in
    let items = of-place (λ (z : Job). c.spend.new.jobs.items ≡ slice_set x.jobs.items c.args.at (spent z)) x.jobs.items c.args.at j found c.spend.ensures in
    let free = of-place (IsFreeFor x) x.jobs.items c.args.at j found c.requires.free in
    let f = c.find_row in
    let m : Work = record { state = f.new.lane; schema = x.schema; drawn = x.drawn; places = x.places; has_room = x.has_room; jobs = c.spend.new.jobs } in
    let on = onward-rested x.state f.new.lane j.distributor f.ensures.after f.ensures.quiet f.ensures.resting f.ensures.others f.ensures.parts in
    if_ok f.result (λ end h. λ planned takes. went-searched x c.args.at j c.requires.keeps found begun f.new.lane f.result f.ensures.goes_on f.ensures.cut on f.ensures.keeps m refl refl refl refl refl items _ _ planned takes f.ensures.gives (free.free _ planned takes) h) f.ensures.goes_on

pub returns-clause-comes : goal.returns-clause-comes
returns-clause-comes g c =
    let x = c.args.self.now in
    let j : Job = c.index-job.result.now in
    let within = get-within x.jobs.items c.args.at c.requires.begun.0 c.requires.begun.1 in
    let found : slice_get x.jobs.items c.args.at ≡ Some j = get-index x.jobs.items c.args.at j within c.index-job.ensures in
    let begun = of-place (λ (z : Job). is_begun z.phase ≡ true) x.jobs.items c.args.at j found c.requires.begun in
    let items = of-place (λ (z : Job). c.spend.new.jobs.items ≡ slice_set x.jobs.items c.args.at (spent z)) x.jobs.items c.args.at j found c.spend.ensures in
    let f = c.find_row in
    let m : Work = record { state = f.new.lane; schema = x.schema; drawn = x.drawn; places = x.places; has_room = x.has_room; jobs = c.spend.new.jobs } in
    let on = onward-rested x.state f.new.lane j.distributor f.ensures.after f.ensures.quiet f.ensures.resting f.ensures.others f.ensures.parts in
    if_ok f.result (λ end h. comes-searched x c.args.at j c.requires.keeps found begun f.new.lane f.result f.ensures.goes_on f.ensures.cut on f.ensures.keeps m refl refl refl refl refl items end h) f.ensures.finds

pub returns-clause-cut : goal.returns-clause-cut
returns-clause-cut g c =
    let x = c.args.self.now in
    let j : Job = c.index-job.result.now in
    let within = get-within x.jobs.items c.args.at c.requires.begun.0 c.requires.begun.1 in
    let found : slice_get x.jobs.items c.args.at ≡ Some j = get-index x.jobs.items c.args.at j within c.index-job.ensures in
    let begun = of-place (λ (z : Job). is_begun z.phase ≡ true) x.jobs.items c.args.at j found c.requires.begun in
    let items = of-place (λ (z : Job). c.spend.new.jobs.items ≡ slice_set x.jobs.items c.args.at (spent z)) x.jobs.items c.args.at j found c.spend.ensures in
    let f = c.find_row in
    let m : Work = record { state = f.new.lane; schema = x.schema; drawn = x.drawn; places = x.places; has_room = x.has_room; jobs = c.spend.new.jobs } in
    let on = onward-rested x.state f.new.lane j.distributor f.ensures.after f.ensures.quiet f.ensures.resting f.ensures.others f.ensures.parts in
    on_err f.result (λ h. λ planned takes. cut-searched x c.args.at j c.requires.keeps found begun f.new.lane f.result f.ensures.goes_on f.ensures.cut on f.ensures.keeps m refl refl refl refl refl items _ _ planned takes f.ensures.gives h) f.ensures.cut
