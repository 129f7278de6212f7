use Rattle.std.proofs.Common.{Option, ℕ, refl, subst}
use Rattle.lane_core.specs.Searching.{IsBlocked}
use Rattle.lane_core.specs.Works.{value_of, under_way_at}
use Rattle.lane_core.proofs.Places.{get-map}
use Rattle.lane_core.proofs.Searching.{wants-short}
use Rattle.lane_core.proofs.work.Work.prepare.Goals as goal

pub search-requires-clause-free : goal.search-requires-clause-free
search-requires-clause-free g c =
    let b = c.blocker.ensures in
    (b.0, b.1, subst (λ (o : Option ℕ). IsBlocked c.args.self.now b.0 o) c.in_default.is b.2)

pub returns-in-Some-clause-advances : goal.returns-in-Some-clause-advances
returns-in-Some-clause-advances g c = λ planned takes.
    let x = c.args.self.now in
    let b = c.blocker.ensures in
    (under_way_at b.0, get-map under_way_at x.jobs.items c.args.at b.0 b.1, ((subst (λ (o : Option ℕ). IsBlocked x b.0 o) c.in-Some.is b.2) _ planned takes, refl))

pub returns-in-Ok-clause-advances : goal.returns-in-Ok-clause-advances
returns-in-Ok-clause-advances g c =
    λ planned takes.
    c.come.ensures.advances (value_of c.args.self.now _ planned takes) _ planned takes (c.in-Ok.ensures.searches planned takes)
    (wants-short c.args.self.now _ c.args.at _ _ planned takes (c.in-Ok.ensures.searches planned takes) c.in-Ok.found c.in-Ok.ensures.comes)

pub returns-in-Err-clause-advances : goal.returns-in-Err-clause-advances
returns-in-Err-clause-advances g c =
    c.in-Err.ensures.cut
