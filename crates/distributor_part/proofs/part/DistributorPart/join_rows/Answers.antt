use Rattle.std.proofs.Common.{◌≤◌, ◌+◌, vec_len, vec_capacity, Some, sym, ap, ◌∙◌, subst}
use Rattle.distributor_part.specs.Parts.{Part, IsPart}
use Rattle.distributor_part.specs.Upkeep.{JoinsRows}
use Rattle.distributor_part.specs.contracts.part.DistributorPart.{the_view}
use Rattle.distributor_part.proofs.UpkeepLaws.{Pair, pair_inside, part_joined, place_inside}
use Rattle.distributor_part.proofs.part.DistributorPart.join_rows.Goals as goal

pub invariant_of-self : goal.invariant_of-self
invariant_of-self c =
    let p = pair_inside (the_view c.self.inside) c.args.self.now c.in-Some.rows c.args.at c.self.view_is c.in-Some.is
    (place_inside (the_view c.self.inside) c.args.self.now c.in-Some.rows c.args.at c.self.view_is c.in-Some.is c.requires.place) c.requires.joinable in
    let made = c.join_rows.ensures.joins p.row p.other p.found p.joinable in
    part_joined _ _ _ _ _ _ c.args.at p.row p.other made.0 c.in-Some.is (ap (λ p. p.stage) c.self.view_is ∙ c.requires.no_round) c.self.invariant p.found made.1 made.2

pub returns : goal.returns
returns c =
    let before : Part = the_view c.self.inside in
    let p = pair_inside before c.args.self.now c.in-Some.rows c.args.at c.self.view_is c.in-Some.is
    (place_inside before c.args.self.now c.in-Some.rows c.args.at c.self.view_is c.in-Some.is c.requires.place) c.requires.joinable in
    let made = c.join_rows.ensures.joins p.row p.other p.found p.joinable in
    subst (λ h. JoinsRows c.args.self.now (record before { state = h; rows = Some c.join_rows.new.self }) c.args.at) (sym c.rows_join.ensures)
    (subst (λ p. JoinsRows p (record before { rows = Some c.join_rows.new.self }) c.args.at) c.self.view_is (record {
      rows = c.in-Some.rows;
      row = p.row;
      other = p.other;
      joined = made.0;
      opened = c.in-Some.is;
      found = p.found;
      same_lane = (subst (λ r. IsPart (vec_len c.self.inside.shown + 1 ≤ vec_capacity c.self.inside.shown) before.lane before.awaited r before.stage) c.in-Some.is c.self.invariant).of_lane.same_lane;
      joinable = p.joinable;
      is_joined = made.1;
      after = ap (λ d. record before { rows = Some d }) made.2;
    }))
