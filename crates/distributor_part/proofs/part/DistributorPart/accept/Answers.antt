use Rattle.std.proofs.Common.{Some, ap, subst}
use Rattle.bucket_db.proofs.RowLists.{some_at}
use Rattle.distributor_part.specs.Parts.{Part}
use Rattle.distributor_part.specs.Upkeep.{AcceptsAt}
use Rattle.distributor_part.specs.contracts.part.DistributorPart.{the_view}
use Rattle.distributor_part.proofs.UpkeepLaws.{part_changed, place_inside}
use Rattle.distributor_part.proofs.part.DistributorPart.accept.Goals as goal

pub invariant_of-self : goal.invariant_of-self
invariant_of-self c = part_changed _ _ _ _ _ _ _ c.args.at c.in-Some.is c.self.invariant c.set_accepted.ensures (λ r s. s)

pub returns : goal.returns
returns c =
    let before : Part = the_view c.self.inside in
    let row = some_at c.in-Some.rows.rows c.args.at (place_inside before c.args.self.now c.in-Some.rows c.args.at c.self.view_is c.in-Some.is c.requires) in
    subst (λ p. AcceptsAt p (record before { rows = Some c.set_accepted.new.self }) c.args.at) c.self.view_is (record {
      rows = c.in-Some.rows;
      row = row.0;
      opened = c.in-Some.is;
      found = row.1;
      after = ap (λ d. record before { rows = Some d }) c.set_accepted.ensures;
    })
