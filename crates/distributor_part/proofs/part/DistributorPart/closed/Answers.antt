use Rattle.std.proofs.Common.{◌≡◌, true, Some, IfSome, slice_get, ap, subst}
use Rattle.bucket_ids.specs.Buckets.{has_key}
use Rattle.distributor_part.specs.Parts.{Part}
use Rattle.distributor_part.specs.Steps.{IsClosed}
use Rattle.distributor_part.specs.contracts.part.DistributorPart.{the_view}
use Rattle.distributor_part.proofs.PartLaws.{part_marked, row_at}
use Rattle.distributor_part.proofs.part.DistributorPart.closed.Goals as goal

read : (c : goal.After-set_marks) → slice_get c.in-Some.rows.rows c.row_of-at.result ≡ Some c.index-rows-at.result
read c = row_at _ _ _ _ c.row_of-at.ensures.within c.rows.ensures.list c.index-rows-at.is

pub invariant_of-self : goal.invariant_of-self
invariant_of-self c = part_marked _ _ _ _ _ _ _ _ c.in-Some.is c.self.invariant c.set_marks.ensures

abbrev before : goal.After-set_marks → Part
before c = the_view c.self.inside

abbrev marked : goal.After-set_marks → Part
marked c = record (before c) { rows = Some c.set_marks.new.self }

pub returns : goal.returns
returns c = subst (λ p. IsClosed p (marked c) c.args.key c.args.answered) c.self.view_is (record {
  rows = c.in-Some.rows;
  opened = c.in-Some.is;
  at = c.row_of-at.result;
  row = c.index-rows-at.result;
  is_row = record {
    found = read c;
    has = subst (λ o. IfSome o (λ row. has_key row.bucket c.args.key ≡ true)) (read c) c.row_of-at.ensures.found;
  };
  marks = c.intersection.result;
  kept = c.intersection.ensures;
  after = ap (λ d. record (before c) { rows = Some d }) c.set_marks.ensures;
})
