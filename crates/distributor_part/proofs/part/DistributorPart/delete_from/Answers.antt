use Rattle.std.proofs.Common.{◌<◌, length, Some, sym, ap, ◌∙◌, subst}
use Rattle.bucket_db.specs.Rows.{Rows}
use Rattle.distributor_part.specs.Parts.{Part}
use Rattle.distributor_part.specs.Upkeep.{BeginsDelete}
use Rattle.distributor_part.specs.contracts.part.DistributorPart.{the_view}
use Rattle.distributor_part.proofs.PartLaws.{length_at_row, row_at}
use Rattle.distributor_part.proofs.UpkeepLaws.{part_changed, place_inside, delete_begun}
use Rattle.distributor_part.proofs.part.DistributorPart.delete_from.Goals as goal

pub set_deleting-requires : goal.set_deleting-requires
set_deleting-requires c =
    let within = place_inside (the_view c.self.inside) c.args.self.now c.in-Some.rows c.args.at c.self.view_is c.in-Some.is c.requires.place in
    let same = ap (λ (d : Rows). length d.rows) c.set_marks.ensures ∙ length_at_row _ c.args.at c.in-Some.rows.rows in
    subst (λ n. c.args.at < n) (sym same) within

pub invariant_of-self : goal.invariant_of-self
invariant_of-self c = part_changed _ _ _ _ _ _ _ c.args.at c.in-Some.is c.self.invariant
    (delete_begun c.in-Some.rows c.set_marks.new.self c.set_deleting.new.self c.args.at _ _ _ _ c.set_marks.ensures c.set_deleting.ensures) (λ r s. s)

pub returns : goal.returns
returns c =
    let before : Part = the_view c.self.inside in
    let within = place_inside before c.args.self.now c.in-Some.rows c.args.at c.self.view_is c.in-Some.is c.requires.place in
    subst (λ p. BeginsDelete p (record before { rows = Some c.set_deleting.new.self }) c.args.at c.args.node c.args.serial) c.self.view_is (record {
      rows = c.in-Some.rows;
      row = c.index-rows-at.result;
      marks = c.without.result;
      opened = c.in-Some.is;
      found = row_at _ _ _ _ within c.rows.ensures.list c.index-rows-at.is;
      kept = c.without.ensures;
      after = ap (λ d. record before { rows = Some d })
          (delete_begun c.in-Some.rows c.set_marks.new.self c.set_deleting.new.self c.args.at _ _ _ _ c.set_marks.ensures c.set_deleting.ensures);
    })
