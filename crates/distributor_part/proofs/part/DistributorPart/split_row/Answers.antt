use Rattle.std.proofs.Common.{◌<◌, ◌≤◌, ◌+◌, vec_len, vec_capacity, Some, IfSome, slice_get, sym, ap, ◌∙◌, subst}
use Rattle.proof_basics.proofs.Results.{on_either}
use Rattle.bucket_db.proofs.RowLists.{some_with}
use Rattle.distributor_part.specs.Parts.{Part, IsPart, rows_of}
use Rattle.distributor_part.specs.Upkeep.{SplitsRow}
use Rattle.distributor_part.specs.contracts.part.DistributorPart.{the_view}
use Rattle.distributor_part.proofs.UpkeepLaws.{part_split, place_inside}
use Rattle.distributor_part.proofs.part.DistributorPart.split_row.Goals as goal

pub invariant_of-self : goal.invariant_of-self
invariant_of-self c = on_either c.split_row.result c.split_row.ensures.ok c.split_row.ensures.err
    (λ e. part_split _ _ _ _ _ _ c.args.at c.in-Some.is (ap (λ p. p.stage) c.self.view_is ∙ c.requires.no_round) c.self.invariant e)
    (λ e. subst (λ d. IsPart (vec_len c.self.inside.shown + 1 ≤ vec_capacity c.self.inside.shown) c.self.inside.lane c.self.inside.awaited (Some d) c.self.inside.stage) (sym e)
    (subst (λ r. IsPart (vec_len c.self.inside.shown + 1 ≤ vec_capacity c.self.inside.shown) c.self.inside.lane c.self.inside.awaited r c.self.inside.stage) c.in-Some.is c.self.invariant))

pub invariant_of-self-2 : goal.invariant_of-self-2
invariant_of-self-2 c = part_split _ _ _ _ _ _ c.args.at c.in-Some.is (ap (λ p. p.stage) c.self.view_is ∙ c.requires.no_round) c.self.invariant c.in_ok-split_row.ensures.ok

pub returns-clause-ok : goal.returns-clause-ok
returns-clause-ok c =
    let before : Part = the_view c.self.inside in
    let rows = c.in-Some.rows.rows in
    let within = place_inside before c.args.self.now c.in-Some.rows c.args.at c.self.view_is c.in-Some.is c.requires.place in
    let few = subst (λ o. IfSome (slice_get (rows_of o) c.args.at) (λ row. row.bucket.bits < 58)) (sym (ap (λ p. p.rows) c.self.view_is) ∙ c.in-Some.is) c.requires.fewer in
    let row = some_with rows c.args.at (λ r. r.bucket.bits < 58) within few in
    subst (λ h. SplitsRow c.args.self.now (record before { state = h; rows = Some c.split_row.new.self }) c.args.at) (sym c.row_splits.ensures)
    (subst (λ p. SplitsRow p (record before { rows = Some c.split_row.new.self }) c.args.at) c.self.view_is (record {
      rows = c.in-Some.rows;
      row = row.0;
      opened = c.in-Some.is;
      found = row.1.0;
      fewer = row.1.1;
      after = ap (λ d. record before { rows = Some d }) c.in_ok-split_row.ensures.ok;
    }))
