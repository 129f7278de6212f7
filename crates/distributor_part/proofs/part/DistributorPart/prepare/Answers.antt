use Rattle.std.proofs.Common.{◌≡◌, true, Some, IfSome, slice_get, refl, sym, ap, ◌∙◌, subst, arith}
use Rattle.std.proofs.lemmas.Bool.Decides.{nat_tests}
use Rattle.bucket_ids.specs.Buckets.{has_key}
use Rattle.distributor_part.specs.declared.stage.Stage.TheVariants.{Running}
use Rattle.distributor_part.specs.Parts.{Part}
use Rattle.distributor_part.specs.Steps.{BeginsRound}
use Rattle.distributor_part.specs.contracts.part.DistributorPart.{the_view}
use Rattle.distributor_part.proofs.PartLaws.{row_at}
use Rattle.distributor_part.proofs.part.DistributorPart.prepare.Goals as goal

abbrev before : goal.After-result-1 → Part
before c = the_view c.self.inside

abbrev begun : goal.After-result-1 → Part
begun c = record (before c) { stage = Running c.row_of-at.result c.targets_of-receivers.result }

read : (c : goal.After-result-1) → slice_get c.in-Some.rows.rows c.row_of-at.result ≡ Some c.index-rows-at.result
read c = row_at _ _ _ _ c.row_of-at.ensures.within c.rows.ensures.list c.index-rows-at.is

pub returns : goal.returns
returns c = subst (λ h. BeginsRound c.args.self.now (record (begun c) { state = h }) c.args.key c.index-rows-at.result.bucket c.targets_of-receivers.result) (sym c.keep_order.ensures)
    (subst (λ p. BeginsRound p (begun c) c.args.key c.index-rows-at.result.bucket c.targets_of-receivers.result) c.self.view_is (record {
      state = c.args.state.now;
      rows = c.in-Some.rows;
      opened = record { heard = ap (λ p. p.state) c.self.view_is ∙ c.requires.heard; opened = c.in-Some.is };
      no_round = ap (λ p. p.stage) c.self.view_is ∙ c.requires.no_round;
      at = c.row_of-at.result;
      row = c.index-rows-at.result;
      is_row = record {
        found = read c;
        has = subst (λ o. IfSome o (λ row. has_key row.bucket c.args.key ≡ true)) (read c) c.row_of-at.ensures.found;
      };
      few = let test = c.if-has_at_least.ensures in grind (arith, nat_tests);
      same_bucket = refl;
      targets = c.targets_of-receivers.ensures;
      after = refl;
    }))
