use Rattle.std.proofs.Common.{◌<◌, length, Some, refl, ap, ◌∙◌, subst}
use Rattle.distributor_part.specs.declared.stage.Stage.TheVariants.{Ended}
use Rattle.distributor_part.specs.Parts.{Part, StageFits, rows_of}
use Rattle.distributor_part.specs.Steps.{EndsRound}
use Rattle.distributor_part.specs.contracts.part.DistributorPart.{the_view}
use Rattle.distributor_part.proofs.PartLaws.{part_marked, part_ended, row_at}
use Rattle.distributor_part.proofs.part.DistributorPart.end_round.Goals as goal

within : (c : goal.After-self-2-1) → c.args.at < length c.in-Some.rows.rows
within c = subst (λ o. c.args.at < length (rows_of o)) c.in-Some.is
    (subst (StageFits c.self.inside.rows) (ap (λ p. p.stage) c.self.view_is ∙ c.requires.over) c.self.invariant.fits)

pub invariant_of-self : goal.invariant_of-self
invariant_of-self c = part_ended _ _ _ _ _
    (part_marked _ _ _ _ _ _ _ _ c.in-Some.is c.self.invariant c.set_marks.ensures) refl

abbrev before : goal.After-self-2-1 → Part
before c = the_view c.self.inside

abbrev ended : goal.After-self-2-1 → Part
ended c = record (before c) { rows = Some c.set_marks.new.self; stage = Ended c.args.missing }

pub returns : goal.returns
returns c key = subst (λ p. EndsRound p (ended c) c.index-rows-at.result.bucket c.args.complete) c.self.view_is (record {
  rows = c.in-Some.rows;
  opened = c.in-Some.is;
  at = c.args.at;
  missing = c.args.missing;
  over = ap (λ p. p.stage) c.self.view_is ∙ c.requires.over;
  row = c.index-rows-at.result;
  found = row_at _ _ _ _ (within c) c.rows.ensures.list c.index-rows-at.is;
  same_bucket = refl;
  marks = c.union.result;
  gained = c.union.ensures;
  after = ap (λ d. record (before c) { rows = Some d; stage = Ended c.args.missing }) c.set_marks.ensures;
})
