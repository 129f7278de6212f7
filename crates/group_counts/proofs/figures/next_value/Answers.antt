use Rattle.group_counts.proofs.FigureLaws.{summed-small, lowered-small, raised-small}
use Rattle.group_counts.proofs.figures.next_value.Goals as goal

pub returns-in-Count-clause-small : goal.returns-in-Count-clause-small
returns-in-Count-clause-small c = summed-small c.args.value c.args.number c.summed.result c.requires.wide c.summed.ensures

pub returns-in-Sum-clause-small : goal.returns-in-Sum-clause-small
returns-in-Sum-clause-small c = summed-small c.args.value c.args.number c.summed-in-Sum.result c.requires.wide c.summed-in-Sum.ensures

pub returns-in-Min-clause-small : goal.returns-in-Min-clause-small
returns-in-Min-clause-small c = lowered-small c.args.value c.args.number c.lowered.result c.requires.wide c.lowered.ensures

pub returns-in-Max-clause-small : goal.returns-in-Max-clause-small
returns-in-Max-clause-small c = raised-small c.args.value c.args.number c.raised.result c.requires.wide c.raised.ensures
