use Rattle.lane_tables.proofs.Walking.{published-here, published-stays}
use Rattle.lane_tables.proofs.journals.published_next.Goals as goal

pub returns-in-Published : goal.returns-in-Published
returns-in-Published c = λ J held now. published-here c.args.event.now _ J c.in-Published.is

pub returns-in_default : goal.returns-in_default
returns-in_default c = λ J held now. published-stays c.args.event.now J (held now)
