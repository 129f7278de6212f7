use Rattle.stamps.proofs.TextLaws.{printed_stamp, its_stamp, no_stamp}
use Rattle.stamps.proofs.laws.texts_are_stamps.Goals as goal

pub returns-clause-of : goal.returns-clause-of
returns-clause-of c = printed_stamp

pub returns-clause-only : goal.returns-clause-only
returns-clause-only c = its_stamp

pub returns-clause-none : goal.returns-clause-none
returns-clause-none c = no_stamp
