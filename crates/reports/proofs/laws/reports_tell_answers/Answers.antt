use Rattle.reports.proofs.Different.{different}
use Rattle.reports.proofs.OneObject.{one_object, groups_rise}
use Rattle.reports.proofs.Rising.{fields_rise}
use Rattle.reports.proofs.laws.reports_tell_answers.Goals as goal

pub returns-clause-one_object : goal.returns-clause-one_object
returns-clause-one_object c = one_object

pub returns-clause-fields_rise : goal.returns-clause-fields_rise
returns-clause-fields_rise c = fields_rise

pub returns-clause-groups_rise : goal.returns-clause-groups_rise
returns-clause-groups_rise c = groups_rise

pub returns-clause-different : goal.returns-clause-different
returns-clause-different c = different
