use Rattle.lane_carriage.proofs.Waitings.{sent-before, waiting, taken_are_due, carried, further, delivered-further, passed-over}
use Rattle.lane_carriage.proofs.laws.late_messages_wait.Goals as goal

pub returns-clause-sent_before : goal.returns-clause-sent_before
returns-clause-sent_before c = sent-before

pub returns-clause-further : goal.returns-clause-further
returns-clause-further c = further

pub returns-clause-delivered : goal.returns-clause-delivered
returns-clause-delivered c = delivered-further

pub returns-clause-passed_over : goal.returns-clause-passed_over
returns-clause-passed_over c = passed-over

pub returns-clause-waiting : goal.returns-clause-waiting
returns-clause-waiting c = waiting

pub returns-clause-taken : goal.returns-clause-taken
returns-clause-taken c = taken_are_due

pub returns-clause-carried : goal.returns-clause-carried
returns-clause-carried c = carried
