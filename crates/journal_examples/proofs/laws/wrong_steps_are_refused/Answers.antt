use Rattle.journal_examples.proofs.WrongSteps.{early, leaving, unready, twice}
use Rattle.journal_examples.proofs.WrongActive.{elsewhere, unanswered}
use Rattle.journal_examples.proofs.KeeperTwo.{unmarked, no_keeper}
use Rattle.journal_examples.proofs.laws.wrong_steps_are_refused.Goals as goal

pub returns : goal.returns
returns c = record {
  opened_before_all_answered = early;
  state_leaves_out_too_many = leaving;
  condition_read_from_an_incomplete_replica = unready;
  row_activated_twice = twice;
  row_activated_on_another_node = elsewhere;
  acknowledged_without_the_active_node = unanswered;
  deleting_replica_counts_as_keeper = unmarked;
  deleting_replica_keeps_nothing = no_keeper;
}
