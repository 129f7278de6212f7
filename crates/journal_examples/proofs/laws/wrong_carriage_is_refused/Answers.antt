use Rattle.journal_examples.proofs.WrongCarriage.{delivered-early, delivered-twice, number-skipped, reply-returned, delivered-to-stopped, late-to-stopped, lost-though-started, late-lost-though-started}
use Rattle.journal_examples.proofs.laws.wrong_carriage_is_refused.Goals as goal

pub returns : goal.returns
returns c = record {
  delivered_early = delivered-early;
  delivered_twice = delivered-twice;
  number_skipped = number-skipped;
  lost_reply_returned = reply-returned;
  delivered_to_stopped = delivered-to-stopped;
  late_to_stopped = late-to-stopped;
  lost_though_started = lost-though-started;
  late_lost_though_started = late-lost-though-started;
}
