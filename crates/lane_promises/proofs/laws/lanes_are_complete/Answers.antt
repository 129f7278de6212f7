use Rattle.lane_promises.proofs.Complete.{all_served}
use Rattle.lane_promises.proofs.laws.lanes_are_complete.Goals as goal

pub returns : goal.returns
returns c s is lane v legal carried =
    let messages = c.messages_are_carried.ensures in
    all_served (record {
      decided = c.undisturbed_operations_are_decided.ensures;
      well = c.undisturbed_writes_end_well.ensures;
      heard = c.heard_operations_are_decided.ensures.decided;
      heard_well = c.heard_operations_are_decided.ensures.well;
      since = c.answered_lines_are_undisturbed.ensures.since;
      running = c.answered_lines_are_undisturbed.ensures.running;
      numbers = messages.numbers;
      was_sent = messages.sent;
      unsent = messages.unsent;
      in_turn = c.replies_return_in_turn.ensures;
    }) s (record { some = is.rules.some_acks; enough = is.rules.few_acks }) lane v legal carried
