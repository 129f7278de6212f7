use Rattle.undisturbed_spans.proofs.Taking.{taken}
use Rattle.undisturbed_spans.proofs.spans.undisturbed_messages_are_taken.Goals as goal

pub returns : goal.returns
returns c = λ given f J K x carried quiet. taken c.messages_are_carried.ensures.numbers c.messages_are_carried.ensures.returned c.late_messages_fall_due.ensures.just c.upkeep_goes_on.ensures.behind given f J K x carried quiet
