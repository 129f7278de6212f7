use Rattle.undisturbed_spans.proofs.Saying.{said-fresh, comes-back, said}
use Rattle.undisturbed_spans.proofs.tellings.undisturbed_tellings_are_told.Goals as goal

pub returns : goal.returns
returns c =
    let carried = c.messages_are_carried.ensures in
    let due = c.late_messages_fall_due.ensures.just in
    let behind = c.upkeep_goes_on.ensures.behind in
    let runs = c.runs_are_known.ensures in
    record {
      fresh = λ d given f J K old now m x. said-fresh carried.numbers carried.unsent carried.arrivals carried.returned due behind runs d given f J K old now m x;
      back = λ d given f J K old now m x. comes-back carried.numbers carried.unsent carried.arrivals carried.returned due behind runs d given f J K old now m x;
      told = λ d given f J K old now m x fine. said carried.numbers carried.unsent carried.arrivals carried.returned due behind runs d given f J K old now m x fine;
    }
