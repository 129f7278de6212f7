use Rattle.undisturbed_spans.proofs.Saying.{read-fresh, read-back, read-shown}
use Rattle.undisturbed_spans.proofs.tellings.undisturbed_reads_are_shown.Goals as goal

pub returns : goal.returns
returns c =
    let carried = c.messages_are_carried.ensures in
    let due = c.late_messages_fall_due.ensures.just in
    let behind = c.upkeep_goes_on.ensures.behind in
    let runs = c.runs_are_known.ensures in
    record {
      fresh = λ given f J K old now m b x. read-fresh carried.numbers carried.unsent carried.arrivals carried.returned due behind runs given f J K old now m b x;
      back = λ given f J K old now m b x. read-back carried.numbers carried.unsent carried.arrivals carried.returned due behind runs given f J K old now m b x;
      shown = λ given f J K old now m b x fine. read-shown carried.numbers carried.unsent carried.arrivals carried.returned due behind runs given f J K old now m b x fine;
    }
