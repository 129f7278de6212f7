use Rattle.undisturbed_spans.proofs.Parting.{first-part, second-part}
use Rattle.undisturbed_spans.proofs.spans.undisturbed_spans_part.Goals as goal

pub returns : goal.returns
returns c = record {
  first = λ e v d given more J K L on over m l h. first-part (record { once = c.messages_are_carried.ensures.once; unsent = c.messages_are_carried.ensures.unsent; arrivals = c.messages_are_carried.ensures.arrivals; returned = c.messages_are_carried.ensures.returned }) c.upkeep_goes_on.ensures.span c.upkeep_goes_on.ensures.behind e v d given more J K L on over m l h;
  second = λ e v d given more J K L on over m l h. second-part (record { once = c.messages_are_carried.ensures.once; unsent = c.messages_are_carried.ensures.unsent; arrivals = c.messages_are_carried.ensures.arrivals; returned = c.messages_are_carried.ensures.returned }) c.upkeep_goes_on.ensures.span c.upkeep_goes_on.ensures.behind e v d given more J K L on over m l h;
}
