use Rattle.lane_carriage.proofs.Fates.{fate-place}
use Rattle.lane_carriage.proofs.Carried.{says}
use Rattle.lane_carriage.proofs.Messages as message
use Rattle.lane_carriage.proofs.laws.messages_are_carried.Goals as goal

pub returns : goal.returns
returns c = record {
  fates = fate-place;
  numbers = message.numbers;
  once = λ given J h. (says given J h).once;
  sent = message.was-sent;
  unsent = message.unsent;
  last = λ given J h. (says given J h).last;
  arrivals = λ given J h. (says given J h).arrived;
  returned = λ given J h. (says given J h).returns;
  lost = message.lost;
  arrived = message.arrived;
  cut_off = message.cut_off;
  late = message.late;
  late_cut_off = message.late_cut_off;
  not_yet = message.not_yet;
}
