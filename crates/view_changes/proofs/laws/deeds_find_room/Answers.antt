use Rattle.view_changes.proofs.RoomSteps.{room-activated, room-united}
use Rattle.view_changes.proofs.laws.deeds_find_room.Goals as goal

pub returns-clause-activated : goal.returns-clause-activated
returns-clause-activated c = room-activated

pub returns-clause-united : goal.returns-clause-united
returns-clause-united c = room-united
