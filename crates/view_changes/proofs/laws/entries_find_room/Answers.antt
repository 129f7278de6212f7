use Rattle.view_changes.proofs.RoomLaws.{room-along, same_ids}
use Rattle.view_changes.proofs.laws.entries_find_room.Goals as goal

pub returns : goal.returns
returns c = room-along same_ids
