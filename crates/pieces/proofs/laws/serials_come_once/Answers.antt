use Rattle.pieces.proofs.SerialLaws.{named_low, given_next, serial_once}
use Rattle.pieces.proofs.laws.serials_come_once.Goals as goal

pub returns : goal.returns
returns c = record { drawn = named_low; given = given_next; once = serial_once }
