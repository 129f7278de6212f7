-- The exit status of each end.
use Rattle.std.specs.Prelude.{ℕ}
use Rattle.cell_session.specs.declared.status.Status.{Status}
use Rattle.cell_session.specs.declared.status.Status.TheVariants as status

abbrev pub status_number : Status → ℕ
status_number status.Done = 0
status_number status.ReadFault = 1
status_number status.Usage = 2
status_number status.WriteFault = 3
status_number status.NoMemory = 4
status_number (status.Limit which) = 5
