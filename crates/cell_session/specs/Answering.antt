-- What is left where a line's report didn't reach the sink.
use Rattle.std.specs.Prelude.{ℕ, List, Option}
use Rattle.std.specs.Io.KnownBytes.{Keeps}
use Rattle.io_ends.specs.Causes.{AppendsFront}
use Rattle.lane_lives.specs.declared.setting.Setting.{Setting}
use Rattle.session_cluster.specs.declared.asked.Asked.{Asked}
use Rattle.session_cluster.specs.Cells.{Cell}
use Rattle.session_cluster.specs.Output.{report_in}
use Rattle.session_cluster.specs.Steps.{IsDealt, IsAllOrNothing}
use Rattle.cell_session.specs.declared.answering.Stop.{Stop}
use Rattle.cell_session.specs.declared.answering.Stop.TheVariants as stop
use Rattle.cell_session.specs.declared.status.Status.{Status}
use Rattle.cell_session.specs.declared.status.Status.TheVariants as status

-- a fault comes after the line was dealt with, and a front of the report was written; want of memory
-- comes before anything is written
abbrev pub StopsAs : Stop → Setting → ℕ → Asked → Cell → Cell → Option (List ℕ) → Option (List ℕ) → Type 0
StopsAs stop.Fault s line asked old new before now =
    IsDealt s line asked old new × AppendsFront before now (report_in s old.told line asked new)
StopsAs stop.Memory s line asked old new before now = IsAllOrNothing s line asked old new × Keeps before now

-- how a session ends that stops so
abbrev pub stop_status : Stop → Status
stop_status stop.Fault = status.WriteFault
stop_status stop.Memory = status.NoMemory
