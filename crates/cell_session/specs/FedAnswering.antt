-- What is left where the reports of a segment didn't all reach the sink.
use Rattle.std.specs.Prelude.{◌≡◌, ◌⊎◌, ℕ, List, [], Option}
use Rattle.std.specs.Io.KnownBytes.{Keeps}
use Rattle.lane_lives.specs.declared.setting.Setting.{Setting}
use Rattle.session_cluster.specs.Cells.{Cell}
use Rattle.session_cluster.specs.declared.asked.Asked.{Asked}
use Rattle.session_segments.specs.Fed.{IsFed, IsFedShort, answers_from}
use Rattle.cell_session.specs.Reporting.{TakesReports, TakesReportsFront}
use Rattle.cell_session.specs.declared.answering.Stop.{Stop}
use Rattle.cell_session.specs.declared.answering.Stop.TheVariants as stop

-- want of memory came before the segment was answered, and nothing is written of it; or behind some of its reports
abbrev pub IsCutShort : Setting → ℕ → ℕ → List Asked → Cell → Cell → Option (List ℕ) → Option (List ℕ) → Type 0
IsCutShort s feeders line cs old new before now =
    (((new ≡ old) ⊎ IsFedShort s feeders line cs old new) × Keeps before now)
    ⊎ (IsFed s feeders line cs (λ _. []) old new × TakesReports line (answers_from s old.told line cs new) before now)

-- a fault comes after the segment was dealt with, at one of its reports
abbrev pub StopsSegmentAs : Stop → Setting → ℕ → ℕ → List Asked → Cell → Cell → Option (List ℕ) → Option (List ℕ) → Type 0
StopsSegmentAs stop.Fault s feeders line cs old new before now =
    IsFed s feeders line cs (λ _. []) old new × TakesReportsFront line (answers_from s old.told line cs new) before now
StopsSegmentAs stop.Memory s feeders line cs old new before now = IsCutShort s feeders line cs old new before now
