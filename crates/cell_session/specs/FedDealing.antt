-- How a session ends whose segments feeders run, of all its lines at once: what the clauses of the top call are read off.
use Rattle.std.specs.Prelude.{◌≢◌, ◌⊎◌, ℕ, List, Option}
use Rattle.carriers.specs.declared.fate.Fate.{Fate}
use Rattle.doc_types.specs.SchemaCodes.{Types}
use Rattle.lane_lives.specs.declared.setting.Setting.{Setting}
use Rattle.session_cluster.specs.Cells.{Cell}
use Rattle.session_segments.specs.Fed.{HaveFed}
use Rattle.session_segments.specs.Parts.{Part, asked_in, AreInTurn, NoneLeft}
use Rattle.cell_session.specs.Counting.{AreFew}
use Rattle.cell_session.specs.Dealing.{HasNothing}
use Rattle.cell_session.specs.Ends.{IfTold, AreFirst, EndsAtLimit}
use Rattle.cell_session.specs.FedEnds.{StopsFed, WritesFed}
use Rattle.cell_session.specs.FedLines.{fed_before, AreFedRead}
use Rattle.cell_session.specs.Orders.{GoInOrder}
use Rattle.cell_session.specs.Upkeep.{AreUpkept}
use Rattle.cell_session.specs.declared.status.Status.{Status}
use Rattle.cell_session.specs.declared.status.Status.TheVariants as status

-- what was noted of upkeep and searches
pub record AreNoted (end : Status) (s : Setting) (feeders : ℕ) (parts : List Part) (c : Cell) : Type 0 where
  pub upkept : AreUpkept end s (fed_before s feeders parts c) (asked_in parts) c
  pub gone : GoInOrder s c
  pub read : AreFedRead end s feeders parts c

pub record HasFed (end : Status) (s : Setting) (types : Types) (feeders : ℕ) (plans : ℕ → List Fate) (text left : Option (List ℕ)) (c : Cell)
    (before now : Option (List ℕ)) : Type 0 where
  pub parts : List Part
  pub turns : AreInTurn parts
  pub none_left : end ≢ status.NoMemory → NoneLeft parts
  pub done : HaveFed s plans feeders parts c
  pub first : IfTold text (λ t. AreFirst types s.bits t (asked_in parts))
  pub stops : IfTold text (λ t. StopsFed end types s.bits t left parts)
  pub output : WritesFed end s parts c before now
  pub noted : AreNoted end s feeders parts c
  pub few : AreFew (asked_in parts)
  pub reached : EndsAtLimit end (asked_in parts)

abbrev pub EndsFedAs : Status → Setting → Types → ℕ → (ℕ → List Fate) → Option (List ℕ) → Option (List ℕ) → Cell
    → Option (List ℕ) → Option (List ℕ) → Type 0
EndsFedAs end s types feeders plans text left c before now =
    HasNothing end c before now ⊎ HasFed end s types feeders plans text left c before now
