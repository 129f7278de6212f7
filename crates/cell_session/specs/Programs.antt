-- What a process makes of a session: the fates of its messages, and the number that it ends with.
use Rattle.std.specs.Prelude.{◌≡◌, ℕ, List, [], Option}
use Rattle.carriers.specs.declared.fate.Fate.{Fate}
use Rattle.clap.specs.Walk.{Text}
use Rattle.session_settings.specs.Choices.{Chooses, AreWrong, ChoosesAlone, ChoosesFed}
use Rattle.session_settings.specs.declared.choice.Choice.{Choice}
use Rattle.session_cluster.specs.Cells.{Cell, journals_of}
use Rattle.session_cluster.specs.Lanes.{AreLegal}
use Rattle.cell_session.specs.Ends.{IfTold, OfFirst, DealsWith, Writes, UsageEnd}
use Rattle.cell_session.specs.FedEnds.{OfParts, StopsFed, WritesFed}
use Rattle.cell_session.specs.FedLines.{HaveFedLines}
use Rattle.cell_session.specs.Lines.{HaveLines}
use Rattle.cell_session.specs.StatusNumbers.{status_number}
use Rattle.cell_session.specs.declared.status.Status.{Status}

-- no fate is planned for a lane before its lines plan some
abbrev pub none_planned : ℕ → List Fate
none_planned lane = []

-- a session of this choice ended so in which each line ran behind the one before
pub record IsSessionAlone (end : Status) (x : Choice) (text left : Option (List ℕ)) (c : Cell) (before now : Option (List ℕ)) : Type 0 where
  pub dealt_with : IfTold text (λ t. DealsWith end x.setting.schema (x.setting).bits t c.dealt left)
  pub lines : HaveLines end x.setting x.setting.schema none_planned text c
  pub written : IfTold text (λ t. OfFirst x.setting.schema (x.setting).bits t c.dealt (λ commands. Writes end x.setting commands c before now))

-- a session of this choice ended so in which feeders ran the lines of each segment
pub record IsSessionFed (end : Status) (x : Choice) (text left : Option (List ℕ)) (c : Cell) (before now : Option (List ℕ)) : Type 0 where
  pub dealt_with : IfTold text (λ t. OfParts x.setting.schema (x.setting).bits t c.dealt (StopsFed end x.setting.schema (x.setting).bits t left))
  pub lines : HaveFedLines end x.setting x.setting.schema x.feeders none_planned text c before now
  pub written : IfTold text (λ t. OfParts x.setting.schema (x.setting).bits t c.dealt (λ parts. WritesFed end x.setting parts c before now))

-- a session of these words ended so
pub record IsSession (end : Status) (words : List Text) (text left : Option (List ℕ)) (c : Cell) (before now : Option (List ℕ)) : Type 0 where
  pub legal : (x : Choice) → Chooses words x → AreLegal x.setting (journals_of c)
  pub alone : (x : Choice) → ChoosesAlone words x → IsSessionAlone end x text left c before now
  pub fed : (x : Choice) → ChoosesFed words x → IsSessionFed end x text left c before now
  pub wrong : AreWrong words → UsageEnd end before now

-- the number is that of a status of which this holds
pub record EndsWith (number : ℕ) (P : Status → Type 0) : Type 0 where
  pub status : Status
  pub number_is : number ≡ status_number status
  pub holds : P status
