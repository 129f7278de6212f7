-- How a session ends, of all its lines at once: what the clauses of the top call are read off.
use Rattle.std.specs.Prelude.{◌≡◌, ◌⊎◌, ℕ, List, [], Option}
use Rattle.std.specs.Io.KnownBytes.{Keeps}
use Rattle.carriers.specs.declared.fate.Fate.{Fate}
use Rattle.doc_types.specs.SchemaCodes.{Types}
use Rattle.lane_lives.specs.declared.setting.Setting.{Setting}
use Rattle.session_cluster.specs.declared.asked.Asked.{Asked}
use Rattle.session_cluster.specs.Cells.{Cell}
use Rattle.cell_session.specs.Counting.{AreFew}
use Rattle.cell_session.specs.Ends.{IfTold, AreFirst, StopsAt, EndsAtLimit, Writes}
use Rattle.session_cluster.specs.Keeping.{IsKept}
use Rattle.cell_session.specs.Operations.{deeds_before}
use Rattle.cell_session.specs.Orders.{GoInOrder}
use Rattle.cell_session.specs.Searches.{AreRead}
use Rattle.cell_session.specs.Upkeep.{AreUpkept}
use Rattle.cell_session.specs.declared.status.Status.{Status}
use Rattle.cell_session.specs.declared.status.Status.TheVariants as status

pub record HasDealt (end : Status) (s : Setting) (types : Types) (plans : ℕ → List Fate) (text left : Option (List ℕ)) (c : Cell)
    (before now : Option (List ℕ)) : Type 0 where
  pub commands : List Asked
  pub kept : IsKept s plans commands c
  pub first : IfTold text (λ t. AreFirst types s.bits t commands)
  pub stops : IfTold text (λ t. StopsAt end types s.bits t left commands)
  pub output : Writes end s commands c before now
  pub upkept : AreUpkept end s (deeds_before s commands c) commands c
  pub gone : GoInOrder s c
  pub read : AreRead s (deeds_before s commands c) commands c
  pub few : AreFew commands
  pub reached : EndsAtLimit end commands

-- no lane was made
pub record HasNothing (end : Status) (c : Cell) (before now : Option (List ℕ)) : Type 0 where
  pub memory : end ≡ status.NoMemory
  pub none : c.lanes ≡ []
  pub dealt : c.dealt ≡ 0
  pub unkept : c.upkeeps ≡ []
  pub unread : c.fronts ≡ []
  pub kept : Keeps before now

abbrev pub EndsAs : Status → Setting → Types → (ℕ → List Fate) → Option (List ℕ) → Option (List ℕ) → Cell
    → Option (List ℕ) → Option (List ℕ) → Type 0
EndsAs end s types plans text left c before now =
    HasNothing end c before now ⊎ HasDealt end s types plans text left c before now
