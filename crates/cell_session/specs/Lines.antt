-- What the lines of a session asked for and did: one list of lines, of which all else is said.
use Rattle.std.specs.Prelude.{ℕ, List, Option}
use Rattle.carriers.specs.declared.fate.Fate.{Fate}
use Rattle.doc_types.specs.SchemaCodes.{Types}
use Rattle.lane_lives.specs.declared.setting.Setting.{Setting}
use Rattle.session_cluster.specs.Cells.{Cell}
use Rattle.session_cluster.specs.declared.asked.Asked.{Asked}
use Rattle.cell_session.specs.Causes.{HaveCauses}
use Rattle.cell_session.specs.Ends.{EndsAtLimit}
use Rattle.cell_session.specs.FullSearches.{AreFull}
use Rattle.cell_session.specs.Hearing.{HaveHeard}
use Rattle.cell_session.specs.Operations.{WereAsked, deeds_in, deeds_before, HaveOutcomes, HaveFates}
use Rattle.cell_session.specs.Searches.{AreRead}
use Rattle.cell_session.specs.Upkeep.{AreUpkept}
use Rattle.cell_session.specs.declared.status.Status.{Status}

pub record HaveLines (end : Status) (s : Setting) (types : Types) (plans : ℕ → List Fate) (text : Option (List ℕ)) (c : Cell) : Type 0 where
  pub asked : List Asked
  pub were_asked : WereAsked types s.bits text c.dealt asked
  -- what they did in each lane, one after the other, and that nothing else happened there
  pub one_outcome : HaveOutcomes s (deeds_in s asked c) c
  -- who heard the states that they told
  pub hearings : HaveHeard s (deeds_in s asked c) c
  -- what became of the messages
  pub fates : HaveFates plans asked c.lanes
  -- why they were refused, or got too few answers
  pub causes : HaveCauses s (deeds_in s asked c) c
  -- how the upkeep went that they asked for
  pub upkeeps : AreUpkept end s (deeds_before s asked c) asked c
  -- how far those read that searched
  pub search_fronts : AreRead s (deeds_before s asked c) asked c
  -- that those are full which follow an upkeep after which all lanes rested
  pub full_at_rest : AreFull s asked c
  -- what was reached, where a limit ends the session
  pub reached : EndsAtLimit end asked
