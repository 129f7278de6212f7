-- What the lines of a session asked for and did whose segments feeders run: one list of parts, of which all else is said.
use Rattle.std.specs.Prelude.{◌≡◌, ◌≢◌, ◌⊎◌, ℕ, suc, List, ◌∷◌, ◌++◌, Option, None, Some, IsSome, slice_get}
use Rattle.carriers.specs.declared.fate.Fate.{Fate}
use Rattle.doc_types.specs.SchemaCodes.{Types}
use Rattle.lane_journals.specs.declared.event.LaneEvent.{LaneEvent}
use Rattle.lane_calls.specs.LaneValues.{LaneValue}
use Rattle.lane_calls.specs.LineEvents.{StartsLine}
use Rattle.lane_calls.specs.Lines.{FeedLine, IsNone}
use Rattle.lane_calls.specs.Readings.{outcome_in}
use Rattle.lane_calls.specs.Segments.{IsAmong}
use Rattle.lane_lives.specs.declared.setting.Setting.{Setting}
use Rattle.lane_lives.specs.Lives.{Deed, lines_of}
use Rattle.lane_promises.specs.Promises.{NoneIsLeft}
use Rattle.query_text.specs.Grammar.{Said}
use Rattle.session_cluster.specs.Cells.{Cell}
use Rattle.session_segments.specs.FedDeeds.{fed_deeds}
use Rattle.session_cluster.specs.Searches.{fronts_of}
use Rattle.session_segments.specs.Parts.{Part, asked_in, AreInTurn, NoneLeft, parts_before, parts_to}
use Rattle.cell_session.specs.Causes.{HaveCausesBeside}
use Rattle.cell_session.specs.Ends.{EndsAtLimit}
use Rattle.cell_session.specs.FedEnds.{WritesFed}
use Rattle.cell_session.specs.FullSearches.{AreFull}
use Rattle.cell_session.specs.Hearing.{HaveHeard}
use Rattle.cell_session.specs.Operations.{WereAsked, HaveOutcomes, HaveFates}
use Rattle.cell_session.specs.Searches.{HasRead, SearchesAt, OnlySearchesRead, FrontsRise, EachCounts}
use Rattle.cell_session.specs.Upkeep.{AreUpkept}
use Rattle.cell_session.specs.declared.status.Status.{Status}
use Rattle.cell_session.specs.declared.status.Status.TheVariants as status

-- the deeds of the parts in each lane, where feeders, so many of them, ran the lines of each segment at once
abbrev pub fed_in : Setting → ℕ → List Part → Cell → ℕ → List Deed
fed_in s feeders parts c lane = fed_deeds s c.upkeeps feeders lane parts

-- those of the parts before the line at a place
abbrev pub fed_before : Setting → ℕ → List Part → Cell → ℕ → ℕ → List Deed
fed_before s feeders parts c at = fed_in s feeders (parts_before at parts) c

-- and of the part in which it is: a search reads behind all lines of its segment
abbrev pub fed_to : Setting → ℕ → List Part → Cell → ℕ → ℕ → List Deed
fed_to s feeders parts c at = fed_in s feeders (parts_to at parts) c

-- a line of a later deed begins, or is refused, once each line of the earlier ones has its outcome, where none of those was
-- left without one
abbrev pub ComeInTurn : (ℕ → List Deed) → Cell → Type 0
ComeInTurn deeds c = (lane : ℕ) (v : LaneValue) → slice_get c.lanes lane ≡ Some v → (later earlier : List Deed) → deeds lane ≡ later ++ earlier
    → NoneIsLeft earlier → (line : FeedLine) → IsAmong (lines_of earlier) line → (n : ℕ) → IsNone n (lines_of earlier)
    → (after : List LaneEvent) (e : LaneEvent) (before : List LaneEvent) → v.journal ≡ after ++ e ∷ before → StartsLine n e
    → IsSome (outcome_in line.number before)

-- memory was wanted before the line at the place, which is in the last part, searched
pub record WasUnread (end : Status) (parts : List Part) (at : ℕ) (c : Cell) : Type 0 where
  pub memory : end ≡ status.NoMemory
  pub last : parts_to at parts ≡ parts
  pub none : fronts_of (suc at) c.fronts ≡ None

pub record AreFedRead (end : Status) (s : Setting) (feeders : ℕ) (parts : List Part) (c : Cell) : Type 0 where
  -- each line that searches has its fronts, unless memory was wanted
  pub answered : (at : ℕ) (q : Said) → SearchesAt at q (asked_in parts)
      → HasRead s (fed_to s feeders parts c at) (suc at) c ⊎ WasUnread end parts at c
  -- no other line has
  pub others : OnlySearchesRead (asked_in parts) c
  pub in_order : FrontsRise c

-- the session was made of these parts
pub record AreItsParts (end : Status) (s : Setting) (types : Types) (text : Option (List ℕ)) (c : Cell) (parts : List Part) : Type 0 where
  pub turns : AreInTurn parts
  -- unless memory was wanted, each line of a segment has its outcome
  pub none_left : end ≢ status.NoMemory → NoneLeft parts
  pub were_asked : WereAsked types s.bits text c.dealt (asked_in parts)

pub record HaveFedLines (end : Status) (s : Setting) (types : Types) (feeders : ℕ) (plans : ℕ → List Fate) (text : Option (List ℕ)) (c : Cell)
    (before now : Option (List ℕ)) : Type 0 where
  pub parts : List Part
  pub are : AreItsParts end s types text c parts
  -- what the parts did in each lane, and that nothing else happened there
  pub one_outcome : HaveOutcomes s (fed_in s feeders parts c) c
  pub in_turn : ComeInTurn (fed_in s feeders parts c) c
  -- who heard the states that they told
  pub hearings : HaveHeard s (fed_in s feeders parts c) c
  -- what became of the messages
  pub fates : HaveFates plans (asked_in parts) c.lanes
  -- why they were refused, or got too few answers
  pub causes : HaveCausesBeside s (fed_in s feeders parts c) c
  -- how the upkeep went that they asked for
  pub upkeeps : AreUpkept end s (fed_before s feeders parts c) (asked_in parts) c
  -- how far those read that searched
  pub search_fronts : AreFedRead end s feeders parts c
  -- that those are full which follow an upkeep after which all lanes rested
  pub full_at_rest : AreFull s (asked_in parts) c
  -- which of their reports were written
  pub reports : WritesFed end s parts c before now
  -- what was reached, where a limit ends the session
  pub reached : EndsAtLimit end (asked_in parts)

-- ---- what searches counted

-- each search among the lines counts a document once at most where it read, behind its segment
pub record CountOnceFed (end : Status) (s : Setting) (types : Types) (feeders : ℕ) (text : Option (List ℕ)) (c : Cell) : Type 0 where
  pub parts : List Part
  pub are : AreItsParts end s types text c parts
  pub each : EachCounts s (fed_to s feeders parts c) c
