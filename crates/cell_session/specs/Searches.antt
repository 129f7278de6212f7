-- What became of the lines that searched.
use Rattle.std.specs.Prelude.{◌≡◌, ◌<◌, ◌≤◌, ℕ, suc, true, List, [], ◌∷◌, ◌++◌, length, map, Option, Some, IsSome, slice_get}
use Rattle.bucket_ids.specs.Buckets.{Low}
use Rattle.doc_types.specs.SchemaCodes.{Types}
use Rattle.journal_views.specs.Fronts.{Front, AreFronts, seen_at, IsCountedAs}
use Rattle.journal_views.specs.JournalViews.{view_of}
use Rattle.journal_views.specs.Searched.{IsAnswer}
use Rattle.lane_changes.specs.Changes.{changes_of}
use Rattle.lane_journals.specs.declared.event.LaneEvent.{LaneEvent}
use Rattle.lane_keeping.specs.LaneKeeping.{setting_of}
use Rattle.lane_calls.specs.LaneValues.{LaneValue}
use Rattle.lane_lives.specs.Lives.{Deed, IsLife}
use Rattle.lane_lives.specs.Serving.{bucket_in}
use Rattle.lane_lives.specs.Settings.{lane_count}
use Rattle.lane_lives.specs.declared.setting.Setting.{Setting}
use Rattle.query_text.specs.Grammar.{Said, said_of}
use Rattle.query_text.specs.declared.query.Query.{Query}
use Rattle.search_laws.specs.Searches.{times_counted}
use Rattle.session_cluster.specs.Cells.{Cell, journals_of}
use Rattle.session_cluster.specs.Lanes.{Journal}
use Rattle.search_views.specs.Answers.{search_answer}
use Rattle.session_cluster.specs.Searches.{fronts_of, front_in, views_to}
use Rattle.session_cluster.specs.declared.asked.Asked.{Asked}
use Rattle.session_cluster.specs.declared.asked.Asked.TheVariants as command
use Rattle.cell_session.specs.Operations.{WereAsked, deeds_before}

-- ---- how far they read

-- the front of a search in a lane is how many changes its journal gave once these earlier deeds were done, before all
-- that came later
pub record FrontStands (s : Setting) (lane : Low) (deeds : List Deed) (J : List LaneEvent) (g : ℕ) : Type 0 where
  -- the journal as it was read
  pub before : List LaneEvent
  pub behind : IsLife s lane deeds before
  pub front : g ≡ length (changes_of before)
  -- what came later
  pub later : List LaneEvent
  pub whole : J ≡ later ++ before

-- the line has one front a lane, which stands behind these deeds that were done there before
pub record HasRead (s : Setting) (before : ℕ → List Deed) (line : ℕ) (c : Cell) : Type 0 where
  pub fronts : List ℕ
  pub are : fronts_of line c.fronts ≡ Some fronts
  pub count : length fronts ≡ lane_count s
  pub stand : (lane : ℕ) (v : LaneValue) (g : ℕ) → slice_get c.lanes lane ≡ Some v → slice_get fronts lane ≡ Some g
      → FrontStands s (bucket_in s lane) (before lane) v.journal g

-- the line at the place searches
abbrev pub SearchesAt : ℕ → Said → List Asked → Type 0
SearchesAt at q asked = slice_get asked at ≡ Some (command.Search q)

-- a line that has fronts searches
abbrev pub OnlySearchesRead : List Asked → Cell → Type 0
OnlySearchesRead asked c = (line : ℕ) → IsSome (fronts_of line c.fronts) → (at : ℕ) × ((q : Said) × ((line ≡ suc at) × SearchesAt at q asked))

-- in each lane the front of a later line is no smaller
abbrev pub FrontsRise : Cell → Type 0
FrontsRise c = (lane earlier line : ℕ) → earlier < line → (a b : ℕ) → front_in lane earlier c.fronts ≡ Some a
    → front_in lane line c.fronts ≡ Some b → a ≤ b

-- where these deeds were done in each lane before the line at a place
pub record AreRead (s : Setting) (before : ℕ → ℕ → List Deed) (asked : List Asked) (c : Cell) : Type 0 where
  -- each line that searches has its fronts
  pub answered : (at : ℕ) (q : Said) → SearchesAt at q asked → HasRead s (before at) (suc at) c
  -- no other line has
  pub others : OnlySearchesRead asked c
  pub in_order : FrontsRise c

-- ---- what they counted

-- the prefix of a lane's journal to which the search read
pub record IsFrontIn (s : Setting) (lane : ℕ) (deeds : List Deed) (g : ℕ) (J : Journal) (f : Front) : Type 0 where
  pub setting : f.setting ≡ setting_of (bucket_in s lane) s.rules
  pub stands : FrontStands s (bucket_in s lane) deeds J g
  pub journal : f.journal ≡ stands.before

-- one of each lane, from this lane on
abbrev pub AreFrontsIn : Setting → ℕ → (ℕ → List Deed) → List ℕ → List Journal → List Front → Type 0
AreFrontsIn s lane deeds [] [] [] = Unit {0}
AreFrontsIn s lane deeds (g ∷ gs) (J ∷ Js) (f ∷ fs) = IsFrontIn s lane (deeds lane) g J f × AreFrontsIn s (suc lane) deeds gs Js fs
AreFrontsIn s lane deeds _ _ _ = ⊥

-- a search that read so far behind these deeds of each lane, under any version
pub record CountsOnce (s : Setting) (deeds : ℕ → List Deed) (gs : List ℕ) (Js : List Journal) : Type 0 where
  -- it read this prefix of each lane's journal
  pub fronts : List Front
  pub are : AreFrontsIn s 0 deeds gs Js fronts
  pub legal : AreFronts fronts
  pub views : map (λ f. (seen_at s.schema f).view) fronts ≡ views_to s.schema gs Js
  -- its answer is that of the documents that the nodes have there, each of them once
  pub answers : (q : Query) (w : ℕ) → IsAnswer q w (map (λ f. view_of s.schema f.journal) fronts) (search_answer (said_of q) w (views_to s.schema gs Js))
  -- it sees each document once at most
  pub once : (w : ℕ) (id : List ℕ) → times_counted w id (map (seen_at s.schema) fronts) ≤ 1
  -- at full coverage it sees each document as an operation left it that is no older than what was acknowledged
  pub current : (q : Said) (w : ℕ) (id : List ℕ) → (search_answer q w (views_to s.schema gs Js)).full ≡ true
      → IsCountedAs s.schema w id fronts (times_counted w id (map (seen_at s.schema) fronts))

-- the line of this number reads behind the deeds that were done before the line at its place
pub record CountsAt (s : Setting) (before : ℕ → ℕ → List Deed) (c : Cell) (line : ℕ) (gs : List ℕ) : Type 0 where
  pub at : ℕ
  pub own : line ≡ suc at
  pub counts : CountsOnce s (before at) gs (journals_of c)

abbrev pub EachCounts : Setting → (ℕ → ℕ → List Deed) → Cell → Type 0
EachCounts s before c = (line : ℕ) (gs : List ℕ) → fronts_of line c.fronts ≡ Some gs → CountsAt s before c line gs

-- that holds of each search among the lines that were dealt with
pub record CountOnce (s : Setting) (types : Types) (text : Option (List ℕ)) (c : Cell) : Type 0 where
  pub asked : List Asked
  pub were_asked : WereAsked types s.bits text c.dealt asked
  pub each : EachCounts s (deeds_before s asked c) c
