-- That a search is full behind an upkeep that brought all lanes to rest.
use Rattle.std.specs.Prelude.{◌≡◌, ◌≢◌, ◌<◌, ℕ, suc, true, List, take, Option, None, Some, slice_get}
use Rattle.cluster_states.specs.Publishing.{Told, publish_fault}
use Rattle.lane_lives.specs.declared.setting.Setting.{Setting}
use Rattle.query_text.specs.Grammar.{Said}
use Rattle.reports.specs.declared.answer.Answer.{Answer}
use Rattle.reports.specs.declared.answer.Answer.TheVariants as answer
use Rattle.session_cluster.specs.Cells.{Cell}
use Rattle.session_cluster.specs.Deeds.{told_of}
use Rattle.session_cluster.specs.Output.{answer_in}
use Rattle.session_cluster.specs.declared.asked.Asked.{Asked}
use Rattle.session_cluster.specs.declared.asked.Asked.TheVariants as command
use Rattle.cell_session.specs.Searches.{SearchesAt}
use Rattle.cell_session.specs.Upkeep.{AsksAt}

-- no state that the line tells is accepted, and it stops no node
abbrev pub IsCalmLine : Told → Asked → Type 0
IsCalmLine told (command.State state deaf) = publish_fault told state ≢ None
IsCalmLine told (command.Stop node) = ⊥
IsCalmLine told _ = Unit {0}

-- the answer of the line at the place, which asks for this
abbrev pub answer_at : Setting → List Asked → Cell → ℕ → Asked → Option Answer
answer_at s asked c at line = answer_in s (told_of s (take at asked)) (suc at) line c

-- the line at the place asked for upkeep, and it was answered that as many lanes rested as there are
pub record AllRested (s : Setting) (asked : List Asked) (c : Cell) (at : ℕ) : Type 0 where
  pub asks : AsksAt at asked
  pub lanes : ℕ
  pub blocked : ℕ
  pub disturbed : ℕ
  pub rested : answer_at s asked c at command.Maintain ≡ Some (answer.Maintained lanes lanes blocked disturbed)

-- the line at the place searches behind such a line, and those between are calm
pub record FollowsRest (s : Setting) (asked : List Asked) (c : Cell) (upkeep at : ℕ) (q : Said) : Type 0 where
  pub order : upkeep < at
  pub all_rested : AllRested s asked c upkeep
  pub between : (k : ℕ) (line : Asked) → upkeep < k → k < at → slice_get asked k ≡ Some line → IsCalmLine (told_of s (take k asked)) line
  pub searches : SearchesAt at q asked

-- the answer is that of a full search
abbrev pub IsFull : Answer → Type 0
IsFull (answer.Search found) = found.full ≡ true
IsFull _ = ⊥

-- each such search is full
abbrev pub AreFull : Setting → List Asked → Cell → Type 0
AreFull s asked c = (upkeep at : ℕ) (q : Said) → FollowsRest s asked c upkeep at q → (a : Answer) → answer_at s asked c at (command.Search q) ≡ Some a → IsFull a
