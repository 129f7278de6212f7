-- A round as a whole: what stands after Reads to some readers, each of which replied as is told.
use Rattle.std.specs.Prelude.{◌≡◌, ℕ, List, [], ◌∷◌, length, Option}
use Rattle.std.specs.FinMap as fin
use Rattle.entry_maps.specs.EntryCodes.{Entries}
use Rattle.messages.specs.declared.reply.Reply.{Reply}
use Rattle.messages.specs.declared.step.NodePieces.{NodePieces}
use Rattle.merge_rounds.specs.Rounds.{RoundState, IsNth, shown_after, union_after}

-- the first readers in rising number, the last first
abbrev pub AreAsked : ℕ → List ℕ → Type 0
AreAsked readers [] = Unit {0}
AreAsked readers (node ∷ asked) = IsNth readers (length asked) node × AreAsked readers asked

-- what the replies of these nodes show
abbrev pub shown_of : (ℕ → Option Reply) → List ℕ → List NodePieces
shown_of replies [] = []
shown_of replies (node ∷ asked) = shown_after (shown_of replies asked) node (replies node)

-- the join of all their answers
abbrev pub union_of : (ℕ → Option Reply) → List ℕ → Entries
union_of replies [] = fin.empty
union_of replies (node ∷ asked) = union_after (union_of replies asked) (replies node)

-- the round once these readers were asked, and each replied as is told or not at all
pub record HasRead (replies : ℕ → Option Reply) (asked : List ℕ) (r : RoundState) : Type 0 where
  pub reads : r.reads ≡ length asked
  pub first : AreAsked r.readers asked
  pub shown : r.shown ≡ shown_of replies asked
  pub union : r.union ≡ union_of replies asked
