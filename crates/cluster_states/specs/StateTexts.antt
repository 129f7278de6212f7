-- The texts of cluster states.
use Rattle.std.specs.Prelude.{◌≡◌, ℕ, ◌+◌, List, [], ◌∷◌, ◌++◌, length, codes, nat_eq, if◌then◌else◌}
use Rattle.std.specs.Fmt.{decimal}
use Rattle.cluster_states.specs.declared.marks.Mark.{Mark}
use Rattle.cluster_states.specs.declared.marks.Mark.TheVariants.{Up, Down, Retired}
use Rattle.cluster_states.specs.ClusterStates.{State, IsState}

-- a number that isn't up is written after its role, with a letter
abbrev pub mark_text : List ℕ → ℕ → Mark → List ℕ
mark_text role number Up = []
mark_text role number Down = role ++ (decimal number ++ codes ".s:d")
mark_text role number Retired = role ++ (decimal number ++ codes ".s:r")

-- the marks of the numbers from one on
abbrev pub marks_text : List ℕ → ℕ → List Mark → List ℕ
marks_text role number [] = []
marks_text role number (m ∷ ms) = mark_text role number m ++ marks_text role (number + 1) ms

-- the marks of the distributors, then those of the nodes
abbrev pub after_groups : State → List ℕ
after_groups s = marks_text (codes " distributor.") 0 s.distributors ++ marks_text (codes " storage.") 0 s.nodes

-- a number of groups is written where it isn't 1
abbrev pub groups_text : ℕ → List ℕ
groups_text groups = if nat_eq groups 1 then [] else (codes " groups:" ++ decimal groups)

-- what follows the count of nodes
abbrev pub after_counts : State → List ℕ
after_counts s = groups_text s.groups ++ after_groups s

-- what follows the count of distributors
abbrev pub after_distributors : State → List ℕ
after_distributors s = codes " storage:" ++ (decimal (length s.nodes) ++ after_counts s)

-- what follows the version
abbrev pub after_version : State → List ℕ
after_version s = codes " distributor:" ++ (decimal (length s.distributors) ++ after_distributors s)

-- the text of a state
unfoldable pub state_text : State → List ℕ
state_text s = codes "version:" ++ (decimal s.version ++ after_version s)

-- the state texts, and the state that each says
abbrev pub IsStateText : List ℕ → State → Type 0
IsStateText text s = IsState s × (text ≡ state_text s)
