-- How many lines of a session are read as states, and how many as upkeep.
use Rattle.std.specs.Prelude.{◌==◌, ◌≤◌, ℕ, ◌+◌, Bool, true, false, List, length, Option, None, Some, Result, Ok, Err, if◌then◌else◌}
use Rattle.std.specs.List.{count_by}
use Rattle.io_ends.specs.declared.next.LimitKind.{LimitKind}
use Rattle.io_ends.specs.declared.next.LimitKind.TheVariants as limit
use Rattle.session_cluster.specs.declared.asked.Asked.{Asked}
use Rattle.session_cluster.specs.declared.asked.Asked.TheVariants as asked
use Rattle.cell_session.specs.declared.counts.Counts.{Counts}
use Rattle.cell_session.specs.Limits.{most_lines, most_states, most_maintains}

-- the line is read as a state, whether or not its text is that of one
abbrev pub is_state : Asked → Bool
is_state asked.Blank = false
is_state asked.TooLong = false
is_state asked.Barrier = false
is_state (asked.Bad why) = false
is_state (asked.Feed op via) = false
is_state (asked.State state deaf) = true
is_state (asked.BadState offset) = true
is_state (asked.Stop node) = false
is_state (asked.Start node) = false
is_state (asked.Net lane fates) = false
is_state asked.Maintain = false
is_state (asked.Search query) = false
is_state (asked.BadQuery offset) = false

-- the line is read as upkeep
abbrev pub is_maintain : Asked → Bool
is_maintain asked.Blank = false
is_maintain asked.TooLong = false
is_maintain asked.Barrier = false
is_maintain (asked.Bad why) = false
is_maintain (asked.Feed op via) = false
is_maintain (asked.State state deaf) = false
is_maintain (asked.BadState offset) = false
is_maintain (asked.Stop node) = false
is_maintain (asked.Start node) = false
is_maintain (asked.Net lane fates) = false
is_maintain asked.Maintain = true
is_maintain (asked.Search query) = false
is_maintain (asked.BadQuery offset) = false

-- how many lines are read as states, and how many as upkeep
abbrev pub state_lines : List Asked → ℕ
state_lines commands = count_by is_state commands

abbrev pub maintain_lines : List Asked → ℕ
maintain_lines commands = count_by is_maintain commands

-- no more lines than a session may have, nor more that are read as states and as upkeep
pub record AreFew (commands : List Asked) : Type 0 where
  pub few : length commands ≤ most_lines
  pub few_states : state_lines commands ≤ most_states
  pub few_maintains : maintain_lines commands ≤ most_maintains

-- one more than a count, unless that is the most
abbrev pub one_more : ℕ → ℕ → Option ℕ
one_more most count = if count == most then None else Some (count + 1)

-- with one line more of a kind; or the limit that it passes
abbrev pub states_with : Counts → Option ℕ → Result Counts LimitKind
states_with counts None = Err limit.States
states_with counts (Some states) = Ok (record { states = states; maintains = counts.maintains })

abbrev pub maintains_with : Counts → Option ℕ → Result Counts LimitKind
maintains_with counts None = Err limit.Maintains
maintains_with counts (Some maintains) = Ok (record { states = counts.states; maintains = maintains })

-- with this line; or the limit that it passes, where a session may not have so many of its kind
abbrev pub counts_with : Counts → Asked → Result Counts LimitKind
counts_with counts asked.Blank = Ok counts
counts_with counts asked.TooLong = Ok counts
counts_with counts asked.Barrier = Ok counts
counts_with counts (asked.Bad why) = Ok counts
counts_with counts (asked.Feed op via) = Ok counts
counts_with counts (asked.State state deaf) = states_with counts (one_more most_states counts.states)
counts_with counts (asked.BadState offset) = states_with counts (one_more most_states counts.states)
counts_with counts (asked.Stop node) = Ok counts
counts_with counts (asked.Start node) = Ok counts
counts_with counts (asked.Net lane fates) = Ok counts
counts_with counts asked.Maintain = maintains_with counts (one_more most_maintains counts.maintains)
counts_with counts (asked.Search query) = Ok counts
counts_with counts (asked.BadQuery offset) = Ok counts
