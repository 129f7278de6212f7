-- What a line of a session asks for.
use Rattle.std.specs.Prelude.{◌≡◌, ◌⊎◌, ℕ, ◌<◌, ◌≤◌, ◌^◌, List, length, Result, Ok, Err, IfSome}
use Rattle.text_scanners.specs.Refusals.{IsRefusedAt}
use Rattle.conditions.specs.Readings as readings
use Rattle.conditions.specs.Readings.{IsText}
use Rattle.cluster_states.specs.StateTexts.{IsStateText}
use Rattle.cluster_states.specs.declared.cluster_state.ClusterState.{ClusterState}
use Rattle.doc_types.specs.SchemaCodes.{Types}
use Rattle.doc_types.specs.declared.symbols.Language.TheVariants as language
use Rattle.io_ends.specs.Reading.{longest_line}
use Rattle.op_machine.specs.Plans.{IsOwn}
use Rattle.op_machine.specs.Plans.{IsPlainGet}
use Rattle.feed_lines.specs.Meaning.{line_said}
use Rattle.feed_lines.specs.declared.command.Cause.{Cause}
use Rattle.feed_lines.specs.declared.command.Command.{Command}
use Rattle.feed_lines.specs.declared.command.Command.TheVariants as said
use Rattle.query_text.specs.Grammar.{Said, IsQuery}
use Rattle.session_cluster.specs.declared.asked.Asked.{Asked}
use Rattle.session_cluster.specs.declared.asked.Asked.TheVariants as asked

-- the text says this state, or is that of none, up to this place
abbrev pub IsOfText : List ℕ → ℕ → Asked → Type 0
IsOfText text deaf a =
    ((state : ClusterState) × (IsStateText text state × (a ≡ asked.State state deaf)))
    ⊎ ((offset : ℕ) × (IsRefusedAt IsStateText text offset × (a ≡ asked.BadState offset)))

-- the text says this query under a schema, or is that of none, and refused at this place
abbrev pub IsOfQuery : Types → List ℕ → Asked → Type 0
IsOfQuery types text a =
    ((query : Said) × (IsText language.Query (IsQuery types) text query × (a ≡ asked.Search query)))
    ⊎ ((offset : ℕ) × (readings.IsRefusedAt language.Query (IsQuery types) text offset × (a ≡ asked.BadQuery offset)))

-- what a line is that says this under a schema
abbrev pub IsAskedBy : Types → Result Command Cause → Asked → Type 0
IsAskedBy types (Ok said.Blank) a = a ≡ asked.Blank
IsAskedBy types (Ok (said.Feed operation via)) a = a ≡ asked.Feed operation via
IsAskedBy types (Ok (said.Search text)) a = IsOfQuery types text a
IsAskedBy types (Ok (said.State text deaf)) a = IsOfText text deaf a
IsAskedBy types (Ok (said.Stop node)) a = a ≡ asked.Stop node
IsAskedBy types (Ok (said.Start node)) a = a ≡ asked.Start node
IsAskedBy types (Ok (said.Net lane fates)) a = a ≡ asked.Net lane fates
IsAskedBy types (Ok said.Maintain) a = a ≡ asked.Maintain
IsAskedBy types (Ok said.Barrier) a = a ≡ asked.Barrier
IsAskedBy types (Err why) a = a ≡ asked.Bad why

-- what a line asks for under a schema in a session of 2^bits lanes: a long one is too long, whatever its bytes
pub record IsAsked (types : Types) (bits : ℕ) (bytes : List ℕ) (a : Asked) : Type 0 where
  pub long : longest_line < length bytes → a ≡ asked.TooLong
  pub short : length bytes ≤ longest_line → IsAskedBy types (line_said types bits bytes) a

-- a put's document has the id of its operation, a get has no condition, and each number is in its range
abbrev pub IsOwnAsked : ℕ → Asked → Type 0
IsOwnAsked bits asked.Blank = Unit {0}
IsOwnAsked bits asked.TooLong = Unit {0}
IsOwnAsked bits asked.Barrier = Unit {0}
IsOwnAsked bits (asked.Bad why) = Unit {0}
IsOwnAsked bits (asked.Feed op via) = IsOwn op.id op.kind × (IsPlainGet op × IfSome via (λ number. number < 32))
IsOwnAsked bits (asked.State state deaf) = Unit {0}
IsOwnAsked bits (asked.BadState offset) = Unit {0}
IsOwnAsked bits (asked.Stop node) = node < 32
IsOwnAsked bits (asked.Start node) = node < 32
IsOwnAsked bits (asked.Net lane fates) = lane < 2 ^ bits
IsOwnAsked bits asked.Maintain = Unit {0}
IsOwnAsked bits (asked.Search query) = Unit {0}
IsOwnAsked bits (asked.BadQuery offset) = Unit {0}
