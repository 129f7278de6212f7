-- What the words of a session choose.
use Rattle.std.specs.Prelude.{◌≡◌, ◌≤◌, Bool, true, not, List, ℕ, Some, None, is_some}
use Rattle.clap.specs.Walk.{Text}
use Rattle.serde_json.specs.Read.{read}
use Rattle.cluster_states.specs.ClusterStates.{State}
use Rattle.cluster_states.specs.StateTexts.{IsStateText}
use Rattle.distributor_part.specs.declared.rules.Rules.{Rules}
use Rattle.doc_types.specs.SchemaCodes.{Types}
use Rattle.json_documents.specs.Schemas.{schema_fault, schema_in}
use Rattle.words_line.specs.Said.{Says}
use Rattle.words_line.specs.declared.options.Options.{Options}
use Rattle.lane_lives.specs.Settings.{IsFirst}
use Rattle.session_settings.specs.declared.choice.Choice.{Choice}

-- an option that isn't built yet stands at its default
unfoldable pub is_built : Options → Bool
is_built o = not (is_some o.generate)

abbrev pub rules_of : Options → Rules
rules_of o = record { redundancy = o.redundancy; acks = o.acks; searchable = o.searchable; split_at = o.split_at }

-- the options say this state, and it can be published before all others
pub record CanBegin (o : Options) (state : State) : Type 0 where
  pub said : IsStateText o.initial state
  pub first : IsFirst o.acks state

-- the text is a schema, and has these types
pub record SaysSchema (text : List ℕ) (types : Types) : Type 0 where
  pub right : schema_fault (read text) ≡ None
  pub said : schema_in (read text) ≡ Some types

-- the words say these options, of which those that aren't built stand at their defaults; the feeders and the setting are
-- theirs, and its schema is that of its option
pub record Chooses (words : List Text) (c : Choice) : Type 0 where
  pub options : Options
  pub said : Says words options
  pub built : is_built options ≡ true
  pub feeders : c.feeders ≡ options.feeders
  pub schema : SaysSchema options.schema c.setting.schema
  pub bits : c.setting.bits ≡ options.bits
  pub rules : c.setting.rules ≡ rules_of options
  pub initial : CanBegin options c.setting.initial

-- the words choose nothing: they say no options, one that isn't built stands elsewhere than at its default, the
-- state's text is refused or can't be published first, or the schema is none
abbrev pub AreWrong : List Text → Type 0
AreWrong words = (c : Choice) → Chooses words c → ⊥

-- ---- with feeders, or without

-- the words choose it, and no feeders: each line is run behind the one before
pub record ChoosesAlone (words : List Text) (c : Choice) : Type 0 where
  pub chooses : Chooses words c
  pub alone : c.feeders ≡ 0

-- the words choose it, and feeders that run its lines
pub record ChoosesFed (words : List Text) (c : Choice) : Type 0 where
  pub chooses : Chooses words c
  pub some : 1 ≤ c.feeders

-- the words choose nothing that runs without feeders
abbrev pub AreWrongAlone : List Text → Type 0
AreWrongAlone words = (c : Choice) → ChoosesAlone words c → ⊥

-- the words choose nothing that feeders run
abbrev pub AreWrongFed : List Text → Type 0
AreWrongFed words = (c : Choice) → ChoosesFed words c → ⊥
