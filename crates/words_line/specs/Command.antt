-- The command: ten options that take a text each, and neither help nor version.
use Rattle.std.specs.Prelude.{Some, List, [], ◌∷◌, map, codes, true}
use Rattle.clap.specs.Walk.{Rule, Text}
use Rattle.clap.specs.Simple.{App, new_rule, new_shape, on_top}
use Rattle.clap.specs.declared.builder.action.ArgAction.TheVariants.{Set}

-- the option of this name, which takes one text
abbrev pub option_rule : Text → Rule
option_rule name = record (new_rule name) { long = Some name; action = Some Set }

-- the names of the options
abbrev pub option_names : List Text
option_names = codes "feeders" ∷ codes "bits" ∷ codes "redundancy" ∷ codes "acks" ∷ codes "searchable" ∷ codes "split-at" ∷ codes "schema" ∷ codes "state" ∷ codes "generate" ∷ codes "count" ∷ []

-- a command without options
abbrev pub bare_command : App
bare_command = record {
  top = record (new_shape (codes "vespa_cell")) {
    disable_help_flag = true;
    disable_version_flag = true;
  };
  subs = [];
}

-- the command with all its options
abbrev pub the_command : App
the_command = on_top (λ s. record s { rules = map option_rule option_names }) bare_command
