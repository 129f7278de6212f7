-- What the matches of the command give.
use Rattle.std.proofs.Common.{◌≡◌, ◌∙◌, Option}
use Rattle.clap.specs.Matches.{first_value}
use Rattle.clap.specs.Walk.{Text, rows_of}
use Rattle.clap.specs.declared.parser.matches.Found.{Found}
use Rattle.clap.proofs.WalkLemmas.{first_value-rows}
use Rattle.words_line.specs.Said.{given}

-- the text that `get_str` gives is the one that stands with the option
pub first_text : (text : Option Text) (f : Found) (name : Text) → text ≡ first_value f name → text ≡ given (rows_of f) name
first_text text f name e = e ∙ first_value-rows f name
