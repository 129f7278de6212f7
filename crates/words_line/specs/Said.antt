-- The options that the words of the command say.
use Rattle.std.specs.Prelude.{◌≡◌, ◌⊎◌, ℕ, ◌-◌, ◌^◌, ◌≤◌, Option, Some, None, List, [], codes}
use Rattle.std.specs.Fmt.{decimal}
use Rattle.std.specs.Option.{unwrap_or}
use Rattle.clap.specs.Kinds.{Kinds}
use Rattle.clap.specs.Walk.{Row, Text, first_of}
use Rattle.clap.specs.Simple.{matches_of}
use Rattle.clap.specs.Faults.{fault_of}
use Rattle.words_line.specs.Command.{the_command}
use Rattle.words_line.specs.declared.options.Generate.{Generate}
use Rattle.words_line.specs.declared.options.Options.{Options}
use Rattle.words_line.specs.declared.plain.Copies.{Copies}

-- the text that stands with an option, where the option is there
abbrev pub given : List Row → Text → Option Text
given rows name = first_of name rows

-- the same, or the default's text
abbrev pub said : List Row → Text → Text → Text
said rows name default = unwrap_or (given rows name) default

-- the schema of a session that names none
abbrev pub default_schema : Text
default_schema = codes "{\"music\":{\"artist\":\"text\",\"genres\":\"texts\",\"title\":\"text\",\"year\":\"int\"}}"

-- the text is the plain decimal of n, without sign or leading zero, and n is in the range
pub record IsNumber (least most : ℕ) (text : Text) (n : ℕ) : Type 0 where
  pub plain : text ≡ decimal n
  pub low : least ≤ n
  pub high : n ≤ most

-- how many copies are asked for
pub record SaysCopies (rows : List Row) (c : Copies) : Type 0 where
  pub redundancy : IsNumber 1 8 (said rows (codes "redundancy") (codes "1")) c.redundancy
  pub acks : IsNumber 1 c.redundancy (said rows (codes "acks") (codes "1")) c.acks
  pub searchable : IsNumber 1 c.redundancy (said rows (codes "searchable") (codes "1")) c.searchable

-- the options of a session that reads its lines
pub record SaysPlain (rows : List Row) (o : Options) : Type 0 where
  pub no_seed : given rows (codes "generate") ≡ None
  pub no_count : given rows (codes "count") ≡ None
  pub feeders : IsNumber 0 8 (said rows (codes "feeders") (codes "0")) o.feeders
  pub bits : IsNumber 1 6 (said rows (codes "bits") (codes "4")) o.bits
  pub redundancy : IsNumber 1 8 (said rows (codes "redundancy") (codes "1")) o.redundancy
  pub acks : IsNumber 1 o.redundancy (said rows (codes "acks") (codes "1")) o.acks
  pub searchable : IsNumber 1 o.redundancy (said rows (codes "searchable") (codes "1")) o.searchable
  pub split_at : IsNumber 1 1000000 (said rows (codes "split-at") (codes "64")) o.split_at
  pub schema : o.schema ≡ said rows (codes "schema") default_schema
  pub initial : o.initial ≡ said rows (codes "state") (codes "version:1 distributor:1 storage:1")
  pub generate : o.generate ≡ None

-- no option is there that a generated session hasn't
pub record StandsAlone (rows : List Row) : Type 0 where
  pub no_redundancy : given rows (codes "redundancy") ≡ None
  pub no_acks : given rows (codes "acks") ≡ None
  pub no_searchable : given rows (codes "searchable") ≡ None
  pub no_split_at : given rows (codes "split-at") ≡ None
  pub no_schema : given rows (codes "schema") ≡ None
  pub no_state : given rows (codes "state") ≡ None

-- the options of a session that makes its lines: of the others only two may be there
pub record SaysGenerated (rows : List Row) (o : Options) : Type 0 where
  pub made : Generate
  pub seed_text : Text
  pub count_text : Text
  pub generate : o.generate ≡ Some made
  pub seed_given : given rows (codes "generate") ≡ Some seed_text
  pub count_given : given rows (codes "count") ≡ Some count_text
  pub seed : IsNumber 0 (2 ^ 32 - 1) seed_text made.seed
  pub count : IsNumber 1 30000 count_text made.count
  pub feeders : IsNumber 0 8 (said rows (codes "feeders") (codes "0")) o.feeders
  pub bits : IsNumber 1 6 (said rows (codes "bits") (codes "4")) o.bits
  pub alone : StandsAlone rows
  pub redundancy : o.redundancy ≡ 3
  pub acks : o.acks ≡ 2
  pub searchable : o.searchable ≡ 2
  pub split_at : o.split_at ≡ 32
  pub schema : o.schema ≡ default_schema
  pub initial : o.initial ≡ codes "version:1 distributor:2 storage:4"

-- what the matches of the command say
abbrev pub MatchesSay : List Row → Options → Type 0
MatchesSay rows o = SaysPlain rows o ⊎ SaysGenerated rows o

-- the kinds of refusal of the words, none where `clap` takes them
unfoldable pub refusals : List Text → Kinds
refusals words = fault_of the_command words

-- what stands with each option
unfoldable pub matches : List Text → List Row
matches words = matches_of the_command words

-- what the words say; the first is the program's name
pub record Says (words : List Text) (o : Options) : Type 0 where
  pub taken : refusals words ≡ []
  pub said : MatchesSay (matches words) o
