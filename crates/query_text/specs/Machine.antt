-- A machine that reads queries token by token.
use Rattle.std.specs.Prelude.{ℕ, List, Option, Some, None, is_some, option_map, if◌then◌else◌}
use Rattle.std.specs.FinMap as fin
use Rattle.doc_types.specs.Known.{has_types}
use Rattle.doc_types.specs.SchemaCodes.{Types}
use Rattle.doc_types.specs.Tokens.{Token, word}
use Rattle.conditions.specs.Formulas.{Formula}
use Rattle.conditions.specs.Machine as condition
use Rattle.conditions.specs.Views as tree
use Rattle.query_groups.specs.declared.cues.Cue.{Cue}
use Rattle.query_groups.specs.declared.cues.Cue.TheVariants as cue
use Rattle.query_text.specs.declared.parts.Part.{Part}
use Rattle.query_groups.specs.declared.groups.GroupBy.{GroupBy}
use Rattle.query_text.specs.declared.reader.Head.{Head}
use Rattle.query_text.specs.declared.reader.Head.TheVariants as head
use Rattle.query_text.specs.declared.reader.Reading.{Reading}
use Rattle.query_text.specs.declared.reader.Reading.TheVariants as code
use Rattle.query_text.specs.declared.terms.Term.{Term}
use Rattle.query_groups.specs.declared.grouping.Opening.TheVariants as before
use Rattle.query_groups.specs.Cues.{cue_of}
use Rattle.query_groups.specs.Outputs.{has_groups}
use Rattle.query_text.specs.Parts.{endings, condition_step, state_of}
use Rattle.query_groups.specs.Grouping.{Group, opening, group_next, group_says, group_of}
use Rattle.query_text.specs.Grammar.{Said}

abbrev pub Asking : Type 0
Asking = condition.State Term Part

pub data Query : Type 0 where
  heading : Head → Query
  typed : List ℕ → Query
  asking : List ℕ → Asking → Query
  grouping : List ℕ → Formula Term → Group → Query
  ended : Said → Query

abbrev pub select_next : Types → Cue → Option Query
select_next types cue.Select = if has_types types then Some (heading head.Select) else None
select_next types _ = None

abbrev pub star_next : Cue → Option Query
star_next cue.Star = Some (heading head.Star)
star_next _ = None

abbrev pub from_next : Cue → Option Query
from_next cue.From = Some (heading head.From)
from_next _ = None

abbrev pub type_next : Types → Token → Option Query
type_next types (word name) = if is_some (fin.get types name) then Some (typed name) else None
type_next types _ = None

abbrev pub head_next : Types → Head → Token → Option Query
head_next types head.Begin t = select_next types (cue_of t)
head_next types head.Select t = star_next (cue_of t)
head_next types head.Star t = from_next (cue_of t)
head_next types head.From t = type_next types t

abbrev pub where_next : List ℕ → Cue → Option Query
where_next name cue.Where = Some (asking name condition.start)
where_next name _ = None

abbrev pub said_so : List ℕ → Option GroupBy → Formula Term → Said
said_so name g f = record { type_name = name; asked = f; group = g }

-- what a condition says, where it is whole
abbrev pub whole_condition : Asking → Option (Formula Term)
whole_condition x = condition.whole endings x

abbrev pub bar_next : Types → List ℕ → Asking → Option Query
bar_next types name x = if has_groups types name then option_map (λ f. grouping name f (opening before.Bar)) (whole_condition x) else None

abbrev pub asking_next : Types → List ℕ → Asking → Cue → Token → Option Query
asking_next types name x cue.Bar t = bar_next types name x
asking_next types name x cue.Semicolon t = option_map (λ f. ended (said_so name None f)) (whole_condition x)
asking_next types name x _ t = option_map (asking name) (condition_step types name x t)

abbrev pub grouping_next : Types → List ℕ → Formula Term → Group → Cue → Token → Option Query
grouping_next types name f g cue.Semicolon t = option_map (λ b. ended (said_so name (Some b) f)) (group_says g)
grouping_next types name f g _ t = option_map (grouping name f) (group_next types name g t)

abbrev pub query_step : Types → Query → Token → Option Query
query_step types (heading p) t = head_next types p t
query_step types (typed name) t = where_next name (cue_of t)
query_step types (asking name x) t = asking_next types name x (cue_of t) t
query_step types (grouping name f g) t = grouping_next types name f g (cue_of t) t
query_step types (ended s) t = None

abbrev pub begin : Query
begin = heading head.Begin

-- what a query says, where it is whole
abbrev pub query_says : Query → Option Said
query_says (heading p) = None
query_says (typed name) = None
query_says (asking name x) = option_map (said_so name None) (whole_condition x)
query_says (grouping name f g) = option_map (λ b. said_so name (Some b) f) (group_says g)
query_says (ended s) = Some s

abbrev pub query_of : Reading → Query
query_of (code.Head p) = heading p
query_of (code.Type name) = typed name
query_of (code.Condition name c) = asking name (state_of c)
query_of (code.Group name x g) = grouping name (tree.formula_of x) (group_of g)
query_of (code.End name x g) = ended (said_so name g (tree.formula_of x))
