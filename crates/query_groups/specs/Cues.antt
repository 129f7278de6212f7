-- The words and signs of queries, outside of their conditions.
use Rattle.std.specs.Prelude.{ℕ, List, codes, if◌then◌else◌}
use Rattle.std.specs.Str.{bytes_eq}
use Rattle.doc_types.specs.declared.symbols.Symbol.{Symbol}
use Rattle.doc_types.specs.declared.symbols.Symbol.TheVariants as symbol
use Rattle.doc_types.specs.Tokens.{Token, word, integer, quoted, signs}
use Rattle.query_groups.specs.declared.cues.Cue.{Cue}
use Rattle.query_groups.specs.declared.cues.Cue.TheVariants as cue

abbrev pub select_word : Token
select_word = word (codes "select")

abbrev pub from_word : Token
from_word = word (codes "from")

abbrev pub where_word : Token
where_word = word (codes "where")

abbrev pub all_word : Token
all_word = word (codes "all")

abbrev pub group_word : Token
group_word = word (codes "group")

abbrev pub each_word : Token
each_word = word (codes "each")

abbrev pub output_word : Token
output_word = word (codes "output")

abbrev pub count_word : Token
count_word = word (codes "count")

abbrev pub sum_word : Token
sum_word = word (codes "sum")

abbrev pub min_word : Token
min_word = word (codes "min")

abbrev pub max_word : Token
max_word = word (codes "max")

abbrev pub star : Token
star = signs symbol.Star

abbrev pub bar : Token
bar = signs symbol.Bar

abbrev pub comma : Token
comma = signs symbol.Comma

abbrev pub semicolon : Token
semicolon = signs symbol.Semicolon

abbrev pub output_cue : List ℕ → Cue
output_cue w = if bytes_eq w (codes "output") then cue.Output else (if bytes_eq w (codes "count") then cue.Count
    else (if bytes_eq w (codes "sum") then cue.Sum else (if bytes_eq w (codes "min") then cue.Min
    else (if bytes_eq w (codes "max") then cue.Max else cue.Other))))

unfoldable pub word_cue : List ℕ → Cue
word_cue w = if bytes_eq w (codes "select") then cue.Select else (if bytes_eq w (codes "from") then cue.From
    else (if bytes_eq w (codes "where") then cue.Where else (if bytes_eq w (codes "all") then cue.All
    else (if bytes_eq w (codes "group") then cue.Group else (if bytes_eq w (codes "each") then cue.Each else output_cue w)))))

abbrev pub sign_cue : Symbol → Cue
sign_cue symbol.Star = cue.Star
sign_cue symbol.Bar = cue.Bar
sign_cue symbol.Open = cue.Open
sign_cue symbol.Close = cue.Close
sign_cue symbol.Comma = cue.Comma
sign_cue symbol.Semicolon = cue.Semicolon
sign_cue _ = cue.Other

unfoldable pub cue_of : Token → Cue
cue_of (word w) = word_cue w
cue_of (integer z) = cue.Other
cue_of (quoted text) = cue.Other
cue_of (signs s) = sign_cue s
