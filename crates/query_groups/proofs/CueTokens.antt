-- The tokens of cues.
use Rattle.std.proofs.Common.{◌≡◌, ℕ, true, false, cond, List, codes, bytes_eq, refl, sym, subst}
use Rattle.std.specs.Cmp.Lexicographic.{same_text}
use Rattle.doc_types.specs.declared.symbols.Symbol.{Symbol}
use Rattle.doc_types.specs.declared.symbols.Symbol.TheVariants as symbol
use Rattle.doc_types.specs.Tokens.{Token, word, integer, quoted, signs}
use Rattle.conditions.specs.Kinds.{opens, closes}
use Rattle.query_groups.specs.declared.cues.Cue.{Cue}
use Rattle.query_groups.specs.declared.cues.Cue.TheVariants as cue
use Rattle.query_groups.specs.Cues.{select_word, from_word, where_word, all_word, group_word, each_word, output_word, count_word, sum_word, min_word, max_word, star, bar, comma, semicolon, output_cue, word_cue, sign_cue, cue_of}

-- the token of a cue
abbrev pub TokenIs : Cue → Token → Type 0
TokenIs cue.Select t = t ≡ select_word
TokenIs cue.Star t = t ≡ star
TokenIs cue.From t = t ≡ from_word
TokenIs cue.Where t = t ≡ where_word
TokenIs cue.Bar t = t ≡ bar
TokenIs cue.All t = t ≡ all_word
TokenIs cue.Group t = t ≡ group_word
TokenIs cue.Each t = t ≡ each_word
TokenIs cue.Output t = t ≡ output_word
TokenIs cue.Count t = t ≡ count_word
TokenIs cue.Sum t = t ≡ sum_word
TokenIs cue.Min t = t ≡ min_word
TokenIs cue.Max t = t ≡ max_word
TokenIs cue.Open t = t ≡ opens
TokenIs cue.Close t = t ≡ closes
TokenIs cue.Comma t = t ≡ comma
TokenIs cue.Semicolon t = t ≡ semicolon
TokenIs cue.Other t = Unit {0}

named : (w c : List ℕ) (k rest : Cue) → TokenIs k (word c) → TokenIs rest (word w) → TokenIs (cond (bytes_eq w c) k rest) (word w)
named w c k rest this other = elim (bytes_eq w c) as (λ b. bytes_eq w c ≡ b → TokenIs (cond b k rest) (word w)) [
  | true ↦ λ e. subst (λ v. TokenIs k (word v)) (sym (same_text w c (sym e))) this
  | false ↦ λ e. other
] refl

output_is : (w : List ℕ) → TokenIs (output_cue w) (word w)
output_is w = named w (codes "output") cue.Output _ refl (named w (codes "count") cue.Count _ refl (named w (codes "sum") cue.Sum _ refl
    (named w (codes "min") cue.Min _ refl (named w (codes "max") cue.Max cue.Other refl tt))))

word_is : (w : List ℕ) → TokenIs (word_cue w) (word w)
unfolding word_cue
word_is w = named w (codes "select") cue.Select _ refl (named w (codes "from") cue.From _ refl (named w (codes "where") cue.Where _ refl
    (named w (codes "all") cue.All _ refl (named w (codes "group") cue.Group _ refl (named w (codes "each") cue.Each (output_cue w) refl (output_is w))))))

sign_is : (s : Symbol) → TokenIs (sign_cue s) (signs s)
sign_is symbol.Star = refl
sign_is symbol.Bar = refl
sign_is symbol.Open = refl
sign_is symbol.Close = refl
sign_is symbol.Comma = refl
sign_is symbol.Semicolon = refl
sign_is _ = tt

pub cue_token : (t : Token) → TokenIs (cue_of t) t
unfolding cue_of
cue_token (word w) = word_is w
cue_token (integer z) = tt
cue_token (quoted text) = tt
cue_token (signs s) = sign_is s

pub select_cue : cue_of select_word ≡ cue.Select
unfolding cue_of word_cue
select_cue = refl

pub star_cue : cue_of star ≡ cue.Star
unfolding cue_of
star_cue = refl

pub from_cue : cue_of from_word ≡ cue.From
unfolding cue_of word_cue
from_cue = refl

pub where_cue : cue_of where_word ≡ cue.Where
unfolding cue_of word_cue
where_cue = refl

pub bar_cue : cue_of bar ≡ cue.Bar
unfolding cue_of
bar_cue = refl

pub all_cue : cue_of all_word ≡ cue.All
unfolding cue_of word_cue
all_cue = refl

pub group_cue : cue_of group_word ≡ cue.Group
unfolding cue_of word_cue
group_cue = refl

pub each_cue : cue_of each_word ≡ cue.Each
unfolding cue_of word_cue
each_cue = refl

pub outputs_cue : cue_of output_word ≡ cue.Output
unfolding cue_of word_cue
outputs_cue = refl

pub count_cue : cue_of count_word ≡ cue.Count
unfolding cue_of word_cue
count_cue = refl

pub sum_cue : cue_of sum_word ≡ cue.Sum
unfolding cue_of word_cue
sum_cue = refl

pub min_cue : cue_of min_word ≡ cue.Min
unfolding cue_of word_cue
min_cue = refl

pub max_cue : cue_of max_word ≡ cue.Max
unfolding cue_of word_cue
max_cue = refl

pub open_cue : cue_of opens ≡ cue.Open
unfolding cue_of
open_cue = refl

pub close_cue : cue_of closes ≡ cue.Close
unfolding cue_of
close_cue = refl

pub comma_cue : cue_of comma ≡ cue.Comma
unfolding cue_of
comma_cue = refl

pub semicolon_cue : cue_of semicolon ≡ cue.Semicolon
unfolding cue_of
semicolon_cue = refl
