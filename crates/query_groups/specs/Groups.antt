-- Which lists of tokens say how the documents of a type are grouped, and what each says.
use Rattle.std.specs.Prelude.{◌≡◌, ℕ, true, List, [], ◌∷◌, ◌++◌}
use Rattle.doc_types.specs.declared.outputs.OutputKind.{OutputKind}
use Rattle.doc_types.specs.declared.outputs.OutputKind.TheVariants as output
use Rattle.doc_types.specs.SchemaCodes.{Types}
use Rattle.doc_types.specs.Tokens.{Token, word}
use Rattle.conditions.specs.Kinds.{opens, closes}
use Rattle.query_groups.specs.declared.groups.GroupBy.{GroupBy}
use Rattle.query_groups.specs.Cues.{all_word, group_word, each_word, output_word, count_word, sum_word, min_word, max_word, bar, comma}
use Rattle.query_groups.specs.Outputs.{field_kind, NamedOnce, OutputsFit, groups_by}

abbrev pub output_tokens : OutputKind → List Token
output_tokens output.Count = count_word ∷ opens ∷ closes ∷ []
output_tokens (output.Sum field) = sum_word ∷ opens ∷ word field ∷ closes ∷ []
output_tokens (output.Min field) = min_word ∷ opens ∷ word field ∷ closes ∷ []
output_tokens (output.Max field) = max_word ∷ opens ∷ word field ∷ closes ∷ []

-- outputs, each with a comma behind it
abbrev pub followed : List OutputKind → List Token
followed [] = []
followed (o ∷ os) = output_tokens o ++ (comma ∷ followed os)

-- how the documents that are found are grouped: by an int or a text field of their type, with one output or
-- more, none of them named twice
pub record IsGroup (types : Types) (name : List ℕ) (tokens : List Token) (g : GroupBy) : Type 0 where
  pub groups : groups_by (field_kind types name g.field) ≡ true
  pub before : List OutputKind
  pub last : OutputKind
  pub outputs : g.outputs ≡ before ++ last ∷ []
  pub fit : OutputsFit types name (before ++ last ∷ [])
  pub once : NamedOnce [] (before ++ last ∷ [])
  pub written : tokens ≡ bar ∷ all_word ∷ opens ∷ group_word ∷ opens ∷ word g.field ∷ closes ∷ each_word ∷ opens ∷ output_word ∷ opens
      ∷ (followed before ++ (output_tokens last ++ (closes ∷ closes ∷ closes ∷ [])))
