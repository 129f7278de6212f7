-- Which texts are queries under a schema, what each says, and where other texts are refused.
use Rattle.std.specs.Prelude.{◌≡◌, ℕ, Bool, true, false, List, [], ◌∷◌, ◌++◌, Option, Some, None, is_some, Result, Ok, Err}
use Rattle.std.specs.FinMap as fin
use Rattle.doc_types.specs.declared.symbols.Language.TheVariants as language
use Rattle.doc_types.specs.SchemaCodes.{Types}
use Rattle.doc_types.specs.Tokens.{Token, word}
use Rattle.conditions.specs.Readings.{IsText, IsRefusedAt}
use Rattle.conditions.specs.declared.kinds.Negation.TheVariants as negation
use Rattle.conditions.specs.Formulas.{Formula}
use Rattle.conditions.specs.Grammar.{IsCondition}
use Rattle.query_groups.specs.declared.groups.GroupBy.{GroupBy}
use Rattle.query_text.specs.declared.query.Query.{Query}
use Rattle.query_text.specs.declared.query.QueryFault.{QueryFault}
use Rattle.query_text.specs.declared.query.QueryFault.TheVariants as fault
use Rattle.query_text.specs.declared.terms.Term.{Term}
use Rattle.query_groups.specs.Cues.{select_word, from_word, where_word, star, semicolon}
use Rattle.query_groups.specs.Groups.{IsGroup}
use Rattle.query_text.specs.Terms.{IsTerm}
use Rattle.query_text.specs.Formulas.{formula_of}

abbrev pub IsTail : Types → List ℕ → List Token → Option GroupBy → Type 0
IsTail types name tokens None = tokens ≡ []
IsTail types name tokens (Some g) = IsGroup types name tokens g

-- `;` may stand at the end
abbrev pub end_tokens : Bool → List Token
end_tokens true = semicolon ∷ []
end_tokens false = []

-- what a query says: of which type its documents are, what is asked of them, and how they are grouped
pub record Said : Type 0 where
  pub type_name : List ℕ
  pub asked : Formula Term
  pub group : Option GroupBy

-- the tokens are a query that says this: a condition over the fields of a type, in which `!` negates
pub record IsQuery (types : Types) (tokens : List Token) (said : Said) : Type 0 where
  pub known : is_some (fin.get types said.type_name) ≡ true
  pub condition : List Token
  pub asks : IsCondition negation.Sign (IsTerm types said.type_name) condition said.asked
  pub tail : List Token
  pub grouped : IsTail types said.type_name tail said.group
  pub ended : Bool
  pub written : tokens ≡ select_word ∷ star ∷ from_word ∷ word said.type_name ∷ where_word ∷ (condition ++ (tail ++ end_tokens ended))

abbrev pub said_of : Query → Said
said_of q = record { type_name = q.type_name; asked = formula_of q.expr; group = q.group }

-- what the parse of a text answers
abbrev pub Parses : Types → List ℕ → Result Query QueryFault → Type 0
Parses types text (Ok q) = IsText language.Query (IsQuery types) text (said_of q)
Parses types text (Err (fault.BadQuery offset)) = IsRefusedAt language.Query (IsQuery types) text offset
Parses types text (Err fault.NoMemory) = Unit {0}
