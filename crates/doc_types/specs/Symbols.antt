-- The symbols of the two languages.
use Rattle.std.specs.Prelude.{◌==◌, ◌&&◌, ℕ, Option, Some, None, if◌then◌else◌}
use Rattle.doc_types.specs.declared.symbols.Language.{Language}
use Rattle.doc_types.specs.declared.symbols.Language.TheVariants.{Selection, Query}
use Rattle.doc_types.specs.declared.symbols.Symbol.{Symbol}
use Rattle.doc_types.specs.declared.symbols.Symbol.TheVariants as symbol

-- `<=` and `>=`
abbrev pub order_pair : ℕ → ℕ → Option Symbol
order_pair a b = if a == 60 && b == 61 then Some symbol.LessEqual else (if a == 62 && b == 61 then Some symbol.GreaterEqual else None)

-- the symbol of two signs: a selection has `==` and `!=` too
abbrev pub pair_symbol : Language → ℕ → ℕ → Option Symbol
pair_symbol Selection a b = if a == 61 && b == 61 then Some symbol.Equal else (if a == 33 && b == 61 then Some symbol.NotEqual else order_pair a b)
pair_symbol Query a b = order_pair a b

-- `(`, `)`, `<` and `>`, and else another one
abbrev pub shared_symbol : ℕ → Option Symbol → Option Symbol
shared_symbol a other = if a == 40 then Some symbol.Open else (if a == 41 then Some symbol.Close
    else (if a == 60 then Some symbol.Less else (if a == 62 then Some symbol.Greater else other)))

-- the symbol of one sign: a selection has `.`, a query has `,`, `*`, `|`, `;`, `!` and `=`
abbrev pub single_symbol : Language → ℕ → Option Symbol
single_symbol Selection a = shared_symbol a (if a == 46 then Some symbol.Dot else None)
single_symbol Query a = shared_symbol a (if a == 44 then Some symbol.Comma else (if a == 42 then Some symbol.Star else (if a == 124 then Some symbol.Bar
    else (if a == 59 then Some symbol.Semicolon else (if a == 33 then Some symbol.Not else (if a == 61 then Some symbol.Is else None))))))
