-- What a caller needs: `Tokens`, `Symbols`, `Spelling` and `Fronts` (tokens), `Reading` (the token of a lexeme),
-- `Values` (the order of values), `SchemaCodes` (what a schema is), `SchemaMaps` (the pairs that its lists stand for)
-- and `Known` (whether there are types, and which have fields). `Bodies` serves the code alone.
pub mod Symbols
pub mod Tokens
pub mod Spelling
pub mod Fronts
pub mod Reading
pub mod Values
pub mod SchemaCodes
pub mod Known
pub mod Bodies
pub mod SchemaMaps
