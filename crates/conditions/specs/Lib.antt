-- What a caller needs: `Readings` (texts as tokens, and where they are refused); `Machines` serves proofs.
-- What a caller needs: `Grammar` and `Kinds` (which lists of tokens are conditions), `Formulas` and `Chains` (what
-- they say), `Meaning` (what they mean) and `AtomLaws` with `Machine` (what is asked of a language's atoms).
-- `Views` ties the code's types to these.
pub mod Readings
pub mod Machines
pub mod Formulas
pub mod Chains
pub mod Grammar
pub mod Kinds
pub mod Machine
pub mod Views
pub mod AtomLaws
pub mod Meaning
pub mod Codes
