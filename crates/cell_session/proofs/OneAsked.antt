-- The bytes of a line ask for one thing.
use Rattle.std.proofs.Common.{◌≡◌, ℕ, zero, suc, ◌+◌, ◌<◌, ◌≤◌, List, [], ◌∷◌, ◌++◌, Some, Result, Ok, Err, inl, inr, refl, sym, ap, ap₂, ◌∙◌, subst, arith, length, take, slice_get}
use Rattle.std.proofs.lemmas.Bool.{cases_lt}
use Rattle.text_scanners.specs.Refusals.{Begins, IsRefusedAt}
use Rattle.text_scanners.proofs.Prefixes.{text_begins}
use Rattle.cluster_states.specs.StateTexts.{IsStateText}
use Rattle.cluster_states.proofs.Telling.{tells_one}
use Rattle.doc_types.specs.SchemaCodes.{Types}
use Rattle.io_ends.specs.Reading.{longest_line}
use Rattle.feed_lines.specs.Meaning.{line_said}
use Rattle.feed_lines.specs.declared.command.Cause.{Cause}
use Rattle.feed_lines.specs.declared.command.Command.{Command}
use Rattle.feed_lines.specs.declared.command.Command.TheVariants as said
use Rattle.query_text.specs.Grammar.{Said, IsQuery}
use Rattle.conditions.specs.Readings as readings
use Rattle.conditions.specs.Readings.{IsText}
use Rattle.doc_types.specs.declared.symbols.Language.TheVariants as language
use Rattle.session_cluster.specs.Asking.{IsOfText, IsOfQuery, IsAskedBy, IsAsked}
use Rattle.cell_session.specs.Ends.{AreFirst}
use Rattle.cell_session.specs.Operations.{IsCommandAt}
use Rattle.session_cluster.specs.declared.asked.Asked.{Asked}
use Rattle.session_cluster.specs.declared.asked.Asked.TheVariants as asked

-- ---- a text is refused at one place

-- what begins a text has only fronts that do
front_begins : {Letter Value : Type 0} (L : List Letter → Value → Type 0) (letters : List Letter) (n m : ℕ) → n ≤ m → m ≤ length letters → Begins L (take m letters) → Begins L (take n letters)
front_begins L letters n m le within begins =
    subst (Begins L) (take-take-front letters n m begins.0 le within) (text_begins L (take m letters ++ begins.0) n begins.1.0 begins.1.1)
  where
    take-take-front : {Letter : Type 0} (letters : List Letter) (n m : ℕ) (more : List Letter) → n ≤ m → m ≤ length letters → take n (take m letters ++ more) ≡ take n letters
    take-take-front letters zero m more le within = refl
    take-take-front [] (suc n) m more le within = absurd (omega (arith, le, within))
    take-take-front (x ∷ letters) (suc n) zero more le within = absurd (omega (arith, le))
    take-take-front (x ∷ letters) (suc n) (suc m) more le within = ap (λ l. x ∷ l) (take-take-front letters n m more (omega (arith, le)) (omega (arith, within)))

not_before : {Letter Value : Type 0} (L : List Letter → Value → Type 0) (letters : List Letter) (a b : ℕ) → IsRefusedAt L letters a → IsRefusedAt L letters b → a < b → ⊥
not_before L letters a b p q h = p.stops (omega (arith, h, q.within)) (front_begins L letters (a + 1) b (omega (arith, h)) q.within q.begins)

one_place : {Letter Value : Type 0} (L : List Letter → Value → Type 0) (letters : List Letter) (a b : ℕ) → IsRefusedAt L letters a → IsRefusedAt L letters b → a ≡ b
one_place L letters a b p q = elim (cases_lt a b) [
  | inl before ↦ absurd (not_before L letters a b p q before)
  | inr after ↦ elim (cases_lt b a) [
    | inl before ↦ absurd (not_before L letters b a q p before)
    | inr same ↦ omega (arith, after, same)
  ]
]

-- ---- one line

of_text_once : (text : List ℕ) (deaf : ℕ) (a b : Asked) → IsOfText text deaf a → IsOfText text deaf b → a ≡ b
of_text_once text deaf a b (inl x) (inl y) = x.1.1 ∙ ap (λ state. asked.State state deaf) (tells_one text x.0 y.0 x.1.0 y.1.0) ∙ sym y.1.1
of_text_once text deaf a b (inl x) (inr y) = absurd (y.1.0.no_text x.0 x.1.0)
of_text_once text deaf a b (inr x) (inl y) = absurd (x.1.0.no_text y.0 y.1.0)
of_text_once text deaf a b (inr x) (inr y) = x.1.1 ∙ ap (λ offset. asked.BadState offset) (one_place IsStateText text x.0 y.0 x.1.0 y.1.0) ∙ sym y.1.1

-- what is promised of the texts of queries
pub record OneQuery : Type 0 where
  pub once : (types : Types) (text : List ℕ) (a b : Said) → IsText language.Query (IsQuery types) text a → IsText language.Query (IsQuery types) text b → a ≡ b
  pub refused : (types : Types) (text : List ℕ) (offset : ℕ) (query : Said) → readings.IsRefusedAt language.Query (IsQuery types) text offset → IsText language.Query (IsQuery types) text query → ⊥
  pub place : (types : Types) (text : List ℕ) (a b : ℕ) → readings.IsRefusedAt language.Query (IsQuery types) text a → readings.IsRefusedAt language.Query (IsQuery types) text b → a ≡ b

of_query_once : OneQuery → (types : Types) (text : List ℕ) (a b : Asked) → IsOfQuery types text a → IsOfQuery types text b → a ≡ b
of_query_once law types text a b (inl x) (inl y) = x.1.1 ∙ ap (λ query. asked.Search query) (law.once types text x.0 y.0 x.1.0 y.1.0) ∙ sym y.1.1
of_query_once law types text a b (inl x) (inr y) = absurd (law.refused types text y.0 x.0 y.1.0 x.1.0)
of_query_once law types text a b (inr x) (inl y) = absurd (law.refused types text x.0 y.0 x.1.0 y.1.0)
of_query_once law types text a b (inr x) (inr y) = x.1.1 ∙ ap (λ offset. asked.BadQuery offset) (law.place types text x.0 y.0 x.1.0 y.1.0) ∙ sym y.1.1

by_once : OneQuery → (types : Types) (r : Result Command Cause) (a b : Asked) → IsAskedBy types r a → IsAskedBy types r b → a ≡ b
by_once law types (Ok said.Blank) a b p q = p ∙ sym q
by_once law types (Ok (said.Feed operation via)) a b p q = p ∙ sym q
by_once law types (Ok (said.Search text)) a b p q = of_query_once law types text a b p q
by_once law types (Ok (said.State text deaf)) a b p q = of_text_once text deaf a b p q
by_once law types (Ok (said.Stop node)) a b p q = p ∙ sym q
by_once law types (Ok (said.Start node)) a b p q = p ∙ sym q
by_once law types (Ok (said.Net lane fates)) a b p q = p ∙ sym q
by_once law types (Ok said.Maintain) a b p q = p ∙ sym q
by_once law types (Ok said.Barrier) a b p q = p ∙ sym q
by_once law types (Err why) a b p q = p ∙ sym q

pub asked_once : OneQuery → (types : Types) (bits : ℕ) (bytes : List ℕ) (a b : Asked) → IsAsked types bits bytes a → IsAsked types bits bytes b → a ≡ b
asked_once law types bits bytes a b p q = elim (cases_lt longest_line (length bytes)) [
  | inl long ↦ p.long long ∙ sym (q.long long)
  | inr short ↦ by_once law types (line_said types bits bytes) a b (p.short (omega (arith, short))) (q.short (omega (arith, short)))
]

-- ---- the first lines

some_bytes : (x y : List ℕ) → Some x ≡ Some y → x ≡ y
some_bytes x y e = cc

at_once : OneQuery → (types : Types) (bits : ℕ) (text : List ℕ) (at : ℕ) (a b : Asked) → IsCommandAt types bits (Some text) at a → IsCommandAt types bits (Some text) at b → a ≡ b
at_once law types bits text at a b p q = asked_once law types bits p.0 a b p.1.1 (subst (λ bytes. IsAsked types bits bytes b) (some_bytes q.0 p.0 (sym q.1.0 ∙ p.1.0)) q.1.1)

-- two lists of one length of which all places agree are one
all_once : (cs ds : List Asked) → length cs ≡ length ds → ((at : ℕ) (a b : Asked) → slice_get cs at ≡ Some a → slice_get ds at ≡ Some b → a ≡ b) → cs ≡ ds
all_once [] [] same each = refl
all_once [] (b ∷ ds) same each = absurd (omega (arith, same))
all_once (a ∷ cs) [] same each = absurd (omega (arith, same))
all_once (a ∷ cs) (b ∷ ds) same each = ap₂ (λ x xs. x ∷ xs) (each 0 a b refl refl) (all_once cs ds (omega (arith, same)) (λ at x y p q. each (suc at) x y p q))

pub first_once : OneQuery → (types : Types) (bits : ℕ) (text : List ℕ) (cs ds : List Asked) → AreFirst types bits text cs → AreFirst types bits text ds → length cs ≡ length ds → cs ≡ ds
first_once law types bits text cs ds p q same = all_once cs ds same (λ at a b x y. at_once law types bits text at a b (p.asked at a x) (q.asked at b y))
