-- The terms of queries are read as they are written.
use Rattle.std.proofs.Common.{◌≡◌, ℕ, ℤ, pos, ◌&&◌, ◌⊎◌, inl, inr, true, false, cond, List, [], ◌∷◌, ◌++◌, codes, bytes_eq, Option, Some, None, refl, sym, ap, subst, ◌∙◌, option_and_then, option_map, append-nil}
use Rattle.std.specs.Cmp.Lexicographic.{same_text}
use Rattle.doc_types.specs.declared.symbols.Symbol.TheVariants as symbol
use Rattle.doc_types.specs.declared.values.FieldType.{FieldType}
use Rattle.doc_types.specs.declared.values.FieldType.TheVariants as kind
use Rattle.doc_types.specs.SchemaCodes.{Types}
use Rattle.doc_types.specs.Tokens.{Token, word, integer, quoted, signs}
use Rattle.conditions.specs.Machines.{run}
use Rattle.conditions.specs.declared.kinds.Kind.TheVariants as part_of
use Rattle.conditions.specs.declared.kinds.Negation.TheVariants as negation
use Rattle.conditions.specs.Kinds.{kind_of}
use Rattle.conditions.specs.AtomLaws.{ReadsAtoms, atom_run, atom_next, first_by}
use Rattle.proof_basics.proofs.Options.{some_same, none_some}
use Rattle.conditions.proofs.Basics.{run-one, run-cons}
use Rattle.conditions.proofs.AtomRuns.{part_goes_on, atom_reaches}
use Rattle.word_index.specs.Tokens.{tokens_of}
use Rattle.query_text.specs.declared.parts.Part.{Part}
use Rattle.query_text.specs.declared.parts.Part.TheVariants as part
use Rattle.query_text.specs.declared.terms.Rel.{Rel}
use Rattle.query_text.specs.declared.terms.Rel.TheVariants as rel
use Rattle.query_text.specs.declared.terms.Term.{Term}
use Rattle.query_text.specs.declared.terms.Term.TheVariants as term
use Rattle.query_groups.specs.Outputs.{field_kind}
use Rattle.query_text.specs.Terms.{rel_token, contains_word, has_numbers, has_texts, IsField, IsTerm, a_relation, a_containment}
use Rattle.query_text.specs.Parts.{first, rel_if, contains_if, field_next, contains_next, sign_next, next, says, terms}

-- the tokens of a part
pub data PartRead (types : Types) (name : List ℕ) : List Token → Part → Type 0 where
  read_field : (field : List ℕ) (k : FieldType) → IsField types name field k → PartRead types name (word field ∷ []) (part.Field field k)
  read_contains : (field : List ℕ) (k : FieldType) → IsField types name field k → has_texts k ≡ true → PartRead types name (word field ∷ contains_word ∷ []) (part.Contains field)
  read_sign : (field : List ℕ) (k : FieldType) (r : Rel) → IsField types name field k → has_numbers k ≡ true → PartRead types name (word field ∷ rel_token r ∷ []) (part.Sign field r)
  read_whole : (ts : List Token) (x : Term) → IsTerm types name ts x → PartRead types name ts (part.Whole x)

field_first : (types : Types) (name w : List ℕ) (s : Part) → kind_of negation.Sign (word w) ≡ part_of.Other → first types name (word w) ≡ Some s → PartRead types name (word w ∷ []) s
field_first types name w s plain e = elim (field_kind types name w) as (λ o. field_kind types name w ≡ o → option_map (λ k. part.Field w k) o ≡ Some s → PartRead types name (word w ∷ []) s) [
  | None ↦ λ h f. absurd (none_some s f)
  | Some k ↦ λ h f. subst (PartRead types name (word w ∷ [])) (some_same (part.Field w k) s f) (read_field w k (record { known = h; plain = plain }))
] refl e

part_first : (types : Types) (name : List ℕ) (t : Token) (s : Part) → kind_of negation.Sign t ≡ part_of.Other → first types name t ≡ Some s → PartRead types name (t ∷ []) s
part_first types name (word w) s plain e = field_first types name w s plain e
part_first types name (integer z) s plain e = absurd (none_some s e)
part_first types name (quoted text) s plain e = absurd (none_some s e)
part_first types name (signs x) s plain e = absurd (none_some s e)

rel_goes : (types : Types) (name field : List ℕ) (k : FieldType) → IsField types name field k → (r : Rel) (q : Part) → rel_if field k r ≡ Some q → PartRead types name (word field ∷ rel_token r ∷ []) q
rel_goes types name field k h r q e = elim (has_numbers k) as (λ b. has_numbers k ≡ b → cond b (Some (part.Sign field r)) None ≡ Some q → PartRead types name (word field ∷ rel_token r ∷ []) q) [
  | true ↦ λ n f. subst (PartRead types name (word field ∷ rel_token r ∷ [])) (some_same (part.Sign field r) q f) (read_sign field k r h n)
  | false ↦ λ n f. absurd (none_some q f)
] refl e

texts_go : (types : Types) (name field : List ℕ) (k : FieldType) → IsField types name field k → (q : Part) → cond (has_texts k) (Some (part.Contains field)) None ≡ Some q → PartRead types name (word field ∷ contains_word ∷ []) q
texts_go types name field k h q e = elim (has_texts k) as (λ b. has_texts k ≡ b → cond b (Some (part.Contains field)) None ≡ Some q → PartRead types name (word field ∷ contains_word ∷ []) q) [
  | true ↦ λ n f. subst (PartRead types name (word field ∷ contains_word ∷ [])) (some_same (part.Contains field) q f) (read_contains field k h n)
  | false ↦ λ n f. absurd (none_some q f)
] refl e

contains_goes : (types : Types) (name field : List ℕ) (k : FieldType) → IsField types name field k → (w : List ℕ) (q : Part) → contains_if field k w ≡ Some q → PartRead types name (word field ∷ word w ∷ []) q
contains_goes types name field k h w q e = elim (bytes_eq w (codes "contains")) as (λ b. bytes_eq w (codes "contains") ≡ b → cond (b && has_texts k) (Some (part.Contains field)) None ≡ Some q → PartRead types name (word field ∷ word w ∷ []) q) [
  | true ↦ λ r f. subst (λ v. PartRead types name (word field ∷ word v ∷ []) q) (sym (same_text w (codes "contains") (sym r))) (texts_go types name field k h q f)
  | false ↦ λ r f. absurd (none_some q f)
] refl e

field_goes : (types : Types) (name field : List ℕ) (k : FieldType) → IsField types name field k → (t : Token) (q : Part) → field_next field k t ≡ Some q → PartRead types name (word field ∷ t ∷ []) q
field_goes types name field k h (signs symbol.Is) q e = rel_goes types name field k h rel.Eq q e
field_goes types name field k h (signs symbol.Less) q e = rel_goes types name field k h rel.Lt q e
field_goes types name field k h (signs symbol.LessEqual) q e = rel_goes types name field k h rel.Le q e
field_goes types name field k h (signs symbol.Greater) q e = rel_goes types name field k h rel.Gt q e
field_goes types name field k h (signs symbol.GreaterEqual) q e = rel_goes types name field k h rel.Ge q e
field_goes types name field k h (signs _) q e = absurd (none_some q e)
field_goes types name field k h (word w) q e = contains_goes types name field k h w q e
field_goes types name field k h (integer z) q e = absurd (none_some q e)
field_goes types name field k h (quoted text) q e = absurd (none_some q e)

text_goes : (types : Types) (name field : List ℕ) (k : FieldType) → IsField types name field k → has_texts k ≡ true → (t : Token) (q : Part) → contains_next field t ≡ Some q → PartRead types name (word field ∷ contains_word ∷ t ∷ []) q
text_goes types name field k h n (quoted text) q e = subst (PartRead types name (word field ∷ contains_word ∷ quoted text ∷ [])) (some_same _ q e)
    (read_whole (word field ∷ contains_word ∷ quoted text ∷ []) (term.Contains field (tokens_of text)) (a_containment field k text h n))
text_goes types name field k h n (word w) q e = absurd (none_some q e)
text_goes types name field k h n (integer z) q e = absurd (none_some q e)
text_goes types name field k h n (signs x) q e = absurd (none_some q e)

number_goes : (types : Types) (name field : List ℕ) (k : FieldType) (r : Rel) → IsField types name field k → has_numbers k ≡ true → (t : Token) (q : Part) → sign_next field r t ≡ Some q → PartRead types name (word field ∷ rel_token r ∷ t ∷ []) q
number_goes types name field k r h n (integer z) q e = subst (PartRead types name (word field ∷ rel_token r ∷ integer z ∷ [])) (some_same _ q e)
    (read_whole (word field ∷ rel_token r ∷ integer z ∷ []) (term.Compare field r z) (a_relation field k r z h n))
number_goes types name field k r h n (word w) q e = absurd (none_some q e)
number_goes types name field k r h n (quoted text) q e = absurd (none_some q e)
number_goes types name field k r h n (signs x) q e = absurd (none_some q e)

part_next : (types : Types) (name : List ℕ) (ts : List Token) (t : Token) (s q : Part) → PartRead types name ts s → next s t ≡ Some q → PartRead types name (ts ++ t ∷ []) q
part_next types name ts t s q (read_field field k h) e = field_goes types name field k h t q e
part_next types name ts t s q (read_contains field k h n) e = text_goes types name field k h n t q e
part_next types name ts t s q (read_sign field k r h n) e = number_goes types name field k r h n t q e
part_next types name ts t s q (read_whole us x h) e = absurd (none_some q e)

part_read : (types : Types) (name : List ℕ) (ts : List Token) (s : Part) → atom_run negation.Sign (terms types name) ts ≡ Some s → PartRead types name ts s
part_read types name ts s e = atom_reaches negation.Sign (terms types name) (PartRead types name) (part_first types name) (part_next types name) ts s e

said : (types : Types) (name : List ℕ) (ts : List Token) (s : Part) (x : Term) → PartRead types name ts s → says s ≡ Some x → IsTerm types name ts x
said types name ts s x (read_field field k h) e = absurd (none_some x e)
said types name ts s x (read_contains field k h n) e = absurd (none_some x e)
said types name ts s x (read_sign field k r h n) e = absurd (none_some x e)
said types name ts s x (read_whole us y h) e = subst (IsTerm types name us) (some_same y x e) h

-- each part goes on to a term
takes_some : (k : FieldType) → (has_numbers k ≡ true) ⊎ (has_texts k ≡ true)
takes_some kind.Int = inl refl
takes_some kind.IntArray = inl refl
takes_some kind.Text = inr refl
takes_some kind.TextArray = inr refl

part_begins : (types : Types) (name : List ℕ) (ts : List Token) (s : Part) → PartRead types name ts s → (more : List Token) × ((x : Term) × IsTerm types name (ts ++ more) x)
part_begins types name ts s (read_field field k h) = elim (takes_some k) [
  | inl n ↦ (rel_token rel.Eq ∷ integer (pos 0) ∷ [], (term.Compare field rel.Eq (pos 0), a_relation field k rel.Eq (pos 0) h n))
  | inr n ↦ (contains_word ∷ quoted [] ∷ [], (term.Contains field (tokens_of []), a_containment field k [] h n))
]
part_begins types name ts s (read_contains field k h n) = (quoted [] ∷ [], (term.Contains field (tokens_of []), a_containment field k [] h n))
part_begins types name ts s (read_sign field k r h n) = (integer (pos 0) ∷ [], (term.Compare field r (pos 0), a_relation field k r (pos 0) h n))
part_begins types name ts s (read_whole us x h) = ([], (x, subst (λ l. IsTerm types name l x) (sym (append-nil us)) h))

-- each term is read
field_begins : (types : Types) (name field : List ℕ) (k : FieldType) → IsField types name field k → first_by (kind_of negation.Sign (word field)) (first types name (word field)) ≡ Some (part.Field field k)
field_begins types name field k h = ap (λ j. first_by j (first types name (word field))) h.plain ∙ ap (option_map (λ j. part.Field field j)) h.known

rel_run : (field : List ℕ) (k : FieldType) (r : Rel) → has_numbers k ≡ true → field_next field k (rel_token r) ≡ Some (part.Sign field r)
rel_run field k rel.Eq n = ap (λ b. cond b (Some (part.Sign field rel.Eq)) None) n
rel_run field k rel.Lt n = ap (λ b. cond b (Some (part.Sign field rel.Lt)) None) n
rel_run field k rel.Le n = ap (λ b. cond b (Some (part.Sign field rel.Le)) None) n
rel_run field k rel.Gt n = ap (λ b. cond b (Some (part.Sign field rel.Gt)) None) n
rel_run field k rel.Ge n = ap (λ b. cond b (Some (part.Sign field rel.Ge)) None) n

relation_run : (types : Types) (name field : List ℕ) (k : FieldType) (r : Rel) (z : ℤ) → has_numbers k ≡ true
    → run (atom_next negation.Sign (terms types name)) (part.Field field k) (rel_token r ∷ integer z ∷ []) ≡ Some (part.Whole (term.Compare field r z))
relation_run types name field k r z n =
    let f : Part → Token → Option Part = atom_next negation.Sign (terms types name) in
    let y : Part = part.Whole (term.Compare field r z) in
    run-cons f (part.Field field k) (rel_token r) (part.Sign field r) (integer z ∷ []) y
    (part_goes_on negation.Sign (terms types name) (part.Field field k) (rel_token r) (part.Sign field r) refl (rel_run field k r n))
    (run-one f (part.Sign field r) (integer z) y (part_goes_on negation.Sign (terms types name) (part.Sign field r) (integer z) y refl refl))

containment_run : (types : Types) (name field : List ℕ) (k : FieldType) (text : List ℕ) → has_texts k ≡ true
    → run (atom_next negation.Sign (terms types name)) (part.Field field k) (contains_word ∷ quoted text ∷ []) ≡ Some (part.Whole (term.Contains field (tokens_of text)))
containment_run types name field k text n =
    let f : Part → Token → Option Part = atom_next negation.Sign (terms types name) in
    let y : Part = part.Whole (term.Contains field (tokens_of text)) in
    run-cons f (part.Field field k) contains_word (part.Contains field) (quoted text ∷ []) y
    (part_goes_on negation.Sign (terms types name) (part.Field field k) contains_word (part.Contains field) refl (ap (λ b. cond b (Some (part.Contains field)) None) n))
    (run-one f (part.Contains field) (quoted text) y (part_goes_on negation.Sign (terms types name) (part.Contains field) (quoted text) y refl refl))

term_accepted : (types : Types) (name : List ℕ) (ts : List Token) (x : Term) → IsTerm types name ts x → (s : Part) × ((atom_run negation.Sign (terms types name) ts ≡ Some s) × (says s ≡ Some x))
term_accepted types name ts x (a_relation field k r z h n) =
    (part.Whole (term.Compare field r z), (ap (option_and_then (λ s. run (atom_next negation.Sign (terms types name)) s (rel_token r ∷ integer z ∷ []))) (field_begins types name field k h) ∙ relation_run types name field k r z n, refl))
term_accepted types name ts x (a_containment field k text h n) =
    (part.Whole (term.Contains field (tokens_of text)), (ap (option_and_then (λ s. run (atom_next negation.Sign (terms types name)) s (contains_word ∷ quoted text ∷ []))) (field_begins types name field k h) ∙ containment_run types name field k text n, refl))

pub terms_read : (types : Types) (name : List ℕ) → ReadsAtoms negation.Sign (terms types name) (IsTerm types name)
terms_read types name = record {
  accepts = term_accepted types name;
  only = λ ts s x r e. said types name ts s x (part_read types name ts s r) e;
  begins = λ ts s r. part_begins types name ts s (part_read types name ts s r);
}
