-- The terms of selections are read as they are written.
use Rattle.std.proofs.Common.{◌≡◌, ℕ, ℤ, pos, ◌||◌, Bool, true, false, cond, List, [], ◌∷◌, ◌++◌, codes, bytes_eq, Option, Some, None, is_some, refl, sym, ap, subst, ◌∙◌, option_and_then, option_map}
use mathlib.Core.Bool.{true≢false}
use Rattle.std.specs.FinMap as fin
use Rattle.std.specs.Cmp.Lexicographic.{same_text}
use Rattle.doc_types.specs.declared.symbols.Symbol.{Symbol}
use Rattle.doc_types.specs.declared.symbols.Symbol.TheVariants as symbol
use Rattle.doc_types.specs.declared.values.FieldType.{FieldType}
use Rattle.doc_types.specs.declared.values.FieldType.TheVariants as kind
use Rattle.doc_types.specs.Known.{has_fields}
use Rattle.doc_types.specs.SchemaCodes.{Types}
use Rattle.doc_types.specs.Tokens.{Token, word, integer, quoted, signs}
use Rattle.conditions.specs.Machines.{run}
use Rattle.conditions.specs.declared.kinds.Kind.TheVariants as part_of
use Rattle.conditions.specs.declared.kinds.Negation.TheVariants as negation
use Rattle.conditions.specs.Kinds.{kind_of, sign_kind}
use Rattle.conditions.specs.AtomLaws.{ReadsAtoms, atom_run, atom_next, first_by, next_by}
use Rattle.proof_basics.proofs.Options.{some_same, none_some}
use Rattle.conditions.proofs.Basics.{run-one, run-cons}
use Rattle.conditions.proofs.AtomRuns.{part_goes_on, atom_reaches}
use Rattle.doc_selection.specs.declared.parts.Part.{Part}
use Rattle.doc_selection.specs.declared.parts.Part.TheVariants as part
use Rattle.doc_selection.specs.declared.terms.Comparison.{Comparison}
use Rattle.doc_selection.specs.declared.terms.Comparison.TheVariants as op
use Rattle.doc_selection.specs.declared.terms.Literal.{Literal}
use Rattle.doc_selection.specs.declared.terms.Literal.TheVariants as literal
use Rattle.doc_selection.specs.declared.terms.Term.{Term}
use Rattle.doc_selection.specs.declared.terms.Term.TheVariants as term
use Rattle.doc_selection.specs.Atoms.{dot, comparison_token, literal_token, is_equality, is_int, is_text, takes, IsType, field_kind, IsTerm, a_type, a_comparison}
use Rattle.doc_selection.specs.Parts.{comparison_of, literal_of, has_order, may_follow, first, dot_sign, type_next, dot_next, sign_if, field_next, whole_if, sign_next, next, says, terms}
use Rattle.doc_selection.proofs.Maps.{known_fields, some_field}

-- the tokens of a part
pub data PartRead (types : Types) : List Token → Part → Type 0 where
  read_type : (name : List ℕ) → IsType types name → PartRead types (word name ∷ []) (part.Type name)
  read_dot : (name : List ℕ) → IsType types name → has_fields types name ≡ true → PartRead types (word name ∷ dot ∷ []) (part.Dot name)
  read_field : (name field : List ℕ) (k : FieldType) → IsType types name → field_kind types name field ≡ Some k → PartRead types (word name ∷ dot ∷ word field ∷ []) (part.Field name field k)
  read_sign : (name field : List ℕ) (k : FieldType) (c : Comparison) → IsType types name → field_kind types name field ≡ Some k → may_follow k c ≡ true
      → PartRead types (word name ∷ dot ∷ word field ∷ comparison_token c ∷ []) (part.Sign name field k c)
  read_whole : (ts : List Token) (x : Term) → IsTerm types ts x → PartRead types ts (part.Whole x)

type_first : (types : Types) (w : List ℕ) (s : Part) → kind_of negation.Word (word w) ≡ part_of.Other → first types (word w) ≡ Some s → PartRead types (word w ∷ []) s
type_first types w s plain e = elim (is_some (fin.get types w)) as (λ b. is_some (fin.get types w) ≡ b → cond b (Some (part.Type w)) None ≡ Some s → PartRead types (word w ∷ []) s) [
  | true ↦ λ h f. subst (PartRead types (word w ∷ [])) (some_same (part.Type w) s f) (read_type w (record { known = h; plain = plain }))
  | false ↦ λ h f. absurd (none_some s f)
] refl e

part_first : (types : Types) (t : Token) (s : Part) → kind_of negation.Word t ≡ part_of.Other → first types t ≡ Some s → PartRead types (t ∷ []) s
part_first types (word w) s plain e = type_first types w s plain e
part_first types (integer z) s plain e = absurd (none_some s e)
part_first types (quoted text) s plain e = absurd (none_some s e)
part_first types (signs x) s plain e = absurd (none_some s e)

dot_goes : (types : Types) (name : List ℕ) → IsType types name → (x : Symbol) (q : Part) → dot_sign types name x ≡ Some q → PartRead types (word name ∷ signs x ∷ []) q
dot_goes types name h symbol.Dot q e = elim (has_fields types name) as (λ b. has_fields types name ≡ b → cond b (Some (part.Dot name)) None ≡ Some q → PartRead types (word name ∷ dot ∷ []) q) [
  | true ↦ λ r f. subst (PartRead types (word name ∷ dot ∷ [])) (some_same (part.Dot name) q f) (read_dot name h r)
  | false ↦ λ r f. absurd (none_some q f)
] refl e
dot_goes types name h _ q e = absurd (none_some q e)

type_goes : (types : Types) (name : List ℕ) → IsType types name → (t : Token) (q : Part) → type_next types name t ≡ Some q → PartRead types (word name ∷ t ∷ []) q
type_goes types name h (signs x) q e = dot_goes types name h x q e
type_goes types name h (word w) q e = absurd (none_some q e)
type_goes types name h (integer z) q e = absurd (none_some q e)
type_goes types name h (quoted text) q e = absurd (none_some q e)

name_goes : (types : Types) (name : List ℕ) → IsType types name → (t : Token) (q : Part) → dot_next types name t ≡ Some q → PartRead types (word name ∷ dot ∷ t ∷ []) q
name_goes types name h (word field) q e = elim (field_kind types name field) as (λ o. field_kind types name field ≡ o → option_map (λ k. part.Field name field k) o ≡ Some q → PartRead types (word name ∷ dot ∷ word field ∷ []) q) [
  | None ↦ λ r f. absurd (none_some q f)
  | Some k ↦ λ r f. subst (PartRead types (word name ∷ dot ∷ word field ∷ [])) (some_same (part.Field name field k) q f) (read_field name field k h r)
] refl e
name_goes types name h (signs x) q e = absurd (none_some q e)
name_goes types name h (integer z) q e = absurd (none_some q e)
name_goes types name h (quoted text) q e = absurd (none_some q e)

compare_goes : (types : Types) (name field : List ℕ) (k : FieldType) → IsType types name → field_kind types name field ≡ Some k → (c : Comparison) (q : Part) → sign_if name field k c ≡ Some q
    → PartRead types (word name ∷ dot ∷ word field ∷ comparison_token c ∷ []) q
compare_goes types name field k h g c q e = elim (may_follow k c) as (λ b. may_follow k c ≡ b → cond b (Some (part.Sign name field k c)) None ≡ Some q → PartRead types (word name ∷ dot ∷ word field ∷ comparison_token c ∷ []) q) [
  | true ↦ λ r f. subst (PartRead types (word name ∷ dot ∷ word field ∷ comparison_token c ∷ [])) (some_same (part.Sign name field k c) q f) (read_sign name field k c h g r)
  | false ↦ λ r f. absurd (none_some q f)
] refl e

field_goes : (types : Types) (name field : List ℕ) (k : FieldType) → IsType types name → field_kind types name field ≡ Some k → (t : Token) (q : Part) → field_next name field k t ≡ Some q → PartRead types (word name ∷ dot ∷ word field ∷ t ∷ []) q
field_goes types name field k h g (signs symbol.Equal) q e = compare_goes types name field k h g op.Equal q e
field_goes types name field k h g (signs symbol.NotEqual) q e = compare_goes types name field k h g op.NotEqual q e
field_goes types name field k h g (signs symbol.Less) q e = compare_goes types name field k h g op.Less q e
field_goes types name field k h g (signs symbol.LessEqual) q e = compare_goes types name field k h g op.LessEqual q e
field_goes types name field k h g (signs symbol.Greater) q e = compare_goes types name field k h g op.Greater q e
field_goes types name field k h g (signs symbol.GreaterEqual) q e = compare_goes types name field k h g op.GreaterEqual q e
field_goes types name field k h g (signs symbol.Open) q e = absurd (none_some q e)
field_goes types name field k h g (signs symbol.Close) q e = absurd (none_some q e)
field_goes types name field k h g (signs symbol.Dot) q e = absurd (none_some q e)
field_goes types name field k h g (signs symbol.Comma) q e = absurd (none_some q e)
field_goes types name field k h g (signs symbol.Star) q e = absurd (none_some q e)
field_goes types name field k h g (signs symbol.Bar) q e = absurd (none_some q e)
field_goes types name field k h g (signs symbol.Semicolon) q e = absurd (none_some q e)
field_goes types name field k h g (signs symbol.Not) q e = absurd (none_some q e)
field_goes types name field k h g (signs symbol.Is) q e = absurd (none_some q e)
field_goes types name field k h g (word w) q e = absurd (none_some q e)
field_goes types name field k h g (integer z) q e = absurd (none_some q e)
field_goes types name field k h g (quoted text) q e = absurd (none_some q e)

literal_goes : (types : Types) (name field : List ℕ) (k : FieldType) (c : Comparison) → IsType types name → field_kind types name field ≡ Some k → (l : Literal) (q : Part) → whole_if name field k c l ≡ Some q
    → PartRead types (word name ∷ dot ∷ word field ∷ comparison_token c ∷ literal_token l ∷ []) q
literal_goes types name field k c h g l q e = elim (takes k c l) as (λ b. takes k c l ≡ b → cond b (Some (part.Whole (term.Compare name field c l))) None ≡ Some q → PartRead types (word name ∷ dot ∷ word field ∷ comparison_token c ∷ literal_token l ∷ []) q) [
  | true ↦ λ r f. subst (PartRead types (word name ∷ dot ∷ word field ∷ comparison_token c ∷ literal_token l ∷ [])) (some_same (part.Whole (term.Compare name field c l)) q f)
      (read_whole (word name ∷ dot ∷ word field ∷ comparison_token c ∷ literal_token l ∷ []) (term.Compare name field c l) (a_comparison name field k c l h g r))
  | false ↦ λ r f. absurd (none_some q f)
] refl e

sign_goes : (types : Types) (name field : List ℕ) (k : FieldType) (c : Comparison) → IsType types name → field_kind types name field ≡ Some k → (t : Token) (q : Part) → sign_next name field k c t ≡ Some q
    → PartRead types (word name ∷ dot ∷ word field ∷ comparison_token c ∷ t ∷ []) q
sign_goes types name field k c h g (integer z) q e = literal_goes types name field k c h g (literal.Integer z) q e
sign_goes types name field k c h g (quoted text) q e = literal_goes types name field k c h g (literal.Text text) q e
sign_goes types name field k c h g (signs x) q e = absurd (none_some q e)
sign_goes types name field k c h g (word w) q e = elim (bytes_eq w (codes "null")) as (λ b. bytes_eq w (codes "null") ≡ b → option_and_then (whole_if name field k c) (cond b (Some literal.Null) None) ≡ Some q → PartRead types (word name ∷ dot ∷ word field ∷ comparison_token c ∷ word w ∷ []) q) [
  | true ↦ λ r f. subst (λ v. PartRead types (word name ∷ dot ∷ word field ∷ comparison_token c ∷ word v ∷ []) q) (sym (same_text w (codes "null") (sym r))) (literal_goes types name field k c h g literal.Null q f)
  | false ↦ λ r f. absurd (none_some q f)
] refl e

part_next : (types : Types) (ts : List Token) (t : Token) (s q : Part) → PartRead types ts s → next types s t ≡ Some q → PartRead types (ts ++ t ∷ []) q
part_next types ts t s q (read_type name h) e = type_goes types name h t q e
part_next types ts t s q (read_dot name h f) e = name_goes types name h t q e
part_next types ts t s q (read_field name field k h g) e = field_goes types name field k h g t q e
part_next types ts t s q (read_sign name field k c h g m) e = sign_goes types name field k c h g t q e
part_next types ts t s q (read_whole us x h) e = absurd (none_some q e)

part_read : (types : Types) (ts : List Token) (s : Part) → atom_run negation.Word (terms types) ts ≡ Some s → PartRead types ts s
part_read types ts s e = atom_reaches negation.Word (terms types) (PartRead types) (part_first types) (part_next types) ts s e

said : (types : Types) (ts : List Token) (s : Part) (x : Term) → PartRead types ts s → says s ≡ Some x → IsTerm types ts x
said types ts s x (read_type name h) e = subst (IsTerm types (word name ∷ [])) (some_same (term.OfType name) x e) (a_type name h)
said types ts s x (read_dot name h f) e = absurd (none_some x e)
said types ts s x (read_field name field k h g) e = absurd (none_some x e)
said types ts s x (read_sign name field k c h g m) e = absurd (none_some x e)
said types ts s x (read_whole us y h) e = subst (IsTerm types us) (some_same y x e) h

-- each part goes on to a term
some_order : (k : FieldType) → has_order k ≡ true → (l : Literal) × ((c : Comparison) → takes k c l ≡ true)
some_order kind.Int h = (literal.Integer (pos 0), λ c. refl)
some_order kind.Text h = (literal.Text [], λ c. refl)
some_order kind.IntArray h = absurd (true≢false (sym h))
some_order kind.TextArray h = absurd (true≢false (sym h))

some_literal : (k : FieldType) (c : Comparison) → may_follow k c ≡ true → (l : Literal) × (takes k c l ≡ true)
some_literal k op.Equal h = (literal.Null, refl)
some_literal k op.NotEqual h = (literal.Null, refl)
some_literal k op.Less h = let r = some_order k h in (r.0, r.1 op.Less)
some_literal k op.LessEqual h = let r = some_order k h in (r.0, r.1 op.LessEqual)
some_literal k op.Greater h = let r = some_order k h in (r.0, r.1 op.Greater)
some_literal k op.GreaterEqual h = let r = some_order k h in (r.0, r.1 op.GreaterEqual)

part_begins : (types : Types) (ts : List Token) (s : Part) → PartRead types ts s → (more : List Token) × ((x : Term) × IsTerm types (ts ++ more) x)
part_begins types ts s (read_type name h) = ([], (term.OfType name, a_type name h))
part_begins types ts s (read_dot name h f) =
    let r = some_field types name f in
    (word r.0 ∷ comparison_token op.Equal ∷ literal_token literal.Null ∷ [], (term.Compare name r.0 op.Equal literal.Null, a_comparison name r.0 r.1.0 op.Equal literal.Null h r.1.1 refl))
part_begins types ts s (read_field name field k h g) =
    (comparison_token op.Equal ∷ literal_token literal.Null ∷ [], (term.Compare name field op.Equal literal.Null, a_comparison name field k op.Equal literal.Null h g refl))
part_begins types ts s (read_sign name field k c h g m) =
    let r = some_literal k c m in
    (literal_token r.0 ∷ [], (term.Compare name field c r.0, a_comparison name field k c r.0 h g r.1))
part_begins types ts s (read_whole us x h) = ([], (x, subst (λ l. IsTerm types l x) (no_more us) h))
  where
    no_more : (us : List Token) → us ≡ us ++ []
    no_more [] = refl
    no_more (u ∷ us) = ap (λ l. u ∷ l) (no_more us)

-- each term is read
or_true : (a b : Bool) → b ≡ true → (a || b) ≡ true
or_true true b e = refl
or_true false b e = e

int_order : (k : FieldType) → is_int k ≡ true → has_order k ≡ true
int_order kind.Int h = refl
int_order kind.Text h = refl
int_order kind.IntArray h = absurd (true≢false (sym h))
int_order kind.TextArray h = absurd (true≢false (sym h))

text_order : (k : FieldType) → is_text k ≡ true → has_order k ≡ true
text_order kind.Int h = refl
text_order kind.Text h = refl
text_order kind.IntArray h = absurd (true≢false (sym h))
text_order kind.TextArray h = absurd (true≢false (sym h))

takes_follows : (k : FieldType) (c : Comparison) (l : Literal) → takes k c l ≡ true → may_follow k c ≡ true
takes_follows k c (literal.Integer z) h = or_true (is_equality c) (has_order k) (int_order k h)
takes_follows k c (literal.Text text) h = or_true (is_equality c) (has_order k) (text_order k h)
takes_follows k c literal.Null h = ap (λ b. b || has_order k) h

dot_kind : kind_of negation.Word dot ≡ part_of.Other
unfolding kind_of
dot_kind = refl

type_begins : (types : Types) (name : List ℕ) → IsType types name → first_by (kind_of negation.Word (word name)) (first types (word name)) ≡ Some (part.Type name)
type_begins types name h = ap (λ k. first_by k (first types (word name))) h.plain ∙ ap (λ b. cond b (Some (part.Type name)) None) h.known

type_run : (types : Types) (name : List ℕ) → has_fields types name ≡ true → atom_next negation.Word (terms types) (part.Type name) dot ≡ Some (part.Dot name)
type_run types name h = rw dot_kind (ap (λ b. cond b (Some (part.Dot name)) None) h)

compare_run : (name field : List ℕ) (k : FieldType) (c : Comparison) → may_follow k c ≡ true → field_next name field k (comparison_token c) ≡ Some (part.Sign name field k c)
compare_run name field k op.Equal h = ap (λ b. cond b (Some (part.Sign name field k op.Equal)) None) h
compare_run name field k op.NotEqual h = ap (λ b. cond b (Some (part.Sign name field k op.NotEqual)) None) h
compare_run name field k op.Less h = ap (λ b. cond b (Some (part.Sign name field k op.Less)) None) h
compare_run name field k op.LessEqual h = ap (λ b. cond b (Some (part.Sign name field k op.LessEqual)) None) h
compare_run name field k op.Greater h = ap (λ b. cond b (Some (part.Sign name field k op.Greater)) None) h
compare_run name field k op.GreaterEqual h = ap (λ b. cond b (Some (part.Sign name field k op.GreaterEqual)) None) h

literal_run : (name field : List ℕ) (k : FieldType) (c : Comparison) (l : Literal) → takes k c l ≡ true → sign_next name field k c (literal_token l) ≡ Some (part.Whole (term.Compare name field c l))
literal_run name field k c (literal.Integer z) h = ap (λ b. cond b (Some (part.Whole (term.Compare name field c (literal.Integer z)))) None) h
literal_run name field k c (literal.Text text) h = ap (λ b. cond b (Some (part.Whole (term.Compare name field c (literal.Text text)))) None) h
literal_run name field k c literal.Null h = ap (λ b. cond b (Some (part.Whole (term.Compare name field c literal.Null))) None) h

comparison_run : (types : Types) (name field : List ℕ) (k : FieldType) (c : Comparison) (l : Literal) → field_kind types name field ≡ Some k → takes k c l ≡ true
    → run (atom_next negation.Word (terms types)) (part.Type name) (dot ∷ word field ∷ comparison_token c ∷ literal_token l ∷ []) ≡ Some (part.Whole (term.Compare name field c l))
comparison_run types name field k c l g h =
    let f : Part → Token → Option Part = atom_next negation.Word (terms types) in
    let z : Part = part.Whole (term.Compare name field c l) in
    run-cons f (part.Type name) dot (part.Dot name) (word field ∷ comparison_token c ∷ literal_token l ∷ []) z (type_run types name (known_fields types name field k g))
    (run-cons f (part.Dot name) (word field) (part.Field name field k) (comparison_token c ∷ literal_token l ∷ []) z
    (part_goes_on negation.Word (terms types) (part.Dot name) (word field) (part.Field name field k) refl (ap (option_map (λ j. part.Field name field j)) g))
    (run-cons f (part.Field name field k) (comparison_token c) (part.Sign name field k c) (literal_token l ∷ []) z
    (part_goes_on negation.Word (terms types) (part.Field name field k) (comparison_token c) (part.Sign name field k c) refl (compare_run name field k c (takes_follows k c l h)))
    (run-one f (part.Sign name field k c) (literal_token l) z (part_goes_on negation.Word (terms types) (part.Sign name field k c) (literal_token l) z refl (literal_run name field k c l h)))))

term_accepted : (types : Types) (ts : List Token) (x : Term) → IsTerm types ts x → (s : Part) × ((atom_run negation.Word (terms types) ts ≡ Some s) × (says s ≡ Some x))
term_accepted types ts x (a_type name h) = (part.Type name, (ap (option_and_then (λ s. run (atom_next negation.Word (terms types)) s [])) (type_begins types name h), refl))
term_accepted types ts x (a_comparison name field k c l h g t) =
    (part.Whole (term.Compare name field c l), (ap (option_and_then (λ s. run (atom_next negation.Word (terms types)) s (dot ∷ word field ∷ comparison_token c ∷ literal_token l ∷ []))) (type_begins types name h) ∙ comparison_run types name field k c l g t, refl))

pub terms_read : (types : Types) → ReadsAtoms negation.Word (terms types) (IsTerm types)
terms_read types = record {
  accepts = term_accepted types;
  only = λ ts s x r e. said types ts s x (part_read types ts s r) e;
  begins = λ ts s r. part_begins types ts s (part_read types ts s r);
}
