-- What a text says is what the grammar says.
use Rattle.std.proofs.Common.{◌≡◌, ◌≢◌, ℕ, zero, suc, ◌+◌, ◌<◌, ◌≤◌, List, [], ◌∷◌, ◌++◌, length, Bool, true, Option, Some, None, Result, Ok, Err, refl, sym, ap, subst, ◌∙◌, arith, option_map, option_and_then, append_assoc, append-nil, length-append}
use Rattle.doc_types.specs.declared.symbols.Language.TheVariants.{Selection}
use Rattle.doc_types.specs.SchemaCodes.{Types}
use Rattle.doc_types.specs.Tokens.{Token, skip_blanks, token_at}
use Rattle.conditions.specs.Readings.{IsReadAs, Begins, IsText, IsRefusedAt, CannotGoOn, ends_early, unreadable, no_such}
use Rattle.conditions.specs.Machines.{run}
use Rattle.doc_types.proofs.TokenLaws.{token_front}
use Rattle.conditions.proofs.Steps.{token_shortens, blanks_behind}
use Rattle.conditions.specs.Formulas.{Formula}
use Rattle.conditions.specs.Machine.{start, whole}
use Rattle.doc_selection.specs.declared.selection.SelectionFault.{SelectionFault}
use Rattle.doc_selection.specs.declared.selection.SelectionFault.TheVariants as fault
use Rattle.doc_selection.specs.declared.terms.Term.{Term}
use Rattle.doc_selection.specs.Grammar.{IsSelection, Parses}
use Rattle.doc_selection.specs.Parts.{terms, selection_step}
use Rattle.doc_selection.specs.Saying.{read_on, read_from, nothing_more, tokens_within, said_by, selection_in, Says}
use Rattle.doc_selection.proofs.Reading.{reads}

-- reading on by a token that is there
from_token : (more : List ℕ → Option (List Token)) (s : List ℕ) (t : Token) (behind : List ℕ) → token_at Selection s ≡ Some (t, behind)
    → read_from more s ≡ option_map (λ ts. t ∷ ts) (more behind)
from_token more [] t behind e = cc
from_token more (c ∷ rest) t behind e = ap (read_on more) e

from_nothing : (more : List ℕ → Option (List Token)) (s : List ℕ) → s ≡ [] → read_from more s ≡ Some []
from_nothing more s e = ap (read_from more) e

no_token : (t : Token) (behind s : List ℕ) → s ≡ [] → token_at Selection s ≡ Some (t, behind) → ⊥
no_token t behind s e token = let h : token_at Selection [] ≡ Some (t, behind) = rw e at token in cc

shorter : (n : ℕ) (text behind : List ℕ) (t : Token) → token_at Selection (skip_blanks text) ≡ Some (t, behind) → length text ≤ suc n → length behind ≤ n
shorter n text behind t token le =
    let f = token_front Selection (skip_blanks text) behind t token in
    omega (arith, blanks_behind text, f.some, ap length f.whole, length-append f.front behind)

nothing_in : (text behind : List ℕ) (t : Token) → token_at Selection (skip_blanks text) ≡ Some (t, behind) → length text ≤ 0 → ⊥
nothing_in text behind t token le =
    let f = token_front Selection (skip_blanks text) behind t token in
    omega (arith, blanks_behind text, f.some, ap length f.whole, length-append f.front behind)

-- a text's tokens are read
pub tokens_are : (n : ℕ) (text : List ℕ) (ts : List Token) (rest : List ℕ) → length text ≤ n → IsReadAs Selection text ts rest → skip_blanks rest ≡ [] → tokens_within n text ≡ Some ts
tokens_are zero text [] rest le read ends = from_nothing nothing_more (skip_blanks text) (ap skip_blanks read ∙ ends)
tokens_are zero text (t ∷ ts) rest le read ends = absurd (nothing_in text read.0 t read.1.0 le)
tokens_are (suc n) text [] rest le read ends = from_nothing (tokens_within n) (skip_blanks text) (ap skip_blanks read ∙ ends)
tokens_are (suc n) text (t ∷ ts) rest le read ends =
    from_token (tokens_within n) (skip_blanks text) t read.0 read.1.0
    ∙ ap (λ o. option_map (λ us. t ∷ us) o) (tokens_are n read.0 ts rest (shorter n text read.0 t read.1.0 le) read.1.1 ends)

-- and no others
abbrev WasRead : List ℕ → List Token → Type 0
WasRead text ts = (rest : List ℕ) × (IsReadAs Selection text ts rest × (skip_blanks rest ≡ []))

some_list : (ts us : List Token) → ◌≡◌ {A = Option (List Token)} (Some ts) (Some us) → ts ≡ us
some_list ts us e = cc

read_by_token : (more : List ℕ → Option (List Token)) (text : List ℕ) (ts : List Token) (p : Token × List ℕ) (o : Option (List Token)) → ((us : List Token) → more p.1 ≡ Some us → WasRead p.1 us)
    → token_at Selection (skip_blanks text) ≡ Some p → more p.1 ≡ o → option_map (λ us. p.0 ∷ us) o ≡ Some ts → WasRead text ts
read_by_token more text ts p None behind token is h = cc
read_by_token more text ts p (Some us) behind token is h =
    let b = behind us is in
    subst (WasRead text) (some_list (p.0 ∷ us) ts h) (b.0, ((p.1, (token, b.1.0)), b.1.1))

read_by : (more : List ℕ → Option (List Token)) (text : List ℕ) (ts : List Token) (s : List ℕ) → ((behind : List ℕ) (us : List Token) → more behind ≡ Some us → WasRead behind us)
    → skip_blanks text ≡ s → read_from more s ≡ Some ts → WasRead text ts
read_by more text ts [] behind is h = subst (WasRead text) (some_list [] ts h) (text, (refl, is))
read_by more text ts (c ∷ rest) behind is h = elim (token_at Selection (c ∷ rest)) as (λ o. token_at Selection (c ∷ rest) ≡ o → read_on more o ≡ Some ts → WasRead text ts) [
  | None ↦ λ e k. absurd (cc)
  | Some p ↦ λ e k. read_by_token more text ts p (more p.1) (behind p.1) (ap (token_at Selection) is ∙ e) refl k
] refl h

pub tokens_only : (n : ℕ) (text : List ℕ) (ts : List Token) → tokens_within n text ≡ Some ts → WasRead text ts
tokens_only zero text ts h = read_by nothing_more text ts (skip_blanks text) (λ behind us e. absurd (cc)) refl h
tokens_only (suc n) text ts h = read_by (tokens_within n) text ts (skip_blanks text) (tokens_only n) refl h

-- what the grammar says of a text is what the text says
pub said_of_text : (types : Types) (text : List ℕ) (v : Formula Term) → IsText Selection (IsSelection types) text v → selection_in types text ≡ Some v
unfolding selection_in
said_of_text types text v t =
    let a = (reads types).accepts t.tokens v t.says in
    ap (option_and_then (said_by types)) (tokens_are (length text) text t.tokens t.rest (omega arith) t.read t.ends)
    ∙ ap (option_and_then (whole (terms types))) a.1.0 ∙ a.1.1

said_tokens : (types : Types) (ts : List Token) (v : Formula Term) → said_by types ts ≡ Some v → IsSelection types ts v
said_tokens types ts v h = elim (run (selection_step types) start ts) as (λ o. run (selection_step types) start ts ≡ o → option_and_then (whole (terms types)) o ≡ Some v → IsSelection types ts v) [
  | None ↦ λ e k. absurd (cc)
  | Some x ↦ λ e k. (reads types).only ts x v e k
] refl h

pub text_of_said : (types : Types) (text : List ℕ) (v : Formula Term) → selection_in types text ≡ Some v → IsText Selection (IsSelection types) text v
unfolding selection_in
text_of_said types text v h = elim (tokens_within (length text) text) as (λ o. tokens_within (length text) text ≡ o → option_and_then (said_by types) o ≡ Some v → IsText Selection (IsSelection types) text v) [
  | None ↦ λ e k. absurd (cc)
  | Some ts ↦ λ e k. let r = tokens_only (length text) text ts e in record { tokens = ts; rest = r.0; read = r.1.0; ends = r.1.1; says = said_tokens types ts v k }
] refl h

-- what was read of a text begins all that can be read
abbrev GoesOn : List Token → List ℕ → List Token → List ℕ → Type 0
GoesOn ts rest us end = (more : List Token) × ((us ≡ ts ++ more) × IsReadAs Selection rest more end)

goes_on : (text : List ℕ) (ts us : List Token) (rest end : List ℕ) → IsReadAs Selection text ts rest → IsReadAs Selection text us end → skip_blanks end ≡ [] → GoesOn ts rest us end
goes_on text [] us rest end one two ends = (us, (refl, subst (λ s. IsReadAs Selection s us end) one two))
goes_on text (t ∷ ts) [] rest end one two ends = absurd (no_token t one.0 (skip_blanks text) (ap skip_blanks two ∙ ends) one.1.0)
goes_on text (t ∷ ts) (u ∷ us) rest end one two ends =
    let same = one_token (t, one.0) (u, two.0) (sym one.1.0 ∙ two.1.0) in
    let g = goes_on one.0 ts us rest end one.1.1 (subst (λ s. IsReadAs Selection s us end) (sym (ap (λ p. p.1) same)) two.1.1) ends in
    (g.0, (ap (λ x. x ∷ us) (sym (ap (λ p. p.0) same)) ∙ ap (λ xs. t ∷ xs) g.1.0, g.1.1))
  where
    one_token : (p q : Token × List ℕ) → ◌≡◌ {A = Option (Token × List ℕ)} (Some p) (Some q) → p ≡ q
    one_token p q e = cc

-- a text that is refused somewhere says nothing
stuck : (types : Types) (ts : List Token) (rest : List ℕ) (v : Formula Term) (more : List Token) (end : List ℕ) → CannotGoOn Selection (IsSelection types) ts (skip_blanks rest)
    → IsReadAs Selection rest more end → skip_blanks end ≡ [] → IsSelection types (ts ++ more) v → ⊥
stuck types ts rest v [] end (ends_early none never) read ends says = never v (subst (λ xs. IsSelection types xs v) (append-nil ts) says)
stuck types ts rest v [] end (unreadable other none) read ends says = other (ap skip_blanks read ∙ ends)
stuck types ts rest v [] end (no_such t behind token never) read ends says = no_token t behind (skip_blanks rest) (ap skip_blanks read ∙ ends) token
stuck types ts rest v (m ∷ ms) end (ends_early none never) read ends says = no_token m read.0 (skip_blanks rest) none read.1.0
stuck types ts rest v (m ∷ ms) end (unreadable other none) read ends says = let h = sym none ∙ read.1.0 in cc
stuck types ts rest v (m ∷ ms) end (no_such t behind token never) read ends says =
    never (ms, (v, subst (λ xs. IsSelection types xs v) (ap (λ x. ts ++ x ∷ ms) (same (m, read.0) (t, behind) (sym read.1.0 ∙ token)) ∙ sym (append_assoc ts (t ∷ []) ms)) says))
  where
    same : (p q : Token × List ℕ) → ◌≡◌ {A = Option (Token × List ℕ)} (Some p) (Some q) → p.0 ≡ q.0
    same p q e = cc

pub not_both : (types : Types) (text : List ℕ) (offset : ℕ) (v : Formula Term) → IsRefusedAt Selection (IsSelection types) text offset → IsText Selection (IsSelection types) text v → ⊥
not_both types text offset v r t =
    let g = goes_on text r.tokens t.tokens r.rest t.rest r.read t.read t.ends in
    stuck types r.tokens r.rest v g.0 t.rest r.cause g.1.1 t.ends (subst (λ xs. IsSelection types xs v) g.1.0 t.says)

pub nothing_said : (types : Types) (text : List ℕ) (offset : ℕ) → IsRefusedAt Selection (IsSelection types) text offset → selection_in types text ≡ None
nothing_said types text offset r = elim (selection_in types text) as (λ o. selection_in types text ≡ o → o ≡ None) [
  | None ↦ λ e. refl
  | Some v ↦ λ e. absurd (not_both types text offset v r (text_of_said types text v e))
] refl

pub parse_says : (types : Types) (text : List ℕ) (r : Result (Formula Term) SelectionFault) → Parses types text r → Says types text r
parse_says types text (Ok v) p = said_of_text types text v p
parse_says types text (Err (fault.BadSelection offset)) p = nothing_said types text offset p
parse_says types text (Err fault.NoMemory) p = tt
