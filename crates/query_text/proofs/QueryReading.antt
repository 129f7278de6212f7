-- Queries are read as they are written.
use Rattle.std.proofs.Common.{◌≡◌, ℕ, zero, suc, ◌<◌, arith, Bool, true, false, cond, List, [], ◌∷◌, ◌++◌, Some, None, is_some, refl, sym, ap, subst, ◌∙◌, option_and_then, option_map, append_assoc, append-nil, nat_lt, length}
use mathlib.Core.Bool.{true≢false}
use Rattle.std.specs.FinMap as fin
use Rattle.std.specs.Ordering.{eq_by_cmp}
use Rattle.std.specs.Cmp.{eq_by_cmp_equiv}
use Rattle.std.specs.Cmp.Lexicographic.{nat_list_cmp_total}
use Rattle.std.proofs.lemmas.Bool.Decides.{nat_tests}
use Rattle.doc_types.specs.Known.{has_types}
use Rattle.doc_types.specs.SchemaCodes.{name_cmp, Fields, Types}
use Rattle.doc_types.specs.Tokens.{Token, word, integer, quoted, signs}
use Rattle.conditions.specs.Readings.{Begins}
use Rattle.conditions.specs.Machines.{run, Reads}
use Rattle.conditions.proofs.Steps.{run-push}
use Rattle.conditions.specs.declared.kinds.Negation.TheVariants as negation
use Rattle.conditions.specs.Formulas.{Formula, truth}
use Rattle.conditions.specs.Grammar.{condition, no_ors, terms, no_ands, always, IsCondition}
use Rattle.conditions.specs.Kinds.{true_word}
use Rattle.conditions.specs.Machine as asked
use Rattle.proof_basics.proofs.Options.{some_same, none_some}
use Rattle.proof_basics.proofs.Tests.{false_true}
use Rattle.conditions.proofs.Claims.{conditions_read}
use Rattle.query_groups.specs.declared.cues.Cue.{Cue}
use Rattle.query_groups.specs.declared.cues.Cue.TheVariants as cue
use Rattle.query_groups.specs.declared.grouping.Opening.TheVariants as before
use Rattle.query_groups.specs.declared.groups.GroupBy.{GroupBy}
use Rattle.query_text.specs.declared.reader.Head.{Head}
use Rattle.query_text.specs.declared.reader.Head.TheVariants as head
use Rattle.query_text.specs.declared.terms.Term.{Term}
use Rattle.query_groups.specs.Cues.{select_word, from_word, where_word, star, bar, semicolon, cue_of}
use Rattle.query_text.specs.Terms.{IsTerm}
use Rattle.query_groups.specs.Outputs.{groups_by, has_groups}
use Rattle.query_groups.specs.Groups.{IsGroup}
use Rattle.query_text.specs.Grammar.{end_tokens, Said, IsQuery}
use Rattle.query_text.specs.Parts as parts
use Rattle.query_text.specs.Parts.{condition_step}
use Rattle.query_groups.specs.Grouping.{Group, opening, group_next, group_says}
use Rattle.query_text.specs.Machine.{Asking, Query, heading, typed, asking, grouping, ended, select_next, star_next, from_next, type_next, head_next, where_next, said_so, whole_condition, bar_next, asking_next, grouping_next, query_step, begin, query_says}
use Rattle.query_groups.proofs.CueTokens.{TokenIs, cue_token}
use Rattle.query_text.proofs.TermReading.{terms_read}
use Rattle.query_groups.proofs.Outputs.{field_found}
use Rattle.query_groups.proofs.GroupReading.{GroupRead, read_opening, group_goes}
use Rattle.query_groups.proofs.GroupWhole.{group_said, group_goes_on}

-- a schema with types has one
itself : (q : List ℕ) → eq_by_cmp name_cmp q q ≡ true
itself q = (eq_by_cmp_equiv nat_list_cmp_total).refl q

first_entry : (types : Types) (es : List (List ℕ × Fields)) → fin.entries types ≡ es → nat_lt 0 (length es) ≡ true → (name : List ℕ) × (is_some (fin.get types name) ≡ true)
first_entry types [] e h = absurd (false_true h)
first_entry types (x ∷ xs) e h = (x.0, ap is_some (fin.get-entries types x.0 ∙ ap (fin.find name_cmp x.0) e ∙ ap (λ b. cond b (Some x.1) (fin.find name_cmp x.0 xs)) (itself x.0)))

some_type : (types : Types) → has_types types ≡ true → (name : List ℕ) × (is_some (fin.get types name) ≡ true)
some_type types h = first_entry types (fin.entries types) refl (ap (nat_lt 0) (sym (fin.len-entries types)) ∙ h)

no_entry : (types : Types) (name : List ℕ) → fin.len types ≡ 0 → is_some (fin.get types name) ≡ false
no_entry types name e = ap (λ m. is_some (fin.get m name)) (fin.empty_of_len types e) ∙ ap is_some (fin.get-empty name_cmp name)

pub types_there : (types : Types) (name : List ℕ) → is_some (fin.get types name) ≡ true → has_types types ≡ true
types_there types name h = by (fin.len types) refl
  where
    by : (n : ℕ) → fin.len types ≡ n → nat_lt 0 n ≡ true
    by zero e = absurd (true≢false (sym h ∙ no_entry types name e))
    by (suc n) e = let p : 0 < suc n = omega arith in grind (arith, nat_tests, p)

-- the tokens behind the name of the type
abbrev pub asking_tokens : List ℕ → List Token → List Token
asking_tokens name ts = select_word ∷ star ∷ from_word ∷ word name ∷ where_word ∷ ts

abbrev pub head_tokens : Head → List Token
head_tokens head.Begin = []
head_tokens head.Select = select_word ∷ []
head_tokens head.Star = select_word ∷ star ∷ []
head_tokens head.From = select_word ∷ star ∷ from_word ∷ []

abbrev pub HeadFits : Types → Head → Type 0
HeadFits types head.Begin = Unit {0}
HeadFits types _ = (name : List ℕ) × (is_some (fin.get types name) ≡ true)

abbrev pub Asks : Types → List ℕ → List Token → Formula Term → Type 0
Asks types name ts f = IsCondition negation.Sign (IsTerm types name) ts f

-- what was read at each place
pub data QueryRead (types : Types) : List Token → Query → Type 0 where
  read_head : (p : Head) → HeadFits types p → QueryRead types (head_tokens p) (heading p)
  read_type : (name : List ℕ) → is_some (fin.get types name) ≡ true → QueryRead types (select_word ∷ star ∷ from_word ∷ word name ∷ []) (typed name)
  read_asking : (name : List ℕ) (ts : List Token) (x : Asking) → is_some (fin.get types name) ≡ true → run (condition_step types name) asked.start ts ≡ Some x → Begins (Asks types name) ts
      → QueryRead types (asking_tokens name ts) (asking name x)
  read_grouping : (name : List ℕ) (ts : List Token) (f : Formula Term) (us : List Token) (g : Group) → is_some (fin.get types name) ≡ true → Asks types name ts f → GroupRead types name us g
      → QueryRead types (asking_tokens name (ts ++ us)) (grouping name f g)
  read_end : (ts : List Token) (s : Said) → IsQuery types ts s → QueryRead types ts (ended s)

module _ (types : Types) where
  pub laws : (name : List ℕ) → Reads (condition_step types name) (asked.whole (parts.terms types name)) asked.start (Asks types name)
  laws name = conditions_read negation.Sign (parts.terms types name) (IsTerm types name) (terms_read types name)

  -- the whole queries
  without_group : (name : List ℕ) (ts : List Token) (f : Formula Term) (e : Bool) → is_some (fin.get types name) ≡ true → Asks types name ts f → IsQuery types (asking_tokens name (ts ++ end_tokens e)) (said_so name None f)
  without_group name ts f e h a = record { known = h; condition = ts; asks = a; tail = []; grouped = refl; ended = e; written = refl }

  with_group : (name : List ℕ) (ts : List Token) (f : Formula Term) (us : List Token) (g : GroupBy) (e : Bool) → is_some (fin.get types name) ≡ true → Asks types name ts f → IsGroup types name us g
      → IsQuery types (asking_tokens name ((ts ++ us) ++ end_tokens e)) (said_so name (Some g) f)
  with_group name ts f us g e h a b = record { known = h; condition = ts; asks = a; tail = us; grouped = b; ended = e; written = ap (asking_tokens name) (append_assoc ts us (end_tokens e)) }

  asks_true : (name : List ℕ) → Asks types name (true_word ∷ []) truth
  asks_true name = record { tree = condition no_ors (terms no_ands always); written = refl; fits = (tt, (tt, tt)); says = refl }

  -- the condition that a whole one says
  whole_asks : (name : List ℕ) (ts : List Token) (x : Asking) (f : Formula Term) → run (condition_step types name) asked.start ts ≡ Some x → whole_condition x ≡ Some f → Asks types name ts f
  whole_asks name ts x f r w = (laws name).only ts x f r w

  -- before the name of the type
  select_goes : (c : Cue) (t : Token) (q : Query) → TokenIs c t → select_next types c ≡ Some q → QueryRead types (t ∷ []) q
  select_goes cue.Select t q is e = elim (has_types types) as (λ b. has_types types ≡ b → cond b (Some (heading head.Select)) None ≡ Some q → QueryRead types (t ∷ []) q) [
    | true ↦ λ r f. subst (λ u. QueryRead types (u ∷ []) q) (sym is) (subst (QueryRead types (select_word ∷ [])) (some_same _ q f) (read_head head.Select (some_type types r)))
    | false ↦ λ r f. absurd (none_some q f)
  ] refl e
  select_goes _ t q is e = absurd (none_some q e)

  star_goes : (c : Cue) (t : Token) (q : Query) → HeadFits types head.Star → TokenIs c t → star_next c ≡ Some q → QueryRead types (select_word ∷ t ∷ []) q
  star_goes cue.Star t q h is e = subst (λ u. QueryRead types (select_word ∷ u ∷ []) q) (sym is) (subst (QueryRead types (select_word ∷ star ∷ [])) (some_same _ q e) (read_head head.Star h))
  star_goes _ t q h is e = absurd (none_some q e)

  from_goes : (c : Cue) (t : Token) (q : Query) → HeadFits types head.From → TokenIs c t → from_next c ≡ Some q → QueryRead types (select_word ∷ star ∷ t ∷ []) q
  from_goes cue.From t q h is e = subst (λ u. QueryRead types (select_word ∷ star ∷ u ∷ []) q) (sym is) (subst (QueryRead types (select_word ∷ star ∷ from_word ∷ [])) (some_same _ q e) (read_head head.From h))
  from_goes _ t q h is e = absurd (none_some q e)

  type_goes : (t : Token) (q : Query) → type_next types t ≡ Some q → QueryRead types (select_word ∷ star ∷ from_word ∷ t ∷ []) q
  type_goes (word name) q e = elim (is_some (fin.get types name)) as (λ b. is_some (fin.get types name) ≡ b → cond b (Some (typed name)) None ≡ Some q → QueryRead types (select_word ∷ star ∷ from_word ∷ word name ∷ []) q) [
    | true ↦ λ r f. subst (QueryRead types (select_word ∷ star ∷ from_word ∷ word name ∷ [])) (some_same _ q f) (read_type name r)
    | false ↦ λ r f. absurd (none_some q f)
  ] refl e
  type_goes (integer z) q e = absurd (none_some q e)
  type_goes (quoted text) q e = absurd (none_some q e)
  type_goes (signs s) q e = absurd (none_some q e)

  head_goes : (p : Head) (t : Token) (q : Query) → HeadFits types p → head_next types p t ≡ Some q → QueryRead types (head_tokens p ++ t ∷ []) q
  head_goes head.Begin t q h e = select_goes (cue_of t) t q (cue_token t) e
  head_goes head.Select t q h e = star_goes (cue_of t) t q h (cue_token t) e
  head_goes head.Star t q h e = from_goes (cue_of t) t q h (cue_token t) e
  head_goes head.From t q h e = type_goes t q e

  where_goes : (name : List ℕ) (c : Cue) (t : Token) (q : Query) → is_some (fin.get types name) ≡ true → TokenIs c t → where_next name c ≡ Some q → QueryRead types (select_word ∷ star ∷ from_word ∷ word name ∷ t ∷ []) q
  where_goes name cue.Where t q h is e = subst (λ u. QueryRead types (select_word ∷ star ∷ from_word ∷ word name ∷ u ∷ []) q) (sym is)
      (subst (QueryRead types (asking_tokens name [])) (some_same _ q e) (read_asking name [] asked.start h refl (true_word ∷ [], (truth, asks_true name))))
  where_goes name _ t q h is e = absurd (none_some q e)

  -- within and behind the condition
  bar_said : (name : List ℕ) (ts : List Token) (x : Asking) (q : Query) → is_some (fin.get types name) ≡ true → run (condition_step types name) asked.start ts ≡ Some x → has_groups types name ≡ true
      → option_map (λ f. grouping name f (opening before.Bar)) (whole_condition x) ≡ Some q → QueryRead types (asking_tokens name (ts ++ bar ∷ [])) q
  bar_said name ts x q h r g e = elim (whole_condition x) as (λ o. whole_condition x ≡ o → option_map (λ f. grouping name f (opening before.Bar)) o ≡ Some q → QueryRead types (asking_tokens name (ts ++ bar ∷ [])) q) [
    | None ↦ λ w f. absurd (none_some q f)
    | Some a ↦ λ w f. let field = field_found types name (λ n k. groups_by k) g in
        subst (QueryRead types (asking_tokens name (ts ++ bar ∷ []))) (some_same _ q f) (read_grouping name ts a (bar ∷ []) (opening before.Bar) h (whole_asks name ts x a r w) (read_opening before.Bar field.0 field.1))
  ] refl e

  bar_goes : (name : List ℕ) (ts : List Token) (x : Asking) (q : Query) → is_some (fin.get types name) ≡ true → run (condition_step types name) asked.start ts ≡ Some x
      → bar_next types name x ≡ Some q → QueryRead types (asking_tokens name (ts ++ bar ∷ [])) q
  bar_goes name ts x q h r e = elim (has_groups types name) as (λ b. has_groups types name ≡ b → cond b (option_map (λ f. grouping name f (opening before.Bar)) (whole_condition x)) None ≡ Some q → QueryRead types (asking_tokens name (ts ++ bar ∷ [])) q) [
    | true ↦ λ g f. bar_said name ts x q h r g f
    | false ↦ λ g f. absurd (none_some q f)
  ] refl e

  end_goes : (name : List ℕ) (ts : List Token) (x : Asking) (q : Query) → is_some (fin.get types name) ≡ true → run (condition_step types name) asked.start ts ≡ Some x
      → option_map (λ f. ended (said_so name None f)) (whole_condition x) ≡ Some q → QueryRead types (asking_tokens name (ts ++ semicolon ∷ [])) q
  end_goes name ts x q h r e = elim (whole_condition x) as (λ o. whole_condition x ≡ o → option_map (λ f. ended (said_so name None f)) o ≡ Some q → QueryRead types (asking_tokens name (ts ++ semicolon ∷ [])) q) [
    | None ↦ λ w f. absurd (none_some q f)
    | Some a ↦ λ w f. subst (QueryRead types (asking_tokens name (ts ++ semicolon ∷ []))) (some_same _ q f) (read_end (asking_tokens name (ts ++ semicolon ∷ [])) (said_so name None a) (without_group name ts a true h (whole_asks name ts x a r w)))
  ] refl e

  asked_goes : (name : List ℕ) (ts : List Token) (x : Asking) (t : Token) (q : Query) → is_some (fin.get types name) ≡ true → run (condition_step types name) asked.start ts ≡ Some x
      → option_map (asking name) (condition_step types name x t) ≡ Some q → QueryRead types (asking_tokens name (ts ++ t ∷ [])) q
  asked_goes name ts x t q h r e = elim (condition_step types name x t) as (λ o. condition_step types name x t ≡ o → option_map (asking name) o ≡ Some q → QueryRead types (asking_tokens name (ts ++ t ∷ [])) q) [
    | None ↦ λ s f. absurd (none_some q f)
    | Some y ↦ λ s f. subst (QueryRead types (asking_tokens name (ts ++ t ∷ []))) (some_same _ q f)
        (read_asking name (ts ++ t ∷ []) y h (run-push (condition_step types name) asked.start ts x t y r s) ((laws name).begins ts x y t r s))
  ] refl e

  asking_goes : (name : List ℕ) (ts : List Token) (x : Asking) (c : Cue) (t : Token) (q : Query) → is_some (fin.get types name) ≡ true → run (condition_step types name) asked.start ts ≡ Some x → TokenIs c t
      → asking_next types name x c t ≡ Some q → QueryRead types (asking_tokens name (ts ++ t ∷ [])) q
  asking_goes name ts x cue.Bar t q h r is e = subst (λ u. QueryRead types (asking_tokens name (ts ++ u ∷ [])) q) (sym is) (bar_goes name ts x q h r e)
  asking_goes name ts x cue.Semicolon t q h r is e = subst (λ u. QueryRead types (asking_tokens name (ts ++ u ∷ [])) q) (sym is) (end_goes name ts x q h r e)
  asking_goes name ts x _ t q h r is e = asked_goes name ts x t q h r e

  -- within and behind the groups
  group_end : (name : List ℕ) (ts : List Token) (f : Formula Term) (us : List Token) (g : Group) (q : Query) → is_some (fin.get types name) ≡ true → Asks types name ts f → GroupRead types name us g
      → option_map (λ b. ended (said_so name (Some b) f)) (group_says g) ≡ Some q → QueryRead types (asking_tokens name ((ts ++ us) ++ semicolon ∷ [])) q
  group_end name ts f us g q h a r e = elim (group_says g) as (λ o. group_says g ≡ o → option_map (λ b. ended (said_so name (Some b) f)) o ≡ Some q → QueryRead types (asking_tokens name ((ts ++ us) ++ semicolon ∷ [])) q) [
    | None ↦ λ w d. absurd (none_some q d)
    | Some b ↦ λ w d. subst (QueryRead types (asking_tokens name ((ts ++ us) ++ semicolon ∷ []))) (some_same _ q d)
        (read_end (asking_tokens name ((ts ++ us) ++ semicolon ∷ [])) (said_so name (Some b) f) (with_group name ts f us b true h a (group_said types name us g b r w)))
  ] refl e

  group_on : (name : List ℕ) (ts : List Token) (f : Formula Term) (us : List Token) (g : Group) (t : Token) (q : Query) → is_some (fin.get types name) ≡ true → Asks types name ts f → GroupRead types name us g
      → option_map (grouping name f) (group_next types name g t) ≡ Some q → QueryRead types (asking_tokens name ((ts ++ us) ++ t ∷ [])) q
  group_on name ts f us g t q h a r e = elim (group_next types name g t) as (λ o. group_next types name g t ≡ o → option_map (grouping name f) o ≡ Some q → QueryRead types (asking_tokens name ((ts ++ us) ++ t ∷ [])) q) [
    | None ↦ λ w d. absurd (none_some q d)
    | Some b ↦ λ w d. subst (λ l. QueryRead types (asking_tokens name l) q) (sym (append_assoc ts us (t ∷ [])))
        (subst (QueryRead types (asking_tokens name (ts ++ (us ++ t ∷ [])))) (some_same _ q d) (read_grouping name ts f (us ++ t ∷ []) b h a (group_goes types name us t g b r w)))
  ] refl e

  grouping_goes : (name : List ℕ) (ts : List Token) (f : Formula Term) (us : List Token) (g : Group) (c : Cue) (t : Token) (q : Query) → is_some (fin.get types name) ≡ true → Asks types name ts f → GroupRead types name us g → TokenIs c t
      → grouping_next types name f g c t ≡ Some q → QueryRead types (asking_tokens name ((ts ++ us) ++ t ∷ [])) q
  grouping_goes name ts f us g cue.Semicolon t q h a r is e = subst (λ u. QueryRead types (asking_tokens name ((ts ++ us) ++ u ∷ [])) q) (sym is) (group_end name ts f us g q h a r e)
  grouping_goes name ts f us g _ t q h a r is e = group_on name ts f us g t q h a r e

  pub query_goes : (ts : List Token) (t : Token) (s q : Query) → QueryRead types ts s → query_step types s t ≡ Some q → QueryRead types (ts ++ t ∷ []) q
  query_goes ts t s q (read_head p h) e = head_goes p t q h e
  query_goes ts t s q (read_type name h) e = where_goes name (cue_of t) t q h (cue_token t) e
  query_goes ts t s q (read_asking name us x h r b) e = asking_goes name us x (cue_of t) t q h r (cue_token t) e
  query_goes ts t s q (read_grouping name us f vs g h a r) e = grouping_goes name us f vs g (cue_of t) t q h a r (cue_token t) e
  query_goes ts t s q (read_end us x h) e = absurd (none_some q e)

  -- what says a query is one
  pub query_said : (ts : List Token) (s : Query) (v : Said) → QueryRead types ts s → query_says s ≡ Some v → IsQuery types ts v
  query_said ts s v (read_head p h) e = absurd (none_some v e)
  query_said ts s v (read_type name h) e = absurd (none_some v e)
  query_said ts s v (read_asking name us x h r b) e = elim (whole_condition x) as (λ o. whole_condition x ≡ o → option_map (said_so name None) o ≡ Some v → IsQuery types (asking_tokens name us) v) [
    | None ↦ λ w f. absurd (none_some v f)
    | Some a ↦ λ w f. subst (λ l. IsQuery types (asking_tokens name l) v) (append-nil us)
        (subst (IsQuery types (asking_tokens name (us ++ []))) (some_same _ v f) (without_group name us a false h (whole_asks name us x a r w)))
  ] refl e
  query_said ts s v (read_grouping name us f vs g h a r) e = elim (group_says g) as (λ o. group_says g ≡ o → option_map (λ b. said_so name (Some b) f) o ≡ Some v → IsQuery types (asking_tokens name (us ++ vs)) v) [
    | None ↦ λ w d. absurd (none_some v d)
    | Some b ↦ λ w d. subst (λ l. IsQuery types (asking_tokens name l) v) (append-nil (us ++ vs))
        (subst (IsQuery types (asking_tokens name ((us ++ vs) ++ []))) (some_same _ v d) (with_group name us f vs b false h a (group_said types name vs g b r w)))
  ] refl e
  query_said ts s v (read_end us x h) e = subst (IsQuery types us) (some_same x v e) h

  -- each part goes on to a whole query
  plain_query : (name : List ℕ) → is_some (fin.get types name) ≡ true → IsQuery types (asking_tokens name (true_word ∷ [])) (said_so name None truth)
  plain_query name h = without_group name (true_word ∷ []) truth false h (asks_true name)

  head_begins : (p : Head) (name : List ℕ) → is_some (fin.get types name) ≡ true → Begins (IsQuery types) (head_tokens p)
  head_begins head.Begin name h = (asking_tokens name (true_word ∷ []), (said_so name None truth, plain_query name h))
  head_begins head.Select name h = (star ∷ from_word ∷ word name ∷ where_word ∷ true_word ∷ [], (said_so name None truth, plain_query name h))
  head_begins head.Star name h = (from_word ∷ word name ∷ where_word ∷ true_word ∷ [], (said_so name None truth, plain_query name h))
  head_begins head.From name h = (word name ∷ where_word ∷ true_word ∷ [], (said_so name None truth, plain_query name h))

  asking_begins : (name : List ℕ) (ts : List Token) → is_some (fin.get types name) ≡ true → Begins (Asks types name) ts → Begins (IsQuery types) (asking_tokens name ts)
  asking_begins name ts h b = (
    b.0,
    (
      said_so name None b.1.0,
      subst (λ l. IsQuery types (asking_tokens name l) (said_so name None b.1.0)) (append-nil (ts ++ b.0)) (without_group name (ts ++ b.0) b.1.0 false h b.1.1),
    ),
  )

  grouped_tokens : (ts us more : List Token) → (ts ++ (us ++ more)) ++ [] ≡ (ts ++ us) ++ more
  grouped_tokens ts us more = append-nil (ts ++ (us ++ more)) ∙ sym (append_assoc ts us more)

  grouping_begins : (name : List ℕ) (ts : List Token) (f : Formula Term) (us : List Token) (g : Group) → is_some (fin.get types name) ≡ true → Asks types name ts f → GroupRead types name us g
      → Begins (IsQuery types) (asking_tokens name (ts ++ us))
  grouping_begins name ts f us g h a r =
      let b = group_goes_on types name us g r in (
        b.0,
        (
          said_so name (Some b.1.0) f,
          subst (λ l. IsQuery types (asking_tokens name l) (said_so name (Some b.1.0) f)) (grouped_tokens ts us b.0) (with_group name ts f (us ++ b.0) b.1.0 false h a b.1.1),
        ),
      )

  -- but for no tokens, where the schema may have no types
  pub query_begins : (ts : List Token) (s : Query) → QueryRead types ts s → (ts ≡ [] → ⊥) → Begins (IsQuery types) ts
  query_begins ts s (read_head head.Begin h) other = absurd (other refl)
  query_begins ts s (read_head head.Select h) other = head_begins head.Select h.0 h.1
  query_begins ts s (read_head head.Star h) other = head_begins head.Star h.0 h.1
  query_begins ts s (read_head head.From h) other = head_begins head.From h.0 h.1
  query_begins ts s (read_type name h) other = (where_word ∷ true_word ∷ [], (said_so name None truth, plain_query name h))
  query_begins ts s (read_asking name us x h r b) other = asking_begins name us h b
  query_begins ts s (read_grouping name us f vs g h a r) other = grouping_begins name us f vs g h a r
  query_begins ts s (read_end us x h) other = ([], (x, subst (λ l. IsQuery types l x) (sym (append-nil us)) h))

  query_read : (us ts : List Token) (s q : Query) → QueryRead types us s → run (query_step types) s ts ≡ Some q → QueryRead types (us ++ ts) q
  query_read us [] s q r e = subst (λ l. QueryRead types l q) (sym (append-nil us)) (subst (QueryRead types us) (some_same s q e) r)
  query_read us (t ∷ ts) s q r e = elim (query_step types s t) as (λ o. query_step types s t ≡ o → option_and_then (λ w. run (query_step types) w ts) o ≡ Some q → QueryRead types (us ++ t ∷ ts) q) [
    | None ↦ λ d f. absurd (none_some q f)
    | Some w ↦ λ d f. subst (λ l. QueryRead types l q) (append_assoc us (t ∷ []) ts) (query_read (us ++ t ∷ []) ts w q (query_goes us t s w r d) f)
  ] refl e

  pub read_by : (ts : List Token) (q : Query) → run (query_step types) begin ts ≡ Some q → QueryRead types ts q
  read_by ts q e = query_read [] ts begin q (read_head head.Begin tt) e
