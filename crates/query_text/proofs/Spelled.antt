-- A text says one query at most, and is refused at one place.
use Rattle.std.proofs.Common.{◌≡◌, ◌⊎◌, ◌-◌, ℕ, min, List, [], ◌∷◌, ◌++◌, length, Option, Some, inl, inr, refl, sym, ap, subst, ◌∙◌, append_assoc, append-nil}
use Rattle.doc_types.specs.declared.symbols.Language.{Language}
use Rattle.doc_types.specs.declared.symbols.Language.TheVariants as language
use Rattle.doc_types.specs.SchemaCodes.{Types}
use Rattle.doc_types.specs.Tokens.{Token, skip_blanks, token_at}
use Rattle.conditions.specs.Readings.{IsReadAs, Begins, IsText, IsRefusedAt, CannotGoOn, ends_early, unreadable, no_such}
use Rattle.conditions.specs.Machines.{run}
use Rattle.query_text.specs.Grammar.{Said, IsQuery}
use Rattle.query_text.specs.Machine.{query_step, begin, query_says}
use Rattle.query_text.proofs.QueryRuns.{queries_read}

module _ (l : Language) where
  no_token : (t : Token) (behind s : List ℕ) → s ≡ [] → token_at l s ≡ Some (t, behind) → ⊥
  no_token t behind s e token = let h : token_at l [] ≡ Some (t, behind) = rw e at token in cc

  one_token : (p q : Token × List ℕ) → ◌≡◌ {A = Option (Token × List ℕ)} (Some p) (Some q) → p ≡ q
  one_token p q e = cc

  -- what was read of a text goes on to these tokens
  abbrev GoesOn : List Token → List ℕ → List Token → List ℕ → Type 0
  GoesOn ts rest us end = (more : List Token) × ((us ≡ ts ++ more) × IsReadAs l rest more end)

  -- of two readings of a text one goes on to the other
  common : (text : List ℕ) (ts us : List Token) (rest end : List ℕ) → IsReadAs l text ts rest → IsReadAs l text us end → GoesOn ts rest us end ⊎ GoesOn us end ts rest
  common text [] us rest end one two = inl (us, (refl, subst (λ s. IsReadAs l s us end) one two))
  common text (t ∷ ts) [] rest end one two = inr (t ∷ ts, (refl, subst (λ s. IsReadAs l s (t ∷ ts) rest) two one))
  common text (t ∷ ts) (u ∷ us) rest end one two =
      let same = one_token (t, one.0) (u, two.0) (sym one.1.0 ∙ two.1.0) in
      let head : t ≡ u = ap (λ p. p.0) same in
      elim (common one.0 ts us rest end one.1.1 (subst (λ s. IsReadAs l s us end) (sym (ap (λ p. p.1) same)) two.1.1)) [
        | inl g ↦ inl (g.0, (ap (λ x. x ∷ us) (sym head) ∙ ap (λ xs. t ∷ xs) g.1.0, g.1.1))
        | inr g ↦ inr (g.0, (ap (λ x. x ∷ ts) head ∙ ap (λ xs. u ∷ xs) g.1.0, g.1.1))
      ]

  -- where a text was read to its end, no reading goes on
  none_behind : (more : List Token) (rest end : List ℕ) → skip_blanks rest ≡ [] → IsReadAs l rest more end → more ≡ []
  none_behind [] rest end ends read = refl
  none_behind (m ∷ ms) rest end ends read = absurd (no_token m read.0 (skip_blanks rest) ends read.1.0)

  module _ {V : Type 0} (L : List Token → V → Type 0) where
    -- reading that can't go on doesn't
    stuck : (ts : List Token) (rest : List ℕ) (m : Token) (behind : List ℕ) → CannotGoOn l L ts (skip_blanks rest) → token_at l (skip_blanks rest) ≡ Some (m, behind) → Begins L (ts ++ m ∷ []) → ⊥
    stuck ts rest m behind (ends_early none never) token begins = no_token m behind (skip_blanks rest) none token
    stuck ts rest m behind (unreadable other none) token begins = let h = sym none ∙ token in cc
    stuck ts rest m behind (no_such t after there never) token begins =
        never (subst (λ x. Begins L (ts ++ x ∷ [])) (ap (λ p. p.0) (one_token (m, behind) (t, after) (sym token ∙ there))) begins)

    -- nor does it end there
    unended : (ts : List Token) (rest : List ℕ) (v : V) → CannotGoOn l L ts (skip_blanks rest) → skip_blanks rest ≡ [] → L ts v → ⊥
    unended ts rest v (ends_early none never) ends says = never v says
    unended ts rest v (unreadable other none) ends says = other ends
    unended ts rest v (no_such t behind token never) ends says = no_token t behind (skip_blanks rest) ends token

    begins_more : (ts : List Token) (m : Token) (ms : List Token) → Begins L (ts ++ m ∷ ms) → Begins L (ts ++ m ∷ [])
    begins_more ts m ms b = (ms ++ b.0, (b.1.0, subst (λ xs. L xs b.1.0) (append_assoc ts (m ∷ ms) b.0 ∙ sym (append_assoc ts (m ∷ []) (ms ++ b.0))) b.1.1))

    begins_whole : (ts : List Token) (v : V) → L ts v → Begins L ts
    begins_whole ts v says = ([], (v, subst (λ xs. L xs v) (sym (append-nil ts)) says))

    -- ---- a text that is refused says nothing

    not_on : (text : List ℕ) (offset : ℕ) (v : V) (r : IsRefusedAt l L text offset) (t : IsText l L text v) (more : List Token) → t.tokens ≡ r.tokens ++ more → IsReadAs l r.rest more t.rest → ⊥
    not_on text offset v r t [] same read = unended r.tokens r.rest v r.cause (ap skip_blanks read ∙ t.ends) (subst (λ xs. L xs v) (same ∙ append-nil r.tokens) t.says)
    not_on text offset v r t (m ∷ ms) same read =
        stuck r.tokens r.rest m read.0 r.cause read.1.0 (begins_more r.tokens m ms (begins_whole (r.tokens ++ m ∷ ms) v (subst (λ xs. L xs v) same t.says)))

    not_both : (text : List ℕ) (offset : ℕ) (v : V) → IsRefusedAt l L text offset → IsText l L text v → ⊥
    not_both text offset v r t = elim (common text r.tokens t.tokens r.rest t.rest r.read t.read) [
      | inl g ↦ not_on text offset v r t g.0 g.1.0 g.1.1
      | inr g ↦
          let none : g.0 ≡ [] = none_behind g.0 t.rest r.rest t.ends g.1.1 in
          let same : t.tokens ≡ r.tokens ++ [] = sym (append-nil t.tokens) ∙ ap (λ xs. t.tokens ++ xs) (sym none) ∙ sym g.1.0 ∙ sym (append-nil r.tokens) in
          not_on text offset v r t [] same (sym (subst (λ xs. IsReadAs l t.rest xs r.rest) none g.1.1))
    ]

    -- ---- it is refused at one place

    place_on : (text : List ℕ) (a b : ℕ) (p : IsRefusedAt l L text a) (q : IsRefusedAt l L text b) (more : List Token) → q.tokens ≡ p.tokens ++ more → IsReadAs l p.rest more q.rest → a ≡ b
    place_on text a b p q [] same read = p.place ∙ ap (λ s. min (length text - length (skip_blanks s)) 4294967295) read ∙ sym q.place
    place_on text a b p q (m ∷ ms) same read =
        absurd (stuck p.tokens p.rest m read.0 p.cause read.1.0 (begins_more p.tokens m ms (subst (Begins L) same (q.begins (λ none. not_none p.tokens (sym same ∙ none))))))
      where
        not_none : (ts : List Token) → ts ++ m ∷ ms ≡ [] → ⊥
        not_none [] e = cc
        not_none (t ∷ ts) e = cc

    one_place : (text : List ℕ) (a b : ℕ) → IsRefusedAt l L text a → IsRefusedAt l L text b → a ≡ b
    one_place text a b p q = elim (common text p.tokens q.tokens p.rest q.rest p.read q.read) [
      | inl g ↦ place_on text a b p q g.0 g.1.0 g.1.1
      | inr g ↦ sym (place_on text b a q p g.0 g.1.0 g.1.1)
    ]

    -- ---- it has one list of tokens

    one_list : (text : List ℕ) (v w : V) (a : IsText l L text v) (b : IsText l L text w) → a.tokens ≡ b.tokens
    one_list text v w a b = elim (common text a.tokens b.tokens a.rest b.rest a.read b.read) [
      | inl g ↦ sym (g.1.0 ∙ ap (λ xs. a.tokens ++ xs) (none_behind g.0 a.rest b.rest a.ends g.1.1) ∙ append-nil a.tokens)
      | inr g ↦ g.1.0 ∙ ap (λ xs. b.tokens ++ xs) (none_behind g.0 b.rest a.rest b.ends g.1.1) ∙ append-nil b.tokens
    ]

some_is : {A : Type 0} {x y : A} → Some x ≡ Some y → x ≡ y
some_is e = cc

-- a list of tokens says one query
one_said : (types : Types) (ts us : List Token) (a b : Said) → ts ≡ us → IsQuery types ts a → IsQuery types us b → a ≡ b
one_said types ts us a b same p q =
    let x = (queries_read types).accepts ts a p in
    let y = (queries_read types).accepts us b q in
    let state : x.0 ≡ y.0 = some_is (sym x.1.0 ∙ ap (run (query_step types) begin) same ∙ y.1.0) in
    some_is (sym x.1.1 ∙ ap query_says state ∙ y.1.1)

pub one_query : (types : Types) (text : List ℕ) (a b : Said) → IsText language.Query (IsQuery types) text a → IsText language.Query (IsQuery types) text b → a ≡ b
one_query types text a b p q = one_said types p.tokens q.tokens a b (one_list language.Query (IsQuery types) text a b p q) p.says q.says

pub says_none : (types : Types) (text : List ℕ) (offset : ℕ) (said : Said) → IsRefusedAt language.Query (IsQuery types) text offset → IsText language.Query (IsQuery types) text said → ⊥
says_none types text offset said r t = not_both language.Query (IsQuery types) text offset said r t

pub refused_once : (types : Types) (text : List ℕ) (a b : ℕ) → IsRefusedAt language.Query (IsQuery types) text a → IsRefusedAt language.Query (IsQuery types) text b → a ≡ b
refused_once types text a b p q = one_place language.Query (IsQuery types) text a b p q
