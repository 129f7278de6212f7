-- How text literals are spelled.
use Rattle.std.proofs.Common.{◌≡◌, ◌≢◌, ◌↔◌, ℕ, ◌==◌, Bool, true, false, cond, List, [], ◌∷◌, ◌++◌, inl, inr, refl, sym, ap, ap₂, subst, ◌∙◌, arith, Option, Some, None, option_map, is_some}
use mathlib.Core.Bool.{true≢false}
use Rattle.std.specs.Option.{unwrap_or}
use Rattle.std.proofs.lemmas.Bool.Decides.{nat_tests}
use Rattle.doc_types.specs.declared.symbols.Language.{Language}
use Rattle.doc_types.specs.Tokens.{Token, word, integer, quoted, signs, body_at, is_escaped, is_quote, with_byte, token_at}
use Rattle.doc_types.specs.Spelling.{Spells, IsSpelled, escaped}
use Rattle.doc_types.proofs.BodyReading.{ends, plain, escape}
use Rattle.doc_types.proofs.TokenReading.{token_quote, literal_some}

-- what was read of a literal, with what is behind it
abbrev Body : Type 0
Body = List ℕ × List ℕ

same_body : (a b : Body) → Some a ≡ Some b → a ≡ b
same_body a b e = ap (λ o. unwrap_or o a) e

no_body : (b : Body) → ◌≡◌ {A = Option Body} None (Some b) → ⊥
no_body b e = true≢false (sym (ap is_some e))

is_same : (a b : ℕ) → (a == b) ≡ true → a ≡ b
is_same a b e = grind (arith, nat_tests, e)

is_other : (a b : ℕ) → (a == b) ≡ false → a ≢ b
is_other a b e is = true≢false (sym (same a b is) ∙ e)
  where
    same : (a b : ℕ) → a ≡ b → (a == b) ≡ true
    same a b is = grind (arith, nat_tests, is)

byte_some : (c : ℕ) (o : Option Body) (body rest : List ℕ) → with_byte c o ≡ Some (body, rest) → (more : List ℕ) × ((o ≡ Some (more, rest)) × (body ≡ c ∷ more))
byte_some c None body rest e = absurd (no_body (body, rest) e)
byte_some c (Some p) body rest e =
    let s = same_body (c ∷ p.0, p.1) (body, rest) e in
    (p.0, (ap (λ r. Some (p.0, r)) (ap (λ x. x.1) s), sym (ap (λ x. x.0) s)))

-- ---- what is read is spelled so

end_spelled : (q c : ℕ) (bs body rest : List ℕ) → c ≡ q → ◌≡◌ {A = Option Body} (Some ([], bs)) (Some (body, rest)) → IsSpelled q (c ∷ bs) body rest
end_spelled q c bs body rest is e =
    let s = same_body ([], bs) (body, rest) e in
    record { spelled = []; whole = ap₂ (λ x l. x ∷ l) is (ap (λ x. x.1) s); spells = subst (λ b. Spells q b []) (ap (λ x. x.0) s) refl }

plain_spelled : (q c : ℕ) (bs body rest more : List ℕ) → c ≢ q → c ≢ 92 → IsSpelled q bs more rest → body ≡ c ∷ more → IsSpelled q (c ∷ bs) body rest
plain_spelled q c bs body rest more other none h e = record {
  spelled = c ∷ h.spelled;
  whole = ap (λ l. c ∷ l) h.whole;
  spells = subst (λ b. Spells q b (c ∷ h.spelled)) (sym e) (c ∷ [], (h.spelled, (refl, (inl (other, (none, refl)), h.spells))));
}

escape_spelled : (q c d : ℕ) (bs body rest more : List ℕ) → c ≡ 92 → is_escaped d ≡ true → IsSpelled q bs more rest → body ≡ d ∷ more → IsSpelled q (c ∷ d ∷ bs) body rest
escape_spelled q c d bs body rest more is may h e = record {
  spelled = 92 ∷ d ∷ h.spelled;
  whole = ap₂ (λ x l. x ∷ d ∷ l) is h.whole;
  spells = subst (λ b. Spells q b (92 ∷ d ∷ h.spelled)) (sym e) (92 ∷ d ∷ [], (h.spelled, (refl, (inr (may, refl), h.spells))));
}

last_by : (q c : ℕ) (body rest : List ℕ) (t : Bool) → (c == q) ≡ t → cond {A = Option Body} t (Some ([], [])) None ≡ Some (body, rest) → IsSpelled q (c ∷ []) body rest
last_by q c body rest true is e = end_spelled q c [] body rest (is_same c q is) e
last_by q c body rest false is e = absurd (no_body (body, rest) e)

-- a byte and another behind it, by the tests of the reader
next_by : (q c d : ℕ) (bs body rest : List ℕ) → ((b r : List ℕ) → body_at q bs ≡ Some (b, r) → IsSpelled q bs b r) → ((b r : List ℕ) → body_at q (d ∷ bs) ≡ Some (b, r) → IsSpelled q (d ∷ bs) b r)
    → (t u v : Bool) → (c == q) ≡ t → (c == 92) ≡ u → is_escaped d ≡ v
    → cond {A = Option Body} t (Some ([], d ∷ bs)) (cond u (cond v (with_byte d (body_at q bs)) None) (with_byte c (body_at q (d ∷ bs)))) ≡ Some (body, rest) → IsSpelled q (c ∷ d ∷ bs) body rest
next_by q c d bs body rest two one true u v is slash may e = end_spelled q c (d ∷ bs) body rest (is_same c q is) e
next_by q c d bs body rest two one false true true is slash may e =
    let b = byte_some d (body_at q bs) body rest e in escape_spelled q c d bs body rest b.0 (is_same c 92 slash) may (two b.0 rest b.1.0) b.1.1
next_by q c d bs body rest two one false true false is slash may e = absurd (no_body (body, rest) e)
next_by q c d bs body rest two one false false v is slash may e =
    let b = byte_some c (body_at q (d ∷ bs)) body rest e in plain_spelled q c (d ∷ bs) body rest b.0 (is_other c q is) (is_other c 92 slash) (one b.0 rest b.1.0) b.1.1

read_spelled : (q : ℕ) (bs body rest : List ℕ) → body_at q bs ≡ Some (body, rest) → IsSpelled q bs body rest
read_spelled q [] body rest e = absurd (no_body (body, rest) e)
read_spelled q (c ∷ []) body rest e = last_by q c body rest (c == q) refl e
read_spelled q (c ∷ d ∷ bs) body rest e =
    next_by q c d bs body rest (λ b r. read_spelled q bs b r) (λ b r. read_spelled q (d ∷ bs) b r) (c == q) (c == 92) (is_escaped d) refl refl refl e

-- ---- what is spelled so is read

spelled_read : (q : ℕ) → q ≢ 92 → (text spelled rest : List ℕ) → Spells q text spelled → body_at q (spelled ++ q ∷ rest) ≡ Some (text, rest)
spelled_read q quote [] spelled rest h = ap (λ l. body_at q (l ++ q ∷ rest)) h ∙ ends q q rest refl
spelled_read q quote (c ∷ text) spelled rest (one, (more, (whole, (inl (other, (none, is)), spells)))) =
    ap (λ l. body_at q (l ++ q ∷ rest)) (whole ∙ ap (λ o. o ++ more) is)
    ∙ plain q c (more ++ q ∷ rest) other none
    ∙ ap (with_byte c) (spelled_read q quote text more rest spells)
spelled_read q quote (c ∷ text) spelled rest (one, (more, (whole, (inr (may, is), spells)))) =
    ap (λ l. body_at q (l ++ q ∷ rest)) (whole ∙ ap (λ o. o ++ more) is)
    ∙ escape q 92 c (more ++ q ∷ rest) (λ e. quote (sym e)) refl
    ∙ ap (λ t. cond t (with_byte c (body_at q (more ++ q ∷ rest))) None) may
    ∙ ap (with_byte c) (spelled_read q quote text more rest spells)

-- ---- tokens

body_of : Token → List ℕ
body_of (word w) = []
body_of (integer z) = []
body_of (quoted b) = b
body_of (signs s) = []

literal_read : (o : Option Body) (text rest : List ℕ) → option_map {U = Token × List ℕ} (λ p. (quoted p.0, p.1)) o ≡ Some (quoted text, rest) → o ≡ Some (text, rest)
unfolding body_of
literal_read None text rest e = absurd (true≢false (sym (ap is_some e)))
literal_read (Some p) text rest e =
    let s = ap (λ o. unwrap_or o (quoted p.0, p.1)) e in
    ap₂ (λ b r. Some (b, r)) (ap (λ x. body_of x.0) s) (ap (λ x. x.1) s)

no_backslash : (q : ℕ) → is_quote q ≡ true → q ≢ 92
no_backslash q h e = grind (arith, nat_tests, h, e)

pub literals : (language : Language) (q : ℕ) (bytes text rest : List ℕ) → is_quote q ≡ true → (token_at language (q ∷ bytes) ≡ Some (quoted text, rest)) ↔ IsSpelled q bytes text rest
literals language q bytes text rest h = (
  λ e. read_spelled q bytes text rest (literal_read (body_at q bytes) text rest (sym (token_quote language (q ∷ bytes) (omega arith) h) ∙ e)),
  λ s. token_quote language (q ∷ bytes) (omega arith) h
      ∙ literal_some q bytes text rest (ap (body_at q) s.whole ∙ spelled_read q (no_backslash q h) text s.spelled rest s.spells),
)

escaped_spells : (q : ℕ) → is_quote q ≡ true → (text : List ℕ) → Spells q text (escaped text)
escaped_spells q h [] = refl
escaped_spells q h (c ∷ text) = by (is_escaped c) refl (escaped_spells q h text)
  where
    not_quote : (q c : ℕ) → is_quote q ≡ true → is_escaped c ≡ false → c ≢ q
    not_quote q c h e is = grind (arith, nat_tests, h, e, is)

    not_backslash : (c : ℕ) → is_escaped c ≡ false → c ≢ 92
    not_backslash c e is = grind (arith, nat_tests, e, is)

    by : (t : Bool) → is_escaped c ≡ t → Spells q text (escaped text) → Spells q (c ∷ text) (cond t (92 ∷ c ∷ escaped text) (c ∷ escaped text))
    by true e rest = (92 ∷ c ∷ [], (escaped text, (refl, (inr (e, refl), rest))))
    by false e rest = (c ∷ [], (escaped text, (refl, (inl (not_quote q c h e, (not_backslash c e, refl)), rest))))

pub escaped_again : (language : Language) (q : ℕ) (text rest : List ℕ) → is_quote q ≡ true → token_at language (q ∷ (escaped text ++ q ∷ rest)) ≡ Some (quoted text, rest)
escaped_again language q text rest h =
    (literals language q (escaped text ++ q ∷ rest) text rest h).1 (record { spelled = escaped text; whole = refl; spells = escaped_spells q h text })
