-- Words say one value of the options at most.
use Rattle.std.proofs.Common.{◌≡◌, ◌∙◌, ◌-◌, ◌^◌, Option, Some, None, List, inl, inr, sym, ap, subst, arith}
use Rattle.clap.specs.Walk.{Row, Text}
use Rattle.words_line.specs.Said.{IsNumber, MatchesSay, SaysPlain, SaysGenerated, Says}
use Rattle.words_line.specs.declared.options.Generate.{Generate}
use Rattle.words_line.specs.declared.options.Options.{Options}
use Rattle.words_line.proofs.Numerals.{number_once}

-- options are their fields
same_options : (a b : Options) → a.feeders ≡ b.feeders → a.bits ≡ b.bits → a.redundancy ≡ b.redundancy → a.acks ≡ b.acks → a.searchable ≡ b.searchable
    → a.split_at ≡ b.split_at → a.schema ≡ b.schema → a.initial ≡ b.initial → a.generate ≡ b.generate → a ≡ b
same_options a b f bi r ac se sp sc i g =
    ap (λ x. record a { feeders = x }) f
    ∙ ap (λ x. record a { feeders = b.feeders; bits = x }) bi
    ∙ ap (λ x. record a { feeders = b.feeders; bits = b.bits; redundancy = x }) r
    ∙ ap (λ x. record a { feeders = b.feeders; bits = b.bits; redundancy = b.redundancy; acks = x }) ac
    ∙ ap (λ x. record b { searchable = x; split_at = a.split_at; schema = a.schema; initial = a.initial; generate = a.generate }) se
    ∙ ap (λ x. record b { split_at = x; schema = a.schema; initial = a.initial; generate = a.generate }) sp
    ∙ ap (λ x. record b { schema = x; initial = a.initial; generate = a.generate }) sc
    ∙ ap (λ x. record b { initial = x; generate = a.generate }) i
    ∙ ap (λ x. record b { generate = x }) g

same_made : (a b : Generate) → a.seed ≡ b.seed → a.count ≡ b.count → a ≡ b
same_made a b s c = ap (λ x. record a { seed = x }) s ∙ ap (λ x. record b { count = x }) c

plain_once : (rows : List Row) (a b : Options) → SaysPlain rows a → SaysPlain rows b → a ≡ b
plain_once rows a b s t = same_options a b
    (number_once _ _ _ _ _ _ _ (omega arith) (omega arith) s.feeders t.feeders)
    (number_once _ _ _ _ _ _ _ (omega arith) (omega arith) s.bits t.bits)
    (number_once _ _ _ _ _ _ _ (omega arith) (omega arith) s.redundancy t.redundancy)
    (number_once _ _ _ _ _ _ _ (omega (arith, s.redundancy.high)) (omega (arith, t.redundancy.high)) s.acks t.acks)
    (number_once _ _ _ _ _ _ _ (omega (arith, s.redundancy.high)) (omega (arith, t.redundancy.high)) s.searchable t.searchable)
    (number_once _ _ _ _ _ _ _ (omega arith) (omega arith) s.split_at t.split_at)
    (s.schema ∙ sym t.schema)
    (s.initial ∙ sym t.initial)
    (s.generate ∙ sym t.generate)

text_of_some : {x y : Text} {o : Option Text} → o ≡ Some x → o ≡ Some y → x ≡ y
text_of_some {x} {y} {o} p q = let e : Some x ≡ Some y = sym p ∙ q in cc

made_once : (rows : List Row) (a b : Options) (s : SaysGenerated rows a) (t : SaysGenerated rows b) → s.made ≡ t.made
made_once rows a b s t =
    let seed = text_of_some s.seed_given t.seed_given in
    let count = text_of_some s.count_given t.count_given in
    same_made s.made t.made
    (number_once 0 (2 ^ 32 - 1) 0 (2 ^ 32 - 1) s.seed_text _ _ (omega arith) (omega arith) s.seed (subst (λ text. IsNumber 0 (2 ^ 32 - 1) text t.made.seed) (sym seed) t.seed))
    (number_once 1 30000 1 30000 s.count_text _ _ (omega arith) (omega arith) s.count (subst (λ text. IsNumber 1 30000 text t.made.count) (sym count) t.count))

generated_once : (rows : List Row) (a b : Options) → SaysGenerated rows a → SaysGenerated rows b → a ≡ b
generated_once rows a b s t = same_options a b
    (number_once _ _ _ _ _ _ _ (omega arith) (omega arith) s.feeders t.feeders)
    (number_once _ _ _ _ _ _ _ (omega arith) (omega arith) s.bits t.bits)
    (s.redundancy ∙ sym t.redundancy)
    (s.acks ∙ sym t.acks)
    (s.searchable ∙ sym t.searchable)
    (s.split_at ∙ sym t.split_at)
    (s.schema ∙ sym t.schema)
    (s.initial ∙ sym t.initial)
    (s.generate ∙ ap Some (made_once rows a b s t) ∙ sym t.generate)

not_both : (rows : List Row) (a b : Options) → SaysPlain rows a → SaysGenerated rows b → ⊥
not_both rows a b s t = let e : Some t.seed_text ≡ None = sym t.seed_given ∙ s.no_seed in cc

matches_once : (rows : List Row) (a b : Options) → MatchesSay rows a → MatchesSay rows b → a ≡ b
matches_once rows a b s t = elim s [
  | inl p ↦ elim t [ inl q ↦ plain_once rows a b p q | inr q ↦ absurd (not_both rows a b p q) ]
  | inr p ↦ elim t [ inl q ↦ absurd (not_both rows b a q p) | inr q ↦ generated_once rows a b p q ]
]

pub said_once : (words : List Text) (a b : Options) → Says words a → Says words b → a ≡ b
said_once words a b s t = matches_once _ a b s.said t.said
