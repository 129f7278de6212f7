-- Words choose one session at most.
use Rattle.std.proofs.Common.{◌≡◌, ◌≢◌, ◌≤◌, false, List, ℕ, None, Some, inl, inr, sym, ap, ◌∙◌, subst, arith}
use Rattle.std.proofs.lemmas.Bool.{false≢true}
use Rattle.clap.specs.Walk.{Text}
use Rattle.serde_json.specs.Read.{read}
use Rattle.cluster_states.specs.ClusterStates.{State}
use Rattle.cluster_states.proofs.Telling.{tells_one}
use Rattle.distributor_part.specs.declared.rules.Rules.{Rules}
use Rattle.doc_types.specs.SchemaCodes.{Types}
use Rattle.json_documents.specs.Schemas.{schema_fault}
use Rattle.json_documents.specs.declared.schema_faults.SchemaFault.{SchemaFault}
use Rattle.words_line.specs.Said.{Says}
use Rattle.words_line.specs.declared.options.Options.{Options}
use Rattle.words_line.proofs.SaidOnce.{said_once}
use Rattle.session_settings.specs.Choices.{is_built, rules_of, CanBegin, SaysSchema, Chooses, AreWrong, AreWrongAlone, AreWrongFed}
use Rattle.lane_lives.specs.Settings.{AreRules, IsFirst, IsSetting}
use Rattle.session_settings.specs.declared.choice.Choice.{Choice}
use Rattle.lane_lives.specs.declared.setting.Setting.{Setting}

same_options : (words : List Text) (c : Choice) (o : Options) → Says words o → (x : Chooses words c) → x.options ≡ o
same_options words c o said x = said_once words x.options o x.said said

same_schema : (text : List ℕ) (a b : Types) → SaysSchema text a → SaysSchema text b → a ≡ b
same_schema text a b x y = cc (x.said, y.said)

same_setting : (a b : Setting) → a.bits ≡ b.bits → a.rules ≡ b.rules → a.initial ≡ b.initial → a.schema ≡ b.schema → a ≡ b
same_setting a b bits rules initial schema = λ i. record { bits = bits i; rules = rules i; initial = initial i; schema = schema i }

same_choice : (a b : Choice) → a.feeders ≡ b.feeders → a.setting ≡ b.setting → a ≡ b
same_choice a b feeders setting = λ i. record { feeders = feeders i; setting = setting i }

pub one_choice : (words : List Text) (a b : Choice) → Chooses words a → Chooses words b → a ≡ b
one_choice words a b x y =
    let same = same_options words a y.options y.said x in
    same_choice a b (x.feeders ∙ ap (λ (o : Options). o.feeders) same ∙ sym y.feeders)
    (same_setting a.setting b.setting (x.bits ∙ ap (λ (o : Options). o.bits) same ∙ sym y.bits) (x.rules ∙ ap rules_of same ∙ sym y.rules)
    (tells_one y.options.initial a.setting.initial b.setting.initial (subst (λ (o : Options). CanBegin o a.setting.initial) same x.initial).said y.initial.said)
    (same_schema y.options.schema a.setting.schema b.setting.schema (subst (λ (o : Options). SaysSchema o.schema a.setting.schema) same x.schema) y.schema))

-- ---- the setting

rules_said : (words : List Text) (o : Options) → Says words o → AreRules (rules_of o)
rules_said words o said = elim said.said [
  | inl plain ↦ record {
    some_acks = plain.acks.low;
    few_acks = plain.acks.high;
    some_searchable = plain.searchable.low;
    few_searchable = plain.searchable.high;
    few_copies = plain.redundancy.high;
    some_documents = plain.split_at.low;
    few_documents = plain.split_at.high;
  }
  | inr made ↦ record {
    some_acks = omega (arith, made.acks);
    few_acks = omega (arith, made.acks, made.redundancy);
    some_searchable = omega (arith, made.searchable);
    few_searchable = omega (arith, made.searchable, made.redundancy);
    few_copies = omega (arith, made.redundancy);
    some_documents = omega (arith, made.split_at);
    few_documents = omega (arith, made.split_at);
  }
]

pub chosen_setting : (words : List Text) (c : Choice) → Chooses words c → IsSetting c.setting
chosen_setting words c x =
    let acks : c.setting.rules.acks ≡ x.options.acks = ap (λ (r : Rules). r.acks) x.rules in
    record {
      some = elim x.said.said [ inl plain ↦ omega (arith, x.bits, plain.bits.low) | inr made ↦ omega (arith, x.bits, made.bits.low) ];
      most = elim x.said.said [ inl plain ↦ omega (arith, x.bits, plain.bits.high) | inr made ↦ omega (arith, x.bits, made.bits.high) ];
      state = (x.initial.said).0;
      rules = subst AreRules (sym x.rules) (rules_said words x.options x.said);
      first = subst (λ n. IsFirst n c.setting.initial) (sym acks) x.initial.first;
    }

-- ---- words that choose nothing

pub not_built : (words : List Text) (o : Options) → Says words o → is_built o ≡ false → AreWrong words
not_built words o said test c x = false≢true (sym test ∙ sym (ap is_built (same_options words c o said x)) ∙ x.built)

-- no state can begin
pub no_state : (words : List Text) (o : Options) → Says words o → ((state : State) → CanBegin o state → ⊥) → AreWrong words
no_state words o said none c x = none c.setting.initial (subst (λ (p : Options). CanBegin p c.setting.initial) (same_options words c o said x) x.initial)

-- a schema that is refused
pub no_schema : (words : List Text) (o : Options) (fault : SchemaFault) → Says words o → schema_fault (read o.schema) ≡ Some fault → AreWrong words
no_schema words o fault said refused c x =
    let right : schema_fault (read o.schema) ≡ None = subst (λ (p : Options). schema_fault (read p.schema) ≡ None) (same_options words c o said x) x.schema.right in
    cc (refused, right)

-- ---- with feeders, or without

pub few_feeders : (words : List Text) (c : Choice) → Chooses words c → c.feeders ≤ 8
few_feeders words c x = elim (x.said).said [
  | inl plain ↦ subst (λ n. n ≤ 8) (sym x.feeders) plain.feeders.high
  | inr made ↦ subst (λ n. n ≤ 8) (sym x.feeders) made.feeders.high
]

pub wrong_alone : (words : List Text) → AreWrong words → AreWrongAlone words
wrong_alone words wrong c x = wrong c x.chooses

pub wrong_fed : (words : List Text) → AreWrong words → AreWrongFed words
wrong_fed words wrong c x = wrong c x.chooses

-- words that choose feeders choose nothing that runs without
pub fed_not_alone : (words : List Text) (a : Choice) → Chooses words a → a.feeders ≢ 0 → AreWrongAlone words
fed_not_alone words a chosen some c x = some (ap (λ (o : Choice). o.feeders) (one_choice words a c chosen x.chooses) ∙ x.alone)

pub alone_not_fed : (words : List Text) (a : Choice) → Chooses words a → a.feeders ≡ 0 → AreWrongFed words
alone_not_fed words a chosen none c x =
    let same : c.feeders ≡ 0 = ap (λ (o : Choice). o.feeders) (one_choice words c a x.chooses chosen) ∙ none in
    omega (arith, same, x.some)
