use Rattle.std.proofs.Common.{◌≡◌, ◌∙◌, ◌∷◌, ◌++◌, [], subst, sym, ap, ap₂, ◌+◌, drop}
use Rattle.std.specs.FinMap as fin
use Rattle.std.specs.Prelude.{T}
use Rattle.std.proofs.lemmas.List.{map-append, drop_all}
use Rattle.line_values.specs.View.{view, members_view}
use Rattle.doc_types.specs.SchemaCodes.{name_cmp}
use Rattle.documents.specs.Fields.{pairs}
use Rattle.documents.specs.Kinds.{kinds_of}
use Rattle.json_documents.proofs.JsonLaws.{said_sorted}
use Rattle.json_documents.proofs.SoFar.{SoFar, one_left, one_said, none_said, all_said}
use Rattle.json_documents.specs.DocumentFaults.{is_no_value, is_wrong}
use Rattle.json_documents.specs.Json.{value_by, value_in}
use Rattle.json_documents.proofs.members.values_in.Goals as goal

pub loop-member-preserved-in_default : goal.loop-member-preserved-in_default
loop-member-preserved-in_default c =
    let kinds = kinds_of c.args.schema.now c.args.type_name.now in
    let all = members_view c.args.members.now in
    let name = c.member-item.result.0.now in
    let value = view c.member-item.result.1 in
    let found = pairs c.loop-member.list.items in
    let read = c.in_ok-found.ensures.read in
    let kind : c.field-kind.result ≡ kinds name = c.field-kind.ensures in
    none_said (is_wrong kinds) (value_in kinds) all found name value (members_view (drop (c.loop-member.member-index + 1) c.args.members.now))
    (ap (λ k. is_no_value k value) (sym kind) ∙ read.0) (ap (λ k. value_by k value) (sym kind) ∙ sym read.1 ∙ c.in_default.is)
    (subst (λ es. SoFar (is_wrong kinds) (value_in kinds) all found (members_view es)) (one_left c.args.members.now c.loop-member.member-index c.member-item.result c.loop-member-test.true c.member-item.is) c.loop-member.invariant)

pub loop-member-preserved : goal.loop-member-preserved
loop-member-preserved c =
    let kinds = kinds_of c.args.schema.now c.args.type_name.now in
    let all = members_view c.args.members.now in
    let name = c.member-item.result.0.now in
    let value = view c.member-item.result.1 in
    let found = pairs c.loop-member.list.items in
    let said = c.in-Some.found in
    let read = c.in_ok-found.ensures.read in
    let made = c.in_ok-of.ensures in
    let kind : c.field-kind.result ≡ kinds name = c.field-kind.ensures in
    let grown : pairs c.push.new.self.items ≡ found ++ (name, said) ∷ [] =
    ap pairs c.in_ok-push.ensures.items ∙ map-append (λ f. (f.name, f.value)) c.loop-member.list.items (c.in_ok-of.field-0 ∷ [])
    ∙ ap₂ (λ n v. found ++ (n, v) ∷ []) made.0 made.1 in
    subst (λ l. SoFar (is_wrong kinds) (value_in kinds) all l (members_view (drop (c.loop-member.member-index + 1) c.args.members.now))) (sym grown)
    (one_said (is_wrong kinds) (value_in kinds) all found name value said (members_view (drop (c.loop-member.member-index + 1) c.args.members.now))
    (ap (λ k. is_no_value k value) (sym kind) ∙ read.0) (ap (λ k. value_by k value) (sym kind) ∙ sym read.1 ∙ c.in-Some.is)
    (subst (λ es. SoFar (is_wrong kinds) (value_in kinds) all found (members_view es)) (one_left c.args.members.now c.loop-member.member-index c.member-item.result c.loop-member-test.true c.member-item.is) c.loop-member.invariant))

pub returns-clause-read : goal.returns-clause-read
returns-clause-read c =
    let kinds = kinds_of c.args.schema.now c.args.type_name.now in
    let all = members_view c.args.members.now in
    let found = pairs c.loop-member.list.items in
    all_said (is_wrong kinds) (value_in kinds) all found
    (subst (λ es. SoFar (is_wrong kinds) (value_in kinds) all found (members_view es)) (drop_all c.loop-member.member-index c.args.members.now c.loop-member-test.false) c.loop-member.invariant)

pub returns-clause-sorted : goal.returns-clause-sorted
returns-clause-sorted c =
    let kinds = kinds_of c.args.schema.now c.args.type_name.now in
    let all = returns-clause-read c in
    subst (λ l. T (fin.is_sorted name_cmp l)) (sym all.1) (said_sorted (value_in kinds) (members_view c.args.members.now) c.requires)
