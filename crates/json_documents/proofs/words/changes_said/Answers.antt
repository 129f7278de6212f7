use Rattle.std.proofs.Common.{◌≡◌, ◌∙◌, ◌∷◌, ◌++◌, [], subst, sym, ap, ◌+◌, drop}
use Rattle.std.specs.FinMap as fin
use Rattle.std.specs.Prelude.{T}
use Rattle.std.proofs.lemmas.List.{map-append, drop_all}
use Rattle.line_values.specs.View.{view, members_view}
use Rattle.doc_types.specs.SchemaCodes.{name_cmp}
use Rattle.documents.specs.Kinds.{kinds_of}
use Rattle.doc_updates.specs.Updates.{pairs}
use Rattle.json_documents.proofs.JsonLaws.{said_sorted}
use Rattle.json_documents.proofs.SoFar.{SoFar, one_left, one_said, all_said}
use Rattle.json_documents.specs.Updates.{is_no_change, is_wrong}
use Rattle.json_documents.specs.Words.{change_for, change_in}
use Rattle.json_documents.proofs.words.changes_said.Goals as goal

pub loop-member-preserved : goal.loop-member-preserved
loop-member-preserved c =
    let kinds = kinds_of c.args.schema.now c.args.type_name.now in
    let all = members_view c.args.members.now in
    let name = c.member-item.result.0.now in
    let value = view c.member-item.result.1 in
    let found = pairs c.loop-member.list.items in
    let change = c.in_ok-change_in.field-0.change in
    let read = c.in_ok-change_in.ensures.read in
    let kind : c.field-kind.result ≡ kinds name = c.field-kind.ensures in
    let grown : pairs c.push.new.self.items ≡ found ++ (name, change) ∷ [] =
    ap pairs c.in_ok-push.ensures.items ∙ map-append (λ d. (d.name, d.change)) c.loop-member.list.items (c.in_ok-change_in.field-0 ∷ [])
    ∙ ap (λ n. found ++ (n, change) ∷ []) read.2 in
    subst (λ l. SoFar (is_wrong kinds) (change_in kinds) all l (members_view (drop (c.loop-member.member-index + 1) c.args.members.now))) (sym grown)
    (one_said (is_wrong kinds) (change_in kinds) all found name value change (members_view (drop (c.loop-member.member-index + 1) c.args.members.now))
    (ap (λ k. is_no_change k value) (sym kind) ∙ read.0) (ap (λ k. change_for k value) (sym kind) ∙ read.1)
    (subst (λ es. SoFar (is_wrong kinds) (change_in kinds) all found (members_view es)) (one_left c.args.members.now c.loop-member.member-index c.member-item.result c.loop-member-test.true c.member-item.is) c.loop-member.invariant))

pub returns-clause-read : goal.returns-clause-read
returns-clause-read c =
    let kinds = kinds_of c.args.schema.now c.args.type_name.now in
    let all = members_view c.args.members.now in
    let found = pairs c.loop-member.list.items in
    all_said (is_wrong kinds) (change_in kinds) all found
    (subst (λ es. SoFar (is_wrong kinds) (change_in kinds) all found (members_view es)) (drop_all c.loop-member.member-index c.args.members.now c.loop-member-test.false) c.loop-member.invariant)

pub returns-clause-sorted : goal.returns-clause-sorted
returns-clause-sorted c =
    let kinds = kinds_of c.args.schema.now c.args.type_name.now in
    let all = returns-clause-read c in
    subst (λ l. T (fin.is_sorted name_cmp l)) (sym all.1) (said_sorted (change_in kinds) (members_view c.args.members.now) c.requires)
