use Rattle.std.proofs.Common.{◌≡◌, ◌<◌, false, length, take, sym, ap, subst, ◌∙◌, Some, None, option_map}
use Rattle.std.specs.Option.{IfSome}
use Rattle.proof_basics.proofs.Results.{on_ok}
use Rattle.documents.specs.Fields.{Contents}
use Rattle.global_ids.specs.Keys.{key_of}
use Rattle.document_rows.specs.Rows.{has_row}
use Rattle.document_rows.specs.Reading.{row_at}
use Rattle.node_rows.specs.Kept.{document_in, documents_in, IsProper}
use Rattle.node_rows.specs.TypedRows.{TypedRows, with_rows}
use Rattle.node_rows.proofs.RoomLaws.{row_is}
use Rattle.node_rows.proofs.MoreLaws.{copied, copied_own, no_key}
use Rattle.node_rows.proofs.node_rows.NodeRows.append_from.Goals as goal

pub append_copy-requires-clause-own : goal.append_copy-requires-clause-own
append_copy-requires-clause-own c =
    let types = c.other.inside.schema in
    let rows = documents_in c.other.inside.rows.items in
    let n = c.args.local in
    let less : n < length rows = subst (λ (t : TypedRows). n < length t.rows) (sym c.other.view_is) c.requires.some in
    let row : row_at rows n ≡ document_in c.index-row.result.now = row_is c.other.inside.rows.items n c.index-row.result.now less c.index-row.ensures in
    let key : Some c.in-Some.key ≡ option_map (λ (d : Contents). key_of d.id) (document_in c.index-row.result.now) =
    sym c.in-Some.is ∙ c.key.ensures ∙ ap (λ (t : TypedRows). option_map (λ (d : Contents). key_of d.id) (row_at t.rows n)) (sym c.other.view_is) ∙ ap (option_map (λ (d : Contents). key_of d.id)) row in
    let same = c.requires.same ∙ sym (ap (λ (t : TypedRows). with_rows (take n t.rows) t) c.other.view_is) in
    subst (λ (t : TypedRows). IfSome (document_in c.index-row.result.now) (λ d. IsProper t.types d × (c.in-Some.key ≡ key_of d.id) × (has_row d.id t.rows ≡ false))) (sym same)
    (copied_own types rows n c.in-Some.key (document_in c.index-row.result.now) row c.other.invariant.distinct (subst (λ o. IfSome o (IsProper types)) row (c.other.invariant.proper n)) key)

pub returns-in-Some : goal.returns-in-Some
returns-in-Some c =
    let n = c.args.local in
    let less : n < length (documents_in c.other.inside.rows.items) = subst (λ (t : TypedRows). n < length t.rows) (sym c.other.view_is) c.requires.some in
    let row = ap (λ (t : TypedRows). row_at t.rows n) (sym c.other.view_is) ∙ row_is c.other.inside.rows.items n c.index-row.result.now less c.index-row.ensures in
    on_ok c.append_copy.result (λ e. e ∙ copied c.args.self.now c.args.other.now n (document_in c.index-row.result.now) c.requires.same c.requires.some row) c.append_copy.ensures

pub returns-in-None : goal.returns-in-None
returns-in-None c =
    let n = c.args.local in
    on_ok c.append_free.result (λ e. e ∙ copied c.args.self.now c.args.other.now n None c.requires.same c.requires.some (no_key (row_at c.args.other.now.rows n) (sym c.in-None.is ∙ c.key.ensures))) c.append_free.ensures
