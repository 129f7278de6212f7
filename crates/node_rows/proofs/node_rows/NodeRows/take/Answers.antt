use Rattle.std.proofs.Common.{◌≡◌, true, sym, ap, subst, ◌∙◌, is_some}
use Rattle.std.specs.Option.{IfSome}
use Rattle.proof_basics.proofs.Results.{on_ok}
use Rattle.documents.specs.declared.entry.Entry.{Entry}
use Rattle.node_rows.specs.Kept.{document_in, shown}
use Rattle.node_rows.specs.TypedRows.{TypedRows, with_rows}
use Rattle.node_rows.proofs.RoomLaws.{taken_some}
use Rattle.node_rows.proofs.node_rows.NodeRows.take.Goals as goal

pub returns-in-Some-clause-ok : goal.returns-in-Some-clause-ok
returns-in-Some-clause-ok c =
    let now = c.args.self.now in
    let kept = c.in-Some.kept in
    let its : kept.body ≡ shown now.types c.args.entry.now = sym (ap document_in c.in-Some.is) ∙ c.in_ok-kept.ensures.shown ∙ ap (λ t. shown t c.args.entry.now) (c.schema.ensures ∙ ap (λ (t : TypedRows). t.types) c.self.view_is) in
    let some : is_some kept.body ≡ true = subst (λ o. IfSome o (λ (e : Entry). is_some e.body ≡ true)) c.in-Some.is c.in_ok-kept.ensures.some in
    on_ok c.put.result (λ e. e ∙ ap (λ rs. with_rows rs now) (taken_some now.types now.rows c.args.entry.now kept.body its some)) c.put.ensures.ok
