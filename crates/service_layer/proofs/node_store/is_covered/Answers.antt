use Rattle.std.proofs.Common.{◌∙◌, sym, ap, Err}
use Rattle.std.specs.List.{find}
use Rattle.pieces.specs.Pieces.{is_over}
use Rattle.service_layer.proofs.Readiness.{over_found, covered_by, covers_of}
use Rattle.service_layer.proofs.node_store.is_covered.Goals as goal

pub returns-in-Ok : goal.returns-in-Ok
returns-in-Ok c =
    let ps = c.args.pieces.now.pieces in
    sym (over_found c.args.bucket ps ∙ covered_by (find (is_over c.args.bucket) ps) c.may_activate.result c.may_activate.ensures ∙ ap covers_of c.in-Ok.is)

pub returns-in-Err-Differs : goal.returns-in-Err-Differs
returns-in-Err-Differs c =
    let ps = c.args.pieces.now.pieces in
    sym (over_found c.args.bucket ps ∙ covered_by (find (is_over c.args.bucket) ps) c.may_activate.result c.may_activate.ensures ∙ ap covers_of (c.in-Err-Differs.is ∙ ap Err c.in-Err-Differs.field-0-is))

pub returns-in-Err-NoBucket : goal.returns-in-Err-NoBucket
returns-in-Err-NoBucket c =
    let ps = c.args.pieces.now.pieces in
    sym (over_found c.args.bucket ps ∙ covered_by (find (is_over c.args.bucket) ps) c.may_activate.result c.may_activate.ensures ∙ ap covers_of (c.in-Err-NoBucket.is ∙ ap Err c.in-Err-NoBucket.field-0-is))
