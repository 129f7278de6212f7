use Rattle.std.proofs.Common.{sym, ◌∙◌, codes}
use Rattle.feed_lines.proofs.Rising.{found_rises}
use Rattle.line_values.specs.View.{view}
use Rattle.feed_lines.specs.Tests.{beside_of}
use Rattle.feed_lines.proofs.CauseOrder.{refused_kind, refused_options, refused_condition, whole_operation}
use Rattle.feed_lines.proofs.operations.id_command.Goals as goal

pub kind_said-requires : goal.kind_said-requires
kind_said-requires c = found_rises c.get.result (view c.args.line.now) (codes "fields") c.requires c.get.ensures

pub returns-in-Err : goal.returns-in-Err
returns-in-Err c = rw c.fault_by.ensures
    (refused_kind c.args.schema.now c.args.verb c.args.id (beside_of (view c.args.line.now)) c.are_options-right.result c.in-Err.fault (rw (c.get-condition.ensures, c.get-create.ensures, c.get-via.ensures) at c.are_options-right.ensures)
    (rw c.get.ensures at c.in-Err.ensures))

pub returns-then-not-right : goal.returns-then-not-right
returns-then-not-right c = rw c.bad.ensures
    (refused_options c.args.schema.now c.args.verb c.args.id (beside_of (view c.args.line.now)) c.in-Ok.kind (sym (rw (c.get-condition.ensures, c.get-create.ensures, c.get-via.ensures) at c.are_options-right.ensures) ∙ c.if-not-right.true)
    (rw c.get.ensures at c.in-Ok.ensures))

pub returns-in-Err-condition_said : goal.returns-in-Err-condition_said
returns-in-Err-condition_said c =
    refused_condition c.args.schema.now c.args.verb c.args.id (beside_of (view c.args.line.now)) c.in-Ok.kind c.in-Err-condition_said.fault (sym (rw (c.get-condition.ensures, c.get-create.ensures, c.get-via.ensures) at c.are_options-right.ensures) ∙ c.if-not-right.false)
    (rw c.get.ensures at c.in-Ok.ensures) (rw c.get-condition.ensures at c.in-Err-condition_said.ensures)

pub returns : goal.returns
returns c =
    whole_operation c.args.schema.now c.args.verb c.args.id (beside_of (view c.args.line.now)) c.in-Ok.kind c.in-Ok-condition_said.condition c.create_in.result c.via_in.result
    (sym (rw (c.get-condition.ensures, c.get-create.ensures, c.get-via.ensures) at c.are_options-right.ensures) ∙ c.if-not-right.false)
    (rw c.get.ensures at c.in-Ok.ensures) (rw c.get-condition.ensures at c.in-Ok-condition_said.ensures) (rw c.get-create.ensures at c.create_in.ensures) (rw c.get-via.ensures at c.via_in.ensures)
