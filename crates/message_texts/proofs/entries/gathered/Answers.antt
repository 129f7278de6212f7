use Rattle.std.proofs.Common.{◌∙◌, Option, IfSome, ap, sym, subst}
use Rattle.documents.specs.declared.entry.Entry.{Entry}
use Rattle.message_texts.specs.Fitting.{FitsEntry}
use Rattle.serde_json.specs.View.{items_view}
use Rattle.entry_maps.specs.EntryCodes.{Entries}
use Rattle.message_texts.specs.Entries.{gathered}
use Rattle.message_texts.proofs.JoinLaws.{none_fit, gather_more}
use Rattle.message_texts.proofs.entries.gathered.Goals as goal

pub loop-item-init : goal.loop-item-init
loop-item-init c = (ap (λ (m : Entries). gathered c.args.schema.now c.args.bucket m (items_view c.args.items.now)) c.new-map.ensures, none_fit c.args.schema.now c.args.bucket c.new-map.result c.new-map.ensures)

pub loop-item-preserved : goal.loop-item-preserved
loop-item-preserved c =
    let types = c.args.schema.now in (
      gather_more types c.args.bucket c.loop-item.map c.join.new.map c.args.items.now c.loop-item.item-index c.item-item.result c.in-Some.entry c.loop-item-test.true c.item-item.is (sym c.in-Some.is ∙ c.in_ok-entry.ensures.value) (c.in_ok-join.ensures.joined c.if-not-branch.false) ∙ c.loop-item.invariant.0,
      c.in_ok-join.ensures.fits types (subst (λ (o : Option Entry). IfSome o (FitsEntry types)) c.in-Some.is c.in_ok-entry.ensures.fits) c.loop-item.invariant.1 c.if-not-branch.false,
    )
