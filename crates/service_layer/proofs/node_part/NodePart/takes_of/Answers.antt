use Rattle.std.proofs.Common.{rules, ap, ◌∙◌, List}
use Rattle.std.specs.List.{filter}
use Rattle.std.proofs.lemmas.Fn.{filter_same}
use Rattle.documents.specs.declared.entry.Entry.{Entry}
use Rattle.view_changes.specs.Deeds.{is_seen}
use Rattle.node_model.specs.Telling.{kept_of}
use Rattle.service_layer.proofs.Treating.{no_items}
use Rattle.service_layer.proofs.Tellings.{none_told, none_newer_told, taken_told}
use Rattle.service_layer.proofs.node_part.NodePart.takes_of.Goals as goal

pub returns-then-is_empty : goal.returns-then-is_empty
returns-then-is_empty c = c.none.ensures ∙ none_told c.args.node (kept_of c.args.self.now) c.args.entries.now (no_items _ (search rules))

pub returns-then-not-has_newer : goal.returns-then-not-has_newer
returns-then-not-has_newer c = c.none-then-not-has_newer.ensures ∙ none_newer_told c.args.node (kept_of c.args.self.now) c.args.entries.now (search rules)

pub returns : goal.returns
returns c =
    let k = kept_of c.args.self.now in
    taken_told c.args.node k c.args.entries.now _ _
    (filter_same _ (is_seen k) _ (λ x b f' y. search rules) _ _ c.retain.ensures.filtered ∙ ap (λ (es : List Entry). filter (is_seen k) es) c.in_ok-list.ensures.list)
    c.takes.ensures
