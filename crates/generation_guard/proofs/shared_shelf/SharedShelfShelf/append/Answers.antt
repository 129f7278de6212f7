use Rattle.std.proofs.Common.{List, [], ◌∷◌, ◌++◌, ap, sym, ◌∙◌, append_assoc, drop}
use Rattle.std.proofs.lemmas.List.{append-nil}
use Rattle.view_changes.specs.declared.change.LaneChange.{LaneChange}
use Rattle.generation_guard.specs.Faces.{changes_in}
use Rattle.generation_guard.specs.Known.{Shared}
use Rattle.generation_guard.proofs.shared_shelf.SharedShelfShelf.append.Goals as goal

pub returns-clause-taken : goal.returns-clause-taken
returns-clause-taken g c =
    let handed = changes_in (drop c.self.inside.writer.behind c.self.inside.writer.log.items) in
    let more : List LaneChange → List LaneChange = λ cs. cs ++ c.args.change ∷ [] in
    record {
      first = [];
      parted = sym (ap (λ (s : Shared). more s.pending) c.self.view_is)
          ∙ (append_assoc handed c.self.inside.queue.items (c.args.change ∷ [])
          ∙ ap (λ (cs : List LaneChange). handed ++ cs) (sym (c.push_back_reserved.ensures.items ∙ ap more c.reserve.ensures.items)));
      shown = λ cs is. append-nil cs ∙ (is ∙ sym (ap (λ (s : Shared). s.shown) c.self.view_is));
    }
