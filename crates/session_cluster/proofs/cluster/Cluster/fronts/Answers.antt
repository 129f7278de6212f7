use Rattle.std.proofs.Common.{ap, ◌∙◌}
use Rattle.std.specs.List.{find}
use Rattle.session_cluster.specs.Cells.{Cell}
use Rattle.session_cluster.specs.Noted.{is_for}
use Rattle.session_cluster.specs.declared.searching.LineFronts.{LineFronts}
use Rattle.session_cluster.proofs.NotedLists.{shown_noted, none_noted}
use Rattle.session_cluster.proofs.cluster.Cluster.fronts.Goals as goal

pub returns-in-Some : goal.returns-in-Some
returns-in-Some g c =
    shown_noted (λ (f : LineFronts). f.line) (λ (f : LineFronts). f.fronts) c.args.line _ c.in-Some.noted.now c.items.result.now
    (c.in-Some.ensures ∙ ap (find (is_for (λ (f : LineFronts). f.line) c.args.line)) (c.deref.ensures.value ∙ ap (λ (x : Cell). x.fronts) c.self.view_is)) c.items.ensures

pub returns-in-None : goal.returns-in-None
returns-in-None g c =
    none_noted (λ (f : LineFronts). f.line) (λ (f : LineFronts). f.fronts) c.args.line _
    (c.in-None.ensures ∙ ap (find (is_for (λ (f : LineFronts). f.line) c.args.line)) (c.deref.ensures.value ∙ ap (λ (x : Cell). x.fronts) c.self.view_is))
