use Rattle.std.proofs.Common.{◌≡◌, ◌∙◌, ◌&&◌, ◌||◌, not, Bool, sym, ap}
use Rattle.node_sets.specs.Members.{has_node}
use Rattle.pass_machine.proofs.Silent.{not_askew}
use Rattle.pass_machine.proofs.skips.askew.Goals as goal

pub returns : goal.returns
returns c = λ b n none.
    let has = c.difference.ensures n ∙ ap (λ (x : Bool). x && not (has_node c.args.note.now.holders n))
    (c.intersection.ensures n ∙ ap (λ (x : Bool). has_node c.args.serving n && x) (c.union-nodes.ensures n)) in
    not_askew b (has_node c.args.serving n) (has_node c.args.note.now.holders n) (has_node c.args.note.now.over n) (has_node c.args.note.now.inside n) (sym has ∙ none)
