use Rattle.std.proofs.Common.{List, sym, subst}
use Rattle.messages.specs.declared.step.NodePieces.{NodePieces}
use Rattle.merge_rounds.specs.Rounds.{HaveAllShown, RoundState}
use Rattle.merge_rounds.proofs.round.Round.is_whole.Goals as goal

pub returns-clause-no : goal.returns-clause-no
returns-clause-no c is_no all =
    let here : HaveAllShown c.self.inside.readers c.self.inside.shown.items = subst (λ (r : RoundState). HaveAllShown r.readers r.shown) (sym c.self.view_is) all in
    c.have_all.ensures.no is_no (subst (λ (s : List NodePieces). HaveAllShown c.self.inside.readers s) (sym c.deref.ensures.value) here)
