use Rattle.std.proofs.Common.{List, refl, sym, subst, arith}
use Rattle.messages.specs.declared.step.NodePieces.{NodePieces}
use Rattle.merge_rounds.specs.Rounds.{HaveAllShown, IsOver}
use Rattle.merge_rounds.proofs.round.Round.send.Goals as goal

pub returns-then-not-have_all-clause-message : goal.returns-then-not-have_all-clause-message
returns-then-not-have_all-clause-message c = subst IsOver c.self.view_is (record {
  read = omega (arith, c.in_default.ensures.none);
  applied = λ all. absurd (c.if-not-have_all.ensures.no refl (subst (λ (s : List NodePieces). HaveAllShown c.self.inside.readers s) (sym c.deref.ensures.value) all));
})
