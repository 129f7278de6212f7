use Rattle.std.proofs.Common.{◌∙◌, inl, inr, refl, subst}
use Rattle.lane_core.specs.Advancing.{IsAdvance}
use Rattle.lane_core.proofs.Running.{may_advance, go_on, may_close_over, may_close_short, finish_over, finish_short}
use Rattle.lane_core.proofs.lane.finish.Goals as goal

pub loop-lane-init : goal.loop-lane-init
loop-lane-init g c = ((c.requires.0, c.requires.1, inl refl), refl)

pub advance-requires : goal.advance-requires
advance-requires g c = let i = c.loop-lane.invariant.0 in may_advance _ _ _ _ i.1 i.2

pub loop-lane-preserved : goal.loop-lane-preserved
loop-lane-preserved g c = let i = c.loop-lane.invariant.0 in ((i.0, i.1, go_on _ _ _ _ _ i.1 i.2 c.in-More.ensures.advances), c.advance.ensures.shelf ∙ c.loop-lane.invariant.1)

pub close-requires : goal.close-requires
close-requires g c = let i = c.loop-lane.invariant.0 in elim c.in-Done.is [
  | inl done ↦ may_close_over _ _ _ _ _ i.1 i.2 (subst (IsAdvance _ _ _) done c.advance.ensures.advances)
  | inr short ↦ may_close_short _ _ _ _ _ i.1 i.2 (subst (IsAdvance _ _ _) short c.advance.ensures.advances)
]

pub returns-in-Done-clause-finish : goal.returns-in-Done-clause-finish
returns-in-Done-clause-finish g c = let i = c.loop-lane.invariant.0 in elim c.in-Done.is [
  | inl done ↦ finish_over _ _ _ _ _ _ _ i.1 i.2 (subst (IsAdvance _ _ _) done c.advance.ensures.advances) c.close.ensures.closes
  | inr short ↦ finish_short _ _ _ _ _ _ _ i.1 i.2 (subst (IsAdvance _ _ _) short c.advance.ensures.advances) c.close.ensures.closes
]
