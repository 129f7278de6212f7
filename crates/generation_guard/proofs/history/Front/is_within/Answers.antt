use Rattle.std.proofs.Common.{ap, subst, arith, List}
use mathlib.Core.List.{IsPrefix}
use Rattle.view_changes.specs.declared.change.LaneChange.{LaneChange}
use Rattle.generation_guard.specs.Histories.{Beginning}
use Rattle.generation_guard.proofs.Prefixes.{shorter_begins, on_leb}
use Rattle.generation_guard.proofs.history.Front.is_within.Goals as goal

pub returns-clause-within : goal.returns-clause-within
returns-clause-within c =
    let these = c.self.inside.seen.log in
    let those = c.other.inside.seen.log in
    let both = c.learn.new.self.log in
    let this : IsPrefix these both = subst (λ (l : List LaneChange). IsPrefix l both) (ap (λ s. s.log) c.again-both.ensures) c.learn.ensures.2 in
    on_leb _ _ _ (λ le. subst (λ (b : Beginning). IsPrefix b.changes c.args.other.now.changes) c.self.view_is
    (subst (λ (b : Beginning). IsPrefix these b.changes) c.other.view_is
    (shorter_begins these those both this c.learn.ensures.3 (omega (arith, c.self.invariant, c.other.invariant, le)))))
