use Rattle.std.proofs.Common.{◌≡◌, length}
use Rattle.conditions.specs.Chains.{finished}
use Rattle.conditions.specs.Views.{formula_of, links_of, chain_of}
use Rattle.conditions.proofs.chains.Chain.finish.Given as goal

-- the tree so far and the links that are left say the same as all
abbrev pub invariant-fold : goal.invariant-fold
invariant-fold g l = finished l.joint (formula_of l.tree) (links_of l.links.items) ≡ finished l.joint (formula_of l.fn.last) (chain_of l.fn.self)

abbrev pub decreases-fold : goal.decreases-fold
decreases-fold g l = length l.links.items
