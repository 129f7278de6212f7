use Rattle.std.proofs.Common.{◌≡◌, length}
use Rattle.conditions.specs.Chains.{carried, added}
use Rattle.conditions.specs.Views.{formula_of, links_of, chain_of}
use Rattle.conditions.proofs.chains.Chain.add.Given as goal

-- the term so far joins the links that are left as the new one joins all
abbrev pub invariant-carry : goal.invariant-carry
invariant-carry g l = carried l.joint l.rank (formula_of l.tree) (links_of l.links.items) ≡ added l.joint (formula_of l.fn.term) (chain_of l.fn.self)

abbrev pub decreases-carry : goal.decreases-carry
decreases-carry g l = length l.links.items
