use Rattle.std.proofs.Common.{◌≡◌, ◌<◌}
use Rattle.std.specs.List.{AllByRecursion}
use Rattle.match_views.specs.Hits.{hits_below}
use Rattle.match_views.proofs.hits.matches.Given as goal

abbrev pub invariant-loop-node : goal.invariant-loop-node
invariant-loop-node g l = (l.items.items ≡ hits_below l.query l.version l.node (g.L.Lists.seen l.lists)) × AllByRecursion (λ hit. hit.local < 4294967296) l.items.items
