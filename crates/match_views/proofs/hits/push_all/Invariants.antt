use Rattle.std.proofs.Common.{◌≡◌, ◌++◌, ◌<◌, map, take}
use Rattle.std.specs.List.{AllByRecursion}
use Rattle.match_views.proofs.hits.push_all.Given as goal

abbrev pub invariant-loop-local : goal.invariant-loop-local
invariant-loop-local l = (l.hits.items ≡ l.initial.hits.items ++ map (λ local. record { node = l.node; local = local }) (take l.local-index l.locals))
    × (AllByRecursion (λ hit. hit.local < 4294967296) l.initial.hits.items → AllByRecursion (λ hit. hit.local < 4294967296) l.hits.items)
