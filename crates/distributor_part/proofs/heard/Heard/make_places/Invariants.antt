-- no other order is kept
use Rattle.std.proofs.Common.{◌≡◌}
use Rattle.std.specs.List.{AllByRecursion}
use Rattle.distributor_part.specs.Orders.{IsOrder}
use Rattle.distributor_part.proofs.heard.Heard.make_places.Given as goal

abbrev pub invariant-loop : goal.invariant-loop
invariant-loop l = record {
  kept : AllByRecursion (IsOrder l.self-inside.state) l.self-inside.orders.items;
  same : l.self-inside.state ≡ l.initial.self-inside.state;
}
