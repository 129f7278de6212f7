use Rattle.std.proofs.Common.{◌≡◌, ℤ, sym, ap, subst, ◌∙◌, None, is_some, to_z, of_z, rules}
use mir.Syntax.{w64}
use mir.Val.{SFits}
use Rattle.std.proofs.lemmas.Int.{to_z-of_z}
use Rattle.std.specs.Prelude.{IsSome}
use Rattle.std.specs.Ordering.{int_eq}
use Rattle.indexmap.specs.IndexMap as table
use Rattle.group_counts.proofs.PlaceLaws.{no_place, places-put}
use Rattle.group_counts.proofs.tallies.place_number.Goals as goal

pub returns-in_ok-insert-clause-places : goal.returns-in_ok-insert-clause-places
returns-in_ok-insert-clause-places c =
    let old = c.args.tallies.now in
    let new = c.insert.new.self in
    let number : ℤ = to_z w64 (of_z w64 c.args.number) in
    let absent : table.get int_eq old number ≡ None = no_place (table.get int_eq old number) (sym c.contains_key.ensures ∙ c.if-not-contains_key.true) in
    places-put c.args.kinds.now int_eq old.entries new.entries number c.in_ok-tally.tally (int_eq number) (table.get int_eq old) (table.get int_eq new)
    absent c.in_ok-tally.ensures c.in_ok-insert.ensures.entries c.in_ok-insert.ensures.updates.0

pub returns-in_ok-insert-clause-placed : goal.returns-in_ok-insert-clause-placed
returns-in_ok-insert-clause-placed c =
    let fits : SFits w64 c.args.number = search rules in
    subst (λ n. IsSome (table.get int_eq c.insert.new.self n)) (to_z-of_z w64 c.args.number fits) (ap is_some c.in_ok-insert.ensures.updates.1)

pub returns-else-not-contains_key-clause-placed : goal.returns-else-not-contains_key-clause-placed
returns-else-not-contains_key-clause-placed c =
    let fits : SFits w64 c.args.number = search rules in
    subst (λ n. IsSome (table.get int_eq c.args.tallies.now n)) (to_z-of_z w64 c.args.number fits) (sym c.contains_key.ensures ∙ c.if-not-contains_key.false)
