use Rattle.std.proofs.Common.{◌∙◌, sym, ap}
use Rattle.sub_databases.specs.Changes.{is_remove_of}
use Rattle.sub_databases.proofs.PartLaws.{parts_left, place_left, parts_of}
use Rattle.sub_databases.proofs.parts.SubDatabases.forget.Goals as goal

pub invariant_of-self : goal.invariant_of-self
invariant_of-self c =
    let its = ap (is_remove_of c.args.stamp) (sym c.get_at.ensures) ∙ sym c.is_remove_of.ensures ∙ c.if-is_remove_of.true in
    rw c.remove_at.ensures (parts_left (parts_of c.self.inside.entries c.self.inside.ready) c.args.id.now c.args.stamp its c.self.invariant)

pub returns-then-is_remove_of-clause-places : goal.returns-then-is_remove_of-clause-places
returns-then-is_remove_of-clause-places c = λ other.
    let its = ap (is_remove_of c.args.stamp) (sym c.get_at.ensures) ∙ sym c.is_remove_of.ensures ∙ c.if-is_remove_of.true in
    rw (c.remove_at.ensures, ← c.self.view_is) (place_left (parts_of c.self.inside.entries c.self.inside.ready) c.args.id.now c.args.stamp its other)
