use Rattle.sub_databases.proofs.PartLaws.{parts_dropped, place_gone, parts_of, all_have}
use Rattle.sub_databases.proofs.parts.SubDatabases.drop_bucket.Goals as goal

pub drop_rows-requires : goal.drop_rows-requires
drop_rows-requires c = all_have (parts_of c.self.inside.entries c.self.inside.ready) c.self.invariant

pub invariant_of-self : goal.invariant_of-self
invariant_of-self c = rw (c.drop_rows.ensures, c.remove_within.ensures) (parts_dropped (parts_of c.self.inside.entries c.self.inside.ready) c.args.bucket c.self.invariant)

pub returns-clause-places : goal.returns-clause-places
returns-clause-places c = λ id. rw (c.drop_rows.ensures, c.remove_within.ensures, ← c.self.view_is) (place_gone (parts_of c.self.inside.entries c.self.inside.ready) c.args.bucket id)
