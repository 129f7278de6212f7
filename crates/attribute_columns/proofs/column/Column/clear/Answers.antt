use Rattle.attribute_columns.proofs.KeptLaws.{rises_of, kept_without}
use Rattle.attribute_columns.proofs.column.Column.clear.Goals as goal

pub remove_all-requires : goal.remove_all-requires
remove_all-requires c = rises_of c.self.inside.values c.self.inside.lists c.self.invariant

pub invariant_of-self : goal.invariant_of-self
invariant_of-self c =
    kept_without c.self.inside.values c.clear.new.self c.self.inside.lists c.remove_all.new.lists c.args.local c.numbers_at.result.now c.self.invariant
    c.numbers_at.ensures c.clear.ensures c.remove_all.ensures.ids c.remove_all.ensures.some
