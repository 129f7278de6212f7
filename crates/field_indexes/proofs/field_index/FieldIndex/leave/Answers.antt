use Rattle.std.proofs.Common.{ap}
use Rattle.field_indexes.proofs.KeptLaws.{rises_of, words_without}
use Rattle.field_indexes.proofs.field_index.FieldIndex.leave.Goals as goal

pub drop_words-requires : goal.drop_words-requires
drop_words-requires c = rises_of c.self.inside.column.values c.self.inside.kept c.self.inside.words c.self.invariant

pub invariant_of-self : goal.invariant_of-self
invariant_of-self c =
    words_without c.self.inside.column.values c.clear-2.new.self.values c.self.inside.kept c.clear.new.self c.self.inside.words c.drop_words.new.words c.args.local c.words_at.result.now c.self.invariant
    c.words_at.ensures (ap (λ h. h.values) c.clear-2.ensures) c.clear.ensures c.drop_words.ensures
