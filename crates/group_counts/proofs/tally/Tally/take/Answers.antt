use Rattle.std.proofs.Common.{◌≡◌, ◌≤◌, ◌+◌, length, drop, sym, ap, subst, arith}
use Rattle.group_counts.specs.Tallies.{AreSmall}
use Rattle.group_counts.proofs.FigureLaws.{all-wide, small-all, small-append, small-take, small-drop}
use Rattle.group_counts.proofs.tally.Tally.take.Goals as goal

pub take_values-requires : goal.take_values-requires
take_values-requires c =
    let count : c.self.inside.count ≡ c.args.self.now.count = ap (λ t. t.count) c.self.view_is in
    let fits : c.self.inside.count ≤ 9223372036854775807 = omega (arith, count, c.requires.few) in
    record {
      small = subst (AreSmall 9223372036854775807) (sym c.deref_mut.ensures.value) (all-wide c.self.inside.count 9223372036854775807 c.self.inside.values.items fits c.self.invariant);
      same = c.requires.same;
    }

pub invariant_of-self : goal.invariant_of-self
invariant_of-self c =
    let more = c.self.inside.count + 1 in
    small-take more c.self.inside.values.len _ (small-append more c.take_values.new.values (drop (length c.take_values.new.values) c.self.inside.values.items)
    (c.take_values.ensures.small c.self.inside.count (subst (AreSmall c.self.inside.count) (sym c.deref_mut.ensures.value) c.self.invariant))
    (small-drop more (length c.take_values.new.values) c.self.inside.values.items (small-all c.self.inside.count c.self.inside.values.items c.self.invariant)))
