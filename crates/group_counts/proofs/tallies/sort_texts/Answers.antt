use Rattle.std.proofs.Common.{bytes_eq}
use Rattle.std.specs.Cmp.Lexicographic.{nat_list_eq_equiv}
use Rattle.std.specs.String.{string_bytes, string_eq_equiv}
use Rattle.indexmap.proofs.MapLemmas.{lookup_permutation}
use Rattle.group_counts.proofs.tallies.sort_texts.Goals as goal

pub returns-clause-same : goal.returns-clause-same
returns-clause-same c = λ t.
    lookup_permutation string_eq_equiv c.args.tallies.now.entries c.sort_keys.new.self.entries c.sort_keys.ensures.reordered.0 c.sort_keys.ensures.unique (λ k. bytes_eq t (string_bytes k))
    (λ x y. nat_list_eq_equiv.congr t (string_bytes x) (string_bytes y))
