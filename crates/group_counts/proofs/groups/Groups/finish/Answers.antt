use Rattle.std.proofs.Common.{Bor, option_map, ap, ◌∙◌}
use Rattle.query_groups.specs.declared.groups.GroupBy.{GroupBy}
use Rattle.group_counts.proofs.GatherLaws.{AreSorted, groups-pushed, groups-none}
use Rattle.group_counts.proofs.groups.Groups.finish.Goals.{in-Some+in_ok-sort_numbers+in_ok-sort_texts+in_ok-push_numbers+in_ok-push_texts, in_default}
use Rattle.group_counts.proofs.groups.Groups.finish.Goals as goal

pub returns : goal.returns
returns c = λ docs h.
    let by = option_map (λ (b : Bor GroupBy). b.now) c.self.inside.by in
    elim c.match-self.branch [
      | in-Some+in_ok-sort_numbers+in_ok-sort_texts+in_ok-push_numbers+in_ok-push_texts w ↦
          c.of.ensures ∙ ap (λ v. v.items) w.groups-is
          ∙ groups-pushed by w.in-Some.by.now c.self.inside.views c.self.inside.numbers w.sort_numbers.new.tallies c.self.inside.texts w.sort_texts.new.tallies c.args.self w.items.result.now w.items-in-Some.result.now c.new-groups.result.items w.push_numbers.new.groups.items w.push_texts.new.groups.items docs
          c.new-groups.ensures.items w.items.ensures w.items-in-Some.ensures w.in_ok-push_numbers.ensures w.in_ok-push_texts.ensures (ap (option_map (λ (b : Bor GroupBy). b.now)) w.in-Some.is) c.self.view_is
          (record {
            apart = w.keys_differ.ensures.numbers;
            texts_apart = w.keys_differ.ensures.texts;
            still_apart = w.in_ok-sort_numbers.ensures.unique;
            texts_still_apart = w.in_ok-sort_texts.ensures.unique;
            sorted = w.in_ok-sort_numbers.ensures.sorted;
            texts_sorted = w.in_ok-sort_texts.ensures.sorted;
            same = w.in_ok-sort_numbers.ensures.same;
            texts_same = w.in_ok-sort_texts.ensures.same;
          }) h
      | in_default w ↦
          c.of.ensures ∙ ap (λ v. v.items) w.groups-is ∙ c.new-groups.ensures.items
          ∙ groups-none by c.self.inside.views c.self.inside.numbers c.self.inside.texts c.args.self docs (ap (option_map (λ (b : Bor GroupBy). b.now)) w.in_default.is) c.self.view_is
    ]
