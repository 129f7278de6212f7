use Rattle.std.proofs.Common.{◌≡◌, ◌≤◌, ◌+◌, ◌*◌, ◌++◌, List, Some, length, sym, ap, subst, option_map, Bor, arith}
use Rattle.std.specs.Ordering.{int_eq}
use Rattle.indexmap.specs.IndexMap as table
use Rattle.indexmap.specs.IndexMap.{get_by_text}
use Rattle.query_groups.specs.declared.groups.GroupBy.{GroupBy}
use Rattle.documents.specs.Fields.{Contents}
use Rattle.group_counts.specs.Tallies.{AreKept}
use Rattle.group_counts.specs.Gathered.{IsGathered, gathered_as, outputs_by, documents_at}
use Rattle.group_counts.proofs.TallyLaws.{kept-wide}
use Rattle.group_counts.proofs.GatherLaws.{gathered-more}
use Rattle.group_counts.proofs.groups.Groups.add.Goals as goal

pub invariant_of-self-2 : goal.invariant_of-self-2
invariant_of-self-2 g c =
    let by = c.in-Some.by.now in
    let grouping = option_map (λ (b : Bor GroupBy). b.now) c.self.inside.by in
    let is : grouping ≡ Some by = ap (option_map (λ (b : Bor GroupBy). b.now)) c.in-Some.is in
    let views = c.self.inside.views in
    let many = length c.items-hits.result.now in
    let same : many ≡ length c.args.hits.now = ap length c.items-hits.ensures in
    let few : views * 137438953472 + many ≤ (views + 1) * 137438953472 = omega (arith, same, c.requires.hits) in (
      subst (λ ks. AreKept ks ((views + 1) * 137438953472) (table.get int_eq c.take_all.new.numbers)) (ap outputs_by (sym is))
          (kept-wide by.outputs (views * 137438953472 + many) ((views + 1) * 137438953472) (table.get int_eq c.take_all.new.numbers) few
          ((c.take_all.ensures.numbers).kept (views * 137438953472) ((c.in_ok-place_all.ensures.numbers).kept (views * 137438953472)
          (subst (λ ks. AreKept ks (views * 137438953472) (table.get int_eq c.self.inside.numbers)) (ap outputs_by is) c.self.invariant.0)))),
      subst (λ ks. AreKept ks ((views + 1) * 137438953472) (get_by_text c.take_all.new.texts)) (ap outputs_by (sym is))
          (kept-wide by.outputs (views * 137438953472 + many) ((views + 1) * 137438953472) (get_by_text c.take_all.new.texts) few
          ((c.take_all.ensures.texts).kept (views * 137438953472) ((c.in_ok-place_all.ensures.texts).kept (views * 137438953472)
          (subst (λ ks. AreKept ks (views * 137438953472) (get_by_text c.self.inside.texts)) (ap outputs_by is) c.self.invariant.1)))),
    )

pub returns-clause-documents : goal.returns-clause-documents
returns-clause-documents g c =
    let seen = g.V.Lists.seen c.args.view.now in
    let grouping = option_map (λ (b : Bor GroupBy). b.now) c.self.inside.by in
    let views = c.self.inside.views in
    let hits = c.items-hits.result.now in
    subst (λ hs. (docs : List Contents) → IsGathered docs c.args.self.now → IsGathered (docs ++ documents_at seen hs) (gathered_as grouping (views + 1) c.take_all.new.numbers c.take_all.new.texts)) c.items-hits.ensures
    (gathered-more grouping c.in-Some.by.now views (views + 1) c.self.inside.numbers c.place_all.new.numbers c.take_all.new.numbers c.self.inside.texts c.place_all.new.texts c.take_all.new.texts c.args.self.now (documents_at seen hits) (length hits)
    (ap (option_map (λ (b : Bor GroupBy). b.now)) c.in-Some.is) c.self.view_is c.keys_differ.ensures.numbers c.keys_differ.ensures.texts c.keys_differ-2.ensures.numbers c.keys_differ-2.ensures.texts
    (c.in_ok-place_all.ensures.numbers).counted (c.in_ok-place_all.ensures.texts).counted c.take_all.ensures.numbers c.take_all.ensures.texts)
