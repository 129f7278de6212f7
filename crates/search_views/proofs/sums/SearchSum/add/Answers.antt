use Rattle.std.proofs.Common.{◌≡◌, ◌+◌, length, ap, ◌∙◌, arith}
use Rattle.search_views.specs.Answers.{capped}
use Rattle.search_views.proofs.SumLaws.{count-more, covered-more, groups-more, views-more}
use Rattle.search_views.proofs.sums.SearchSum.add.Goals as goal

pub returns-clause-ok : goal.returns-clause-ok
returns-clause-ok g c = λ q w vs h.
    let v = g.V.Lists.seen c.args.view.now in
    let s = c.args.self.now in
    let nodes : length v.nodes ≡ 32 = c.measure.ensures.valid.many in
    let capped_sum : c.saturating_add-self.result ≡ capped (s.covered + c.measure.result) = omega (arith, c.saturating_add-self.ensures) in
    record {
      query = h.query;
      version = h.version;
      count = ap (λ hits. s.count + length hits) c.items-many.ensures ∙ count-more q s.query.now w s.version vs v c.in_ok-hits.hits s.count h.query h.version nodes c.in_ok-hits.ensures.hits h.count;
      covered = covered-more w s.version vs v s.covered c.measure.result c.saturating_add-self.result h.version h.covered c.measure.ensures.value capped_sum;
      by = c.in_ok-add.ensures.by ∙ h.by;
      groups = groups-more q s.query.now w s.version vs v c.in_ok-hits.hits s.groups c.add.new.self h.query h.version nodes c.in_ok-hits.ensures.hits c.in_ok-add.ensures.documents h.groups;
      views = c.in_ok-add.ensures.views ∙ views-more vs v s.groups.views h.views;
    }
