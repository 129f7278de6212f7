-- Which views a sum has.
use Rattle.std.specs.Prelude.{◌≡◌, ℕ, List, length}
use Rattle.view_changes.specs.Views.{View}
use Rattle.query_text.specs.Grammar.{said_of}
use Rattle.query_text.specs.declared.query.Query.{Query}
use Rattle.group_counts.specs.Gathered.{IsGathered}
use Rattle.search_views.specs.Answers.{all_matched, all_covered, capped}
use Rattle.search_views.specs.declared.sums.SearchSum.{SearchSum}

-- the sum is that of a query under a version over these views
pub record IsSummed (q : Query) (w : ℕ) (vs : List View) (s : SearchSum) : Type 0 where
  pub query : s.query.now ≡ q
  pub version : s.version ≡ w
  pub count : s.count ≡ length (all_matched (said_of q) w vs)
  pub covered : s.covered ≡ capped (all_covered w vs)
  pub by : s.groups.by ≡ q.group
  pub groups : IsGathered (all_matched (said_of q) w vs) s.groups
  pub views : s.groups.views ≡ length vs
