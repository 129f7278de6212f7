-- What holds of the operations under way, of the lane's value as of its jobs.
use Rattle.std.proofs.Common.{◌≡◌, ℕ, List, Some, slice_get, subst}
use Rattle.lane_calls.specs.declared.progress.UnderWay.{UnderWay}
use Rattle.lane_calls.specs.LaneValues.{OfNone, OfFirst}
use Rattle.lane_core.specs.declared.work.Job.{Job}
use Rattle.lane_core.specs.Works.{under_way_at, under_way_in, OfNoJob, OfFirstJob}
use Rattle.lane_core.proofs.Places.{get-map, get-map-back}

module _ (P : Job → Type 0) (Q : UnderWay → Type 0) (jobs : List Job) (back : (at : ℕ) (j : Job) → slice_get jobs at ≡ Some j → Q (under_way_at j) → P j) where
  pub none-under : OfNoJob P jobs → OfNone Q (under_way_in jobs)
  none-under none at u got is =
      let b = get-map-back under_way_at jobs at u got in
      none at b.0 b.1 (back at b.0 b.1 (subst Q b.2 is))

  pub first-under : (line : ℕ) → ((at : ℕ) (j : Job) → slice_get jobs at ≡ Some j → P j → Q (under_way_at j)) → OfFirstJob P jobs line → OfFirst Q (under_way_in jobs) line
  first-under line there h = record {
    at = h.at;
    operation = under_way_at h.job;
    place = record { found = get-map under_way_at jobs h.at h.job (h.place).found; line_is = (h.place).line_is };
    is = there h.at h.job (h.place).found h.is;
    first = λ k u less got is. let b = get-map-back under_way_at jobs k u got in h.first k b.0 less b.1 (back k b.0 b.1 (subst Q b.2 is));
  }
