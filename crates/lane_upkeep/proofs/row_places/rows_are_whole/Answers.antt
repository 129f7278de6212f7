use Rattle.std.proofs.Common.{◌≡◌, ◌∙◌, ◌<◌, IfSome, length, get_or, ap, subst, rules}
use Rattle.std.proofs.lemmas.List.{get_or_default}
use Rattle.bucket_ids.specs.Buckets.{Low}
use Rattle.bucket_db.specs.Rows.{Rows}
use Rattle.distributor_part.specs.Parts.{Part}
use Rattle.lane_states.specs.LaneStates.{part_of}
use Rattle.lane_upkeep.proofs.row_places.rows_are_whole.Goals as goal

pub returns-clause-of_lane : goal.returns-clause-of_lane
returns-clause-of_lane c =
    let lane = c.args.lane.now in
    let o = c.args.owner.now in
    let items = lane.parts.items in
    let p = c.index.result.now in
    let here : o.distributor < length items = subst (λ n. n < length items) c.from.ensures (search rules) in
    let read : p ≡ get_or items o.distributor p = subst (λ n. p ≡ get_or items n p) c.from.ensures c.index.ensures in
    let is : p ≡ part_of lane o.distributor = read ∙ get_or_default items o.distributor _ _ here in
    let of_lane : p.lane ≡ lane.lane = ap (λ (q : Part). q.lane) is ∙ ((((c.requires.passing).1.keeps).keeps).parts_are o.distributor).lane_is in
    subst (λ (q : Part). IfSome q.rows (λ (r : Rows). r.lane ≡ lane.lane)) is (subst (λ (l : Low). IfSome p.rows (λ (r : Rows). r.lane ≡ l)) of_lane c.rows-rows.ensures.of_lane)
