use Rattle.std.proofs.Common.{◌<◌, ◌≤◌, length, map, refl, ◌∙◌, subst, rules, arith, IfSome}
use Rattle.search_seats.specs.Searches.{ReadsAt, view_by}
use Rattle.search_seats.proofs.Keeping.{keep_all, keep_on}
use Rattle.search_seats.proofs.ReadLaws.{none_read, read_more, all_read, few_read}
use Rattle.search_seats.proofs.reading.read_all.Goals as goal

pub loop-lane-init : goal.loop-lane-init
loop-lane-init c = (keep_all c.args.seats.now.items, refl, none_read _ _ _ _ c.new-fronts.ensures.items c.new-sum.ensures)

pub read_at-requires-clause-few : goal.read_at-requires-clause-few
read_at-requires-clause-few c =
    let below : c.loop-lane.lane < length c.loop-lane.seats.items = search rules in
    few_read _ _ c.loop-lane.lane c.loop-lane.seats.items _ c.loop-lane.sum c.loop-lane.invariant.2 below (omega (arith, c.requires.few, c.loop-lane.invariant.1))

pub returns-in_err-front-clause-keeps : goal.returns-in_err-front-clause-keeps
returns-in_err-front-clause-keeps c = keep_on _ _ _ c.loop-lane.invariant.0 c.in_err-front.ensures.keeps

pub returns-in_default-clause-keeps : goal.returns-in_default-clause-keeps
returns-in_default-clause-keeps c = keep_on _ _ _ c.loop-lane.invariant.0 c.in_ok-front.ensures.keeps

pub returns-in_err-push-clause-keeps : goal.returns-in_err-push-clause-keeps
returns-in_err-push-clause-keeps c = keep_on _ _ _ c.loop-lane.invariant.0 c.in_ok-front.ensures.keeps

pub loop-lane-preserved : goal.loop-lane-preserved
loop-lane-preserved c =
    let lane = c.loop-lane.lane in
    let seats = c.loop-lane.seats.items in
    let seats' = c.read_at.new.seats.items in
    let sum = c.loop-lane.sum in
    let sum' = c.read_at.new.sum in
    let read : ReadsAt lane seats seats' c.in-Some.front sum sum' = subst (λ o. IfSome o (λ front. ReadsAt lane seats seats' front sum sum')) c.in-Some.is c.in_ok-front.ensures.read in (
      keep_on _ _ _ c.loop-lane.invariant.0 c.in_ok-front.ensures.keeps,
      c.in_ok-front.ensures.many ∙ c.loop-lane.invariant.1,
      read_more _ _ lane seats seats' _ _ _ sum sum' c.loop-lane.invariant.2 read c.in_ok-push.ensures.items,
    )

pub returns-clause-read : goal.returns-clause-read
returns-clause-read c =
    let seats = c.loop-lane.seats.items in
    let past : length seats ≤ c.loop-lane.lane = search rules in
    let so = all_read _ _ c.loop-lane.lane seats _ _ c.loop-lane.invariant.2 past in record {
      known = so.known;
      seats_are = so.seats_are;
      fronts_are = c.of.ensures ∙ so.fronts_are;
      answer_is = c.in_ok-answer.ensures _ _ (map view_by so.known) so.summed;
    }
