use Rattle.std.proofs.Common.{◌/◌, ℕ, ℤ, List, refl, sym, ap₂, ◌∙◌, map, take, drop, length}
use Rattle.proof_basics.proofs.Results.{if_ok}
use Rattle.match_views.specs.Merging.{joined}
use Rattle.match_views.proofs.RangeLaws.{united_none, united_halves, map_none, half_of, first_half, second_half, lists_take, lists_drop}
use Rattle.match_views.proofs.ranges.+united.Goals as goal

pub returns-then-is_empty : goal.returns-then-is_empty
returns-then-is_empty t c = λ name field rows h. united_none name field rows (map (λ p. (p.0, p.1.now)) c.args.parts.now) c.new.result.items (map_none (λ p. (p.0, p.1.now)) c.args.parts.now (sym c.is_empty.ensures ∙ c.if-is_empty.true)) c.new.ensures.items

pub returns : goal.returns
returns t c = λ name field rows h.
    let ps = map {B = ℤ × List ℕ} (λ p. (p.0, p.1.now)) c.args.parts.now in
    let half = length c.args.parts.now / 2 in
    let low = half_of (λ p. (p.0, p.1.now)) name field rows c.args.parts.now _ (take half ps) c.in_ok-low.low.items (first_half (λ p. (p.0, p.1.now)) half c.args.parts.now _ refl) c.in_ok-low.ensures (lists_take name field rows ps half h) in
    let high = half_of (λ p. (p.0, p.1.now)) name field rows c.args.parts.now _ (drop half ps) c.in_ok-high.high.items (second_half (λ p. (p.0, p.1.now)) half c.args.parts.now _ refl) c.in_ok-high.ensures (lists_drop name field rows ps half h) in
    if_ok c.join.result (λ ids e. united_halves name field rows ps half c.in_ok-low.low.items c.in_ok-high.high.items ids.items low high (e ∙ ap₂ joined c.deref.ensures.value c.deref-2.ensures.value)) c.join.ensures
