use Rattle.std.proofs.Common.{◌≡◌, ◌<◌, ◌∙◌, ℕ, List, [], ◌∷◌, ◌++◌, length, Option, Some, sym, ap, subst, slice_get, slice_set, arith}
use Rattle.lane_core.proofs.Places.{get-index}
use Rattle.lane_locks.specs.declared.lines.Line.{Line}
use Rattle.lane_locks.specs.declared.lines.Stage.{Stage}
use Rattle.lane_locks.specs.declared.lines.Stage.TheVariants.{Waiting}
use Rattle.lane_locks.specs.Lines.{feeder_at, lines_of, IsAbove, IsLast, IsWhole, AreLines, AreWaiting, AreLast}
use Rattle.lane_locks.proofs.Listing.{lines-push, last-push, waiting-push, feeder-is}
use Rattle.lane_locks.proofs.lines.LineList.push.Goals as goal

pub invariant_of-self-2 : goal.invariant_of-self-2
invariant_of-self-2 c =
    let F = c.self.inside.feeders in
    let ls = c.self.inside.lines.items in
    let last = c.self.inside.last.items in
    let f = c.feeder_of_key-feeder.result in
    let b : Option ℕ = c.index-before.result.now in
    let l : Line = record { number = c.args.number; key = c.args.key; operation = c.args.operation; via = c.args.via; before = b } in
    let inv = c.self.invariant in
    let many = (inv.2).many in
    let same : f ≡ feeder_at F l = c.feeder_of_key-feeder.ensures.0 ∙ feeder-is F ls l c.requires.key in
    let within : f < length last = (let less = c.feeder_of_key-feeder.ensures.1 in omega (arith, less, many)) in
    let found : slice_get last f ≡ Some b = get-index last f b within c.index-before.ensures in
    let before : IsLast F ls (length ls) (feeder_at F l) b = subst (λ (g : ℕ). IsLast F ls (length ls) g b) same ((inv.2).each f b found) in
    let above : IsAbove (lines_of ls) c.args.number = rw (← c.self.view_is) at c.requires.above in
    let items : c.push_reserved.new.self.items ≡ ls ++ l ∷ [] = c.push_reserved.ensures.items ∙ ap (λ (xs : List Line). xs ++ l ∷ []) c.in_ok-reserve.ensures.items in
    let stages : c.push_reserved-2.new.self.items ≡ c.self.inside.stages.items ++ Waiting ∷ []
    = c.push_reserved-2.ensures.items ∙ ap (λ (xs : List Stage). xs ++ Waiting ∷ []) c.in_ok-reserve-2.ensures.items in
    let count : c.len.result ≡ length ls = c.len.ensures ∙ (c.reserve.new.self.ok.0 ∙ ap (λ (xs : List Line). length xs) c.in_ok-reserve.ensures.items) in
    let whole : IsWhole l = record { number = c.requires.number; key_is = c.requires.key; own = c.requires.own; plain = c.requires.plain; via = c.requires.via } in (
      subst (AreLines F) (sym items) (lines-push F ls l inv.0 whole above before),
      subst (λ (xs : List Line). AreWaiting xs c.push_reserved-2.new.self.items) (sym items) (subst (AreWaiting (ls ++ l ∷ [])) (sym stages) (waiting-push F ls l c.self.inside.stages.items inv.1)),
      subst (λ (xs : List Line). AreLast F xs (slice_set last f (Some c.len.result))) (sym items)
          (subst (λ (n : ℕ). AreLast F (ls ++ l ∷ []) (slice_set last f (Some n))) (sym count) (subst (λ (g : ℕ). AreLast F (ls ++ l ∷ []) (slice_set last g (Some (length ls)))) (sym same) (last-push F ls l last inv.2))),
    )
