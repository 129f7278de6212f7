use Rattle.std.proofs.Common.{◌≡◌, sym, ◌∙◌, ap, length}
use Rattle.generation_guard.specs.Histories.{head_of}
use Rattle.generation_guard.proofs.Adding.{adds_moves}
use Rattle.generation_guard.proofs.history.extend.Goals as goal

pub compare_exchange-found-requires : goal.compare_exchange-found-requires
compare_exchange-found-requires c =
    let own = c.front.inside.seen in
    let head : c.args.head.now ≡ head_of own.book = c.requires ∙ sym (ap (λ b. b.history) c.front.view_is) in
    let again = c.again-seen.ensures in
    let offer = c.plain-offer.ensures in
    let pen = c.no_pen-pen.ensures in (
      ap (λ w. w.tracked) head,
      ap (λ s. s.book) again ∙ sym (ap (λ w. w.book) head),
      pen.0 ∙ (ap (λ s. s.book) again ∙ sym (ap (λ w. w.book) head)),
      offer.0,
      rw (ap (λ w. w.key) head, pen.1, offer.1, offer.3) (adds_moves c.again-seen.result.log c.args.change.now c.front.inside.len (ap (λ s. length s.log) again ∙ sym c.front.invariant)),
    )
