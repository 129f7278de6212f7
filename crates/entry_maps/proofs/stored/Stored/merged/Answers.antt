use Rattle.std.proofs.Common.{◌+◌, ◌++◌, ◌∷◌, [], cond, drop, ap, ap₂, sym, ◌∙◌}
use Rattle.std.proofs.lemmas.List.{append_assoc, append-nil}
use Rattle.entry_rows.specs.Chunks.{place}
use Rattle.entry_maps.specs.Merging.{merged}
use Rattle.entry_maps.specs.Slots.{slots_in}
use Rattle.entry_maps.proofs.MergeLaws.{head_there, step_is, end_is, none_merged}
use Rattle.entry_maps.proofs.stored.Stored.merged.Goals as goal

pub loop-taken-preserved : goal.loop-taken-preserved
loop-taken-preserved c =
    let xs = slots_in c.args.self.now in
    let ys = slots_in c.args.other.now in
    let i = place c.args.self.now.list c.loop-taken.one in
    let j = place c.args.other.now.list c.loop-taken.two in
    let t = c.in-Some.taken in
    let both = slots_in c.loop-taken.both in
    let inv = c.loop-taken.invariant in
    let o = head_there (λ s. s.now) xs i c.slot.result c.slot.ensures.slot c.slot.ensures.within c.slot.ensures.none in
    let p = head_there (λ s. s.now) ys j c.slot-in-loop-taken.result c.slot-in-loop-taken.ensures.slot c.slot-in-loop-taken.ensures.within c.slot-in-loop-taken.ensures.none in
    let step = step_is xs ys i j _ _ (t.slot.now, (t.own, t.other)) o p (sym c.in-Some.ensures) in
    let moved = ap₂ (λ k m. merged (drop k xs) (drop m ys)) c.next_if-one.ensures.next c.next_if-two.ensures.next in (
      c.in_ok-append.ensures.counted,
      c.next_if-one.ensures.seat,
      c.next_if-two.ensures.seat,
      c.next_if-one.ensures.within inv.3,
      c.next_if-two.ensures.within inv.4,
      ap₂ (λ l r. l ++ r) (c.in_ok-append.ensures.ok ∙ ap (λ s. both ++ s ∷ []) c.in_ok-copy.ensures) moved
          ∙ append_assoc both (t.slot.now ∷ []) (merged (drop (i + cond t.own 1 0) xs) (drop (j + cond t.other 1 0) ys))
          ∙ ap (λ l. both ++ l) (sym step) ∙ inv.5,
    )

pub returns-then-self-eq0-clause-slots : goal.returns-then-self-eq0-clause-slots
returns-then-self-eq0-clause-slots c = rw (← none_merged (slots_in c.args.self.now) (slots_in c.args.other.now) (sym c.requires.own.many ∙ c.if-self-eq0.true)) c.shared.ensures.slots

pub returns-clause-slots : goal.returns-clause-slots
returns-clause-slots c =
    let xs = slots_in c.args.self.now in
    let ys = slots_in c.args.other.now in
    let i = place c.args.self.now.list c.loop-taken.one in
    let j = place c.args.other.now.list c.loop-taken.two in
    let both = slots_in c.loop-taken.both in
    let o = head_there (λ s. s.now) xs i c.slot.result c.slot.ensures.slot c.slot.ensures.within c.slot.ensures.none in
    let p = head_there (λ s. s.now) ys j c.slot-in-loop-taken.result c.slot-in-loop-taken.ensures.slot c.slot-in-loop-taken.ensures.within c.slot-in-loop-taken.ensures.none in
    sym (append-nil both) ∙ ap (λ l. both ++ l) (sym (end_is xs ys i j _ _ o p (sym c.in_default.ensures))) ∙ c.loop-taken.invariant.5
