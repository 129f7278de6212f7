use Rattle.std.proofs.Common.{◌≡◌, [], ◌∷◌, ◌++◌, sym, ap, ◌∙◌, append_assoc, append-nil}
use Rattle.serde_json.specs.View.{members_view as members_owned}
use Rattle.serde_json.proofs.Views.{Entry}
use Rattle.line_values.specs.Order.{are_rising}
use Rattle.line_values.specs.View.{members_view}
use Rattle.line_values.proofs.Members.{one_lent}
use Rattle.line_values.proofs.Rising.{map_rises}
use Rattle.line_values.proofs.lending.+lent.Goals as goal

pub lent_members-loop-key-preserved : goal.lent_members-loop-key-preserved
lent_members-loop-key-preserved t c =
    let l = c.loop-key in
    let done = l.invariant.0 in
    let e : Entry = (c.in-Some.key.now, c.in-Some.member.now) in
    let left = c.next.new.self in
    let all : c.args.members.now.entries ≡ done ++ e ∷ left = l.invariant.1 ∙ ap (λ es. done ++ es) c.in-Some.ensures.steps in (
      done ++ e ∷ [],
      all ∙ sym (append_assoc done (e ∷ []) left),
      ap members_view c.in_ok-push.ensures.items ∙ one_lent l.list.items done (c.as_str.result, c.in_ok-lent.field-0) e l.invariant.2 c.as_str.ensures.value c.in_ok-lent.ensures.value,
    )

pub lent_members-returns-clause-rising : goal.lent_members-returns-clause-rising
lent_members-returns-clause-rising t c =
    let done = c.loop-key.invariant.0 in
    let all : c.args.members.now.entries ≡ done = c.loop-key.invariant.1 ∙ ap (λ es. done ++ es) c.in-None.ensures.steps.0 ∙ append-nil done in
    ap are_rising (c.loop-key.invariant.2 ∙ ap members_owned (sym all)) ∙ map_rises c.args.members.now.entries c.len.ensures.ordered
