use Rattle.std.proofs.Common.{◌≡◌, Less, Equal, Greater, get_or, slice_set, nat_cmp, refl, sym, ap, ◌∙◌, arith}
use Rattle.std.specs.Cmp.Lexicographic.{slice_cmp}
use Rattle.serde_json.specs.Data.{put}
use Rattle.line_values.specs.View.{view, members_view}
use Rattle.line_values.proofs.Members.{get_or_known, one_place_on, put_before, put_over, put_last}
use Rattle.line_values.proofs.line_value.put.Goals as goal

pub places-preserved : goal.places-preserved
places-preserved c =
    let all = c.places.members.items in
    let above : slice_cmp nat_cmp c.args.key.now (get_or all c.places.at c.index.result.now).0.now ≡ Greater =
    ap (λ e. slice_cmp nat_cmp c.args.key.now e.0.now) (sym c.index.ensures) ∙ sym c.cmp.ensures ∙ c.in-Greater.is in
    (c.places.invariant.0, one_place_on c.args.key.now c.args.value all c.places.at c.index.result.now (omega arith) above c.places.invariant.1)

pub returns-in-Less-clause-ok : goal.returns-in-Less-clause-ok
returns-in-Less-clause-ok c =
    let all = c.places.members.items in
    let below : slice_cmp nat_cmp c.args.key.now (get_or all c.places.at c.index.result.now).0.now ≡ Less =
    ap (λ e. slice_cmp nat_cmp c.args.key.now e.0.now) (sym c.index.ensures) ∙ sym c.cmp.ensures ∙ c.in-Less.is in
    ap members_view c.in_ok-insert-in-Less.ensures.items
    ∙ put_before c.args.key.now c.args.value all c.places.at c.index.result.now c.args.key refl (omega arith) below c.places.invariant.1
    ∙ ap (λ es. put c.args.key.now (view c.args.value) (members_view es)) c.places.invariant.0

pub returns-in-Equal-clause-ok : goal.returns-in-Equal-clause-ok
returns-in-Equal-clause-ok c =
    let all = c.places.members.items in
    let known : get_or all c.places.at c.index_mut.result.now ≡ get_or all c.places.at c.index.result.now = get_or_known all c.places.at _ _ (omega arith) in
    let same : slice_cmp nat_cmp c.args.key.now (get_or all c.places.at c.index.result.now).0.now ≡ Equal =
    ap (λ e. slice_cmp nat_cmp c.args.key.now e.0.now) (sym c.index.ensures) ∙ sym c.cmp.ensures ∙ c.in-Equal.is in
    ap (λ e. members_view (slice_set all c.places.at (e.0, c.args.value))) (c.index_mut.ensures.value ∙ known)
    ∙ put_over c.args.key.now c.args.value all c.places.at c.index.result.now (omega arith) same c.places.invariant.1
    ∙ ap (λ es. put c.args.key.now (view c.args.value) (members_view es)) c.places.invariant.0

pub returns-clause-ok : goal.returns-clause-ok
returns-clause-ok c =
    let all = c.places.members.items in
    ap members_view c.in_ok-push.ensures.items
    ∙ put_last c.args.key.now c.args.value all c.places.at c.args.key refl (omega arith) c.places.invariant.1
    ∙ ap (λ es. put c.args.key.now (view c.args.value) (members_view es)) c.places.invariant.0
