use Rattle.std.proofs.Common.{◌≡◌, sym, ap, subst, ◌∙◌, [], rules}
use mir.Val.{to_z, of_z, SFits}
use mir.Syntax.{w64}
use Rattle.std.proofs.lemmas.Int.{to_z-of_z}
use Rattle.std.specs.Int.Signed.{◌≤ℤ◌, ◌<ℤ◌}
use Rattle.std.specs.Option.{option_map_or}
use Rattle.proof_basics.proofs.Tests.{clash}
use Rattle.attribute_columns.specs.Dictionary.{ids_at}
use Rattle.attribute_columns.proofs.ListLaws.{none_there, greater, not_greater, below_too}
use Rattle.attribute_columns.proofs.dictionary.next_in.Goals as goal

pub returns-in-Some-clause-least : goal.returns-in-Some-clause-least
returns-in-Some-clause-least c =
    let fits : SFits w64 c.in-Some.number.now = search rules in
    let e : to_z w64 (of_z w64 c.in-Some.number.now) ≡ c.in-Some.number.now = to_z-of_z w64 c.in-Some.number.now fits in
    λ q low less. none_there c.args.lists.now q (λ there.
    let from = subst (λ n. n ≤ℤ q) (sym (c.new.ensures.start ∙ to_z-of_z w64 c.args.low c.ranges.low)) low in
    let entry = rw c.in-Some.ensures.steps at (c.range.ensures.in_range (search rules)).1 in
    let low_number = subst (λ n. q <ℤ n) e less in
    let first = rw c.in-Some.ensures.steps at (c.range.ensures.in_range (search rules)).2 q (not_greater _ q from, below_too q c.in-Some.number.now _ low_number entry.0.1) there in
    clash (greater c.in-Some.number.now q low_number) first)

pub returns-in-Some-clause-ids : goal.returns-in-Some-clause-ids
returns-in-Some-clause-ids c =
    let fits : SFits w64 c.in-Some.number.now = search rules in
    let e : to_z w64 (of_z w64 c.in-Some.number.now) ≡ c.in-Some.number.now = to_z-of_z w64 c.in-Some.number.now fits in
    let entry = rw c.in-Some.ensures.steps at (c.range.ensures.in_range (search rules)).1 in
    c.deref.ensures.value ∙ sym (subst (λ n. ids_at c.args.lists.now n ≡ c.in-Some.list.now.items) (sym e) (ap (λ o. option_map_or (λ v. v.items) o []) entry.1))
