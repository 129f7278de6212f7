use Rattle.std.proofs.Common.{◌≡◌, sym, ap, ◌∙◌, Some, option_map, rules}
use Rattle.std.specs.HashMap.{get_by_text}
use Rattle.local_ids.specs.Rising.{without_local}
use Rattle.word_index.proofs.IndexLaws.{updated}
use Rattle.word_index.proofs.lists.drop_in.Goals as goal

pub returns-in-Some : goal.returns-in-Some
returns-in-Some c =
    let x = c.args.local in
    let old = c.args.lists.now in
    let there : get_by_text old c.args.token.now ≡ Some c.in-Some.list.now = sym c.in-Some.ensures.value in
    updated (λ v. v.items) c.args.token.now old (c.get_mut.follows.lender c.drop_local.new.list) (Some c.drop_local.new.list) ((c.get_mut.follows.holds c.drop_local.new.list).3 (search rules))
    (option_map (λ v. without_local x v.items) (get_by_text old c.args.token.now))
    (ap Some c.drop_local.ensures ∙ sym (ap (option_map (λ v. without_local x v.items)) there))
