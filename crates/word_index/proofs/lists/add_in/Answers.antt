use Rattle.std.proofs.Common.{◌≡◌, sym, ap, ◌∙◌, [], Some, option_map, rules, arith}
use Rattle.std.specs.Option.{option_map_or}
use Rattle.std.specs.HashMap.{get_by_text}
use Rattle.std.proofs.lemmas.Map.Text.{text_keys}
use Rattle.proof_basics.proofs.Results.{on_ok, on_err}
use Rattle.local_ids.specs.Rising.{with_local}
use Rattle.word_index.proofs.IndexLaws.{updated, same_at}
use Rattle.word_index.proofs.lists.add_in.Goals as goal

pub returns-in-Some-clause-ok : goal.returns-in-Some-clause-ok
returns-in-Some-clause-ok c =
    let x = c.args.local in
    let old = c.args.lists.now in
    let there : get_by_text old c.args.token.now ≡ Some c.in-Some.list.now = sym c.in-Some.ensures.value in
    on_ok c.put_local.result (λ e.
    updated (λ v. v.items) c.args.token.now old (c.get_mut.follows.lender c.put_local.new.list) (Some c.put_local.new.list) ((c.get_mut.follows.holds c.put_local.new.list).3 (search rules))
    (Some (with_local x (option_map_or (λ v. v.items) (get_by_text old c.args.token.now) [])))
    (ap Some e ∙ sym (ap (λ o. Some (with_local x (option_map_or (λ v. v.items) o []))) there))) c.put_local.ensures.ok

pub returns-in-Some-clause-err : goal.returns-in-Some-clause-err
returns-in-Some-clause-err c =
    let old = c.args.lists.now in
    let there : get_by_text old c.args.token.now ≡ Some c.in-Some.list.now = sym c.in-Some.ensures.value in
    on_err c.put_local.result (λ e. λ q.
    updated (λ v. v.items) c.args.token.now old (c.get_mut.follows.lender c.put_local.new.list) (Some c.put_local.new.list) ((c.get_mut.follows.holds c.put_local.new.list).3 (search rules))
    (option_map (λ v. v.items) (get_by_text old c.args.token.now))
    (ap Some e ∙ sym (ap (option_map (λ v. v.items)) there)) q
    ∙ same_at (λ v. v.items) old c.args.token.now q) c.put_local.ensures.err

pub returns-clause-ok : goal.returns-clause-ok
returns-clause-ok c =
    let old = c.args.lists.now in
    grind (arith, text_keys)
