use Rattle.std.proofs.Common.{◌≡◌, cond, sym, ap, ◌∙◌, Some, bytes_eq, rules}
use Rattle.indexmap.specs.IndexMap.{get_by_text}
use Rattle.std.proofs.lemmas.Map.Text.{hash_map_updates_text}
use Rattle.group_counts.specs.Tallies.{tally_with}
use Rattle.group_counts.proofs.tallies.take_text.Goals as goal

pub returns-in-Some : goal.returns-in-Some
returns-in-Some c = λ d f q.
    let old = c.args.tallies.now in
    let there : get_by_text old c.args.text.now ≡ Some c.in-Some.tally.now = sym c.in-Some.ensures.value in
    hash_map_updates_text c.args.text.now old (c.get_mut.follows.lender c.take.new.self) (Some c.take.new.self) ((c.get_mut.follows.holds c.take.new.self).3 (search rules)) q
    ∙ ap (λ o. cond (bytes_eq c.args.text.now q) o (get_by_text old q)) (ap Some (c.take.ensures d f) ∙ ap (λ o. Some (tally_with c.args.kinds.now d o)) (sym there))
