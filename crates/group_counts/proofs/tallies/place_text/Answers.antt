use Rattle.std.proofs.Common.{◌≡◌, sym, subst, ◌∙◌, None, Some, bytes_eq}
use Rattle.std.specs.Map.{lookup}
use Rattle.indexmap.specs.IndexMap.{get_by_text}
use Rattle.std.specs.String.{string_bytes, string_eq}
use Rattle.std.proofs.lemmas.Map.Text.{hash_map_updates_text}
use Rattle.group_counts.proofs.PlaceLaws.{no_place, places-put}
use Rattle.group_counts.proofs.tallies.place_text.Goals as goal

pub returns-in_ok-insert-clause-places : goal.returns-in_ok-insert-clause-places
returns-in_ok-insert-clause-places c =
    let old = c.args.tallies.now in
    let new = c.insert.new.self in
    let key = c.in_ok-key.key in
    let tally = c.in_ok-tally.tally in
    let absent : get_by_text old c.args.text.now ≡ None = no_place (get_by_text old c.args.text.now) (sym c.contains_key.ensures ∙ c.if-not-contains_key.true) in
    places-put c.args.kinds.now string_eq old.entries new.entries key tally (bytes_eq (string_bytes key)) (get_by_text old) (get_by_text new)
    (subst (λ bs. lookup (λ k. bytes_eq bs (string_bytes k)) old.entries ≡ None) (sym c.in_ok-key.ensures.ok) absent)
    c.in_ok-tally.ensures c.in_ok-insert.ensures.entries
    (hash_map_updates_text (string_bytes key) old new (Some tally) c.in_ok-insert.ensures.updates)
