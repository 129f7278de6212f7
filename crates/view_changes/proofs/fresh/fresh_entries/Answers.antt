use Rattle.std.proofs.Common.{ap, ◌∙◌, ◌&&◌, not, ℕ, List, rules}
use Rattle.std.specs.List.{filter}
use Rattle.std.proofs.lemmas.Fn.{filter_same}
use Rattle.bucket_ids.specs.Buckets.{has_key}
use Rattle.global_ids.specs.Keys.{key_of}
use Rattle.documents.specs.declared.entry.Entry.{Entry}
use Rattle.entry_maps.specs.EntryCodes.{Entries}
use Rattle.entry_maps.specs.Entries.{by_id}
use Rattle.std.specs.FinMap as fin
use Rattle.view_changes.specs.Views.{in_regions, is_fresh, listed}
use Rattle.view_changes.proofs.OrderLaws.{values-filtered}
use Rattle.view_changes.proofs.fresh.fresh_entries.Goals as goal

pub returns-clause-list : goal.returns-clause-list
returns-clause-list c =
    c.in_ok-fresh.ensures.list
    ∙ ap (λ (es : List Entry). listed (fin.from_entries (by_id es))) (filter_same _ (is_fresh c.args.bucket c.args.regions.now) _ (λ x b f' k. search rules) _ _ c.retain.ensures.filtered)
    ∙ values-filtered (is_fresh c.args.bucket c.args.regions.now) (λ a b same. ap (λ (id : List ℕ). has_key c.args.bucket (key_of id) && not (in_regions c.args.regions.now (key_of id))) same) _
    ∙ ap (λ (m : Entries). filter (is_fresh c.args.bucket c.args.regions.now) (listed m)) c.in_ok-list.ensures.entries
