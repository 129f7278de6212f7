use Rattle.std.proofs.Common.{◌≡◌, ◌++◌, map}
use Rattle.serde_json.specs.View.{view}
use Rattle.message_texts.specs.ByKey.{by_key}
use Rattle.message_texts.specs.Entries.{entry_data}
use Rattle.message_texts.proofs.entries.entries_value.Given as goal

-- the entries so far and those that are left are all
abbrev pub invariant-loop-place : goal.invariant-loop-place
invariant-loop-place l = map view l.list.items ++ map entry_data (map (λ p. p.1) l._place-iterator) ≡ map entry_data (by_key l.entries)
