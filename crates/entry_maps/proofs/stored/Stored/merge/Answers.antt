use Rattle.std.proofs.Common.{◌≡◌, ◌++◌, ◌∙◌, [], ap, sym, get_or, arith}
use Rattle.std.specs.FinMap as fin
use Rattle.std.proofs.lemmas.List.{nil_from_length}
use Rattle.entry_rows.specs.Chunks.{flat_before, flat_behind, flat_of}
use Rattle.entry_maps.specs.Entries.{newer_of}
use Rattle.entry_maps.specs.Merging.{merged}
use Rattle.entry_maps.specs.Slots.{slots_in, entries_of}
use Rattle.entry_maps.proofs.MergeLaws.{kept_merged, get_merged, get_same}
use Rattle.entry_rows.proofs.RowLaws.{in_three}
use Rattle.entry_maps.proofs.MergedRows.{merged_between}
use Rattle.entry_maps.proofs.SlotLists.{get-entries_of}
use Rattle.entry_maps.proofs.stored.Stored.merge.Goals as goal

-- the rows that are merged stand for all
whole : (c : goal.After-drop-part-2) → slots_in c.replace_rows.new.self ≡ merged (slots_in c.args.self.now) (slots_in c.args.other.now)
whole c =
    let list = c.args.self.now.list in
    let rows = c.rows_about-rows.result in
    let ys = slots_in c.args.other.now in
    let front = flat_before list rows.from in
    let back = flat_behind list rows.to in
    let mid = flat_of list rows in
    let first = c.in-Some.first.now in
    c.in_ok-replace_rows.ensures.ok
    ∙ ap (λ l. front ++ (l ++ back)) (c.in_ok-both.ensures.slots ∙ ap (λ l. merged l ys) c.in_ok-part.ensures.slots)
    ∙ sym (merged_between front mid back ys first c.last.result.now c.requires.other.kept.rising (omega (arith, c.in-Some.ensures.within)) (c.in-Some.ensures.slot ∙ ap (λ n. get_or ys n first) c.first.ensures.first) c.last.ensures c.rows_about-rows.ensures.below c.rows_about-rows.ensures.above)
    ∙ ap (λ l. merged l ys) (sym (in_three (λ r. r.items) list.rows.items rows.from rows.to c.rows_about-rows.ensures.rows.rising))

pub returns-in_default-clause-ok : goal.returns-in_default-clause-ok
returns-in_default-clause-ok c q =
    let ys = slots_in c.args.other.now in
    let none : ys ≡ [] = nil_from_length ys (sym c.in_default.ensures.none ∙ c.first.ensures.first) in
    sym (ap (newer_of (fin.get (entries_of (slots_in c.args.self.now)) q)) (ap (λ l. fin.get (entries_of l) q) none ∙ get-entries_of [] q))

pub returns-then-has_as_new-clause-ok : goal.returns-then-has_as_new-clause-ok
returns-then-has_as_new-clause-ok c q = get_same (slots_in c.args.self.now) (slots_in c.args.other.now) q (c.has_as_new.ensures c.if-has_as_new.true)

pub returns-clause-ok : goal.returns-clause-ok
returns-clause-ok c q = rw (whole c) (get_merged (slots_in c.args.self.now) (slots_in c.args.other.now) q c.requires.stored.kept c.requires.other.kept)

pub returns-clause-stored : goal.returns-clause-stored
returns-clause-stored c = record {
  kept = rw (whole c) (kept_merged (slots_in c.args.self.now) (slots_in c.args.other.now) c.requires.stored.kept c.requires.other.kept);
  counted = c.in_ok-replace_rows.ensures.counted;
}
