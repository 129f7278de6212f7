use Rattle.std.proofs.Common.{◌≡◌, length, ◌∙◌, refl, sym}
use Rattle.stamps.specs.Places.{place_of}
use Rattle.lane_lines.proofs.Entries.{finds-wrote}
use Rattle.lane_lines.proofs.steps.write_entry.Goals as goal

pub returns-clause-finds : goal.returns-clause-finds
returns-clause-finds c =
    let x = c.args.lane.now in
    let e = c.note.new.self in
    let size : length c.reserve.new.self.items ≡ c.len.result = sym c.reserve.new.self.ok.0 ∙ sym c.len.ensures in
    finds-wrote (place_of c.args.places.now) (place_of c.keep_place.new.places) x.journal.events.items c.args.line c.args.entry.now
    (rw (sym c.reserve.ensures.items, size, sym c.in_ok-entry.ensures, sym c.entry-2.ensures) c.in_ok-keep_place.ensures.ok)
    (c.entries_are_written.ensures.wrote _ _ c.requires.keeps.keeps.legal _ _ c.requires.legal)
    c.requires.finds e.journal.events.items
    (c.note.ensures.grows ∙ rw (c.reserve.ensures.items, c.in_ok-entry.ensures) refl)
