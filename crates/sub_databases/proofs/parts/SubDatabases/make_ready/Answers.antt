use Rattle.std.proofs.Common.{◌≡◌, ◌<◌, ◌∙◌, filter, ap, rules}
use Rattle.std.specs.FinMap as fin
use Rattle.sub_databases.specs.Changes.{is_waiting}
use Rattle.sub_databases.proofs.ReadyLaws.{AreAwaited, awaited_new, ready_either, made_either}
use Rattle.sub_databases.proofs.parts.SubDatabases.make_ready.Goals as goal

pub take_all-requires : goal.take_all-requires
take_all-requires c =
    let m = c.self.inside.entries in
    let t = c.self.inside.ready in
    let list = c.in_ok-entries.entries.items in
    let those : c.deref-2.result.now ≡ filter (is_waiting t.rows) list = c.deref-2.ensures.value ∙ c.in_ok-waiting.ensures ∙ ap (filter (is_waiting t.rows)) c.deref.ensures.value in
    let awaited : AreAwaited m t c.args.bucket list c.deref-2.result.now = record { parts = c.self.invariant; listed = c.in_ok-entries.ensures.entries; single = c.in_ok-entries.ensures.single; waiting = those } in
    record { new = awaited_new m t c.args.bucket list c.deref-2.result.now awaited }

pub invariant_of-self : goal.invariant_of-self
invariant_of-self c =
    let m = c.self.inside.entries in
    let t = c.self.inside.ready in
    let list = c.in_ok-entries.entries.items in
    let those : c.deref-2.result.now ≡ filter (is_waiting t.rows) list = c.deref-2.ensures.value ∙ c.in_ok-waiting.ensures ∙ ap (filter (is_waiting t.rows)) c.deref.ensures.value in
    let awaited : AreAwaited m t c.args.bucket list c.deref-2.result.now = record { parts = c.self.invariant; listed = c.in_ok-entries.ensures.entries; single = c.in_ok-entries.ensures.single; waiting = those } in
    let few : fin.len m < 4294967295 = search rules in
    ready_either c.entries_find_room.ensures m t c.args.bucket list c.deref-2.result.now few c.len.ensures.distinct awaited c.take_all.result c.take_all.new.self c.take_all.ensures.ok c.take_all.ensures.err

pub returns-clause-ok : goal.returns-clause-ok
returns-clause-ok c =
    let m = c.self.inside.entries in
    let t = c.self.inside.ready in
    let list = c.in_ok-entries.entries.items in
    let those : c.deref-2.result.now ≡ filter (is_waiting t.rows) list = c.deref-2.ensures.value ∙ c.in_ok-waiting.ensures ∙ ap (filter (is_waiting t.rows)) c.deref.ensures.value in
    let awaited : AreAwaited m t c.args.bucket list c.deref-2.result.now = record { parts = c.self.invariant; listed = c.in_ok-entries.ensures.entries; single = c.in_ok-entries.ensures.single; waiting = those } in
    let few : fin.len m < 4294967295 = search rules in
    rw (← c.self.view_is) (made_either c.entries_find_room.ensures m t c.args.bucket list c.deref-2.result.now few c.len.ensures.distinct awaited c.take_all.result c.take_all.new.self c.take_all.ensures.ok)
