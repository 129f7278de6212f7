use Rattle.std.proofs.Common.{◌∙◌, sym, subst, OnOk}
use Rattle.entry_maps.specs.Entries.{HasNoneNewer}
use Rattle.sub_databases.specs.Changes.{Unites}
use Rattle.sub_databases.specs.Uniting.{IsListOf}
use Rattle.sub_databases.proofs.PartLaws.{parts_of, all_have}
use Rattle.sub_databases.proofs.UniteLaws.{united_older, united_unites, parts_united, may_unite, joined_unready}
use Rattle.sub_databases.proofs.parts.SubDatabases.unite.Goals as goal

pub returns-then-len-eq0-clause-ok : goal.returns-then-len-eq0-clause-ok
returns-then-len-eq0-clause-ok c =
    rw (← c.self.view_is)
    (joined_unready c.args.entries.now c.self.inside.entries c.self.inside.ready c.args.ready c.join.result c.join.new.map c.if-not-ready.true (sym c.len.ensures.value ∙ c.if-len-eq0.true) c.join.ensures.ok)

pub returns-then-not-has_newer-clause-ok : goal.returns-then-not-has_newer-clause-ok
returns-then-not-has_newer-clause-ok c =
    let es = c.args.entries.now in
    let m = c.self.inside.entries in
    let t = c.self.inside.ready in
    let listed : IsListOf es c.in_ok-list.list.items = record { whole = c.in_ok-list.ensures.entries; single = c.in_ok-list.ensures.single } in
    let none : HasNoneNewer es m = c.has_newer.ensures.none c.if-not-has_newer.true in
    rw (← c.self.view_is) (united_unites es c.args.ready m t m t (united_older es m c.in_ok-list.list.items c.args.ready t listed none))

pub unite_ready-requires-clause-have : goal.unite_ready-requires-clause-have
unite_ready-requires-clause-have c = all_have (parts_of c.self.inside.entries c.self.inside.ready) c.self.invariant

pub invariant_of-self-then-ready : goal.invariant_of-self-then-ready
invariant_of-self-then-ready c = parts_united _ _ c.self.inside.entries c.self.inside.ready _ _ _ c.unite_ready.ensures c.self.invariant

pub returns-then-ready-clause-ok : goal.returns-then-ready-clause-ok
returns-then-ready-clause-ok c =
    let es = c.args.entries.now in
    let m = c.self.inside.entries in
    let t = c.self.inside.ready in
    rw (← c.self.view_is)
    (subst (λ b. OnOk c.unite_ready.result (Unites es b (parts_of m t) (parts_of c.unite_ready.new.entries c.unite_ready.new.rows))) (sym c.if-ready.true)
    (may_unite es _ m t c.unite_ready.result c.unite_ready.new.entries c.unite_ready.new.rows c.unite_ready.ensures))

pub invariant_of-self-2 : goal.invariant_of-self-2
invariant_of-self-2 c = parts_united _ _ c.self.inside.entries c.self.inside.ready _ _ _ c.unite_waiting.ensures c.self.invariant

pub returns-clause-ok : goal.returns-clause-ok
returns-clause-ok c =
    let es = c.args.entries.now in
    let m = c.self.inside.entries in
    let t = c.self.inside.ready in
    rw (← c.self.view_is)
    (subst (λ b. OnOk c.unite_waiting.result (Unites es b (parts_of m t) (parts_of c.unite_waiting.new.entries c.unite_waiting.new.rows))) (sym c.if-ready.false)
    (may_unite es _ m t c.unite_waiting.result c.unite_waiting.new.entries c.unite_waiting.new.rows c.unite_waiting.ensures))
