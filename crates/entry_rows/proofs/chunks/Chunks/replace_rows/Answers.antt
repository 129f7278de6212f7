use Rattle.std.proofs.Common.{◌≡◌, ◌∙◌, ◌<◌, ◌++◌, ap, sym, length, take, drop, arith}
use Rattle.std.specs.List.{flat_map, splice}
use Rattle.std.proofs.lemmas.Grind.{flat_map-append}
use Rattle.std.proofs.lemmas.Iterator.{items_from_drains}
use Rattle.std.proofs.lemmas.Iterator.Adapters.{YieldsList-from_vec}
use Rattle.std.proofs.lemmas.List.{map-id}
use Rattle.std.proofs.lemmas.List.Elements.{All-append, All-take, All-drop}
use Rattle.entry_rows.proofs.chunks.Chunks.replace_rows.Goals as goal

-- the rows are those that the list of rows gives
put : (c : goal.After-drop-branch) → c.splice.new.self.items ≡ splice c.args.self.now.rows.items c.args.rows.from c.args.rows.to c.args.others.rows.items
put c =
    let ran = c.in_ok-splice.ensures.items in
    let len : ran.0.rest.len ≡ length c.args.others.rows.items = omega (arith, ran.2.1, c.args.others.rows.ok.0) in
    let same : ran.1 ≡ c.args.others.rows.items = sym (map-id ran.1) ∙ items_from_drains ran.1 (ran.3.1.0, ran.3.1.1, λ _. (ran.3.0, ran.3.1.2)) (YieldsList-from_vec c.args.others.rows.items ran.2.0 len) in
    ran.4 ∙ ap (splice c.args.self.now.rows.items c.args.rows.from c.args.rows.to) same

pub returns-clause-ok : goal.returns-clause-ok
returns-clause-ok c =
    let front = take c.args.rows.from c.args.self.now.rows.items in
    let back = drop c.args.rows.to c.args.self.now.rows.items in
    let mid = c.args.others.rows.items in
    ap (flat_map (λ r. r.items)) (put c) ∙ flat_map-append (λ r. r.items) front (mid ++ back)
    ∙ ap (λ l. flat_map (λ r. r.items) front ++ l) (flat_map-append (λ r. r.items) mid back)

pub returns-clause-some : goal.returns-clause-some
returns-clause-some c =
    let rows = c.args.self.now.rows.items in
    let mid = c.args.others.rows.items in
    rw (put c) (All-append (λ r. 0 < length r.items) (take c.args.rows.from rows) (mid ++ drop c.args.rows.to rows) (All-take (λ r. 0 < length r.items) c.args.rows.from rows c.requires.some)
    (All-append (λ r. 0 < length r.items) mid (drop c.args.rows.to rows) c.requires.others (All-drop (λ r. 0 < length r.items) c.args.rows.to rows c.requires.some)))
