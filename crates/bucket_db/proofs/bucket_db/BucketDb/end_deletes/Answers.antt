use Rattle.std.proofs.Common.{◌≡◌, List, length, map, ap, sym, ◌∙◌, subst}
use Rattle.std.proofs.lemmas.List.{length-map}
use Rattle.bucket_db.specs.Changes.{without_delete}
use Rattle.bucket_db.specs.Rows.{AreRows, buckets_of}
use Rattle.bucket_db.specs.declared.row.Row.{Row}
use Rattle.bucket_db.proofs.Deletes.{buckets_without, written_whole}
use Rattle.bucket_db.proofs.bucket_db.BucketDb.end_deletes.Goals as goal

-- the rows as they are then
after : (c : goal.After-self-1) → c.end_deletes.new.rows ≡ map (without_delete c.args.bucket c.args.node) c.self.inside.rows.items
after c = c.end_deletes.ensures ∙ ap (map (without_delete c.args.bucket c.args.node)) c.deref_mut.ensures.value

pub invariant_of-self : goal.invariant_of-self
invariant_of-self c =
    let rows = c.self.inside.rows in
    let change = without_delete c.args.bucket c.args.node in
    let size = ap length (after c) ∙ length-map rows.items change ∙ sym rows.ok.0 in
    subst (λ rs. AreRows c.self.inside.lane (buckets_of rs)) (sym (written_whole c.end_deletes.new.rows rows.items rows.len size))
    (subst (λ rs. AreRows c.self.inside.lane (buckets_of rs)) (sym (after c))
    (subst (AreRows c.self.inside.lane) (sym (buckets_without c.args.bucket c.args.node rows.items)) c.self.invariant))

pub returns : goal.returns
returns c =
    let rows = c.self.inside.rows in
    let change = without_delete c.args.bucket c.args.node in
    let size = ap length (after c) ∙ length-map rows.items change ∙ sym rows.ok.0 in
    rw (← c.self.view_is) (ap (λ (xs : List Row). record { lane = c.self.inside.lane; rows = xs })
    (written_whole c.end_deletes.new.rows rows.items rows.len size ∙ after c))
