use Rattle.std.proofs.Common.{◌<◌, length, true, refl, sym, ap, subst, List}
use Rattle.bucket_db.specs.Rows.{AreRows, Rows}
use Rattle.bucket_db.specs.declared.row.Row.{Row}
use Rattle.bucket_db.proofs.RowLists.{set_at_row, set_buckets}
use Rattle.bucket_db.proofs.bucket_db.BucketDb.set_accepted.Goals as goal

pub invariant_of-self : goal.invariant_of-self
invariant_of-self c =
    let lt = subst (λ (d : Rows). c.args.at < length d.rows) (sym c.self.view_is) c.requires in
    subst (AreRows c.self.inside.lane) (sym (set_buckets c.self.inside.rows.items c.args.at c.index_mut.result.now _ lt c.index_mut.ensures.value refl)) c.self.invariant

pub returns : goal.returns
returns c =
    let lt = subst (λ (d : Rows). c.args.at < length d.rows) (sym c.self.view_is) c.requires in
    rw (← c.self.view_is) (ap (λ (xs : List Row). record { lane = c.self.inside.lane; rows = xs })
    (set_at_row (λ row. record row { accepted = true }) c.self.inside.rows.items c.args.at c.index_mut.result.now lt c.index_mut.ensures.value))
