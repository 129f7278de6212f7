use Rattle.std.proofs.Common.{◌<◌, length, sym, subst, List}
use Rattle.std.specs.Prelude.{slice_get, IfSome}
use Rattle.bucket_db.specs.Rows.{AreRows, Rows, buckets_of}
use Rattle.bucket_db.specs.declared.row.Row.{Row}
use Rattle.proof_basics.proofs.Results.{on_either}
use Rattle.bucket_db.proofs.RowLaws.{split_keeps}
use Rattle.bucket_db.proofs.bucket_db.BucketDb.split_row.Goals as goal

pub invariant_of-self : goal.invariant_of-self
invariant_of-self c = on_either c.split_at.result c.split_at.ensures.ok c.split_at.ensures.err
    (λ e. subst (λ (xs : List Row). AreRows c.self.inside.lane (buckets_of xs)) (sym e) (split_keeps c.self.inside.lane c.self.inside.rows.items c.args.at c.self.invariant
    (subst (λ (d : Rows). c.args.at < length d.rows) (sym c.self.view_is) c.requires.place)
    (subst (λ (d : Rows). IfSome (slice_get d.rows c.args.at) (λ row. row.bucket.bits < 58)) (sym c.self.view_is) c.requires.fewer)))
    (λ e. subst (λ (xs : List Row). AreRows c.self.inside.lane (buckets_of xs)) (sym e) c.self.invariant)
