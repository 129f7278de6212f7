-- The entries of a bucket lie in it.
use Rattle.std.proofs.Common.{◌≡◌, ◌∙◌, ℕ, Bool, true, false, cond, List, Some, None, refl, sym, ap}
use Rattle.std.specs.declared.cmp.Ordering.TheVariants.{Equal}
use Rattle.std.specs.FinMap as fin
use Rattle.std.specs.FinMap.{get-retain_keys, slice_cmp-IsAntisymmetric, nat_cmp-IsAntisymmetric}
use Rattle.bucket_ids.specs.Buckets.{Low}
use Rattle.documents.specs.declared.entry.Entry.{Entry}
use Rattle.entry_maps.specs.Entries.{in_bucket}
use Rattle.documents.specs.EntryCodes.{id_cmp}
use Rattle.entry_maps.specs.EntryCodes.{Entries}
use Rattle.replica_store.specs.Replicas.{LieIn}

pub lie_in : (b : Low) (m : Entries) → LieIn b (fin.retain_keys m (in_bucket b))
lie_in b m = λ id e get. by_test id e (in_bucket b id) refl (sym (get-retain_keys m (in_bucket b) id (alike id)) ∙ get)
  where
    alike : (id y : List ℕ) → id_cmp id y ≡ Equal → in_bucket b y ≡ in_bucket b id
    alike id y t = ap (in_bucket b) (sym (slice_cmp-IsAntisymmetric nat_cmp-IsAntisymmetric id y t))

    by_test : (id : List ℕ) (e : Entry) (t : Bool) → in_bucket b id ≡ t → cond t (fin.get m id) None ≡ Some e → in_bucket b id ≡ true
    by_test id e true h g = h
    by_test id e false h g = cc
