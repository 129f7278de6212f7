use Rattle.std.proofs.Common.{◌∙◌, sym, ap}
use Rattle.std.specs.FinMap as fin
use Rattle.std.specs.FinMap.{get-empty}
use Rattle.documents.specs.EntryCodes.{id_cmp}
use Rattle.replica_store.proofs.HeldEntries.{none_is}
use Rattle.replica_store.proofs.replica_store.ReplicaStore.new.Goals as goal

pub invariant_of-result : goal.invariant_of-result
invariant_of-result c = λ id e get. none_is (sym (get-empty id_cmp id) ∙ sym (ap (λ m. fin.get m id) c.new.ensures) ∙ get)
