-- The documents of a node, by local id.
use Rattle.std.specs.Prelude.{◌≡◌, ◌<◌, ◌↔◌, ℕ, List, Some, None, IsSome, option_map, refl, String}
use Rattle.std.specs.Coded.{Coded, code_by, coded×, coded_ℕ, coded_list}
use Rattle.std.specs.Ordering.{nat_cmp}
use Rattle.std.specs.HashMap.{HashMap, get_by_text}
use Rattle.std.specs.FinMap as fin
use Rattle.meta_store.specs.declared.store.Named.{Named}

abbrev pub Store : Type 0
Store = fin.FinMap nat_cmp Named

abbrev pub named_code : Coded Named
named_code = code_by (List ℕ × ℕ) (coded× (coded_list coded_ℕ) coded_ℕ) (λ d. (d.id, d.key)) (λ p. record { id = p.0; key = p.1 }) (λ _. refl)

abbrev pub store_code : Coded Store
store_code = fin.code coded_ℕ named_code

-- the document of a local id has this id
abbrev pub Has : Store → ℕ → List ℕ → Type 0
Has s n id = option_map (λ d. d.id) (fin.get s n) ≡ Some id

-- no document has this id
abbrev pub IsNew : Store → List ℕ → Type 0
IsNew s id = (n : ℕ) → Has s n id → ⊥

-- no document has this local id, and each smaller one is that of a document
abbrev pub IsLeastFree : Store → ℕ → Type 0
IsLeastFree s n = (fin.get s n ≡ None) × ((k : ℕ) → k < n → IsSome (fin.get s k))

-- what is kept beside the documents: their local ids, and the one of each id
pub record IsStored {Y S : Type 0} (named : Store) (locals : List ℕ) (by_id : HashMap (String Y) ℕ S) : Type 0 where
  pub taken : locals ≡ fin.keys named
  pub found : (n : ℕ) (id : List ℕ) → (get_by_text by_id id ≡ Some n) ↔ Has named n id
