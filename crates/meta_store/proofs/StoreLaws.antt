-- A store keeps its documents, their local ids and the one of each id together.
use Rattle.std.proofs.Common.{◌≡◌, ◌↔◌, ℕ, ◌==◌, Bool, true, false, cond, List, [], length, refl, sym, ap, ◌∙◌, arith, Option, Some, None, option_map, is_some, bytes_eq, String}
use Rattle.std.specs.HashMap.{HashMap, get_by_text}
use Rattle.std.specs.List.{Contains}
use Rattle.std.specs.Option.{IsSome}
use Rattle.std.specs.Ordering.{nat_cmp}
use Rattle.std.specs.FinMap as fin
use Rattle.std.specs.FinMap.{get-empty, same_map, len-entries, nat_cmp-IsAntisymmetric}
use Rattle.std.proofs.lemmas.Cmp.{nat_cmp_total}
use Rattle.std.proofs.lemmas.List.{length-map}
use Rattle.std.proofs.lemmas.Slice.Eq.{bytes_eq-Decides}
use Rattle.std.proofs.lemmas.Bool.Decides.{nat_tests}
use Rattle.proof_basics.proofs.Numbers.{same-nat}
use Rattle.proof_basics.proofs.Options.{none_some, some_same}
use Rattle.proof_basics.proofs.Tests.{clash}
use Rattle.local_ids.specs.Rising.{with_local, without_local}
use Rattle.local_ids.proofs.KeyLaws.{keys_rise, keys_with, keys_without, key_has, has_key, get_with, get_without, same_ids}
use Rattle.meta_store.specs.declared.store.Named.{Named}
use Rattle.meta_store.specs.Store.{Store, Has, IsNew, IsStored}

id_at : Store → ℕ → Option (List ℕ)
id_at s n = option_map (λ d. d.id) (fin.get s n)

has_with : (s : Store) (n : ℕ) (d : Named) (k : ℕ) → option_map (λ d. d.id) (fin.get (fin.insert s n d) k) ≡ cond (k == n) (Some d.id) (option_map (λ d. d.id) (fin.get s k))
has_with s n d k = ap (option_map (λ d. d.id)) (get_with s n d k) ∙ by_test (k == n)
  where
    by_test : (t : Bool) → option_map (λ d. d.id) (cond t (Some d) (fin.get s k)) ≡ cond t (Some d.id) (option_map (λ d. d.id) (fin.get s k))
    by_test true = refl
    by_test false = refl

has_without : (s : Store) (n k : ℕ) → option_map (λ d. d.id) (fin.get (fin.remove s n) k) ≡ cond (k == n) None (option_map (λ d. d.id) (fin.get s k))
has_without s n k = ap (option_map (λ d. d.id)) (get_without s n k) ∙ by_test (k == n)
  where
    by_test : (t : Bool) → option_map (λ d. d.id) (cond t None (fin.get s k)) ≡ cond t None (option_map (λ d. d.id) (fin.get s k))
    by_test true = refl
    by_test false = refl

pub none_taken : (s : Store) (n : ℕ) → (Contains (fin.keys s) n → ⊥) → fin.get s n ≡ None
none_taken s n f = by_case (fin.get s n) refl
  where
    by_case : (o : Option Named) → fin.get s n ≡ o → o ≡ None
    by_case None e = refl
    by_case (Some d) e = absurd (f (has_key s n (ap is_some e)))

pub is_taken : (s : Store) (n : ℕ) → Contains (fin.keys s) n → IsSome (fin.get s n)
is_taken s n c = by_case (fin.get s n) (key_has s n c)
  where
    by_case : (o : Option Named) → is_some o ≡ true → IsSome o
    by_case None e = clash e refl
    by_case (Some d) e = refl

pub many : (s : Store) → length (fin.keys s) ≡ fin.len s
many s = length-map (fin.entries s) (λ e. e.0) ∙ sym (len-entries s)

pub no_keys : [] ≡ fin.keys (fin.empty {X = Named} {R = nat_cmp})
no_keys = same_ids [] (fin.keys (fin.empty {X = Named} {R = nat_cmp})) tt (keys_rise fin.empty)
    (λ q h. absurd (let l = h.1 in omega (arith, l)))
    (λ q h. clash (key_has (fin.empty {X = Named} {R = nat_cmp}) q h) (ap is_some (get-empty nat_cmp q)))

-- ---- a store keeps

pub assigned : {Y S : Type 0} (s : Store) (locals new : List ℕ) (by_id by_id' : HashMap (String Y) ℕ S) (n : ℕ) (d : Named) → IsStored s locals by_id
    → get_by_text by_id d.id ≡ None → fin.get s n ≡ None → new ≡ with_local n locals
    → ((q : List ℕ) → get_by_text by_id' q ≡ cond (bytes_eq d.id q) (Some n) (get_by_text by_id q))
    → IsStored (fin.insert s n d) new by_id'
assigned {Y} {S} s locals new by_id by_id' n d is fresh free e f = record {
  taken = e ∙ ap (with_local n) is.taken ∙ sym (keys_with s n d);
  found = λ k q. (λ g. has_with s n d k ∙ to k q (bytes_eq d.id q) (k == n) refl refl (sym (f q) ∙ g), λ h. f q ∙ from k q (bytes_eq d.id q) (k == n) refl refl (sym (has_with s n d k) ∙ h));
}
  where
    to : (k : ℕ) (q : List ℕ) (t u : Bool) → bytes_eq d.id q ≡ t → (k == n) ≡ u → cond t (Some n) (get_by_text by_id q) ≡ Some k → cond u (Some d.id) (option_map (λ d. d.id) (fin.get s k)) ≡ Some q
    to k q true true a b g = ap Some ((bytes_eq-Decides d.id q).0 a)
    to k q true false a b g = clash (ap (λ z. z == n) (sym (some_same n k g)) ∙ same-nat n) b
    to k q false true a b g = absurd (none_some q (sym (ap (option_map (λ d. d.id)) free) ∙ ap (λ z. option_map (λ d. d.id) (fin.get s z)) (sym (let same : k ≡ n = grind (arith, nat_tests) in same)) ∙ (is.found k q).0 g))
    to k q false false a b g = (is.found k q).0 g

    from : (k : ℕ) (q : List ℕ) (t u : Bool) → bytes_eq d.id q ≡ t → (k == n) ≡ u → cond u (Some d.id) (option_map (λ d. d.id) (fin.get s k)) ≡ Some q → cond t (Some n) (get_by_text by_id q) ≡ Some k
    from k q true true a b h = ap Some (sym (let same : k ≡ n = grind (arith, nat_tests) in same))
    from k q false true a b h = clash ((bytes_eq-Decides d.id q).1 (some_same d.id q h)) a
    from k q true false a b h = absurd (none_some k (sym fresh ∙ ap (get_by_text by_id) ((bytes_eq-Decides d.id q).0 a) ∙ (is.found k q).1 h))
    from k q false false a b h = (is.found k q).1 h

pub freed : {Y S : Type 0} (s : Store) (locals new : List ℕ) (by_id by_id' : HashMap (String Y) ℕ S) (n : ℕ) (d : Named) → IsStored s locals by_id
    → fin.get s n ≡ Some d → new ≡ without_local n locals
    → ((q : List ℕ) → get_by_text by_id' q ≡ cond (bytes_eq d.id q) None (get_by_text by_id q))
    → IsStored (fin.remove s n) new by_id'
freed {Y} {S} s locals new by_id by_id' n d is there e f = record {
  taken = e ∙ ap (without_local n) is.taken ∙ sym (keys_without s n);
  found = λ k q. (λ g. has_without s n k ∙ to k q (bytes_eq d.id q) (k == n) refl refl (sym (f q) ∙ g), λ h. f q ∙ from k q (bytes_eq d.id q) (k == n) refl refl (sym (has_without s n k) ∙ h));
}
  where
    own : option_map (λ d. d.id) (fin.get s n) ≡ Some d.id
    own = ap (option_map (λ d. d.id)) there

    to : (k : ℕ) (q : List ℕ) (t u : Bool) → bytes_eq d.id q ≡ t → (k == n) ≡ u → cond t None (get_by_text by_id q) ≡ Some k → cond u None (option_map (λ d. d.id) (fin.get s k)) ≡ Some q
    to k q true u a b g = absurd (none_some k g)
    to k q false true a b g = clash ((bytes_eq-Decides d.id q).1 (some_same d.id q (sym own ∙ ap (λ z. option_map (λ d. d.id) (fin.get s z)) (sym (let same : k ≡ n = grind (arith, nat_tests) in same)) ∙ (is.found k q).0 g))) a
    to k q false false a b g = (is.found k q).0 g

    from : (k : ℕ) (q : List ℕ) (t u : Bool) → bytes_eq d.id q ≡ t → (k == n) ≡ u → cond u None (option_map (λ d. d.id) (fin.get s k)) ≡ Some q → cond t None (get_by_text by_id q) ≡ Some k
    from k q t true a b h = absurd (none_some q h)
    from k q true false a b h = clash (ap (λ z. z == n) (some_same k n (sym ((is.found k q).1 h) ∙ ap (get_by_text by_id) (sym ((bytes_eq-Decides d.id q).0 a)) ∙ (is.found n d.id).1 own)) ∙ same-nat n) b
    from k q false false a b h = (is.found k q).1 h

-- a place that was free is so again
pub put_back : (s : Store) (n : ℕ) (d : Named) → fin.get s n ≡ None → fin.remove (fin.insert s n d) n ≡ s
put_back s n d free = same_map nat_cmp_total nat_cmp-IsAntisymmetric _ _ (λ q. get_without (fin.insert s n d) n q ∙ ap (cond (q == n) None) (get_with s n d q) ∙ by_test q (q == n) refl)
  where
    by_test : (q : ℕ) (t : Bool) → (q == n) ≡ t → cond t None (cond t (Some d) (fin.get s q)) ≡ fin.get s q
    by_test q true e = sym free ∙ ap (fin.get s) (sym (let same : q ≡ n = grind (arith, nat_tests) in same))
    by_test q false e = refl

-- nothing goes where nothing was
pub none_freed : (s : Store) (n : ℕ) → fin.get s n ≡ None → s ≡ fin.remove s n
none_freed s n free = same_map nat_cmp_total nat_cmp-IsAntisymmetric _ _ (λ q. by_test q (q == n) refl ∙ sym (get_without s n q))
  where
    by_test : (q : ℕ) (t : Bool) → (q == n) ≡ t → fin.get s q ≡ cond t None (fin.get s q)
    by_test q true e = ap (fin.get s) (let same : q ≡ n = grind (arith, nat_tests) in same) ∙ free
    by_test q false e = refl

pub same_stored : {Y S : Type 0} (s : Store) (locals new : List ℕ) (by_id by_id' : HashMap (String Y) ℕ S) → IsStored s locals by_id → new ≡ locals → ((q : List ℕ) → get_by_text by_id' q ≡ get_by_text by_id q) → IsStored s new by_id'
same_stored s locals new by_id by_id' is e f = record { taken = e ∙ is.taken; found = λ n id. (λ g. (is.found n id).0 (sym (f id) ∙ g), λ h. f id ∙ (is.found n id).1 h) }

pub nothing_stored : {Y S : Type 0} (by_id : HashMap (String Y) ℕ S) → by_id.entries ≡ [] → IsStored fin.empty [] by_id
nothing_stored by_id e = record {
  taken = no_keys;
  found = λ n id. (λ g. absurd (none_some n (sym (none_there id) ∙ g)), λ h. absurd (none_some id (sym (ap (option_map (λ d. d.id)) (get-empty nat_cmp n)) ∙ h)));
}
  where
    none_there : (q : List ℕ) → get_by_text by_id q ≡ None
    none_there q = rw e refl

pub seen : {Y S : Type 0} (s : Store) (by_id : HashMap (String Y) ℕ S) (locals : List ℕ) → IsStored s locals by_id → (id : List ℕ) (o : Option ℕ) → o ≡ get_by_text by_id id → (n : ℕ) → (o ≡ Some n) ↔ Has s n id
seen s by_id locals is id o e n = (λ g. (is.found n id).0 (sym e ∙ g), λ h. e ∙ (is.found n id).1 h)

pub unknown : {Y S : Type 0} (s : Store) (by_id : HashMap (String Y) ℕ S) (locals : List ℕ) → IsStored s locals by_id → (id : List ℕ) → IsNew s id → get_by_text by_id id ≡ None
unknown s by_id locals is id new = by_case (get_by_text by_id id) refl
  where
    by_case : (o : Option ℕ) → get_by_text by_id id ≡ o → o ≡ None
    by_case None e = refl
    by_case (Some n) e = absurd (new n ((is.found n id).0 e))
