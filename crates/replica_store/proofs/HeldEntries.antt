-- Entries stay in the pieces, whatever a call makes of both.
use Rattle.std.proofs.Common.{◌≡◌, ◌&&◌, ◌||◌, ℕ, ◌<◌, ◌^◌, Bool, true, false, cond, not, List, Option, None, Some, refl, sym, ap, ap₂, ◌∙◌, subst}
use mathlib.Core.Bool.{true≢false}
use Rattle.std.specs.Ordering.{eq_by_cmp, is_eq}
use Rattle.std.specs.declared.cmp.Ordering.{Ordering}
use Rattle.std.specs.declared.cmp.Ordering.TheVariants.{Less, Equal, Greater}
use Rattle.std.specs.FinMap as fin
use Rattle.std.specs.FinMap.{get-insert, get-retain_keys, slice_cmp-IsAntisymmetric, nat_cmp-IsAntisymmetric}
use Rattle.std.specs.Cmp.Lexicographic.{nat_list_cmp_total}
use Rattle.bucket_ids.specs.Buckets.{Low, has_key}
use Rattle.global_ids.specs.Keys.{key_of}
use Rattle.documents.specs.declared.entry.Entry.{Entry}
use Rattle.documents.specs.EntryCodes.{id_cmp}
use Rattle.entry_maps.specs.EntryCodes.{Entries}
use Rattle.entry_maps.specs.Entries.{is_newer, with_entry, newer_of, in_bucket}
use Rattle.entry_maps.specs.Joins.{joined}
use Rattle.pieces.specs.declared.piece.Piece.{Piece}
use Rattle.pieces.specs.Pieces.{holds}
use Rattle.replica_store.specs.Replicas.{AreHeld, LieIn}

equal_of : (o : Ordering) → is_eq o ≡ true → o ≡ Equal
equal_of Less e = absurd (true≢false (sym e))
equal_of Equal e = refl
equal_of Greater e = absurd (true≢false (sym e))

same_id-is : (a b : List ℕ) → eq_by_cmp id_cmp a b ≡ true → a ≡ b
same_id-is a b e = slice_cmp-IsAntisymmetric nat_cmp-IsAntisymmetric a b (equal_of _ e)

-- an entry is none that isn't there
pub none_is : {x : Entry} {A : Type 0} → None ≡ Some x → A
none_is e = cc

pub AreHeld-store : (m : Entries) (e : Entry) (ps : List Piece) → holds (key_of e.id) ps ≡ true → AreHeld m ps → AreHeld (with_entry m e) ps
AreHeld-store m e ps here h = by_test (is_newer e (fin.get m e.id))
  where
    by_test : (t : Bool) → AreHeld (cond t (fin.insert m e.id e) m) ps
    by_test true = λ id x get. by_id id x (eq_by_cmp id_cmp id e.id) refl (sym (get-insert nat_list_cmp_total m e.id e id) ∙ get)
      where
        by_id : (id : List ℕ) (x : Entry) (t : Bool) → eq_by_cmp id_cmp id e.id ≡ t → cond t (Some e) (fin.get m id) ≡ Some x → holds (key_of id) ps ≡ true
        by_id id x true g f = subst (λ i. holds (key_of i) ps ≡ true) (sym (same_id-is id e.id g)) here
        by_id id x false g f = h id x f
    by_test false = h

module _ (small : (text : List ℕ) → key_of text < 2 ^ 58) where
  -- pieces that have each key that others have hold what those hold
  pub AreHeld-more : (m : Entries) (ps qs : List Piece) → ((key : ℕ) → key < 2 ^ 58 → holds key ps ≡ true → holds key qs ≡ true) → AreHeld m ps → AreHeld m qs
  AreHeld-more m ps qs more h = λ id e get. more (key_of id) (small id) (h id e get)

  pub AreHeld-delete : (b : Low) (m : Entries) (ps qs : List Piece) → ((key : ℕ) → key < 2 ^ 58 → holds key qs ≡ (not (has_key b key) && holds key ps)) → AreHeld m ps
      → AreHeld (fin.retain_keys m (λ id. not (in_bucket b id))) qs
  AreHeld-delete b m ps qs keys h = λ id x get. by_test id x (in_bucket b id) refl (sym (get-retain_keys m (λ i. not (in_bucket b i)) id (alike id)) ∙ get)
    where
      alike : (id y : List ℕ) → id_cmp id y ≡ Equal → not (in_bucket b y) ≡ not (in_bucket b id)
      alike id y t = ap (λ i. not (in_bucket b i)) (sym (slice_cmp-IsAntisymmetric nat_cmp-IsAntisymmetric id y t))

      by_test : (id : List ℕ) (x : Entry) (t : Bool) → in_bucket b id ≡ t → cond (not t) (fin.get m id) None ≡ Some x → holds (key_of id) qs ≡ true
      by_test id x true e g = none_is g
      by_test id x false e g = keys (key_of id) (small id) ∙ ap₂ (λ t u. not t && u) e (h id x g)

  pub AreHeld-join : ((m other : Entries) (id : List ℕ) → fin.get (joined m other) id ≡ newer_of (fin.get m id) (fin.get other id))
      → (b : Low) (m other : Entries) (ps qs : List Piece) → ((key : ℕ) → key < 2 ^ 58 → holds key qs ≡ has_key b key || holds key ps) → LieIn b other → AreHeld m ps → AreHeld (joined m other) qs
  AreHeld-join entry b m other ps qs keys lie h = λ id x get. by_both id x (fin.get m id) (fin.get other id) refl refl (sym (entry m other id) ∙ get)
    where
      or_left : (x y : Bool) → x ≡ true → x || y ≡ true
      or_left true y e = refl
      or_left false y e = cc

      or_right : (x y : Bool) → y ≡ true → x || y ≡ true
      or_right true y e = refl
      or_right false y e = e

      by_both : (id : List ℕ) (x : Entry) (o p : Option Entry) → fin.get m id ≡ o → fin.get other id ≡ p → newer_of o p ≡ Some x → holds (key_of id) qs ≡ true
      by_both id x None None e f g = none_is g
      by_both id x (Some a) p e f g = keys (key_of id) (small id) ∙ or_right (has_key b (key_of id)) (holds (key_of id) ps) (h id a e)
      by_both id x None (Some c) e f g = keys (key_of id) (small id) ∙ or_left (has_key b (key_of id)) (holds (key_of id) ps) (lie id c f)
