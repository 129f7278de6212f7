-- The entries of a node and their stamps.
use Rattle.std.proofs.Common.{◌≡◌, ◌==◌, not, Bool, true, false, cond, nat_lt, List, [], ◌∷◌, map, Option, None, Some, refl, sym, ap, ap₂, ◌∙◌, subst, arith, inl, inr, ◌⊎◌}
use mathlib.Core.Bool.{true≢false}
use Rattle.std.proofs.lemmas.Bool.Decides.{nat_tests}
use Rattle.std.specs.Cmp.{tied_itself}
use Rattle.std.specs.Cmp.Lexicographic.{nat_list_cmp_total}
use Rattle.std.specs.Ordering.{eq_by_cmp, is_eq}
use Rattle.std.specs.FinMap as fin
use Rattle.std.specs.FinMap.{get-insert, get-retain_keys, slice_cmp-IsAntisymmetric, nat_cmp-IsAntisymmetric, IsAntisymmetric}
use Rattle.stamps.specs.Order.{is_before}
use Rattle.documents.specs.declared.entry.Entry.{Entry}
use Rattle.documents.specs.EntryCodes.{id_cmp}
use Rattle.entry_maps.specs.EntryCodes.{Entries}
use Rattle.entry_maps.specs.Entries.{is_newer, with_entry, newer_of, in_bucket}
use Rattle.entry_maps.specs.Stamps.{stamp_in, stamps_of}
use Rattle.entry_maps.proofs.StampLaws.{stamps_of-members}
use Rattle.entry_maps.specs.Joins.{joined}
use Rattle.entry_maps.proofs.JoinLaws.{get-joined}
use Rattle.replica_store.specs.Replicas.{LieIn}
use Rattle.messages.specs.declared.body.Body.{Body}
use Rattle.messages.specs.declared.body.Body.TheVariants as body
use Rattle.node_model.specs.Takes.{IsInside}
use Rattle.lane_journals.specs.Stamps.{Stamp, newer, is_older}
use Rattle.lane_journals.specs.Buckets.{Bucket, Id, same_id, contains, key_of}
use Rattle.lane_journals.specs.Readers.{after_body}
use Rattle.lane_journals.specs.Meanings.{entry_at, id_in, written, entry_of, pick}
use Rattle.lane_journals.specs.declared.event.LaneEvent.{LaneEvent}
use Rattle.lane_journals.proofs.Ids.{same_id-true, same_id-eq}
use Rattle.lane_keeping.specs.NodeKeeping.{stamp_of, AreWritten}
use Rattle.lane_keeping.specs.Flights.{meant, Brings}
use Rattle.lane_keeping.proofs.Words.{inside-is}
use Rattle.lane_keeping.proofs.Lists.{In, equal, in-contains, contains-in, in-map, map-in, value-get, get-value}
use Rattle.lane_keeping.proofs.Bodies.{entries_by}

ids_same : IsAntisymmetric id_cmp
ids_same = slice_cmp-IsAntisymmetric nat_cmp-IsAntisymmetric

pub tied-ids : (a b : Id) → eq_by_cmp id_cmp a b ≡ true → a ≡ b
tied-ids a b e = ids_same a b (equal _ e)

-- the two tests of ids agree
pub id-tests : (a b : Id) → eq_by_cmp id_cmp b a ≡ same_id a b
id-tests a b = by_tests (eq_by_cmp id_cmp b a) (same_id a b) refl refl
  where
    by_tests : (x y : Bool) → eq_by_cmp id_cmp b a ≡ x → same_id a b ≡ y → x ≡ y
    by_tests true true e f = refl
    by_tests true false e f = let is : a ≡ b = sym (ids_same b a (equal _ e)) in absurd (true≢false (sym (same_id-eq a b is) ∙ f))
    by_tests false true e f =
        let is = same_id-true a b f in
        absurd (true≢false (sym (ap (λ x. eq_by_cmp id_cmp b x) is ∙ ap is_eq (tied_itself nat_list_cmp_total b)) ∙ e))
    by_tests false false e f = refl

-- ---- the newer of two

stamps_is : (a b : Stamp) → a.version ≡ b.version → a.count ≡ b.count → a ≡ b
stamps_is a b v c = λ i. record { version = v i; count = c i }

agree : (a b : Stamp) (t u : Bool) → is_before b a ≡ t → is_older a b ≡ u → cond u (Some b) (Some a) ≡ cond t (Some a) (Some b)
unfolding is_older
agree a b true true h k = absurd (crossed h k)
  where
    crossed : is_before b a ≡ true → cond (nat_lt a.version b.version) true (cond (a.version == b.version) (nat_lt a.count b.count) false) ≡ true → ⊥
    crossed h k = grind (arith, nat_tests)
agree a b true false h k = refl
agree a b false true h k = refl
agree a b false false h k = ap (λ (s : Stamp). Some s) (stamps_is a b (versions h k) (counts h k))
  where
    versions : is_before b a ≡ false → cond (nat_lt a.version b.version) true (cond (a.version == b.version) (nat_lt a.count b.count) false) ≡ false → a.version ≡ b.version
    versions h k = grind (arith, nat_tests)

    counts : is_before b a ≡ false → cond (nat_lt a.version b.version) true (cond (a.version == b.version) (nat_lt a.count b.count) false) ≡ false → a.count ≡ b.count
    counts h k = grind (arith, nat_tests)

pub newer-picks : (e : Entry) (o : Option Entry) (t : Bool) → is_newer e o ≡ t → newer (Some e.stamp) (stamp_of o) ≡ cond t (Some e.stamp) (stamp_of o)
unfolding newer
newer-picks e None true h = refl
newer-picks e None false h = absurd (true≢false h)
newer-picks e (Some x) t h = agree e.stamp x.stamp t (is_older e.stamp x.stamp) h refl

pub newer-none : (o : Option Stamp) → newer None o ≡ o
unfolding newer
newer-none o = refl

pub stamp-cond : (t : Bool) (e : Entry) (o : Option Entry) → stamp_of (cond t (Some e) o) ≡ cond t (Some e.stamp) (stamp_of o)
stamp-cond true e o = refl
stamp-cond false e o = refl

-- ---- after a body

stamps-store : (m : Entries) (e : Entry) (id : Id) → stamp_of (fin.get (with_entry m e) id) ≡ cond (same_id e.id id) (newer (Some e.stamp) (stamp_of (fin.get m id))) (stamp_of (fin.get m id))
stamps-store m e id = by_newer (is_newer e (fin.get m e.id)) refl
  where
    at_id : (t : Bool) → is_newer e (fin.get m e.id) ≡ t → (y : Bool) → same_id e.id id ≡ y → cond y (cond t (Some e.stamp) (stamp_of (fin.get m id))) (stamp_of (fin.get m id)) ≡ cond y (newer (Some e.stamp) (stamp_of (fin.get m id))) (stamp_of (fin.get m id))
    at_id t h true f = sym (newer-picks e (fin.get m id) t (ap (λ i. is_newer e (fin.get m i)) (sym (same_id-true e.id id f)) ∙ h))
    at_id t h false f = refl

    stamp_at : (y : Bool) → stamp_of (cond y (Some e) (fin.get m id)) ≡ cond y (Some e.stamp) (stamp_of (fin.get m id))
    stamp_at y = stamp-cond y e (fin.get m id)

    none_at : (y : Bool) → stamp_of (fin.get m id) ≡ cond y (stamp_of (fin.get m id)) (stamp_of (fin.get m id))
    none_at true = refl
    none_at false = refl

    by_newer : (t : Bool) → is_newer e (fin.get m e.id) ≡ t → stamp_of (fin.get (cond t (fin.insert m e.id e) m) id) ≡ cond (same_id e.id id) (newer (Some e.stamp) (stamp_of (fin.get m id))) (stamp_of (fin.get m id))
    by_newer true h =
        ap stamp_of (get-insert nat_list_cmp_total m e.id e id) ∙ stamp_at (eq_by_cmp id_cmp id e.id)
        ∙ ap (λ y. cond y (Some e.stamp) (stamp_of (fin.get m id))) (id-tests e.id id) ∙ at_id true h (same_id e.id id) refl
    by_newer false h = none_at (same_id e.id id) ∙ at_id false h (same_id e.id id) refl

stamps-apply : (b : Bucket) (m es : Entries) (id : Id) → LieIn b es → stamp_of (fin.get (joined m es) id) ≡ cond (contains b (key_of id)) (newer (stamp_of (fin.get es id)) (stamp_of (fin.get m id))) (stamp_of (fin.get m id))
stamps-apply b m es id lie = ap stamp_of (get-joined m es id) ∙ by_other (fin.get es id) refl
  where
    none_in : (t : Bool) → stamp_of (fin.get m id) ≡ cond t (newer None (stamp_of (fin.get m id))) (stamp_of (fin.get m id))
    none_in true = sym (newer-none (stamp_of (fin.get m id)))
    none_in false = refl

    by_other : (o : Option Entry) → fin.get es id ≡ o → stamp_of (newer_of (fin.get m id) o) ≡ cond (contains b (key_of id)) (newer (stamp_of o) (stamp_of (fin.get m id))) (stamp_of (fin.get m id))
    by_other None f = none_in (contains b (key_of id))
    by_other (Some e) f =
        stamp-cond (is_newer e (fin.get m id)) e (fin.get m id)
        ∙ sym (newer-picks e (fin.get m id) (is_newer e (fin.get m id)) refl)
        ∙ sym (ap (λ t. cond t (newer (Some e.stamp) (stamp_of (fin.get m id))) (stamp_of (fin.get m id))) (inside-is b id ∙ lie id e f))

retained : (b : Bucket) (m : Entries) (id : Id) → fin.get (fin.retain_keys m (λ i. not (in_bucket b i))) id ≡ cond (not (in_bucket b id)) (fin.get m id) None
retained b m id = get-retain_keys m (λ i. not (in_bucket b i)) id (λ y t. ap (λ i. not (in_bucket b i)) (sym (ids_same id y t)))

pub shown_in : (b : Bucket) (m : Entries) (id : Id) → fin.get (fin.retain_keys m (in_bucket b)) id ≡ cond (in_bucket b id) (fin.get m id) None
shown_in b m id = get-retain_keys m (in_bucket b) id (λ y t. ap (in_bucket b) (sym (ids_same id y t)))

pub stamps-after : (x : Body) (m : Entries) (id : Id) → IsInside x → stamp_of (fin.get (entries_by x m) id) ≡ after_body id (meant x) (stamp_of (fin.get m id))
stamps-after (body.Store e) m id i = stamps-store m e id
stamps-after (body.Apply b es) m id i = stamps-apply b m es id i
stamps-after (body.Delete b s) m id i = ap stamp_of (retained b m id) ∙ by_test (in_bucket b id) ∙ ap (λ t. cond t None (stamp_of (fin.get m id))) (sym (inside-is b id))
  where
    by_test : (t : Bool) → stamp_of (cond (not t) (fin.get m id) None) ≡ cond t None (stamp_of (fin.get m id))
    by_test true = refl
    by_test false = refl
stamps-after body.Ask m id i = refl
stamps-after (body.Read b None) m id i = refl
stamps-after (body.Read b (Some d)) m id i = refl
stamps-after (body.Split b) m id i = refl
stamps-after (body.Join b) m id i = refl
stamps-after (body.Ready b) m id i = refl
stamps-after (body.Activate b) m id i = refl

module _ (wrote : Stamp → Option Entry) where
  written-store : (m : Entries) (e : Entry) → wrote e.stamp ≡ Some e → AreWritten wrote m → AreWritten wrote (with_entry m e)
  written-store m e w h = by_newer (is_newer e (fin.get m e.id))
    where
      by_newer : (t : Bool) → AreWritten wrote (cond t (fin.insert m e.id e) m)
      by_newer true = λ id x g. by_id id x (eq_by_cmp id_cmp id e.id) refl (sym (get-insert nat_list_cmp_total m e.id e id) ∙ g)
        where
          by_id : (id : Id) (x : Entry) (y : Bool) → eq_by_cmp id_cmp id e.id ≡ y → cond y (Some e) (fin.get m id) ≡ Some x → (x.id ≡ id) × (wrote x.stamp ≡ Some x)
          by_id id x true f g =
              let is : e ≡ x = cc in
              subst (λ (z : Entry). (z.id ≡ id) × (wrote z.stamp ≡ Some z)) is (sym (ids_same id e.id (equal _ f)), w)
          by_id id x false f g = h id x g
      by_newer false = h

  pub written-apply : (m es : Entries) → AreWritten wrote es → AreWritten wrote m → AreWritten wrote (joined m es)
  written-apply m es w h id x g = by_other (fin.get es id) refl (sym (get-joined m es id) ∙ g)
    where
      by_newer : (t : Bool) (e : Entry) → fin.get es id ≡ Some e → cond t (Some e) (fin.get m id) ≡ Some x → (x.id ≡ id) × (wrote x.stamp ≡ Some x)
      by_newer true e f k = w id x (f ∙ k)
      by_newer false e f k = h id x k

      by_other : (o : Option Entry) → fin.get es id ≡ o → newer_of (fin.get m id) o ≡ Some x → (x.id ≡ id) × (wrote x.stamp ≡ Some x)
      by_other None f k = h id x k
      by_other (Some e) f k = by_newer (is_newer e (fin.get m id)) e f k

  written-delete : (b : Bucket) (m : Entries) → AreWritten wrote m → AreWritten wrote (fin.retain_keys m (λ id. not (in_bucket b id)))
  written-delete b m h id x g = by_test (not (in_bucket b id)) (sym (retained b m id) ∙ g)
    where
      by_test : (t : Bool) → cond t (fin.get m id) None ≡ Some x → (x.id ≡ id) × (wrote x.stamp ≡ Some x)
      by_test true k = h id x k
      by_test false k = cc

  pub written-after : (x : Body) (m : Entries) → Brings wrote x → AreWritten wrote m → AreWritten wrote (entries_by x m)
  written-after (body.Store e) m w h = written-store m e w h
  written-after (body.Apply b es) m w h = written-apply m es w h
  written-after (body.Delete b s) m w h = written-delete b m h
  written-after body.Ask m w h = h
  written-after (body.Read b only) m w h = h
  written-after (body.Split b) m w h = h
  written-after (body.Join b) m w h = h
  written-after (body.Ready b) m w h = h
  written-after (body.Activate b) m w h = h

-- ---- entries named by their stamps

-- an entry of a map that has a stamp
pub record Named (m : Entries) (s : Stamp) : Type 0 where
  pub id : Id
  pub entry : Entry
  pub there : fin.get m id ≡ Some entry
  pub stamped : entry.stamp ≡ s

pub named-of : (m : Entries) (s : Stamp) → In s (stamps_of m) → Named m s
named-of m s h =
    let c = in-contains (map stamp_in (fin.values m)) s ((stamps_of-members m s).0 (contains-in (stamps_of m) s h)) in
    let e = in-map stamp_in (fin.values m) s c in
    let g = value-get nat_list_cmp_total ids_same m e.0 e.1 in
    record { id = g.0; entry = e.0; there = g.1; stamped = e.2 }

pub of-named : (m : Entries) (id : Id) (e : Entry) → fin.get m id ≡ Some e → In e.stamp (stamps_of m)
of-named m id e h =
    in-contains (stamps_of m) e.stamp ((stamps_of-members m e.stamp).1 (contains-in (map stamp_in (fin.values m)) e.stamp (map-in stamp_in (fin.values m) e (get-value nat_list_cmp_total ids_same m id e h))))

module _ (J : List LaneEvent) where
  abbrev wrote : Stamp → Option Entry
  wrote s = entry_at s J

  pub named-written : (m : Entries) → AreWritten wrote m → (s : Stamp) → (n : Named m s) → written s J ≡ Some n.id
  named-written m h s n =
      let w = h n.id n.entry n.there in
      ap (λ t. id_in (entry_at t J)) (sym n.stamped) ∙ ap id_in w.1 ∙ ap (λ (i : Id). Some i) w.0

  of_none : (id i : Id) (s : Stamp) → same_id i id ≡ false → entry_of id s (Some i) ≡ None
  of_none id i s h = ap (λ t. cond t (Some s) None) h

  of_some : (id i : Id) (s : Stamp) → i ≡ id → entry_of id s (Some i) ≡ Some s
  of_some id i s h = ap (λ t. cond t (Some s) None) (same_id-eq i id h)

  newer_one : (t : Stamp) (a b : Option Stamp) → (a ≡ None) ⊎ (a ≡ Some t) → (b ≡ None) ⊎ (b ≡ Some t) → (newer a b ≡ None) ⊎ (newer a b ≡ Some t)
  unfolding newer
  newer_one t a b (inl e) (inl f) = inl (ap₂ newer e f)
  newer_one t a b (inl e) (inr f) = inr (ap₂ newer e f)
  newer_one t a b (inr e) (inl f) = inr (ap₂ newer e f)
  newer_one t a b (inr e) (inr f) = inr (ap₂ newer e f ∙ by_test (is_older t t))
    where
      by_test : (x : Bool) → cond x (Some t) (Some t) ≡ Some t
      by_test true = refl
      by_test false = refl

  newer_left : (t : Stamp) (a b : Option Stamp) → a ≡ Some t → (b ≡ None) ⊎ (b ≡ Some t) → newer a b ≡ Some t
  unfolding newer
  newer_left t a b e (inl f) = ap₂ newer e f
  newer_left t a b e (inr f) = ap₂ newer e f ∙ by_test (is_older t t)
    where
      by_test : (x : Bool) → cond x (Some t) (Some t) ≡ Some t
      by_test true = refl
      by_test false = refl

  newer_right : (t : Stamp) (a b : Option Stamp) → (a ≡ None) ⊎ (a ≡ Some t) → b ≡ Some t → newer a b ≡ Some t
  unfolding newer
  newer_right t a b (inl e) f = ap₂ newer e f
  newer_right t a b (inr e) f = ap₂ newer e f ∙ by_test (is_older t t)
    where
      by_test : (x : Bool) → cond x (Some t) (Some t) ≡ Some t
      by_test true = refl
      by_test false = refl

  pick-none : (id : Id) (ss : List Stamp) → ((s : Stamp) → In s ss → entry_of id s (written s J) ≡ None) → pick J id ss ≡ None
  pick-none id [] f = refl
  pick-none id (s ∷ ss) f = ap₂ newer (f s (inl refl)) (pick-none id ss (λ t h. f t (inr h))) ∙ newer-none None

  pick-one : (id : Id) (t : Stamp) (ss : List Stamp) → ((s : Stamp) → In s ss → (entry_of id s (written s J) ≡ None) ⊎ (entry_of id s (written s J) ≡ Some t)) → (pick J id ss ≡ None) ⊎ (pick J id ss ≡ Some t)
  pick-one id t [] f = inl refl
  pick-one id t (s ∷ ss) f = newer_one t (entry_of id s (written s J)) (pick J id ss) (f s (inl refl)) (pick-one id t ss (λ u h. f u (inr h)))

  pick-found : (id : Id) (t : Stamp) (ss : List Stamp) → ((s : Stamp) → In s ss → (entry_of id s (written s J) ≡ None) ⊎ (entry_of id s (written s J) ≡ Some t)) → In t ss → entry_of id t (written t J) ≡ Some t → pick J id ss ≡ Some t
  pick-found id t [] f h e = absurd h
  pick-found id t (s ∷ ss) f (inl is) e = newer_left t (entry_of id s (written s J)) (pick J id ss) (subst (λ u. entry_of id u (written u J) ≡ Some t) (sym is) e) (pick-one id t ss (λ u h. f u (inr h)))
  pick-found id t (s ∷ ss) f (inr h) e = newer_right t (entry_of id s (written s J)) (pick J id ss) (f s (inl refl)) (pick-found id t ss (λ u k. f u (inr k)) h e)

  -- what the stamps of a map name is what it has
  pub content-is : (m : Entries) → AreWritten wrote m → (id : Id) → pick J id (stamps_of m) ≡ stamp_of (fin.get m id)
  content-is m h id = by_get (fin.get m id) refl
    where
      by_get : (o : Option Entry) → fin.get m id ≡ o → pick J id (stamps_of m) ≡ stamp_of o
      by_get None g = pick-none id (stamps_of m) (λ s i. other s (named-of m s i))
        where
          other : (s : Stamp) → Named m s → entry_of id s (written s J) ≡ None
          other s n = ap (entry_of id s) (named-written m h s n) ∙ by_test (same_id n.id id) refl
            where
              by_test : (t : Bool) → same_id n.id id ≡ t → cond t (Some s) None ≡ None
              by_test true e = let there : fin.get m id ≡ Some n.entry = ap (fin.get m) (sym (same_id-true n.id id e)) ∙ n.there in let none = sym g ∙ there in cc
              by_test false e = refl
      by_get (Some e) g = pick-found id e.stamp (stamps_of m) (λ s i. one s (named-of m s i)) (of-named m id e g) own
        where
          w : (e.id ≡ id) × (wrote e.stamp ≡ Some e)
          w = h id e g

          own : entry_of id e.stamp (written e.stamp J) ≡ Some e.stamp
          own = ap (λ o. entry_of id e.stamp (id_in o)) w.1 ∙ of_some id e.id e.stamp w.0

          one : (s : Stamp) → Named m s → (entry_of id s (written s J) ≡ None) ⊎ (entry_of id s (written s J) ≡ Some e.stamp)
          one s n = by_test (same_id n.id id) refl
            where
              by_test : (t : Bool) → same_id n.id id ≡ t → (entry_of id s (written s J) ≡ None) ⊎ (entry_of id s (written s J) ≡ Some e.stamp)
              by_test true f =
                  let there : fin.get m id ≡ Some n.entry = ap (fin.get m) (sym (same_id-true n.id id f)) ∙ n.there in
                  let same : n.entry ≡ e = let both = sym there ∙ g in cc in
                  inr (ap (entry_of id s) (named-written m h s n) ∙ of_some id n.id s (same_id-true n.id id f) ∙ ap (λ (u : Stamp). Some u) (sym n.stamped ∙ ap (λ (z : Entry). z.stamp) same))
              by_test false f = inl (ap (entry_of id s) (named-written m h s n) ∙ of_none id n.id s f)
