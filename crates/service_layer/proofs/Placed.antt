-- The documents of a node's parts stay where their pieces say.
use Rattle.std.proofs.Common.{◌≡◌, ◌&&◌, ◌||◌, ℕ, ◌+◌, ◌<◌, ◌^◌, Bool, true, false, cond, not, List, [], Option, None, Some, Result, Ok, Err, OnOk, OnErr, refl, sym, ap, ap₂, ◌∙◌, subst}
use mathlib.Core.Bool.{true≢false}
use Rattle.std.specs.Str.{bytes_eq}
use Rattle.std.specs.Cmp.Lexicographic.{nat_list_cmp_total}
use Rattle.std.specs.FinMap as fin
use Rattle.std.specs.FinMap.{get-insert, get-retain_keys, get-empty, slice_cmp-IsAntisymmetric, nat_cmp-IsAntisymmetric}
use Rattle.std.proofs.lemmas.Map.Text.{is_eq-slice_cmp}
use Rattle.std.specs.List.{list_any}
use Rattle.bucket_ids.specs.Buckets.{Low, IsBucket, has_key}
use Rattle.global_ids.specs.Keys.{key_of}
use Rattle.global_ids.proofs.KeyLaws.{key_small}
use Rattle.doc_types.specs.SchemaCodes.{Types}
use Rattle.documents.specs.declared.entry.Entry.{Entry}
use Rattle.documents.specs.EntryCodes.{id_cmp}
use Rattle.entry_maps.specs.EntryCodes.{Entries}
use Rattle.entry_maps.specs.Entries.{is_newer, with_entry, newer_of, in_bucket}
use Rattle.entry_maps.specs.Joins.{joined}
use Rattle.entry_maps.proofs.JoinLaws.{get-joined}
use Rattle.document_rows.specs.Rows.{is_of}
use Rattle.document_rows.proofs.RowLaws.{same_id}
use Rattle.view_changes.proofs.ShownLaws.{turned}
use Rattle.pieces.specs.declared.piece.Piece.{Piece}
use Rattle.pieces.specs.declared.fault.StoreFault.{StoreFault}
use Rattle.pieces.specs.declared.fault.StoreFault.TheVariants as fault
use Rattle.pieces.specs.Pieces.{is_over, is_exactly, has_key_of, holds, renewed, split_at, ready_at, apply_at}
use Rattle.pieces.specs.Places.{key_bucket}
use Rattle.pieces.specs.Runs.{IsLaid, AreRuns}
use Rattle.pieces.specs.Holdings.{Holding, no_pieces, after_store, after_apply, after_join, after_ready, after_delete}
use Rattle.pieces.specs.Told.{Accepted, NoBucket, Differs, IsSurelyTold, ready_told, unless_met}
use Rattle.pieces.proofs.KeyLaws.{holds-renewed, holds-ready, holds-split, holds-apply}
use Rattle.sub_databases.specs.Parts.{Parts, no_parts, place_in, entry_place, body_place}
use Rattle.sub_databases.specs.declared.place.Place.{Place}
use Rattle.sub_databases.specs.Changes.{with_both, rows_after, after_take, place_after, is_fresh, Unites, made_ready, MakesReady, after_drop, place_dropped}
use Rattle.replica_store.specs.Replicas.{AreHeld, LieIn}
use Rattle.replica_store.proofs.HeldEntries.{none_is, AreHeld-store, AreHeld-more, AreHeld-delete, AreHeld-join}
use Rattle.service_layer.specs.Placing.{is_ready, is_ready_over, is_ready_inside, IsStore, IsApplied, AppliesAs, applies}
use Rattle.service_layer.proofs.Readiness.{IsMade, ready-renewed, ready-split, ready-made, ready-outside, ready-without, over-mark, marked_over, join-unready, join-ready, join-outside, made-over, made-inside, key_has, key_is_bucket, key_over}

-- each document is where its entry and its piece say
abbrev pub AreWell : Parts → List Piece → Type 0
AreWell p ps = (id : List ℕ) → place_in p id ≡ entry_place id (fin.get p.entries id) (is_ready (key_of id) ps)

pub well_new : (types : Types) → AreWell (no_parts types) []
well_new types id = refl

-- the same keys are ready
pub well_same : (p : Parts) (ps qs : List Piece) → ((key : ℕ) → key < 2 ^ 58 → is_ready key qs ≡ is_ready key ps) → ((id : List ℕ) → key_of id < 2 ^ 58) → AreWell p ps → AreWell p qs
well_same p ps qs same small h id = h id ∙ ap (entry_place id (fin.get p.entries id)) (sym (same (key_of id) (small id)))

-- ---- an entry comes

get_inserted : (m : Entries) (e : Entry) (q : List ℕ) → fin.get (fin.insert m e.id e) q ≡ cond (bytes_eq e.id q) (Some e) (fin.get m q)
get_inserted m e q = get-insert nat_list_cmp_total m e.id e q ∙ ap (λ t. cond t (Some e) (fin.get m q)) (is_eq-slice_cmp q e.id ∙ turned q e.id)

pub taken_entries : (p : Parts) (e : Entry) (ready : Bool) → (after_take e ready p).entries ≡ with_entry p.entries e
taken_entries p e ready = by_test (is_newer e (fin.get p.entries e.id))
  where
    by_test : (t : Bool) → (cond t (with_both (fin.insert p.entries e.id e) (rows_after p.types ready p.rows e) p) p).entries ≡ cond t (fin.insert p.entries e.id e) p.entries
    by_test true = refl
    by_test false = refl

pub well_taken : (p new : Parts) (e : Entry) (ready : Bool) (ps qs : List Piece) → ((key : ℕ) → is_ready key qs ≡ is_ready key ps) → is_ready (key_of e.id) ps ≡ ready
    → new ≡ after_take e ready p → ((id : List ℕ) → place_in new id ≡ place_after e ready p id) → AreWell p ps → AreWell new qs
well_taken p new e ready ps qs same mark is places h id =
    places id ∙ by_tests (is_newer e (fin.get p.entries e.id)) (bytes_eq e.id id) refl
    ∙ ap₂ (λ o r. entry_place id o r) (sym (ap (λ (k : Parts). fin.get k.entries id) is ∙ ap (λ m. fin.get m id) (taken_entries p e ready))) (sym (same (key_of id)))
  where
    by_tests : (t u : Bool) → bytes_eq e.id id ≡ u → cond (u && t) (entry_place id (Some e) ready) (place_in p id) ≡ entry_place id (fin.get (cond t (fin.insert p.entries e.id e) p.entries) id) (is_ready (key_of id) ps)
    by_tests true true own =
        ap (entry_place id (Some e)) (sym mark ∙ ap (λ i. is_ready (key_of i) ps) (same_id e.id id own))
        ∙ ap (λ o. entry_place id o (is_ready (key_of id) ps)) (sym (get_inserted p.entries e id ∙ ap (λ u. cond u (Some e) (fin.get p.entries id)) own))
    by_tests true false other = h id ∙ ap (λ o. entry_place id o (is_ready (key_of id) ps)) (sym (get_inserted p.entries e id ∙ ap (λ u. cond u (Some e) (fin.get p.entries id)) other))
    by_tests false true own = h id
    by_tests false false other = h id

-- ---- a bucket becomes ready

made_is : (id : List ℕ) (o : Option Entry) (r : Bool) → made_ready true (entry_place id o r) ≡ entry_place id o true
made_is id None r = refl
made_is id (Some e) r = by_tests (is_of id e.body) r
  where
    by_tests : (t r : Bool) → made_ready true (body_place t r) ≡ body_place t true
    by_tests false r = refl
    by_tests true true = refl
    by_tests true false = refl

pub well_readied : (p new : Parts) (b : Low) (ps qs : List Piece) → ((id : List ℕ) → key_of id < 2 ^ 58) → ((key : ℕ) → key < 2 ^ 58 → has_key b key ≡ true → is_ready key qs ≡ true)
    → ((key : ℕ) → key < 2 ^ 58 → has_key b key ≡ false → is_ready key qs ≡ is_ready key ps) → MakesReady b p new → AreWell p ps → AreWell new qs
well_readied p new b ps qs small inside outside made h id =
    made.places id ∙ ap (made_ready (in_bucket b id)) (h id) ∙ by_test (in_bucket b id) refl
    ∙ ap (λ m. entry_place id (fin.get m id) (is_ready (key_of id) qs)) (sym made.entries)
  where
    by_test : (t : Bool) → in_bucket b id ≡ t → made_ready t (entry_place id (fin.get p.entries id) (is_ready (key_of id) ps)) ≡ entry_place id (fin.get p.entries id) (is_ready (key_of id) qs)
    by_test true is = made_is id (fin.get p.entries id) (is_ready (key_of id) ps) ∙ ap (entry_place id (fin.get p.entries id)) (sym (inside (key_of id) (small id) is))
    by_test false is = ap (entry_place id (fin.get p.entries id)) (sym (outside (key_of id) (small id) is))

-- ---- a map of entries comes

pub applied_plain : (b : Low) (es : Entries) (ready : Bool) (old new : Parts) → Unites es ready old new → IsApplied b es ready false old new
applied_plain b es ready old new h = record { entries = h.entries; places = h.places }

pub applied_readied : (b : Low) (es : Entries) (ready : Bool) (old made new : Parts) → MakesReady b old made → Unites es ready made new → IsApplied b es ready true old new
applied_readied b es ready old made new h k = record {
  entries = k.entries ∙ ap (λ m. joined m es) h.entries;
  places = λ id. k.places id ∙ ap₂ (λ m x. cond (is_fresh (fin.get es id) (fin.get m id)) (entry_place id (fin.get es id) ready) x) h.entries (h.places id);
}

pub well_applied : (p new : Parts) (b : Low) (es : Entries) (ready readied : Bool) (ps qs : List Piece) → ((id : List ℕ) → key_of id < 2 ^ 58) → LieIn b es
    → IsMade b ps qs ready readied → IsApplied b es ready readied p new → AreWell p ps → AreWell new qs
well_applied p new b es ready readied ps qs small lie made h well id =
    h.places id ∙ by_entry (fin.get es id) refl
    ∙ ap (λ o. entry_place id o (is_ready (key_of id) qs)) (sym (ap (λ m. fin.get m id) h.entries ∙ get-joined p.entries es id))
  where
    there : (w : Bool) → (readied && in_bucket b id) ≡ w → made_ready w (place_in p id) ≡ entry_place id (fin.get p.entries id) (is_ready (key_of id) qs)
    there true is =
        ap (made_ready true) (well id) ∙ made_is id (fin.get p.entries id) (is_ready (key_of id) ps)
        ∙ ap (entry_place id (fin.get p.entries id)) (sym (made.inside (key_of id) (small id) (second readied (in_bucket b id) is) ∙ made.mark (first readied (in_bucket b id) is)))
      where
        first : (x y : Bool) → x && y ≡ true → x ≡ true
        first true y k = refl
        first false y k = k

        second : (x y : Bool) → x && y ≡ true → y ≡ true
        second true y k = k
        second false y k = absurd (true≢false (sym k))
    there false is = well id ∙ ap (entry_place id (fin.get p.entries id)) (sym (made.stays (key_of id) (small id) is))

    by_newer : (e : Entry) (t : Bool) → fin.get es id ≡ Some e → cond t (entry_place id (Some e) ready) (made_ready (readied && in_bucket b id) (place_in p id)) ≡ entry_place id (cond t (Some e) (fin.get p.entries id)) (is_ready (key_of id) qs)
    by_newer e true is = ap (entry_place id (Some e)) (sym (made.inside (key_of id) (small id) (lie id e is)))
    by_newer e false is = there (readied && in_bucket b id) refl

    by_entry : (o : Option Entry) → fin.get es id ≡ o
        → cond (is_fresh o (fin.get p.entries id)) (entry_place id o ready) (made_ready (readied && in_bucket b id) (place_in p id)) ≡ entry_place id (newer_of (fin.get p.entries id) o) (is_ready (key_of id) qs)
    by_entry None is = there (readied && in_bucket b id) refl
    by_entry (Some e) is = by_newer e (is_newer e (fin.get p.entries id)) is

-- ---- a bucket goes

pub well_dropped : (p new : Parts) (b : Low) (ps qs : List Piece) → ((id : List ℕ) → key_of id < 2 ^ 58) → ((key : ℕ) → has_key b key ≡ false → is_ready key qs ≡ is_ready key ps)
    → new ≡ after_drop b p → ((id : List ℕ) → place_in new id ≡ place_dropped (in_bucket b id) (place_in p id)) → AreWell p ps → AreWell new qs
well_dropped p new b ps qs small same is places h id =
    places id ∙ by_test (in_bucket b id) refl ∙ ap (λ o. entry_place id o (is_ready (key_of id) qs)) (sym (ap (λ (k : Parts). fin.get k.entries id) is ∙ get_retained))
  where
    get_retained : fin.get (fin.retain_keys p.entries (λ i. not (in_bucket b i))) id ≡ cond (not (in_bucket b id)) (fin.get p.entries id) None
    get_retained = get-retain_keys p.entries (λ i. not (in_bucket b i)) id (λ x e. ap (λ i. not (in_bucket b i)) (sym (slice_cmp-IsAntisymmetric nat_cmp-IsAntisymmetric id x e)))

    by_test : (t : Bool) → in_bucket b id ≡ t → place_dropped t (place_in p id) ≡ entry_place id (cond (not t) (fin.get p.entries id) None) (is_ready (key_of id) qs)
    by_test true out = refl
    by_test false out = h id ∙ ap (entry_place id (fin.get p.entries id)) (sym (same (key_of id) out))

-- ---- a store after each call

small : (id : List ℕ) → key_of id < 2 ^ 58
small = key_small

none_there : (id : List ℕ) (e : Entry) {A : Type 0} → fin.get {X = Entry} {R = id_cmp} fin.empty id ≡ Some e → A
none_there id e is = none_is (sym (get-empty id_cmp id) ∙ is)

pub store_new : (types : Types) (p : Parts) (h : Holding) → p ≡ no_parts types → h ≡ no_pieces → IsStore p h.pieces
store_new types p h is empty = subst (λ (k : Holding). IsStore p k.pieces) (sym empty) (subst (λ (k : Parts). IsStore k []) (sym is) (record {
  held = λ id e there. none_there id e there;
  places = well_new types;
}))

-- the call is done or not
pub store_either : {A : Type 0} (p : Parts) (old new next : Holding) (r : Result A StoreFault) → OnOk r (new ≡ next) → OnErr r (new ≡ old) → IsStore p old.pieces → (OnOk r (Unit {0}) → IsStore p next.pieces) → IsStore p new.pieces
store_either p old new next (Ok a) ok err h k = subst (λ (x : Holding). IsStore p x.pieces) (sym ok) (k tt)
store_either p old new next (Err e) ok err h k = subst (λ (x : Holding). IsStore p x.pieces) (sym err) h

pub store_renewed : (p : Parts) (test : Piece → Bool) (s : ℕ) (ps : List Piece) → IsStore p ps → IsStore p (renewed test s ps)
store_renewed p test s ps h = record {
  held = λ id e there. holds-renewed (key_of id) test s ps ∙ h.held id e there;
  places = well_same p ps (renewed test s ps) (λ key k. ready-renewed key test s ps) small h.places;
}

pub store_split : AreRuns → (p : Parts) (b : Low) → IsBucket b → (s : ℕ) (ps : List Piece) → IsLaid 0 ps → IsStore p ps → IsStore p (split_at b s ps)
store_split laws p b vb s ps laid h = record {
  held = λ id e there. holds-split laws (key_of id) (small id) b vb s 0 ps laid ∙ h.held id e there;
  places = well_same p ps (split_at b s ps) (λ key k. ready-split laws key k b vb s 0 ps laid) small h.places;
}

-- a piece that is ready already becomes ready
pub store_ready : AreRuns → (p : Parts) (b : Low) → IsBucket b → (s : ℕ) (ps : List Piece) → IsLaid 0 ps → list_any (is_exactly b) ps ≡ true → is_ready_over b ps ≡ true → IsStore p ps → IsStore p (ready_at b s ps)
store_ready laws p b vb s ps laid exact mark h = record {
  held = λ id e there. holds-ready (key_of id) b s ps ∙ h.held id e there;
  places = well_same p ps (ready_at b s ps) (λ key k. by_key key k (has_key b key) refl) small h.places;
}
  where
    by_key : (key : ℕ) → key < 2 ^ 58 → (t : Bool) → has_key b key ≡ t → is_ready key (ready_at b s ps) ≡ is_ready key ps
    by_key key k true is = ready-made b key s is ps exact ∙ sym (over-mark laws key k b vb is 0 ps laid (marked_over b ps mark) ∙ mark)
    by_key key k false is = ready-outside b key s is ps

-- and another one, with its documents
pub store_readied : (p q : Parts) (b : Low) (old new : Holding) (r : Result (Unit {0}) StoreFault) → OnOk r (new ≡ after_ready b old) → IsSurelyTold (ready_told b old.pieces) r → list_any (is_exactly b) old.pieces ≡ true
    → MakesReady b p q → IsStore p old.pieces → IsStore q new.pieces
store_readied p q b old new (Ok x) ok told exact made h =
    let s = old.serial + 1 in
    subst (λ (k : Holding). IsStore q k.pieces) (sym ok) (record {
      held = λ id e there. holds-ready (key_of id) b s old.pieces ∙ h.held id e (sym (ap (λ m. fin.get m id) made.entries) ∙ there);
      places = well_readied p q b old.pieces (ready_at b s old.pieces) small (λ key k is. ready-made b key s is old.pieces exact) (λ key k is. ready-outside b key s is old.pieces) made h.places;
    })
store_readied p q b old new (Err fault.NoBucket) ok told exact made h = absurd (accepted_not (ap (λ t. cond t Accepted (unless_met b old.pieces)) exact) told)
  where
    accepted_not : ready_told b old.pieces ≡ Accepted → ready_told b old.pieces ≡ NoBucket → ⊥
    accepted_not a n = differ (sym a ∙ n)
      where
        differ : Accepted ≡ NoBucket → ⊥
        differ e = cc
store_readied p q b old new (Err fault.Differs) ok told exact made h = absurd (accepted_not (ap (λ t. cond t Accepted (unless_met b old.pieces)) exact) told)
  where
    accepted_not : ready_told b old.pieces ≡ Accepted → ready_told b old.pieces ≡ Differs → ⊥
    accepted_not a n = differ (sym a ∙ n)
      where
        differ : Accepted ≡ Differs → ⊥
        differ e = cc
store_readied p q b old new (Err fault.NoMemory) ok told exact made h = absurd told

or_second : (x y : Bool) → y ≡ true → x || y ≡ true
or_second true y e = refl
or_second false y e = e

-- a join of pieces of which none is ready
pub store_join : (p : Parts) (b : Low) (old new : Holding) (r : Result (Unit {0}) StoreFault) → OnOk r (new ≡ after_join b old) → OnErr r (new ≡ old)
    → OnOk r ((key : ℕ) → key < 2 ^ 58 → holds key new.pieces ≡ has_key b key || holds key old.pieces) → is_ready_inside b old.pieces ≡ false → IsStore p old.pieces → IsStore p new.pieces
store_join p b old new (Ok x) ok err keys none h = record {
  held = λ id e there. keys (key_of id) (small id) ∙ or_second (has_key b (key_of id)) (holds (key_of id) old.pieces) (h.held id e there);
  places = well_same p old.pieces new.pieces (λ key k. ap (λ (y : Holding). is_ready key y.pieces) ok ∙ join-unready b key (old.serial + 1) old.pieces none) small h.places;
}
store_join p b old new (Err x) ok err keys none h = subst (λ (k : Holding). IsStore p k.pieces) (sym err) h

-- and of pieces of which one is
pub store_joined : AreRuns → (p q : Parts) (b : Low) → IsBucket b → (old new : Holding) → IsLaid 0 old.pieces → new ≡ after_join b old
    → ((key : ℕ) → key < 2 ^ 58 → holds key new.pieces ≡ has_key b key || holds key old.pieces) → is_ready_inside b old.pieces ≡ true → MakesReady b p q → IsStore p old.pieces → IsStore q new.pieces
store_joined laws p q b vb old new laid is keys some made h = record {
  held = λ id e there. keys (key_of id) (small id) ∙ or_second (has_key b (key_of id)) (holds (key_of id) old.pieces) (h.held id e (sym (ap (λ m. fin.get m id) made.entries) ∙ there));
  places = well_readied p q b old.pieces new.pieces small
      (λ key k inside. ap (λ (y : Holding). is_ready key y.pieces) is ∙ join-ready b key (old.serial + 1) inside old.pieces some)
      (λ key k outside. ap (λ (y : Holding). is_ready key y.pieces) is ∙ join-outside laws key k b vb outside (old.serial + 1) 0 old.pieces laid) made h.places;
}

pub store_applied : AreRuns → (p q : Parts) (b : Low) (es : Entries) → IsBucket b → (old new : Holding) → IsLaid 0 old.pieces → new ≡ after_apply b old → LieIn b es → AppliesAs b es old.pieces p q → IsStore p old.pieces → IsStore q new.pieces
store_applied laws p q b es vb old new laid is lie done h = subst (λ (k : Holding). IsStore q k.pieces) (sym is) (by_over (list_any (is_over b) old.pieces) refl done)
  where
    ps : List Piece
    ps = old.pieces

    qs : List Piece
    qs = apply_at b (old.serial + 1) old.pieces

    store : (ready readied : Bool) → IsMade b ps qs ready readied → IsApplied b es ready readied p q → IsStore q qs
    store ready readied made applied = record {
      held = subst (λ m. AreHeld m qs) (sym applied.entries)
          (AreHeld-join small get-joined b p.entries es ps qs (λ key k. holds-apply laws key k b vb (old.serial + 1) ps laid) lie h.held);
      places = well_applied p q b es ready readied ps qs small lie made applied h.places;
    }

    by_over : (t : Bool) → list_any (is_over b) old.pieces ≡ t → applies t b es old.pieces p q → IsStore q qs
    by_over true over k = store (is_ready_over b ps) false (made-over laws b vb (old.serial + 1) ps laid over) k
    by_over false over k = store (is_ready_inside b ps) (is_ready_inside b ps) (made-inside laws b vb (old.serial + 1) ps laid over) k

pub store_dropped : (p q : Parts) (b : Low) (old new : Holding) → new ≡ after_delete b old → ((key : ℕ) → key < 2 ^ 58 → holds key new.pieces ≡ (not (has_key b key) && holds key old.pieces))
    → q ≡ after_drop b p → ((id : List ℕ) → place_in q id ≡ place_dropped (in_bucket b id) (place_in p id)) → IsStore p old.pieces → IsStore q new.pieces
store_dropped p q b old new is keys left places h = record {
  held = subst (λ (k : Parts). AreHeld k.entries new.pieces) (sym left) (AreHeld-delete small b p.entries old.pieces new.pieces keys h.held);
  places = well_dropped p q b old.pieces new.pieces small (λ key out. ap (λ (y : Holding). is_ready key y.pieces) is ∙ ready-without b key out old.pieces) left places h.places;
}

pub store_taken : AreRuns → (p q : Parts) (e : Entry) (key : ℕ) (ready : Bool) (old new : Holding) → IsLaid 0 old.pieces → key ≡ key_of e.id → holds key old.pieces ≡ true → ready ≡ is_ready_over (key_bucket key) old.pieces
    → new ≡ after_store key old → q ≡ after_take e ready p → ((id : List ℕ) → place_in q id ≡ place_after e ready p id) → IsStore p old.pieces → IsStore q new.pieces
store_taken laws p q e key ready old new laid is there mark renew taken places h =
    let k = subst (λ n. n < 2 ^ 58) (sym is) (small e.id) in
    let here : is_ready (key_of e.id) old.pieces ≡ ready =
    sym (ap (λ n. is_ready n old.pieces) is)
    ∙ over-mark laws key k (key_bucket key) (key_is_bucket key k) (key_has key k) 0 old.pieces laid (key_over key 0 old.pieces laid there) ∙ sym mark in
    record {
      held = subst (λ m. AreHeld m new.pieces) (sym (ap (λ (x : Parts). x.entries) taken ∙ taken_entries p e ready))
          (AreHeld-more small (with_entry p.entries e) old.pieces new.pieces
          (λ n k holding. ap (λ (y : Holding). holds n y.pieces) renew ∙ holds-renewed n (has_key_of key) (old.serial + 1) old.pieces ∙ holding)
          (AreHeld-store p.entries e old.pieces (ap (λ n. holds n old.pieces) (sym is) ∙ there) h.held));
      places = well_taken p q e ready old.pieces new.pieces (λ n. ap (λ (y : Holding). is_ready n y.pieces) renew ∙ ready-renewed n (has_key_of key) (old.serial + 1) old.pieces) here taken places h.places;
    }
