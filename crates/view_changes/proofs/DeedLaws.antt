-- That a view, with the changes that a node tells of what it does, goes on showing what the node keeps.
use Rattle.std.proofs.Common.{◌≡◌, inl, inr, ℕ, ◌||◌, ◌&&◌, Bool, true, false, cond, not, List, [], ◌∷◌, filter, fold, Option, None, Some, refl, sym, ap, subst, ◌∙◌}
use mathlib.Core.Bool.{true≢false}
use Rattle.std.specs.List.{list_any}
use Rattle.std.specs.Str.{bytes_eq}
use Rattle.std.specs.Cmp.Lexicographic.{nat_list_cmp_total}
use Rattle.std.specs.FinMap as fin
use Rattle.std.specs.FinMap.{get-retain_keys, slice_cmp-IsAntisymmetric, nat_cmp-IsAntisymmetric}
use Rattle.bucket_ids.specs.Buckets.{Low, has_key, covers}
use Rattle.global_ids.specs.Keys.{key_of}
use Rattle.doc_types.specs.SchemaCodes.{Types}
use Rattle.documents.specs.declared.entry.Entry.{Entry}
use Rattle.entry_maps.specs.EntryCodes.{Entries}
use Rattle.documents.specs.EntryCodes.{id_cmp}
use Rattle.entry_maps.specs.Entries.{is_newer, newer_of, in_bucket}
use Rattle.entry_maps.specs.Joins.{joined}
use Rattle.entry_maps.proofs.JoinLaws.{get-joined}
use Rattle.document_rows.specs.Rows.{Rows, document_of, taken_into}
use Rattle.view_changes.specs.Views.{NodeView, in_regions, taken, is_fresh, listed, rows_with, activated}
use Rattle.view_changes.specs.Shown.{shown, body_shown, Keeping, ShowsNode, AreOwn, activate}
use Rattle.view_changes.specs.Room.{AllAt}
use Rattle.view_changes.specs.Deeds.{RoomAlong, with_entries, is_seen}
use Rattle.view_changes.proofs.Members.{In, value-get, get-value, in-any}
use Rattle.document_rows.proofs.RowLaws.{same_id, own_id}
use Rattle.view_changes.proofs.RegionLaws.{outer, region-stays, region-was}
use Rattle.view_changes.proofs.ShownLaws.{body-is}

-- ---- tests

pub first : (a b : Bool) → (a && b) ≡ true → a ≡ true
first true b h = refl
first false b h = h

pub second : (a b : Bool) → (a && b) ≡ true → b ≡ true
second true b h = h
second false b h = absurd (true≢false (sym h))

cases : (P : Bool → Type 0) (t : Bool) → (t ≡ true → P true) → (t ≡ false → P false) → P t
cases P true f g = f refl
cases P false f g = g refl

-- ---- members

abbrev pub is_id : List ℕ → Entry → Bool
is_id q e = bytes_eq e.id q

pub all-at : (m : Entries) (es : List Entry) → ((e : Entry) → In e es → fin.get m e.id ≡ Some e) → AllAt m es
all-at m [] f = tt
all-at m (e ∷ es) f = (f e (inl refl), all-at m es (λ x h. f x (inr h)))

pub listed-at : (m : Entries) → AreOwn m → AllAt m (listed m)
listed-at m own = all-at m (listed m) (λ e h. let r = value-get nat_list_cmp_total (slice_cmp-IsAntisymmetric nat_cmp-IsAntisymmetric) m e h in subst (λ (x : List ℕ). fin.get m x ≡ Some e) (sym (own r.0 e r.1)) r.1)

pub filter-at : (m : Entries) (p : Entry → Bool) (es : List Entry) → AllAt m es → AllAt m (filter p es)
filter-at m p [] h = tt
filter-at m p (e ∷ es) h = by_test (p e) (filter-at m p es h.1)
  where
    by_test : (t : Bool) → AllAt m (filter p es) → AllAt m (cond t (e ∷ filter p es) (filter p es))
    by_test true ih = (h.0, ih)
    by_test false ih = ih

pub some-in : {A : Type 0} (p : A → Bool) (xs : List A) (x : A) → In x xs → p x ≡ true → In x (filter p xs)
some-in p [] x h e = absurd h
some-in p (y ∷ ys) x (inl is) e = by_test (p y) (ap p is ∙ e)
  where
    by_test : (t : Bool) → t ≡ true → In x (cond t (y ∷ filter p ys) (filter p ys))
    by_test true f = inl is
    by_test false f = absurd (true≢false (sym f))
some-in p (y ∷ ys) x (inr h) e = by_test (p y) (some-in p ys x h e)
  where
    by_test : (t : Bool) → In x (filter p ys) → In x (cond t (y ∷ filter p ys) (filter p ys))
    by_test true ih = inr ih
    by_test false ih = ih

-- no entry of the document passes the test, so none is left
none-left : (p : Entry → Bool) (q : List ℕ) → ((e : Entry) → bytes_eq e.id q ≡ true → p e ≡ true → ⊥) → (es : List Entry) → list_any (is_id q) (filter p es) ≡ false
none-left p q f [] = refl
none-left p q f (e ∷ es) = by_tests (p e) (bytes_eq e.id q) refl refl (none-left p q f es)
  where
    by_tests : (t u : Bool) → p e ≡ t → bytes_eq e.id q ≡ u → list_any (is_id q) (filter p es) ≡ false → list_any (is_id q) (cond t (e ∷ filter p es) (filter p es)) ≡ false
    by_tests true true a b ih = absurd (f e b a)
    by_tests true false a b ih = rw (b, ih) refl
    by_tests false u a b ih = ih

-- ---- many entries

-- the entries of a map leave of each document what the map has of it
pub all-shown : (types : Types) (m : Entries) (q : List ℕ) (es : List Entry) → AllAt m es → (rows : Rows) → RoomAlong types es rows → document_of q (fold (taken_into types) rows es) ≡ cond (list_any (is_id q) es) (shown types q (fin.get m q)) (document_of q rows)
all-shown types m q [] at rows room = refl
all-shown types m q (e ∷ es) at rows room = all-shown types m q es at.1 (taken_into types rows e) room.1 ∙ by_tests (list_any (is_id q) es) (bytes_eq e.id q) refl
  where
    own : bytes_eq e.id q ≡ true → body_shown types e.id e.body ≡ shown types q (fin.get m q)
    own is = sym (ap (shown types e.id) at.0) ∙ ap (λ (x : List ℕ). shown types x (fin.get m x)) (same_id e.id q is)

    by_tests : (t u : Bool) → bytes_eq e.id q ≡ u → cond t (shown types q (fin.get m q)) (document_of q (taken_into types rows e)) ≡ cond (u || t) (shown types q (fin.get m q)) (document_of q rows)
    by_tests true true is = refl
    by_tests true false is = refl
    by_tests false true is = body-is types e.id e.body q rows room.0 ∙ (rw is (own is))
    by_tests false false is = body-is types e.id e.body q rows room.0 ∙ rw is refl

-- ---- where nothing changes in the regions

pub shows-same : (types : Types) (k : Keeping) (s : Bool) (n : NodeView) (m : Entries) → ((id : List ℕ) → in_regions k.regions (key_of id) ≡ true → fin.get m id ≡ fin.get k.entries id) → ShowsNode types k s n → ShowsNode types (with_entries m k) s n
shows-same types k s n m same h = record { version_is = h.version_is; stopped_is = h.stopped_is; regions_are = h.regions_are; documents_are = λ id. h.documents_are id ∙ by_test id (in_regions k.regions (key_of id)) refl }
  where
    by_test : (id : List ℕ) (t : Bool) → in_regions k.regions (key_of id) ≡ t → cond t (shown types id (fin.get k.entries id)) None ≡ cond t (shown types id (fin.get m id)) None
    by_test id true e = ap (shown types id) (sym (same id e))
    by_test id false e = refl

-- ---- entries that are kept in regions

all-taken : (types : Types) (n : NodeView) → List Entry → NodeView
all-taken types n [] = n
all-taken types n (e ∷ es) = all-taken types (taken types e n) es

abbrev AllInside : List Low → List Entry → Type 0
AllInside rs [] = Unit {0}
AllInside rs (e ∷ es) = (in_regions rs (key_of e.id) ≡ true) × AllInside rs es

pub seen-inside : (k : Keeping) (es : List Entry) → AllInside k.regions (filter (is_seen k) es)
seen-inside k [] = tt
seen-inside k (e ∷ es) = by_test (is_seen k e) refl (seen-inside k es)
  where
    by_test : (t : Bool) → is_seen k e ≡ t → AllInside k.regions (filter (is_seen k) es) → AllInside k.regions (cond t (e ∷ filter (is_seen k) es) (filter (is_seen k) es))
    by_test true is ih = (second (is_newer e (fin.get k.entries e.id)) (in_regions k.regions (key_of e.id)) is, ih)
    by_test false is ih = ih

-- what they leave of a node
pub all-taken-is : (types : Types) (n : NodeView) (es : List Entry) → AllInside n.regions es → fold (λ x e. taken types e x) n es ≡ record { version = n.version; stopped = n.stopped; regions = n.regions; rows = fold (taken_into types) n.rows es }
all-taken-is types n [] i = refl
all-taken-is types n (e ∷ es) i =
    let here : taken types e n ≡ record { version = n.version; stopped = n.stopped; regions = n.regions; rows = taken_into types n.rows e } = rw i.0 refl in
    ap (λ (x : NodeView). fold (λ y f. taken types f y) x es) here ∙ all-taken-is types (record { version = n.version; stopped = n.stopped; regions = n.regions; rows = taken_into types n.rows e }) es i.1

-- a list of entries that are those of a map, of which just the seen ones are newer
pub shows-united : (types : Types) (k : Keeping) (s : Bool) (n : NodeView) (es : Entries) → AreOwn es → RoomAlong types (filter (is_seen k) (listed es)) n.rows → ShowsNode types k s n
    → ShowsNode types (with_entries (joined k.entries es) k) s (fold (λ x e. taken types e x) n (filter (is_seen k) (listed es)))
shows-united types k s n es own room h =
    subst (λ (x : NodeView). ShowsNode types (with_entries (joined k.entries es) k) s x) (sym (all-taken-is types n (filter (is_seen k) (listed es)) inside))
    (record { version_is = h.version_is; stopped_is = h.stopped_is; regions_are = h.regions_are; documents_are = documents })
  where
    inside : AllInside n.regions (filter (is_seen k) (listed es))
    inside = subst (λ (rs : List Low). AllInside rs (filter (is_seen k) (listed es))) (sym h.regions_are) (seen-inside k (listed es))

    -- an entry of the document in the map is the map's
    its : (q : List ℕ) (e : Entry) → In e (listed es) → bytes_eq e.id q ≡ true → fin.get es q ≡ Some e
    its q e i is = let r = value-get nat_list_cmp_total (slice_cmp-IsAntisymmetric nat_cmp-IsAntisymmetric) es e i in
        subst (λ (x : List ℕ). fin.get es x ≡ Some e) (sym (own r.0 e r.1) ∙ same_id e.id q is) r.1

    by_map : (q : List ℕ) (o : Option Entry) → fin.get es q ≡ o → in_regions k.regions (key_of q) ≡ true
        → cond (list_any (is_id q) (filter (is_seen k) (listed es))) (shown types q o) (shown types q (fin.get k.entries q)) ≡ shown types q (newer_of (fin.get k.entries q) o)
    by_map q None e r = absent (list_any (is_id q) (filter (is_seen k) (listed es))) refl
      where
        absent : (t : Bool) → list_any (is_id q) (filter (is_seen k) (listed es)) ≡ t → cond t None (shown types q (fin.get k.entries q)) ≡ shown types q (fin.get k.entries q)
        absent false is = refl
        absent true is = absurd (true≢false (sym is ∙ none-in (listed es) (λ x i. i)))
          where
            none-in : (xs : List Entry) → ((x : Entry) → In x xs → In x (listed es)) → list_any (is_id q) (filter (is_seen k) xs) ≡ false
            none-in xs sub = missing xs sub (λ x i b. let none : None ≡ Some x = sym e ∙ its q x i b in cc)
              where
                missing : (ys : List Entry) → ((x : Entry) → In x ys → In x (listed es)) → ((x : Entry) → In x (listed es) → bytes_eq x.id q ≡ true → ⊥) → list_any (is_id q) (filter (is_seen k) ys) ≡ false
                missing [] sub no_one = refl
                missing (y ∷ ys) sub no_one = by_tests (is_seen k y) (bytes_eq y.id q) refl (missing ys (λ x i. sub x (inr i)) no_one)
                  where
                    by_tests : (t u : Bool) → bytes_eq y.id q ≡ u → list_any (is_id q) (filter (is_seen k) ys) ≡ false → list_any (is_id q) (cond t (y ∷ filter (is_seen k) ys) (filter (is_seen k) ys)) ≡ false
                    by_tests t true b ih = absurd (no_one y (sub y (inl refl)) b)
                    by_tests true false b ih = rw (b, ih) refl
                    by_tests false false b ih = ih
    by_map q (Some e) is r = by_test (is_newer e (fin.get k.entries q)) refl
      where
        its_id : e.id ≡ q
        its_id = own q e is

        member : In e (listed es)
        member = get-value nat_list_cmp_total (slice_cmp-IsAntisymmetric nat_cmp-IsAntisymmetric) es q e is

        by_test : (t : Bool) → is_newer e (fin.get k.entries q) ≡ t → cond (list_any (is_id q) (filter (is_seen k) (listed es))) (shown types q (Some e)) (shown types q (fin.get k.entries q)) ≡ shown types q (cond t (Some e) (fin.get k.entries q))
        by_test true new =
            let seen : is_seen k e ≡ true = (let a : is_newer e (fin.get k.entries e.id) ≡ true = subst (λ (x : List ℕ). is_newer e (fin.get k.entries x) ≡ true) (sym its_id) new in let b : in_regions k.regions (key_of e.id) ≡ true = subst (λ (x : List ℕ). in_regions k.regions (key_of x) ≡ true) (sym its_id) r in rw (a, b) refl) in
            let there : list_any (is_id q) (filter (is_seen k) (listed es)) ≡ true = in-any (is_id q) (filter (is_seen k) (listed es)) e (some-in (is_seen k) (listed es) e member seen) (ap (λ (x : List ℕ). bytes_eq x q) its_id ∙ own_id q) in
            ap (λ t. cond t (shown types q (Some e)) (shown types q (fin.get k.entries q))) there
        by_test false old =
            ap (λ t. cond t (shown types q (Some e)) (shown types q (fin.get k.entries q))) (none-left-in (listed es) (λ x i. i))
          where
            same : (x : Entry) → In x (listed es) → bytes_eq x.id q ≡ true → is_seen k x ≡ true → ⊥
            same x i b sx =
                let one : Some e ≡ Some x = sym is ∙ its q x i b in
                let eq : e ≡ x = cc in
                let a : is_newer x (fin.get k.entries x.id) ≡ true = first (is_newer x (fin.get k.entries x.id)) (in_regions k.regions (key_of x.id)) sx in
                let c : is_newer e (fin.get k.entries q) ≡ true = subst (λ (y : Entry). is_newer y (fin.get k.entries q) ≡ true) (sym eq) (subst (λ (y : List ℕ). is_newer x (fin.get k.entries y) ≡ true) (same_id x.id q b) a) in
                true≢false (sym c ∙ old)

            none-left-in : (ys : List Entry) → ((x : Entry) → In x ys → In x (listed es)) → list_any (is_id q) (filter (is_seen k) ys) ≡ false
            none-left-in ys sub = lost ys sub same
              where
                lost : (ys : List Entry) → ((x : Entry) → In x ys → In x (listed es)) → ((x : Entry) → In x (listed es) → bytes_eq x.id q ≡ true → is_seen k x ≡ true → ⊥) → list_any (is_id q) (filter (is_seen k) ys) ≡ false
                lost [] sub f = refl
                lost (y ∷ ys) sub f = by_tests (is_seen k y) (bytes_eq y.id q) refl refl (lost ys (λ x i. sub x (inr i)) f)
                  where
                    by_tests : (t u : Bool) → is_seen k y ≡ t → bytes_eq y.id q ≡ u → list_any (is_id q) (filter (is_seen k) ys) ≡ false → list_any (is_id q) (cond t (y ∷ filter (is_seen k) ys) (filter (is_seen k) ys)) ≡ false
                    by_tests true true a b ih = absurd (f y (sub y (inl refl)) b a)
                    by_tests true false a b ih = rw (b, ih) refl
                    by_tests false u a b ih = ih

    by_region : (q : List ℕ) (t : Bool) → in_regions k.regions (key_of q) ≡ t
        → cond (list_any (is_id q) (filter (is_seen k) (listed es))) (shown types q (fin.get es q)) (cond t (shown types q (fin.get k.entries q)) None) ≡ cond t (shown types q (newer_of (fin.get k.entries q) (fin.get es q))) None
    by_region q true r = by_map q (fin.get es q) refl r
    by_region q false r = ap (λ t. cond t (shown types q (fin.get es q)) None) (none-left (is_seen k) q (λ e b sx. true≢false (sym (second (is_newer e (fin.get k.entries e.id)) (in_regions k.regions (key_of e.id)) sx) ∙ (ap (λ (x : List ℕ). in_regions k.regions (key_of x)) (same_id e.id q b) ∙ r))) (listed es))

    documents : (q : List ℕ) → document_of q (fold (taken_into types) n.rows (filter (is_seen k) (listed es))) ≡ cond (in_regions k.regions (key_of q)) (shown types q (fin.get (joined k.entries es) q)) None
    documents q =
        all-shown types es q (filter (is_seen k) (listed es)) (filter-at es (is_seen k) (listed es) (listed-at es own)) n.rows room
        ∙ (ap (cond (list_any (is_id q) (filter (is_seen k) (listed es))) (shown types q (fin.get es q))) (h.documents_are q)
        ∙ (by_region q (in_regions k.regions (key_of q)) refl
        ∙ ap (λ (o : Option Entry). cond (in_regions k.regions (key_of q)) (shown types q o) None) (sym (get-joined k.entries es q))))

-- ---- a region more

id_tied : (q x : List ℕ) → fin.IsAntisymmetric id_cmp
id_tied q x = slice_cmp-IsAntisymmetric nat_cmp-IsAntisymmetric

pub get-within : (m : Entries) (b : Low) (q : List ℕ) → fin.get (fin.retain_keys m (in_bucket b)) q ≡ cond (in_bucket b q) (fin.get m q) None
get-within m b q = get-retain_keys m (in_bucket b) q (λ x e. ap (in_bucket b) (sym (slice_cmp-IsAntisymmetric nat_cmp-IsAntisymmetric q x e)))

pub own-within : (m : Entries) (b : Low) → AreOwn m → AreOwn (fin.retain_keys m (in_bucket b))
own-within m b own id e h = by_test (in_bucket b id) (sym (get-within m b id) ∙ h)
  where
    by_test : (t : Bool) → cond t (fin.get m id) None ≡ Some e → e.id ≡ id
    by_test true g = own id e g
    by_test false g = cc

shows-activated-at : (types : Types) (k : Keeping) (s : Bool) (n : NodeView) (b : Low) → AreOwn k.entries → n.regions ≡ k.regions
    → RoomAlong types (filter (is_fresh b n.regions) (listed (fin.retain_keys k.entries (in_bucket b)))) n.rows → ShowsNode types k s n
    → ShowsNode types (record { version = k.version; regions = cond (list_any (λ r. covers r b) n.regions) n.regions (b ∷ outer b n.regions); entries = k.entries }) s (activated types b (fin.retain_keys k.entries (in_bucket b)) n)
shows-activated-at types k s n b own same room h = by_cover (list_any (λ r. covers r b) n.regions)
  where
    part : Entries
    part = fin.retain_keys k.entries (in_bucket b)

    were : (id : List ℕ) → document_of id n.rows ≡ cond (in_regions n.regions (key_of id)) (shown types id (fin.get k.entries id)) None
    were id = h.documents_are id ∙ ap (λ (rs : List Low). cond (in_regions rs (key_of id)) (shown types id (fin.get k.entries id)) None) (sym same)

    fresh : List Entry
    fresh = filter (is_fresh b n.regions) (listed (fin.retain_keys k.entries (in_bucket b)))

    unfresh : (q : List ℕ) → (has_key b (key_of q) && not (in_regions n.regions (key_of q))) ≡ false → list_any (is_id q) (filter (is_fresh b n.regions) (listed (fin.retain_keys k.entries (in_bucket b)))) ≡ false
    unfresh q f = none-left (is_fresh b n.regions) q (λ e is t. true≢false (sym t ∙ (ap (λ (x : List ℕ). has_key b (key_of x) && not (in_regions n.regions (key_of x))) (same_id e.id q is) ∙ f))) (listed (fin.retain_keys k.entries (in_bucket b)))

    found : (q : List ℕ) (e : Entry) → fin.get k.entries q ≡ Some e → has_key b (key_of q) ≡ true → in_regions n.regions (key_of q) ≡ false → list_any (is_id q) (filter (is_fresh b n.regions) (listed (fin.retain_keys k.entries (in_bucket b)))) ≡ true
    found q e g i o =
        let there : fin.get (fin.retain_keys k.entries (in_bucket b)) q ≡ Some e = get-within k.entries b q ∙ rw i g in
        let member : In e (listed (fin.retain_keys k.entries (in_bucket b))) = get-value nat_list_cmp_total (slice_cmp-IsAntisymmetric nat_cmp-IsAntisymmetric) (fin.retain_keys k.entries (in_bucket b)) q e there in
        let id_is : e.id ≡ q = own q e g in
        let new : is_fresh b n.regions e ≡ true = ap (λ (x : List ℕ). has_key b (key_of x) && not (in_regions n.regions (key_of x))) id_is ∙ rw (i, o) refl in
        in-any (is_id q) (filter (is_fresh b n.regions) (listed (fin.retain_keys k.entries (in_bucket b)))) e (some-in (is_fresh b n.regions) (listed (fin.retain_keys k.entries (in_bucket b))) e member new) (ap (λ (x : List ℕ). bytes_eq x q) id_is ∙ own_id q)

    by_entry : (q : List ℕ) (o : Option Entry) → fin.get k.entries q ≡ o → has_key b (key_of q) ≡ true → in_regions n.regions (key_of q) ≡ false
        → cond (list_any (is_id q) (filter (is_fresh b n.regions) (listed (fin.retain_keys k.entries (in_bucket b))))) (shown types q (fin.get k.entries q)) None ≡ shown types q (fin.get k.entries q)
    by_entry q None g i r = by_any (list_any (is_id q) (filter (is_fresh b n.regions) (listed (fin.retain_keys k.entries (in_bucket b)))))
      where
        by_any : (t : Bool) → cond t (shown types q (fin.get k.entries q)) None ≡ shown types q (fin.get k.entries q)
        by_any true = refl
        by_any false = sym (ap (shown types q) g)
    by_entry q (Some e) g i r = ap (λ t. cond t (shown types q (fin.get k.entries q)) None) (found q e g i r)

    by_keys : (q : List ℕ) (t u : Bool) → in_regions n.regions (key_of q) ≡ t → has_key b (key_of q) ≡ u
        → cond (list_any (is_id q) (filter (is_fresh b n.regions) (listed (fin.retain_keys k.entries (in_bucket b))))) (shown types q (cond u (fin.get k.entries q) None)) (cond t (shown types q (fin.get k.entries q)) None)
        ≡ cond (in_regions (b ∷ outer b n.regions) (key_of q)) (shown types q (fin.get k.entries q)) None
    by_keys q true u r i =
        let any : list_any (is_id q) (filter (is_fresh b n.regions) (listed (fin.retain_keys k.entries (in_bucket b)))) ≡ false = unfresh q (by_test (has_key b (key_of q)) (in_regions n.regions (key_of q)) r) in
        ap (λ t. cond t (shown types q (cond u (fin.get k.entries q) None)) (shown types q (fin.get k.entries q))) any ∙ sym (ap (λ t. cond t (shown types q (fin.get k.entries q)) None) (region-stays b (key_of q) n.regions r))
      where
        by_test : (x y : Bool) → y ≡ true → (x && not y) ≡ false
        by_test true true e = refl
        by_test false true e = refl
        by_test x false e = absurd (true≢false (sym e))
    by_keys q false true r i = by_entry q (fin.get k.entries q) refl i r ∙ sym (ap (λ t. cond t (shown types q (fin.get k.entries q)) None) (ap (λ t. t || in_regions (outer b n.regions) (key_of q)) i))
    by_keys q false false r i =
        let any : list_any (is_id q) (filter (is_fresh b n.regions) (listed (fin.retain_keys k.entries (in_bucket b)))) ≡ false = unfresh q (ap (λ t. t && not (in_regions n.regions (key_of q))) i) in
        ap (λ t. cond t (shown types q None) None) any ∙ sym (ap (λ t. cond t (shown types q (fin.get k.entries q)) None) (region-was b (key_of q) n.regions i r))

    documents : (q : List ℕ) → document_of q (rows_with types b (fin.retain_keys k.entries (in_bucket b)) n.regions n.rows) ≡ cond (in_regions (b ∷ outer b n.regions) (key_of q)) (shown types q (fin.get k.entries q)) None
    documents q =
        all-shown types (fin.retain_keys k.entries (in_bucket b)) q (filter (is_fresh b n.regions) (listed (fin.retain_keys k.entries (in_bucket b))))
        (filter-at (fin.retain_keys k.entries (in_bucket b)) (is_fresh b n.regions) (listed (fin.retain_keys k.entries (in_bucket b))) (listed-at (fin.retain_keys k.entries (in_bucket b)) (own-within k.entries b own))) n.rows room
        ∙ (ap (λ (o : Option Entry). cond (list_any (is_id q) (filter (is_fresh b n.regions) (listed (fin.retain_keys k.entries (in_bucket b))))) (shown types q o) (document_of q n.rows)) (get-within k.entries b q)
        ∙ (ap (cond (list_any (is_id q) (filter (is_fresh b n.regions) (listed (fin.retain_keys k.entries (in_bucket b))))) (shown types q (cond (in_bucket b q) (fin.get k.entries q) None))) (were q)
        ∙ by_keys q (in_regions n.regions (key_of q)) (has_key b (key_of q)) refl refl))

    by_cover : (t : Bool) → ShowsNode types (record { version = k.version; regions = cond t n.regions (b ∷ outer b n.regions); entries = k.entries }) s
        (cond t n (record { version = n.version; stopped = n.stopped; regions = b ∷ outer b n.regions; rows = rows_with types b (fin.retain_keys k.entries (in_bucket b)) n.regions n.rows }))
    by_cover true = record { version_is = h.version_is; stopped_is = h.stopped_is; regions_are = refl; documents_are = were }
    by_cover false = record { version_is = h.version_is; stopped_is = h.stopped_is; regions_are = refl; documents_are = documents }

pub shows-activated : (types : Types) (k : Keeping) (s : Bool) (n : NodeView) (b : Low) → AreOwn k.entries
    → RoomAlong types (filter (is_fresh b k.regions) (listed (fin.retain_keys k.entries (in_bucket b)))) n.rows → ShowsNode types k s n
    → ShowsNode types (activate b k) s (activated types b (fin.retain_keys k.entries (in_bucket b)) n)
shows-activated types k s n b own room h =
    subst (λ (rs : List Low). ShowsNode types (record { version = k.version; regions = cond (list_any (λ r. covers r b) rs) rs (b ∷ outer b rs); entries = k.entries }) s (activated types b (fin.retain_keys k.entries (in_bucket b)) n)) h.regions_are
    (shows-activated-at types k s n b own h.regions_are (subst (λ (rs : List Low). RoomAlong types (filter (is_fresh b rs) (listed (fin.retain_keys k.entries (in_bucket b)))) n.rows) (sym h.regions_are) room) h)
