-- What a message for a bucket makes of that bucket.
use Rattle.std.proofs.Common.{◌≡◌, ◌==◌, ◌&&◌, not, ℕ, ◌+◌, Bool, true, false, cond, List, [], ◌∷◌, refl, sym, ap, subst, Option, Some, None, IsSome}
use Rattle.std.specs.List.{list_any, find}
use Rattle.bucket_ids.specs.Buckets.{Low, IsBucket, has_key, covers}
use Rattle.lane_journals.specs.Stamps.{Stamp, newer}
use Rattle.pieces.specs.declared.piece.Piece.{Piece}
use Rattle.view_changes.specs.Shown.{with_region}
use Rattle.pieces.specs.Pieces.{split_at, join_at, with_piece, apply_at, ready_at, make_ready, renew, renewed, with_serial, without, does_meet, is_over, is_inside, is_exactly, has_key_of}
use Rattle.lane_journals.specs.Buckets.{Id, key_of}
use Rattle.lane_journals.specs.Events.{Content}
use Rattle.proof_basics.proofs.Tests.{both, or_left, or_right, and_true, is_false, clash}
use Rattle.pieces.proofs.PieceLaws.{bucket-same, covers-refl, same-refl}
use Rattle.pass_model.specs.Nodes.{Node, activate_once, apply_once, can_activate, can_delete, can_ready, delete_once, dropped_in, join_once, ready_once, split_once, with_pieces}
use Rattle.pass_model.specs.Shapes.{Fits, IsActiveOn, IsApart, IsClear, IsExact, IsReadied, IsSound, shape_beside, shape_by, shape_of}
use Rattle.proof_basics.proofs.Lists.{any-map}
use Rattle.pass_model.proofs.Tests.{any-filter}
use Rattle.proof_basics.proofs.Numbers.{same-nat}
use Rattle.pass_model.proofs.Geometry.{meets-by}
use Rattle.pass_model.proofs.Splits.{split-exact, split-key, split-apart}
use Rattle.pass_model.proofs.Joins.{join-exact, join-key, join-apart, without-apart}
use Rattle.pass_model.proofs.Inserts.{insert-new, insert-stay, insert-apart, no-meeting, map-any, map-apart, ready-keeps, renew-keeps, without-clear, region-own}

abbrev serial_is : Option Piece → ℕ → Bool
serial_is None s = true
serial_is (Some p) s = s == p.serial

pub same-in : (b : Low) (p : Piece) → IsBucket b → is_exactly b p ≡ true → covers b p.bucket ≡ true
same-in b p ok h = subst (λ c. covers b c ≡ true) (sym (bucket-same p.bucket b h)) (covers-refl b ok)

is-exact : (b : Low) (s : ℕ) (r : Bool) → is_exactly b (record { bucket = b; serial = s; ready = r }) ≡ true
is-exact b s r = same-refl b

module _ (b : Low) (ok : IsBucket b) where
  pub applied-exact : (united : Content) (x : Node) → IsApart x.pieces → IsExact b (apply_once b united x)
  applied-exact united x a = by_test (list_any (is_over b) x.pieces) (list_any (is_inside b) x.pieces) refl refl
    where
      new : Piece
      new = record { bucket = b; serial = x.serial + 1; ready = false }

      by_test : (t u : Bool) → list_any (is_over b) x.pieces ≡ t → list_any (is_inside b) x.pieces ≡ u
          → list_any (is_exactly b) (cond t (split_at b (x.serial + 1) x.pieces) (cond u (join_at b (x.serial + 1) x.pieces) (with_piece (record { bucket = b; serial = x.serial + 1; ready = false }) x.pieces))) ≡ true
      by_test true u e f = split-exact b (x.serial + 1) ok (is_exactly b) (λ r. is-exact b (x.serial + 1) r) x.pieces a e
      by_test false true e f = join-exact b (x.serial + 1) ok (is_exactly b) (λ r. is-exact b (x.serial + 1) r) x.pieces f
      by_test false false e f = insert-new (is_exactly b) (record { bucket = b; serial = x.serial + 1; ready = false }) (is-exact b (x.serial + 1) false) x.pieces

  pub split-fits : (x : Node) → IsApart x.pieces → list_any (is_over b) x.pieces ≡ true → IsExact b (split_once b x)
  split-fits x a h = subst (λ t. IsExact b (cond t (with_pieces (split_at b (x.serial + 1) x.pieces) x) x)) (sym h) (split-exact b (x.serial + 1) ok (is_exactly b) (λ r. is-exact b (x.serial + 1) r) x.pieces a h)

  pub join-fits : (x : Node) → list_any (is_inside b) x.pieces ≡ true → IsExact b (join_once b x)
  join-fits x h = subst (λ t. IsExact b (cond t (with_pieces (join_at b (x.serial + 1) x.pieces) x) x)) (sym h) (join-exact b (x.serial + 1) ok (is_exactly b) (λ r. is-exact b (x.serial + 1) r) x.pieces h)

  ready-here : (s : ℕ) (p : Piece) → is_exactly b p ≡ true → (is_exactly b (make_ready b s p) && (make_ready b s p).ready) ≡ true
  ready-here s p h = subst (λ t. (is_exactly b (cond t (record { bucket = p.bucket; serial = s; ready = true }) p) && (cond t (record { bucket = p.bucket; serial = s; ready = true }) p).ready) ≡ true) (sym h) (and_true (is_exactly b p) true h refl)

  pub ready-fits : (x : Node) → IsExact b x → IsReadied b (ready_once b x)
  ready-fits x h = subst (λ t. IsReadied b (cond t (with_pieces (ready_at b (x.serial + 1) x.pieces) x) x)) (sym h)
      (map-any (make_ready b (x.serial + 1)) (is_exactly b) (λ p. is_exactly b p && p.ready) (ready-here (x.serial + 1)) x.pieces h)

  pub ready-exact : (x : Node) → IsReadied b x → IsExact b x
  ready-exact x h = any-map (λ p. is_exactly b p && p.ready) (is_exactly b) x.pieces (λ p e. (both (is_exactly b p) p.ready e).0) h

  -- what is ready stays so, and so do its entries
  pub ready-held : (x : Node) (id : Id) → (ready_once b x).store id ≡ x.store id
  ready-held x id = by_test (can_ready b x)
    where
      by_test : (t : Bool) → (cond t (with_pieces (ready_at b (x.serial + 1) x.pieces) x) x).store id ≡ x.store id
      by_test true = refl
      by_test false = refl

  pub can-activate : (x : Node) → IsReadied b x → can_activate b x ≡ true
  can-activate x h = any-map (λ p. is_exactly b p && p.ready) (λ p. is_over b p && p.ready) x.pieces
      (λ p e. let g = both (is_exactly b p) p.ready e in and_true (is_over b p) p.ready (subst (λ c. covers c b ≡ true) (sym (bucket-same p.bucket b g.0)) (covers-refl b ok)) g.1) h

  pub activate-fits : (x : Node) → can_activate b x ≡ true → IsActiveOn b (activate_once b x)
  activate-fits x h key k = subst (λ t. list_any (λ r. has_key r key) (cond t (record { pieces = renewed (does_meet b) (x.serial + 1) x.pieces; serial = x.serial + 1; store = x.store; regions = with_region b x.regions; doubled = x.doubled; came = x.came }) x).regions ≡ true) (sym h) (region-own b key x.regions k)

  pub activate-ready : (x : Node) → IsReadied b x → IsReadied b (activate_once b x)
  activate-ready x h = by_test (can_activate b x)
    where
      keep : (p : Piece) → (is_exactly b p && p.ready) ≡ true → (is_exactly b (renew (does_meet b) (x.serial + 1) p) && (renew (does_meet b) (x.serial + 1) p).ready) ≡ true
      keep p e = renewed-one (does_meet b p)
        where
          renewed-one : (t : Bool) → (is_exactly b (cond t (with_serial (x.serial + 1) p) p) && (cond t (with_serial (x.serial + 1) p) p).ready) ≡ true
          renewed-one true = e
          renewed-one false = e

      by_test : (t : Bool) → IsReadied b (cond t (record { pieces = renewed (does_meet b) (x.serial + 1) x.pieces; serial = x.serial + 1; store = x.store; regions = with_region b x.regions; doubled = x.doubled; came = x.came }) x)
      by_test true = map-any (renew (does_meet b) (x.serial + 1)) (λ p. is_exactly b p && p.ready) (λ p. is_exactly b p && p.ready) keep x.pieces h
      by_test false = h

  pub delete-clear : (s : ℕ) (x : Node) → IsSound x → can_delete b s x ≡ true → IsClear b (delete_once b s x)
  delete-clear s x good h = subst (λ t. IsClear b (cond t (record { pieces = without b x.pieces; serial = x.serial; store = dropped_in b x.store; regions = x.regions; doubled = x.doubled; came = x.came }) x)) (sym h) (record {
    pieces = without-clear b ok x.pieces good.apart (any-map (λ p. is_exactly b p && (p.serial == s)) (is_exactly b) x.pieces (λ p e. (both (is_exactly b p) (p.serial == s) e).0) h);
    entries = λ id k. ap (λ t. cond t None (x.store id)) k;
  })

-- a node without buckets there has no entries there
pub clear-of : (b : Low) (x : Node) → IsSound x → list_any (does_meet b) x.pieces ≡ false → IsClear b x
clear-of b x good h = record { pieces = h; entries = λ id k. none id k (x.store id) refl }
  where
    none : (id : Id) → has_key b (key_of id) ≡ true → (o : Option Stamp) → x.store id ≡ o → o ≡ None
    none id k None e = refl
    none id k (Some y) e = clash (any-map (has_key_of (key_of id)) (does_meet b) x.pieces (λ p e. meets-by p.bucket b (key_of id) e k) (good.held id (subst (λ o. IsSome o) (sym e) refl))) h

-- what the pieces show of a bucket fits
pub shape-fits : (b : Low) (x : Node) → IsSound x → Fits b (shape_of b x.pieces) x
shape-fits b x good = by_find (find (is_exactly b) x.pieces) refl
  where
    find-serial : (ps : List Piece) (p : Piece) → find (is_exactly b) ps ≡ Some p → list_any (λ q. is_exactly b q && (q.serial == p.serial)) ps ≡ true
    find-serial [] p e = cc
    find-serial (q ∷ ps) p e = by_test (is_exactly b q) refl e (λ h. find-serial ps p h)
      where
        by_test : (t : Bool) → is_exactly b q ≡ t → cond t (Some q) (find (is_exactly b) ps) ≡ Some p → (find (is_exactly b) ps ≡ Some p → list_any (λ r. is_exactly b r && (r.serial == p.serial)) ps ≡ true)
            → list_any (λ r. is_exactly b r && (r.serial == p.serial)) (q ∷ ps) ≡ true
        by_test true h e ih = or_left (is_exactly b q && (q.serial == p.serial)) (list_any (λ r. is_exactly b r && (r.serial == p.serial)) ps)
            (and_true (is_exactly b q) (q.serial == p.serial) h (subst (λ o. serial_is o q.serial ≡ true) e (same-nat q.serial)))
        by_test false h e ih = or_right (is_exactly b q && (q.serial == p.serial)) (list_any (λ r. is_exactly b r && (r.serial == p.serial)) ps) (ih e)

    by_inside : (u : Bool) → list_any (is_inside b) x.pieces ≡ u → list_any (is_over b) x.pieces ≡ false → Fits b (shape_beside false u) x
    by_inside true e o = e
    by_inside false e o = clear-of b x good (no-meeting b x.pieces o e)

    by_over : (t : Bool) → list_any (is_over b) x.pieces ≡ t → Fits b (shape_beside t (list_any (is_inside b) x.pieces)) x
    by_over true e = e
    by_over false e = by_inside (list_any (is_inside b) x.pieces) refl e

    by_find : (o : Option Piece) → find (is_exactly b) x.pieces ≡ o → Fits b (shape_by o (list_any (is_over b) x.pieces) (list_any (is_inside b) x.pieces)) x
    by_find (Some p) e = find-serial x.pieces p e
    by_find None e = by_over (list_any (is_over b) x.pieces) refl

-- ---- nodes stay good

module _ (b : Low) (ok : IsBucket b) where
  good-pieces : (x : Node) (ps : List Piece) → IsSound x → IsApart ps → ((key : ℕ) → list_any (has_key_of key) x.pieces ≡ true → list_any (has_key_of key) ps ≡ true) → IsSound (with_pieces ps x)
  good-pieces x ps good a keys = record { apart = a; held = λ id h. keys (key_of id) (good.held id h) }

  good-if : (t : Bool) (x y : Node) → IsSound x → (t ≡ true → IsSound y) → IsSound (cond t y x)
  good-if true x y g f = f refl
  good-if false x y g f = g

  split-good : (x : Node) → IsSound x → IsSound (with_pieces (split_at b (x.serial + 1) x.pieces) x)
  split-good x g = good-pieces x (split_at b (x.serial + 1) x.pieces) g (split-apart b (x.serial + 1) ok x.pieces g.apart) (λ key h. split-key b (x.serial + 1) ok key x.pieces h)

  join-good : (x : Node) → IsSound x → IsSound (with_pieces (join_at b (x.serial + 1) x.pieces) x)
  join-good x g = good-pieces x (join_at b (x.serial + 1) x.pieces) g (join-apart b (x.serial + 1) ok x.pieces g.apart) (λ key h. join-key b (x.serial + 1) ok key x.pieces h)

  pub good-split : (x : Node) → IsSound x → IsSound (split_once b x)
  good-split x g = good-if (list_any (is_over b) x.pieces) x (with_pieces (split_at b (x.serial + 1) x.pieces) x) g (λ e. split-good x g)

  pub good-join : (x : Node) → IsSound x → IsSound (join_once b x)
  good-join x g = good-if (list_any (is_inside b) x.pieces) x (with_pieces (join_at b (x.serial + 1) x.pieces) x) g (λ e. join-good x g)

  pub good-ready : (x : Node) → IsSound x → IsSound (ready_once b x)
  good-ready x g = good-if (can_ready b x) x (with_pieces (ready_at b (x.serial + 1) x.pieces) x) g (λ e. good-pieces x (ready_at b (x.serial + 1) x.pieces) g
      (map-apart (make_ready b (x.serial + 1)) (ready-keeps b (x.serial + 1)) x.pieces g.apart)
      (λ key h. map-any (make_ready b (x.serial + 1)) (has_key_of key) (has_key_of key) (λ p k. subst (λ c. has_key c key ≡ true) (sym (ready-keeps b (x.serial + 1) p)) k) x.pieces h))

  pub good-activate : (x : Node) → IsSound x → IsSound (activate_once b x)
  good-activate x g = good-if (can_activate b x) x (record { pieces = renewed (does_meet b) (x.serial + 1) x.pieces; serial = x.serial + 1; store = x.store; regions = with_region b x.regions; doubled = x.doubled; came = x.came }) g (λ e. record {
    apart = map-apart (renew (does_meet b) (x.serial + 1)) (renew-keeps (does_meet b) (x.serial + 1)) x.pieces g.apart;
    held = λ id h. map-any (renew (does_meet b) (x.serial + 1)) (has_key_of (key_of id)) (has_key_of (key_of id)) (λ p k. subst (λ c. has_key c (key_of id) ≡ true) (sym (renew-keeps (does_meet b) (x.serial + 1) p)) k) x.pieces (g.held id h);
  })

  pub good-delete : (s : ℕ) (x : Node) → IsSound x → IsSound (delete_once b s x)
  good-delete s x g = good-if (can_delete b s x) x (record { pieces = without b x.pieces; serial = x.serial; store = dropped_in b x.store; regions = x.regions; doubled = x.doubled; came = x.came }) g (λ e. record {
    apart = without-apart b x.pieces g.apart;
    held = λ id h. by_test id (has_key b (key_of id)) refl h;
  })
    where
      outside : (key : ℕ) → has_key b key ≡ false → (p : Piece) → has_key p.bucket key ≡ true → not (is_exactly b p) ≡ true
      outside key n p k = ap (λ t. not t) (is_false (is_exactly b p) (λ e. clash (subst (λ c. has_key c key ≡ true) (bucket-same p.bucket b e) k) n))

      by_test : (id : Id) (t : Bool) → has_key b (key_of id) ≡ t → IsSome (cond t None (x.store id)) → list_any (has_key_of (key_of id)) (without b x.pieces) ≡ true
      by_test id true e h = cc
      by_test id false e h = any-filter (has_key_of (key_of id)) (λ p. not (is_exactly b p)) x.pieces (outside (key_of id) e) (g.held id h)

  pub good-apply : (united : Content) (x : Node) → IsSound x → IsSound (apply_once b united x)
  good-apply united x g = record { apart = apart-by (list_any (is_over b) x.pieces) (list_any (is_inside b) x.pieces) refl refl; held = λ id h. by_key id (has_key b (key_of id)) refl h }
    where
      laid : Bool → Bool → List Piece
      laid t u = cond t (split_at b (x.serial + 1) x.pieces) (cond u (join_at b (x.serial + 1) x.pieces) (with_piece (record { bucket = b; serial = x.serial + 1; ready = false }) x.pieces))

      apart-by : (t u : Bool) → list_any (is_over b) x.pieces ≡ t → list_any (is_inside b) x.pieces ≡ u
          → IsApart (cond t (split_at b (x.serial + 1) x.pieces) (cond u (join_at b (x.serial + 1) x.pieces) (with_piece (record { bucket = b; serial = x.serial + 1; ready = false }) x.pieces)))
      apart-by true u e f = split-apart b (x.serial + 1) ok x.pieces g.apart
      apart-by false true e f = join-apart b (x.serial + 1) ok x.pieces g.apart
      apart-by false false e f = insert-apart (record { bucket = b; serial = x.serial + 1; ready = false }) ok x.pieces (no-meeting b x.pieces e f) g.apart

      keys : (t u : Bool) (key : ℕ) → list_any (has_key_of key) x.pieces ≡ true
          → list_any (has_key_of key) (cond t (split_at b (x.serial + 1) x.pieces) (cond u (join_at b (x.serial + 1) x.pieces) (with_piece (record { bucket = b; serial = x.serial + 1; ready = false }) x.pieces))) ≡ true
      keys true u key h = split-key b (x.serial + 1) ok key x.pieces h
      keys false true key h = join-key b (x.serial + 1) ok key x.pieces h
      keys false false key h = insert-stay (has_key_of key) (record { bucket = b; serial = x.serial + 1; ready = false }) x.pieces h

      by_key : (id : Id) (t : Bool) → has_key b (key_of id) ≡ t → IsSome (cond t (newer (united id) (x.store id)) (x.store id)) → list_any (has_key_of (key_of id)) (apply_at b (x.serial + 1) x.pieces) ≡ true
      by_key id true e h = any-map (is_exactly b) (has_key_of (key_of id)) (apply_at b (x.serial + 1) x.pieces) (λ p s. subst (λ c. has_key c (key_of id) ≡ true) (sym (bucket-same p.bucket b s)) e) (applied-exact b ok united x g.apart)
      by_key id false e h = keys (list_any (is_over b) x.pieces) (list_any (is_inside b) x.pieces) (key_of id) (g.held id h)
