-- What a message for one bucket leaves in another, apart from it.
use Rattle.std.proofs.Common.{◌≡◌, ◌==◌, ◌&&◌, not, ℕ, ◌+◌, Bool, true, false, cond, List, refl, sym, ap, ◌∙◌, subst, None}
use Rattle.std.specs.List.{list_any}
use Rattle.bucket_ids.specs.Buckets.{Low, IsBucket, has_key, covers}
use Rattle.lane_journals.specs.Stamps.{newer}
use Rattle.pieces.specs.declared.piece.Piece.{Piece}
use Rattle.view_changes.specs.Shown.{with_region}
use Rattle.pieces.specs.Pieces.{meets, split_at, join_at, with_piece, ready_at, make_ready, renew, renewed, with_serial, without, does_meet, is_over, is_inside, is_exactly}
use Rattle.lane_journals.specs.Buckets.{Id, key_of}
use Rattle.lane_journals.specs.Events.{Content}
use Rattle.proof_basics.proofs.Tests.{both, is_false, clash}
use Rattle.pieces.proofs.PieceLaws.{bucket-same, covers-refl}
use Rattle.pass_model.specs.Nodes.{Node, activate_once, apply_once, can_activate, can_delete, can_ready, delete_once, dropped_in, join_once, ready_once, split_once, taken_in, with_pieces}
use Rattle.pass_model.specs.Shapes.{Fits, Inside, IsActiveOn, IsApart, IsClear, IsExact, IsReadied, Nothing, Over, Same, Shape}
use Rattle.pass_model.proofs.Tests.{any-filter, none-filter}
use Rattle.pass_model.proofs.Geometry.{covers-trans, meets-by, apart-sym, meets-over, apart-part, meets-covered, meets-covers}
use Rattle.pass_model.proofs.Splits.{split-none, split-stay, split-over}
use Rattle.pass_model.proofs.Joins.{join-none, join-stay}
use Rattle.pass_model.proofs.Inserts.{insert-none, insert-stay, map-none, map-any, ready-keeps, renew-keeps, region-key}

-- what node y has in bucket b is what node x had
pub record Frame (b : Low) (x y : Node) : Type 0 where
  pub none : list_any (does_meet b) x.pieces ≡ false → list_any (does_meet b) y.pieces ≡ false
  pub stay : (T : Piece → Bool) → ((p : Piece) → T p ≡ true → covers b p.bucket ≡ true) → list_any T x.pieces ≡ true → list_any T y.pieces ≡ true
  pub over : list_any (is_over b) x.pieces ≡ true → list_any (is_over b) y.pieces ≡ true
  pub held : (id : Id) → has_key b (key_of id) ≡ true → y.store id ≡ x.store id
  pub regions : (key : ℕ) → list_any (λ r. has_key r key) x.regions ≡ true → list_any (λ r. has_key r key) y.regions ≡ true

pub frame-refl : (b : Low) (x : Node) → Frame b x x
frame-refl b x = record { none = λ h. h; stay = λ T f h. h; over = λ h. h; held = λ id h. refl; regions = λ key h. h }

pub frame-trans : (b : Low) (x y z : Node) → Frame b x y → Frame b y z → Frame b x z
frame-trans b x y z f g = record {
  none = λ h. g.none (f.none h);
  stay = λ T in_b h. g.stay T in_b (f.stay T in_b h);
  over = λ h. g.over (f.over h);
  held = λ id h. g.held id h ∙ f.held id h;
  regions = λ key h. g.regions key (f.regions key h);
}

-- the frame by a choice
pub frame-if : (b : Low) (t : Bool) (x y : Node) → (t ≡ true → Frame b x y) → Frame b x (cond t y x)
frame-if b true x y f = f refl
frame-if b false x y f = frame-refl b x

exactly-in : (b : Low) → IsBucket b → (p : Piece) → is_exactly b p ≡ true → covers b p.bucket ≡ true
exactly-in b ok p h = subst (λ c. covers b c ≡ true) (sym (bucket-same p.bucket b h)) (covers-refl b ok)

pub frame-clear : (b : Low) (x y : Node) → Frame b x y → IsClear b x → IsClear b y
frame-clear b x y f c = record { pieces = f.none c.pieces; entries = λ id h. f.held id h ∙ c.entries id h }

pub frame-exact : (b : Low) (x y : Node) → IsBucket b → Frame b x y → IsExact b x → IsExact b y
frame-exact b x y ok f h = f.stay (is_exactly b) (exactly-in b ok) h

pub frame-ready : (b : Low) (x y : Node) → IsBucket b → Frame b x y → IsReadied b x → IsReadied b y
frame-ready b x y ok f h = f.stay (λ p. is_exactly b p && p.ready) (λ p e. exactly-in b ok p (both (is_exactly b p) p.ready e).0) h

pub frame-delete : (b : Low) (s : ℕ) (x y : Node) → IsBucket b → Frame b x y → can_delete b s x ≡ true → can_delete b s y ≡ true
frame-delete b s x y ok f h = f.stay (λ p. is_exactly b p && (p.serial == s)) (λ p e. exactly-in b ok p (both (is_exactly b p) (p.serial == s) e).0) h

pub frame-active : (b : Low) (x y : Node) → Frame b x y → IsActiveOn b x → IsActiveOn b y
frame-active b x y f h key k = f.regions key (h key k)

pub frame-fits : (b : Low) (shape : Shape) (x y : Node) → IsBucket b → Frame b x y → Fits b shape x → Fits b shape y
frame-fits b Nothing x y ok f h = frame-clear b x y f h
frame-fits b (Same s) x y ok f h = frame-delete b s x y ok f h
frame-fits b Over x y ok f h = f.over h
frame-fits b Inside x y ok f h = f.stay (is_inside b) (λ p e. e) h

-- ---- the frames of the messages for c

module _ (b c : Low) (okb : IsBucket b) (okc : IsBucket c) (apart : meets b c ≡ false) where
  not-over : (p : Low) → covers b p ≡ true → covers p c ≡ false
  not-over p h = is_false (covers p c) (λ e. clash (meets-covers b c (covers-trans b p c h e)) apart)

  not-in : (p : Low) → covers b p ≡ true → covers c p ≡ false
  not-in p h = is_false (covers c p) (λ e. clash (meets-over b c p h e) apart)

  not-holding : (p : Low) → covers p b ≡ true → covers c p ≡ false
  not-holding p h = is_false (covers c p) (λ e. clash (meets-covered b c (covers-trans c p b e h)) apart)

  other-way : meets c b ≡ false
  other-way = apart-sym b c apart

  no-key : (key : ℕ) → has_key b key ≡ true → has_key c key ≡ false
  no-key key h = is_false (has_key c key) (λ k. clash (meets-by b c key h k) apart)

  frame-pieces : (x : Node) (ps : List Piece) → (list_any (does_meet b) x.pieces ≡ false → list_any (does_meet b) ps ≡ false)
      → ((T : Piece → Bool) → ((p : Piece) → T p ≡ true → covers b p.bucket ≡ true) → list_any T x.pieces ≡ true → list_any T ps ≡ true)
      → (list_any (is_over b) x.pieces ≡ true → list_any (is_over b) ps ≡ true) → Frame b x (with_pieces ps x)
  frame-pieces x ps f g h = record { none = f; stay = g; over = h; held = λ id k. refl; regions = λ key k. k }

  split-frame : (x : Node) → IsApart x.pieces → Frame b x (with_pieces (split_at c (x.serial + 1) x.pieces) x)
  split-frame x a = frame-pieces x (split_at c (x.serial + 1) x.pieces)
      (λ h. split-none c (x.serial + 1) okc b x.pieces a h)
      (λ T in_b h. split-stay c (x.serial + 1) okc T (λ p e. not-over p.bucket (in_b p e)) x.pieces h)
      (λ h. split-over c (x.serial + 1) okc b okb apart x.pieces a h)

  join-frame : (x : Node) → Frame b x (with_pieces (join_at c (x.serial + 1) x.pieces) x)
  join-frame x = frame-pieces x (join_at c (x.serial + 1) x.pieces)
      (λ h. join-none c (x.serial + 1) okc b other-way x.pieces h)
      (λ T in_b h. join-stay c (x.serial + 1) okc T (λ p e. not-in p.bucket (in_b p e)) x.pieces h)
      (λ h. join-stay c (x.serial + 1) okc (is_over b) (λ p e. not-holding p.bucket e) x.pieces h)

  insert-frame : (x : Node) → Frame b x (with_pieces (with_piece (record { bucket = c; serial = x.serial + 1; ready = false }) x.pieces) x)
  insert-frame x = let q : Piece = record { bucket = c; serial = x.serial + 1; ready = false } in frame-pieces x (with_piece q x.pieces)
      (λ h. insert-none b q other-way x.pieces h)
      (λ T in_b h. insert-stay T q x.pieces h)
      (λ h. insert-stay (is_over b) q x.pieces h)

  pub frame-split : (x : Node) → IsApart x.pieces → Frame b x (split_once c x)
  frame-split x a = frame-if b (list_any (is_over c) x.pieces) x (with_pieces (split_at c (x.serial + 1) x.pieces) x) (λ e. split-frame x a)

  pub frame-join : (x : Node) → Frame b x (join_once c x)
  frame-join x = frame-if b (list_any (is_inside c) x.pieces) x (with_pieces (join_at c (x.serial + 1) x.pieces) x) (λ e. join-frame x)

  applied : (t u : Bool) (x : Node) → IsApart x.pieces → Frame b x (with_pieces (cond t (split_at c (x.serial + 1) x.pieces) (cond u (join_at c (x.serial + 1) x.pieces) (with_piece (record { bucket = c; serial = x.serial + 1; ready = false }) x.pieces))) x)
  applied true u x a = split-frame x a
  applied false true x a = join-frame x
  applied false false x a = insert-frame x

  taken-away : (united held : Content) (id : Id) → has_key b (key_of id) ≡ true → taken_in c united held id ≡ held id
  taken-away united held id h = ap (λ t. cond t (newer (united id) (held id)) (held id)) (no-key (key_of id) h)

  dropped-away : (held : Content) (id : Id) → has_key b (key_of id) ≡ true → dropped_in c held id ≡ held id
  dropped-away held id h = ap (λ t. cond t None (held id)) (no-key (key_of id) h)

  pub frame-apply : (united : Content) (x : Node) → IsApart x.pieces → Frame b x (apply_once c united x)
  frame-apply united x a =
      let f = applied (list_any (is_over c) x.pieces) (list_any (is_inside c) x.pieces) x a in
      record { none = f.none; stay = f.stay; over = f.over; held = λ id h. taken-away united x.store id h; regions = f.regions }

  ready-stay : (s : ℕ) (T : Piece → Bool) (p : Piece) → (T p ≡ true → covers c p.bucket ≡ false) → T p ≡ true → T (make_ready c s p) ≡ true
  ready-stay s T p out h = by_test (is_exactly c p) refl
    where
      by_test : (t : Bool) → is_exactly c p ≡ t → T (cond t (record { bucket = p.bucket; serial = s; ready = true }) p) ≡ true
      by_test true e = clash (exactly-in c okc p e) (out h)
      by_test false e = h

  pub frame-make_ready : (x : Node) → Frame b x (ready_once c x)
  frame-make_ready x = frame-if b (can_ready c x) x (with_pieces (ready_at c (x.serial + 1) x.pieces) x) (λ e. frame-pieces x (ready_at c (x.serial + 1) x.pieces)
      (λ h. map-none (make_ready c (x.serial + 1)) (ready-keeps c (x.serial + 1)) b x.pieces h)
      (λ T in_b h. map-any (make_ready c (x.serial + 1)) T T (λ p h. ready-stay (x.serial + 1) T p (λ g. not-in p.bucket (in_b p g)) h) x.pieces h)
      (λ h. map-any (make_ready c (x.serial + 1)) (is_over b) (is_over b) (λ p h. ready-stay (x.serial + 1) (is_over b) p (λ g. not-holding p.bucket g) h) x.pieces h))

  renew-stay : (s : ℕ) (T : Piece → Bool) (p : Piece) → (T p ≡ true → meets p.bucket c ≡ false) → T p ≡ true → T (renew (does_meet c) s p) ≡ true
  renew-stay s T p out h = by_test (does_meet c p) refl
    where
      by_test : (t : Bool) → does_meet c p ≡ t → T (cond t (with_serial s p) p) ≡ true
      by_test true e = clash e (out h)
      by_test false e = h

  apart-in : (p : Low) → covers b p ≡ true → meets p c ≡ false
  apart-in p h = apart-part b p c h apart

  renew-over : (s : ℕ) (p : Piece) → is_over b p ≡ true → is_over b (renew (does_meet c) s p) ≡ true
  renew-over s p h = subst (λ d. covers d b ≡ true) (sym (renew-keeps (does_meet c) s p)) h

  pub frame-activate : (x : Node) → Frame b x (activate_once c x)
  frame-activate x = frame-if b (can_activate c x) x (record { pieces = renewed (does_meet c) (x.serial + 1) x.pieces; serial = x.serial + 1; store = x.store; regions = with_region c x.regions; doubled = x.doubled; came = x.came }) (λ e. record {
    none = λ h. map-none (renew (does_meet c) (x.serial + 1)) (renew-keeps (does_meet c) (x.serial + 1)) b x.pieces h;
    stay = λ T in_b h. map-any (renew (does_meet c) (x.serial + 1)) T T (λ p h. renew-stay (x.serial + 1) T p (λ g. apart-in p.bucket (in_b p g)) h) x.pieces h;
    over = λ h. map-any (renew (does_meet c) (x.serial + 1)) (is_over b) (is_over b) (λ p h. renew-over (x.serial + 1) p h) x.pieces h;
    held = λ id h. refl;
    regions = λ key h. region-key c key x.regions h;
  })

  pub frame-drop : (s : ℕ) (x : Node) → Frame b x (delete_once c s x)
  frame-drop s x = frame-if b (can_delete c s x) x (record { pieces = without c x.pieces; serial = x.serial; store = dropped_in c x.store; regions = x.regions; doubled = x.doubled; came = x.came }) (λ e. record {
    none = λ h. none-filter (does_meet b) (λ p. not (is_exactly c p)) x.pieces h;
    stay = λ T in_b h. any-filter T (λ p. not (is_exactly c p)) x.pieces (λ p h. ap (λ t. not t) (is_false (is_exactly c p) (λ e. clash (exactly-in c okc p e) (not-in p.bucket (in_b p h))))) h;
    over = λ h. any-filter (is_over b) (λ p. not (is_exactly c p)) x.pieces (λ p h. ap (λ t. not t) (is_false (is_exactly c p) (λ e. clash (exactly-in c okc p e) (not-holding p.bucket h)))) h;
    held = λ id h. dropped-away x.store id h;
    regions = λ key h. h;
  })
