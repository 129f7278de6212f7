-- Messages that are taken once or twice.
use Rattle.std.proofs.Common.{◌≡◌, not, ℕ, ◌+◌, Bool, true, false, cond, [], refl, sym, ap, ◌∙◌, subst, ◌⊎◌, inl, inr, Option, None}
use Rattle.std.specs.List.{list_any}
use Rattle.bucket_ids.specs.Buckets.{Low, IsBucket, has_key, covers}
use Rattle.lane_journals.specs.Stamps.{Stamp, Le, newer}
use Rattle.view_changes.specs.Shown.{with_region}
use Rattle.pieces.specs.Pieces.{same_bucket, meets, split_at, join_at, with_piece, ready_at, renew, renewed, without, does_meet, is_over, is_inside, is_exactly}
use Rattle.lane_journals.specs.Buckets.{Id, key_of}
use Rattle.lane_journals.specs.Events.{Content}
use Rattle.pass_model.specs.Nodes.{Node, activate_node, activate_once, apply_node, apply_once, can_activate, can_delete, can_ready, counted, delete_node, delete_once, dropped_in, join_node, join_once, once_or_twice, ready_node, ready_once, split_node, split_once, with_pieces}
use Rattle.pass_model.specs.Shapes.{IsActiveOn, IsApart, IsClear, IsExact, IsReadied, IsSound}
use Rattle.pass_model.proofs.Tests.{tell, none-filter}
use Rattle.proof_basics.proofs.Lists.{any-map}
use Rattle.pass_model.proofs.Splits.{split-apart}
use Rattle.pass_model.proofs.Joins.{join-apart}
use Rattle.pass_model.proofs.Inserts.{insert-apart, no-meeting, map-any, renew-keeps, region-key}
use Rattle.lane_journals.proofs.Order.{Le_none, Le-same}
use Rattle.pieces.proofs.PieceLaws.{bucket-same, covers-refl}
use Rattle.pass_model.proofs.Stamps.{taken-is}
use Rattle.pass_model.proofs.Frames as once
use Rattle.pass_model.proofs.Frames.{Frame, frame-trans}
use Rattle.pass_model.proofs.Effects as effect
use Rattle.pass_model.proofs.Effects.{ready-exact, same-in}

-- what makes a fact, and keeps it, makes it also when it is done twice
twice-makes : (P Q : Node → Type 0) (f : Node → Node) → ((x : Node) → P x → Q (f x)) → ((y : Node) → Q y → Q (f y)) → (t : Bool) (x : Node) → P x → Q (once_or_twice t f x)
twice-makes P Q f makes keeps true x p = keeps (f x) (makes x p)
twice-makes P Q f makes keeps false x p = makes x p

twice-keeps : (Q : Node → Type 0) (f : Node → Node) → ((x : Node) → Q x → Q (f x)) → (t : Bool) (x : Node) → Q x → Q (once_or_twice t f x)
twice-keeps Q f keeps t x q = twice-makes Q Q f keeps keeps t x q

twice-frame : (b : Low) (f : Node → Node) → ((x : Node) → IsApart x.pieces → Frame b x (f x)) → ((x : Node) → IsApart x.pieces → IsApart (f x).pieces) → (t : Bool) (x : Node) → IsApart x.pieces → Frame b x (counted (once_or_twice t f x))
twice-frame b f g apart t x a = at_end (by_test t)
  where
    by_test : (t : Bool) → Frame b x (once_or_twice t f x)
    by_test true = frame-trans b x (f x) (f (f x)) (g x a) (g (f x) (apart x a))
    by_test false = g x a

    at_end : Frame b x (once_or_twice t f x) → Frame b x (counted (once_or_twice t f x))
    at_end h = record { none = h.none; stay = h.stay; over = h.over; held = h.held; regions = h.regions }

twice-good : (f : Node → Node) → ((x : Node) → IsSound x → IsSound (f x)) → (t : Bool) (x : Node) → IsSound x → IsSound (counted (once_or_twice t f x))
twice-good f g t x good = let h = twice-keeps IsSound f g t x good in record { apart = h.apart; held = h.held }

twice-same : {A : Type 0} (v : Node → A) (f : Node → Node) → ((x : Node) → v (f x) ≡ v x) → (t : Bool) (x : Node) → v (once_or_twice t f x) ≡ v x
twice-same v f e true x = e (f x) ∙ e x
twice-same v f e false x = e x

-- ---- done once, pieces stay apart

if-apart : (t : Bool) (x y : Node) → (IsApart x.pieces → IsApart y.pieces) → IsApart x.pieces → IsApart (cond t y x).pieces
if-apart true x y f a = f a
if-apart false x y f a = a

split-apart-once : (b : Low) → IsBucket b → (x : Node) → IsApart x.pieces → IsApart (split_once b x).pieces
split-apart-once b ok x a = if-apart (list_any (is_over b) x.pieces) x (with_pieces (split_at b (x.serial + 1) x.pieces) x) (λ h. split-apart b (x.serial + 1) ok x.pieces h) a

apply-apart-once : (b : Low) → IsBucket b → (united : Content) (x : Node) → IsApart x.pieces → IsApart (apply_once b united x).pieces
apply-apart-once b ok united x a = by_test (list_any (is_over b) x.pieces) (list_any (is_inside b) x.pieces) refl refl
  where
    by_test : (t u : Bool) → list_any (is_over b) x.pieces ≡ t → list_any (is_inside b) x.pieces ≡ u
        → IsApart (cond t (split_at b (x.serial + 1) x.pieces) (cond u (join_at b (x.serial + 1) x.pieces) (with_piece (record { bucket = b; serial = x.serial + 1; ready = false }) x.pieces)))
    by_test true u e f = split-apart b (x.serial + 1) ok x.pieces a
    by_test false true e f = join-apart b (x.serial + 1) ok x.pieces a
    by_test false false e f = insert-apart (record { bucket = b; serial = x.serial + 1; ready = false }) ok x.pieces (no-meeting b x.pieces e f) a

-- ---- frames

module _ (b c : Low) (okb : IsBucket b) (okc : IsBucket c) (apart : meets b c ≡ false) where
  pub frame-split : (x : Node) → IsApart x.pieces → Frame b x (split_node c x)
  unfolding split_node
  frame-split x a = twice-frame b (split_once c) (λ y g. once.frame-split b c okb okc apart y g) (λ y g. split-apart-once c okc y g) (x.doubled x.came) x a

  pub frame-apply : (united : Content) (x : Node) → IsApart x.pieces → Frame b x (apply_node c united x)
  unfolding apply_node
  frame-apply united x a = twice-frame b (apply_once c united) (λ y g. once.frame-apply b c okb okc apart united y g) (λ y g. apply-apart-once c okc united y g) (x.doubled x.came) x a

  twice-simple : (f : Node → Node) → ((x : Node) → Frame b x (f x)) → (t : Bool) (x : Node) → Frame b x (counted (once_or_twice t f x))
  twice-simple f g t x = at_end (by_test t)
    where
      by_test : (t : Bool) → Frame b x (once_or_twice t f x)
      by_test true = frame-trans b x (f x) (f (f x)) (g x) (g (f x))
      by_test false = g x

      at_end : Frame b x (once_or_twice t f x) → Frame b x (counted (once_or_twice t f x))
      at_end h = record { none = h.none; stay = h.stay; over = h.over; held = h.held; regions = h.regions }

  pub frame-join : (x : Node) → Frame b x (join_node c x)
  unfolding join_node
  frame-join x = twice-simple (join_once c) (λ y. once.frame-join b c okb okc apart y) (x.doubled x.came) x

  pub frame-make_ready : (x : Node) → Frame b x (ready_node c x)
  unfolding ready_node
  frame-make_ready x = twice-simple (ready_once c) (λ y. once.frame-make_ready b c okb okc apart y) (x.doubled x.came) x

  pub frame-activate : (x : Node) → Frame b x (activate_node c x)
  unfolding activate_node
  frame-activate x = twice-simple (activate_once c) (λ y. once.frame-activate b c okb okc apart y) (x.doubled x.came) x

  pub frame-drop : (s : ℕ) (x : Node) → Frame b x (delete_node c s x)
  unfolding delete_node
  frame-drop s x = twice-simple (delete_once c s) (λ y. once.frame-drop b c okb okc apart s y) (x.doubled x.came) x

-- ---- nodes stay good

module _ (b : Low) (ok : IsBucket b) where
  pub good-split : (x : Node) → IsSound x → IsSound (split_node b x)
  unfolding split_node
  good-split x g = twice-good (split_once b) (λ y h. effect.good-split b ok y h) (x.doubled x.came) x g

  pub good-join : (x : Node) → IsSound x → IsSound (join_node b x)
  unfolding join_node
  good-join x g = twice-good (join_once b) (λ y h. effect.good-join b ok y h) (x.doubled x.came) x g

  pub good-ready : (x : Node) → IsSound x → IsSound (ready_node b x)
  unfolding ready_node
  good-ready x g = twice-good (ready_once b) (λ y h. effect.good-ready b ok y h) (x.doubled x.came) x g

  pub good-activate : (x : Node) → IsSound x → IsSound (activate_node b x)
  unfolding activate_node
  good-activate x g = twice-good (activate_once b) (λ y h. effect.good-activate b ok y h) (x.doubled x.came) x g

  pub good-delete : (s : ℕ) (x : Node) → IsSound x → IsSound (delete_node b s x)
  unfolding delete_node
  good-delete s x g = twice-good (delete_once b s) (λ y h. effect.good-delete b ok s y h) (x.doubled x.came) x g

  pub good-apply : (united : Content) (x : Node) → IsSound x → IsSound (apply_node b united x)
  unfolding apply_node
  good-apply united x g = twice-good (apply_once b united) (λ y h. effect.good-apply b ok united y h) (x.doubled x.came) x g

  -- ---- effects

  exact-over : (x : Node) → IsExact b x → list_any (is_over b) x.pieces ≡ true
  exact-over x h = any-map (is_exactly b) (is_over b) x.pieces (λ p e. subst (λ c. covers c b ≡ true) (sym (bucket-same p.bucket b e)) (covers-refl b ok)) h

  exact-inside : (x : Node) → IsExact b x → list_any (is_inside b) x.pieces ≡ true
  exact-inside x h = any-map (is_exactly b) (is_inside b) x.pieces (λ p e. same-in b p ok e) h

  pub applied-exact : (united : Content) (x : Node) → IsApart x.pieces → IsExact b (apply_node b united x)
  unfolding apply_node
  applied-exact united x a = by_test (x.doubled x.came)
    where
      by_test : (t : Bool) → IsExact b (once_or_twice t (apply_once b united) x)
      by_test true = effect.applied-exact b ok united (apply_once b united x) (apply-apart-once b ok united x a)
      by_test false = effect.applied-exact b ok united x a

  pub split-fits : (x : Node) → IsApart x.pieces → list_any (is_over b) x.pieces ≡ true → IsExact b (split_node b x)
  unfolding split_node
  split-fits x a h = by_test (x.doubled x.came)
    where
      one : IsExact b (split_once b x)
      one = effect.split-fits b ok x a h

      by_test : (t : Bool) → IsExact b (once_or_twice t (split_once b) x)
      by_test true = effect.split-fits b ok (split_once b x) (split-apart-once b ok x a) (exact-over (split_once b x) one)
      by_test false = one

  pub join-fits : (x : Node) → list_any (is_inside b) x.pieces ≡ true → IsExact b (join_node b x)
  unfolding join_node
  join-fits x h = twice-makes (λ y. list_any (is_inside b) y.pieces ≡ true) (IsExact b) (join_once b) (λ y g. effect.join-fits b ok y g) (λ y g. effect.join-fits b ok y (exact-inside y g)) (x.doubled x.came) x h

  pub ready-fits : (x : Node) → IsExact b x → IsReadied b (ready_node b x)
  unfolding ready_node
  ready-fits x h = twice-makes (IsExact b) (IsReadied b) (ready_once b) (λ y g. effect.ready-fits b ok y g) (λ y g. effect.ready-fits b ok y (ready-exact b ok y g)) (x.doubled x.came) x h

  pub ready-held : (x : Node) (id : Id) → (ready_node b x).store id ≡ x.store id
  unfolding ready_node
  ready-held x id = twice-same (λ y. y.store id) (ready_once b) (λ y. effect.ready-held b ok y id) (x.doubled x.came) x

  ready-regions-once : (x : Node) → (ready_once b x).regions ≡ x.regions
  ready-regions-once x = by_test (can_ready b x)
    where
      by_test : (t : Bool) → (cond t (with_pieces (ready_at b (x.serial + 1) x.pieces) x) x).regions ≡ x.regions
      by_test true = refl
      by_test false = refl

  pub ready-regions : (x : Node) → (ready_node b x).regions ≡ x.regions
  unfolding ready_node
  ready-regions x = twice-same (λ y. y.regions) (ready_once b) ready-regions-once (x.doubled x.came) x

  abbrev active_with : Node → Node
  active_with x = record { pieces = renewed (does_meet b) (x.serial + 1) x.pieces; serial = x.serial + 1; store = x.store; regions = with_region b x.regions; doubled = x.doubled; came = x.came }

  activate-key-once : (key : ℕ) (x : Node) → list_any (λ q. has_key q key) x.regions ≡ true → list_any (λ q. has_key q key) (activate_once b x).regions ≡ true
  activate-key-once key x h = by_test (can_activate b x)
    where
      by_test : (t : Bool) → list_any (λ q. has_key q key) (cond t (record { pieces = renewed (does_meet b) (x.serial + 1) x.pieces; serial = x.serial + 1; store = x.store; regions = with_region b x.regions; doubled = x.doubled; came = x.came }) x).regions ≡ true
      by_test true = region-key b key x.regions h
      by_test false = h

  pub activate-key : (x : Node) (key : ℕ) → list_any (λ q. has_key q key) x.regions ≡ true → list_any (λ q. has_key q key) (activate_node b x).regions ≡ true
  unfolding activate_node
  activate-key x key h = twice-keeps (λ y. list_any (λ q. has_key q key) y.regions ≡ true) (activate_once b) (λ y g. activate-key-once key y g) (x.doubled x.came) x h

  pub activate-fits : (x : Node) → can_activate b x ≡ true → IsActiveOn b (activate_node b x)
  unfolding activate_node
  activate-fits x h key k = twice-makes (λ y. can_activate b y ≡ true) (λ y. list_any (λ q. has_key q key) y.regions ≡ true) (activate_once b) (λ y g. effect.activate-fits b ok y g key k) (λ y g. activate-key-once key y g) (x.doubled x.came) x h

  pub activate-ready : (x : Node) → IsReadied b x → IsReadied b (activate_node b x)
  unfolding activate_node
  activate-ready x h = twice-keeps (IsReadied b) (activate_once b) (λ y g. effect.activate-ready b ok y g) (x.doubled x.came) x h

  activate-exact-once : (x : Node) → IsExact b x → IsExact b (activate_once b x)
  activate-exact-once x h = by_test (can_activate b x)
    where
      by_test : (t : Bool) → IsExact b (cond t (record { pieces = renewed (does_meet b) (x.serial + 1) x.pieces; serial = x.serial + 1; store = x.store; regions = with_region b x.regions; doubled = x.doubled; came = x.came }) x)
      by_test true = map-any (renew (does_meet b) (x.serial + 1)) (is_exactly b) (is_exactly b) (λ p e. subst (λ c. same_bucket c b ≡ true) (sym (renew-keeps (does_meet b) (x.serial + 1) p)) e) x.pieces h
      by_test false = h

  pub activate-exact : (x : Node) → IsExact b x → IsExact b (activate_node b x)
  unfolding activate_node
  activate-exact x h = twice-keeps (IsExact b) (activate_once b) activate-exact-once (x.doubled x.came) x h

  activate-held-once : (id : Id) (x : Node) → (activate_once b x).store id ≡ x.store id
  activate-held-once id x = by_test (can_activate b x)
    where
      by_test : (t : Bool) → (cond t (record { pieces = renewed (does_meet b) (x.serial + 1) x.pieces; serial = x.serial + 1; store = x.store; regions = with_region b x.regions; doubled = x.doubled; came = x.came }) x).store id ≡ x.store id
      by_test true = refl
      by_test false = refl

  pub activate-held : (x : Node) (id : Id) → (activate_node b x).store id ≡ x.store id
  unfolding activate_node
  activate-held x id = twice-same (λ y. y.store id) (activate_once b) (activate-held-once id) (x.doubled x.came) x

  clear-stays : (s : ℕ) (x : Node) → IsClear b x → IsClear b (delete_once b s x)
  clear-stays s x c = by_test (can_delete b s x)
    where
      by_test : (t : Bool) → IsClear b (cond t (record { pieces = without b x.pieces; serial = x.serial; store = dropped_in b x.store; regions = x.regions; doubled = x.doubled; came = x.came }) x)
      by_test true = record { pieces = none-filter (does_meet b) (λ p. not (is_exactly b p)) x.pieces c.pieces; entries = λ id k. ap (λ t. cond t None (x.store id)) k }
      by_test false = c

  pub delete-clear : (s : ℕ) (x : Node) → IsSound x → can_delete b s x ≡ true → IsClear b (delete_node b s x)
  unfolding delete_node
  delete-clear s x good h = at_end (by_test (x.doubled x.came))
    where
      one : IsClear b (delete_once b s x)
      one = effect.delete-clear b ok s x good h

      by_test : (t : Bool) → IsClear b (once_or_twice t (delete_once b s) x)
      by_test true = clear-stays s (delete_once b s x) one
      by_test false = one

      at_end : IsClear b (once_or_twice (x.doubled x.came) (delete_once b s) x) → IsClear b (counted (once_or_twice (x.doubled x.came) (delete_once b s) x))
      at_end c = record { pieces = c.pieces; entries = c.entries }

  delete-regions-once : (s : ℕ) (x : Node) → (delete_once b s x).regions ≡ x.regions
  delete-regions-once s x = by_test (can_delete b s x)
    where
      by_test : (t : Bool) → (cond t (record { pieces = without b x.pieces; serial = x.serial; store = dropped_in b x.store; regions = x.regions; doubled = x.doubled; came = x.came }) x).regions ≡ x.regions
      by_test true = refl
      by_test false = refl

  dropped-most : (held : Content) (id : Id) (m : Option Stamp) → Le (held id) m → Le (dropped_in b held id) m
  dropped-most held id m le = by_test (has_key b (key_of id))
    where
      by_test : (t : Bool) → Le (cond t None (held id)) m
      by_test true = Le_none m
      by_test false = le

  delete-most-once : (s : ℕ) (id : Id) (m : Option Stamp) (x : Node) → Le (x.store id) m → Le ((delete_once b s x).store id) m
  delete-most-once s id m x le = by_test (can_delete b s x)
    where
      by_test : (t : Bool) → Le ((cond t (record { pieces = without b x.pieces; serial = x.serial; store = dropped_in b x.store; regions = x.regions; doubled = x.doubled; came = x.came }) x).store id) m
      by_test true = dropped-most x.store id m le
      by_test false = le

  delete-other-once : (s : ℕ) (id : Id) → has_key b (key_of id) ≡ false → (x : Node) → (delete_once b s x).store id ≡ x.store id
  delete-other-once s id h x = by_test (can_delete b s x)
    where
      by_test : (t : Bool) → (cond t (record { pieces = without b x.pieces; serial = x.serial; store = dropped_in b x.store; regions = x.regions; doubled = x.doubled; came = x.came }) x).store id ≡ x.store id
      by_test true = ap (λ t. cond t None (x.store id)) h
      by_test false = refl

  pub delete-regions : (s : ℕ) (x : Node) → (delete_node b s x).regions ≡ x.regions
  unfolding delete_node
  delete-regions s x = twice-same (λ y. y.regions) (delete_once b s) (λ y. delete-regions-once s y) (x.doubled x.came) x

  pub delete-most : (s : ℕ) (x : Node) (id : Id) (m : Option Stamp) → Le (x.store id) m → Le ((delete_node b s x).store id) m
  unfolding delete_node
  delete-most s x id m le = twice-keeps (λ y. Le (y.store id) m) (delete_once b s) (λ y g. delete-most-once s id m y g) (x.doubled x.came) x le

  pub delete-other : (s : ℕ) (x : Node) (id : Id) → has_key b (key_of id) ≡ false → (delete_node b s x).store id ≡ x.store id
  unfolding delete_node
  delete-other s x id h = twice-same (λ y. y.store id) (delete_once b s) (λ y. delete-other-once s id h y) (x.doubled x.came) x

-- ---- what keeps stores and regions

split-kept-once : (b : Low) (id : Id) (x : Node) → ((split_once b x).store id ≡ x.store id) × ((split_once b x).regions ≡ x.regions)
split-kept-once b id x = by_test (list_any (is_over b) x.pieces)
  where
    by_test : (t : Bool) → ((cond t (with_pieces (split_at b (x.serial + 1) x.pieces) x) x).store id ≡ x.store id) × ((cond t (with_pieces (split_at b (x.serial + 1) x.pieces) x) x).regions ≡ x.regions)
    by_test true = (refl, refl)
    by_test false = (refl, refl)

join-kept-once : (b : Low) (id : Id) (x : Node) → ((join_once b x).store id ≡ x.store id) × ((join_once b x).regions ≡ x.regions)
join-kept-once b id x = by_test (list_any (is_inside b) x.pieces)
  where
    by_test : (t : Bool) → ((cond t (with_pieces (join_at b (x.serial + 1) x.pieces) x) x).store id ≡ x.store id) × ((cond t (with_pieces (join_at b (x.serial + 1) x.pieces) x) x).regions ≡ x.regions)
    by_test true = (refl, refl)
    by_test false = (refl, refl)

pub split-held : (b : Low) (x : Node) (id : Id) → (split_node b x).store id ≡ x.store id
unfolding split_node
split-held b x id = twice-same (λ y. y.store id) (split_once b) (λ y. (split-kept-once b id y).0) (x.doubled x.came) x

pub join-held : (b : Low) (x : Node) (id : Id) → (join_node b x).store id ≡ x.store id
unfolding join_node
join-held b x id = twice-same (λ y. y.store id) (join_once b) (λ y. (join-kept-once b id y).0) (x.doubled x.came) x

pub split-regions : (b : Low) (x : Node) → (split_node b x).regions ≡ x.regions
unfolding split_node
split-regions b x = twice-same (λ y. y.regions) (split_once b) (λ y. (split-kept-once b [] y).1) (x.doubled x.came) x

pub join-regions : (b : Low) (x : Node) → (join_node b x).regions ≡ x.regions
unfolding join_node
join-regions b x = twice-same (λ y. y.regions) (join_once b) (λ y. (join-kept-once b [] y).1) (x.doubled x.came) x

pub apply-regions : (b : Low) (united : Content) (x : Node) → (apply_node b united x).regions ≡ x.regions
unfolding apply_node
apply-regions b united x = twice-same (λ y. y.regions) (apply_once b united) (λ y. refl) (x.doubled x.came) x

-- what a target then holds
pub apply-is : (b : Low) (united : Content) (x : Node) (id : Id) → Le (x.store id) (united id) → has_key b (key_of id) ≡ true → (apply_node b united x).store id ≡ united id
unfolding apply_node
apply-is b united x id le h = twice-makes (λ y. Le (y.store id) (united id)) (λ y. y.store id ≡ united id) (apply_once b united) (λ y g. taken-is united b y.store id g h) (λ y g. taken-is united b y.store id (Le-same (y.store id) (united id) g) h) (x.doubled x.came) x le

pub apply-other : (b : Low) (united : Content) (x : Node) (id : Id) → has_key b (key_of id) ≡ false → (apply_node b united x).store id ≡ x.store id
unfolding apply_node
apply-other b united x id h = twice-same (λ y. y.store id) (apply_once b united) (λ y. ap (λ t. cond t (newer (united id) (y.store id)) (y.store id)) h) (x.doubled x.came) x

pub apply-step : (b : Low) (united : Content) (x : Node) (id : Id) → Le (x.store id) (united id) → ((apply_node b united x).store id ≡ x.store id) ⊎ ((apply_node b united x).store id ≡ united id)
apply-step b united x id le = elim (tell (has_key b (key_of id))) [ inl h ↦ inr (apply-is b united x id le h) | inr h ↦ inl (apply-other b united x id h) ]
