-- A piece more, a piece less, and changes that keep the buckets.
use Rattle.std.proofs.Common.{◌≡◌, ◌||◌, not, ℕ, Bool, true, false, cond, List, [], ◌∷◌, map, filter, refl, sym, ap, ap₂, ◌∙◌, subst, ◌⊎◌, inl, inr, nat_lt}
use Rattle.std.specs.List.{list_any}
use Rattle.bucket_ids.specs.Buckets.{Low, IsBucket, has_key, covers}
use Rattle.bucket_ids.specs.Paths.{first_path}
use Rattle.pieces.specs.declared.piece.Piece.{Piece}
use Rattle.view_changes.specs.Shown.{with_region}
use Rattle.pieces.specs.Pieces.{same_bucket, meets, with_piece, make_ready, renew, with_serial, without, does_meet, is_over, is_inside, is_exactly}
use Rattle.pieces.proofs.PieceLaws.{bucket-same}
use Rattle.proof_basics.proofs.Tests.{or_false, or_true, or_left, or_right, is_false, clash}
use Rattle.pass_model.specs.Shapes.{IsApart}
use Rattle.pass_model.proofs.Tests.{tell, any-filter, none-filter}
use Rattle.proof_basics.proofs.Lists.{any-map}
use Rattle.pass_model.proofs.Geometry.{covers-key, meets-sym, apart-sym}

pub insert-none : (b : Low) (q : Piece) → meets q.bucket b ≡ false → (ps : List Piece) → list_any (does_meet b) ps ≡ false → list_any (does_meet b) (with_piece q ps) ≡ false
insert-none b q apart [] h = ap (λ t. t || false) apart
insert-none b q apart (p ∷ ps) h = let o = or_false (meets p.bucket b) (list_any (does_meet b) ps) h in by_test (nat_lt (first_path q.bucket) (first_path p.bucket)) o.0 o.1 (insert-none b q apart ps o.1)
  where
    by_test : (t : Bool) → meets p.bucket b ≡ false → list_any (does_meet b) ps ≡ false → list_any (does_meet b) (with_piece q ps) ≡ false → list_any (does_meet b) (cond t (q ∷ p ∷ ps) (p ∷ with_piece q ps)) ≡ false
    by_test true here rest ih = ap₂ (λ x y. x || y) apart (ap₂ (λ x y. x || y) here rest)
    by_test false here rest ih = ap₂ (λ x y. x || y) here ih

pub insert-new : (T : Piece → Bool) (q : Piece) → T q ≡ true → (ps : List Piece) → list_any T (with_piece q ps) ≡ true
insert-new T q h [] = or_left (T q) false h
insert-new T q h (p ∷ ps) = by_test (nat_lt (first_path q.bucket) (first_path p.bucket)) (insert-new T q h ps)
  where
    by_test : (t : Bool) → list_any T (with_piece q ps) ≡ true → list_any T (cond t (q ∷ p ∷ ps) (p ∷ with_piece q ps)) ≡ true
    by_test true ih = or_left (T q) (list_any T (p ∷ ps)) h
    by_test false ih = or_right (T p) (list_any T (with_piece q ps)) ih

pub insert-stay : (T : Piece → Bool) (q : Piece) (ps : List Piece) → list_any T ps ≡ true → list_any T (with_piece q ps) ≡ true
insert-stay T q [] h = cc
insert-stay T q (p ∷ ps) h = by_test (nat_lt (first_path q.bucket) (first_path p.bucket)) (or_true (T p) (list_any T ps) h) (λ x. insert-stay T q ps x)
  where
    by_test : (t : Bool) → (T p ≡ true) ⊎ (list_any T ps ≡ true) → (list_any T ps ≡ true → list_any T (with_piece q ps) ≡ true) → list_any T (cond t (q ∷ p ∷ ps) (p ∷ with_piece q ps)) ≡ true
    by_test true o ih = or_right (T q) (list_any T (p ∷ ps)) h
    by_test false (inl here) ih = or_left (T p) (list_any T (with_piece q ps)) here
    by_test false (inr later) ih = or_right (T p) (list_any T (with_piece q ps)) (ih later)

pub insert-apart : (q : Piece) → IsBucket q.bucket → (ps : List Piece) → list_any (does_meet q.bucket) ps ≡ false → IsApart ps → IsApart (with_piece q ps)
insert-apart q ok [] h a = (refl, ok, tt)
insert-apart q ok (p ∷ ps) h a = let o = or_false (meets p.bucket q.bucket) (list_any (does_meet q.bucket) ps) h in
    by_test (nat_lt (first_path q.bucket) (first_path p.bucket)) (insert-none p.bucket q (apart-sym p.bucket q.bucket o.0) ps a.0) (insert-apart q ok ps o.1 a.2)
  where
    by_test : (t : Bool) → list_any (does_meet p.bucket) (with_piece q ps) ≡ false → IsApart (with_piece q ps) → IsApart (cond t (q ∷ p ∷ ps) (p ∷ with_piece q ps))
    by_test true none ih = (h, ok, a)
    by_test false none ih = (none, a.1, ih)

-- no piece covers a bucket or lies inside it
pub no-meeting : (b : Low) (ps : List Piece) → list_any (is_over b) ps ≡ false → list_any (is_inside b) ps ≡ false → list_any (does_meet b) ps ≡ false
no-meeting b [] o i = refl
no-meeting b (p ∷ ps) o i =
    let over = or_false (covers p.bucket b) (list_any (is_over b) ps) o in
    let inside = or_false (covers b p.bucket) (list_any (is_inside b) ps) i in
    ap₂ (λ x y. x || y) (ap₂ (λ x y. x || y) over.0 inside.0) (no-meeting b ps over.1 inside.1)

-- ---- changes that keep the buckets

pub map-none : (f : Piece → Piece) → ((p : Piece) → (f p).bucket ≡ p.bucket) → (b : Low) (ps : List Piece) → list_any (does_meet b) ps ≡ false → list_any (does_meet b) (map f ps) ≡ false
map-none f keeps b [] h = refl
map-none f keeps b (p ∷ ps) h = let o = or_false (meets p.bucket b) (list_any (does_meet b) ps) h in ap₂ (λ x y. x || y) (ap (λ c. meets c b) (keeps p) ∙ o.0) (map-none f keeps b ps o.1)

pub map-any : (f : Piece → Piece) (T S : Piece → Bool) → ((p : Piece) → T p ≡ true → S (f p) ≡ true) → (ps : List Piece) → list_any T ps ≡ true → list_any S (map f ps) ≡ true
map-any f T S g [] h = cc
map-any f T S g (p ∷ ps) h = elim (or_true (T p) (list_any T ps) h) [ inl here ↦ or_left (S (f p)) (list_any S (map f ps)) (g p here) | inr later ↦ or_right (S (f p)) (list_any S (map f ps)) (map-any f T S g ps later) ]

pub map-apart : (f : Piece → Piece) → ((p : Piece) → (f p).bucket ≡ p.bucket) → (ps : List Piece) → IsApart ps → IsApart (map f ps)
map-apart f keeps [] a = tt
map-apart f keeps (p ∷ ps) a = (subst (λ b. list_any (does_meet b) (map f ps) ≡ false) (sym (keeps p)) (map-none f keeps p.bucket ps a.0), subst IsBucket (sym (keeps p)) a.1, map-apart f keeps ps a.2)

pub ready-keeps : (b : Low) (s : ℕ) (p : Piece) → (make_ready b s p).bucket ≡ p.bucket
ready-keeps b s p = by_test (is_exactly b p)
  where
    by_test : (t : Bool) → (cond t (record { bucket = p.bucket; serial = s; ready = true }) p).bucket ≡ p.bucket
    by_test true = refl
    by_test false = refl

pub renew-keeps : (test : Piece → Bool) (s : ℕ) (p : Piece) → (renew test s p).bucket ≡ p.bucket
renew-keeps test s p = by_test (test p)
  where
    by_test : (t : Bool) → (cond t (with_serial s p) p).bucket ≡ p.bucket
    by_test true = refl
    by_test false = refl

-- a piece that is left out leaves nothing there
pub without-clear : (b : Low) → IsBucket b → (ps : List Piece) → IsApart ps → list_any (is_exactly b) ps ≡ true → list_any (does_meet b) (without b ps) ≡ false
without-clear b ok [] a h = refl
without-clear b ok (p ∷ ps) a h = by_test (same_bucket p.bucket b) refl (or_true (same_bucket p.bucket b) (list_any (is_exactly b) ps) h) (λ x. without-clear b ok ps a.2 x)
  where
    rest : same_bucket p.bucket b ≡ true → list_any (does_meet b) (without b ps) ≡ false
    rest e = none-filter (does_meet b) (λ x. not (is_exactly b x)) ps (subst (λ c. list_any (does_meet c) ps ≡ false) (bucket-same p.bucket b e) a.0)

    away : list_any (is_exactly b) ps ≡ true → meets p.bucket b ≡ false
    away x = is_false (meets p.bucket b) (λ m. clash (any-map (is_exactly b) (does_meet p.bucket) ps (λ q same. subst (λ c. meets c p.bucket ≡ true) (sym (bucket-same q.bucket b same)) (meets-sym p.bucket b m)) x) a.0)

    by_test : (t : Bool) → same_bucket p.bucket b ≡ t → (same_bucket p.bucket b ≡ true) ⊎ (list_any (is_exactly b) ps ≡ true) → (list_any (is_exactly b) ps ≡ true → list_any (does_meet b) (without b ps) ≡ false) → list_any (does_meet b) (cond (not t) (p ∷ without b ps) (without b ps)) ≡ false
    by_test true e o ih = rest e
    by_test false e (inl x) ih = clash x e
    by_test false e (inr x) ih = ap₂ (λ x y. x || y) (away x) (ih x)

-- ---- regions

pub region-key : (b : Low) (key : ℕ) (rs : List Low) → list_any (λ r. has_key r key) rs ≡ true → list_any (λ r. has_key r key) (with_region b rs) ≡ true
region-key b key rs h = by_test (list_any (λ r. covers r b) rs) (tell (has_key b key))
  where
    by_test : (t : Bool) → (has_key b key ≡ true) ⊎ (has_key b key ≡ false) → list_any (λ r. has_key r key) (cond t rs (b ∷ filter (λ r. not (covers b r)) rs)) ≡ true
    by_test true o = h
    by_test false (inl here) = or_left (has_key b key) (list_any (λ r. has_key r key) (filter (λ r. not (covers b r)) rs)) here
    by_test false (inr not_here) = or_right (has_key b key) (list_any (λ r. has_key r key) (filter (λ r. not (covers b r)) rs))
        (any-filter (λ r. has_key r key) (λ r. not (covers b r)) rs (λ r k. ap (λ t. not t) (is_false (covers b r) (λ c. clash (covers-key b r key c k) not_here))) h)

pub region-own : (b : Low) (key : ℕ) (rs : List Low) → has_key b key ≡ true → list_any (λ r. has_key r key) (with_region b rs) ≡ true
region-own b key rs h = by_test (list_any (λ r. covers r b) rs) refl
  where
    by_test : (t : Bool) → list_any (λ r. covers r b) rs ≡ t → list_any (λ r. has_key r key) (cond t rs (b ∷ filter (λ r. not (covers b r)) rs)) ≡ true
    by_test true e = any-map (λ r. covers r b) (λ r. has_key r key) rs (λ r c. covers-key r b key c h) e
    by_test false e = or_left (has_key b key) (list_any (λ r. has_key r key) (filter (λ r. not (covers b r)) rs)) h
