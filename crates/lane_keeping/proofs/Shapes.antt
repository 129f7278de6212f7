-- Pieces without their serials: what a journal makes of them is what a node makes of them.
use Rattle.std.proofs.Common.{◌≡◌, ◌&&◌, ◌||◌, not, ℕ, zero, suc, ◌+◌, ◌-◌, Bool, true, false, cond, nat_lt, nat_le, List, [], ◌∷◌, ◌++◌, map, filter, refl, sym, ap, ap₂, ◌∙◌, arith, None, Some}
use mathlib.Core.Bool.{true≢false}
use Rattle.std.specs.List.{list_any}
use Rattle.std.proofs.lemmas.List.Folds.{list_any-append}
use Rattle.bucket_ids.specs.Buckets as ids
use Rattle.bucket_ids.specs.Buckets.{IsBucket, has_key}
use Rattle.bucket_ids.specs.Paths.{first_path, last_path}
use Rattle.pieces.specs.declared.piece.Piece.{Piece}
use Rattle.pieces.specs.Pieces as laid
use Rattle.pieces.specs.Pieces.{is_over, is_inside, is_exactly, does_meet, has_key_of, with_serial, renewed, ready_at, parts, split_at, join_at, with_piece, apply_at, without}
use Rattle.pieces.specs.Runs.{IsLaid, AreRuns}
use Rattle.proof_basics.proofs.Tests.{or_false}
use Rattle.pieces.proofs.Laid.{none_past}
use Rattle.pieces.specs.Told.{Accepted}
use Rattle.messages.specs.declared.body.Body.{Body as Message}
use Rattle.messages.specs.declared.body.Body.TheVariants as message
use Rattle.node_model.specs.Takes.{told}
use Rattle.global_ids.specs.Keys.{key_of}
use Rattle.lane_journals.specs.Buckets.{Bucket, contains, same_bucket, covers, meets, first_child}
use Rattle.lane_journals.specs.Events.{Body, Ask, Read, ReadDoc, Store, Apply, Delete, Split, Join, Ready, Activate}
use Rattle.lane_journals.specs.Pieces.{NodePiece, any_contains, any_covers, any_inside, any_meets, is_piece, ready_inside, cut, split_to, drop_inside, unite, make, remove, mark, pieces_after}
use Rattle.lane_journals.proofs.BucketLaws.{meets-by}
use Rattle.lane_keeping.specs.NodeKeeping.{shape}
use Rattle.lane_keeping.specs.Flights.{meant, NamesBucket}
use Rattle.lane_keeping.proofs.Bodies.{pieces_by}
use Rattle.lane_keeping.proofs.Standing.{accepted-join}
use Rattle.lane_keeping.proofs.Words.{cond-or, or-comm, contains-is, same-is, covers-is, meets-is, first-is, second-is}

-- ---- lists that have the same pieces

abbrev pub Alike : List NodePiece → List NodePiece → Type 0
Alike xs ys = (test : NodePiece → Bool) → list_any test xs ≡ list_any test ys

or_turn : (x y z : Bool) → (x || (y || z)) ≡ (y || (x || z))
or_turn true true z = refl
or_turn true false z = refl
or_turn false y z = refl

pub contains-any : (key : ℕ) (qs : List NodePiece) → any_contains key qs ≡ list_any (λ q. contains q.bucket key) qs
contains-any key [] = refl
contains-any key (q ∷ qs) = cond-or (contains q.bucket key) (any_contains key qs) ∙ ap (λ t. contains q.bucket key || t) (contains-any key qs)

pub covers-any : (b : Bucket) (qs : List NodePiece) → any_covers b qs ≡ list_any (λ q. covers q.bucket b) qs
covers-any b [] = refl
covers-any b (q ∷ qs) = cond-or (covers q.bucket b) (any_covers b qs) ∙ ap (λ t. covers q.bucket b || t) (covers-any b qs)

pub inside-any : (b : Bucket) (qs : List NodePiece) → any_inside b qs ≡ list_any (λ q. covers b q.bucket) qs
inside-any b [] = refl
inside-any b (q ∷ qs) = cond-or (covers b q.bucket) (any_inside b qs) ∙ ap (λ t. covers b q.bucket || t) (inside-any b qs)

pub meets-any : (b : Bucket) (qs : List NodePiece) → any_meets b qs ≡ list_any (λ q. meets q.bucket b) qs
meets-any b [] = refl
meets-any b (q ∷ qs) = cond-or (meets q.bucket b) (any_meets b qs) ∙ ap (λ t. meets q.bucket b || t) (meets-any b qs)

pub piece-any : (b : Bucket) (qs : List NodePiece) → is_piece b qs ≡ list_any (λ q. same_bucket q.bucket b) qs
piece-any b [] = refl
piece-any b (q ∷ qs) = cond-or (same_bucket q.bucket b) (is_piece b qs) ∙ ap (λ t. same_bucket q.bucket b || t) (piece-any b qs)

ready-any : (b : Bucket) (qs : List NodePiece) → ready_inside b qs ≡ list_any (λ q. covers b q.bucket && q.ready) qs
ready-any b [] = refl
ready-any b (q ∷ qs) = by_tests (covers b q.bucket) q.ready (ready-any b qs)
  where
    by_tests : (x y : Bool) → ready_inside b qs ≡ list_any (λ q. covers b q.bucket && q.ready) qs → cond x (cond y true (ready_inside b qs)) (ready_inside b qs) ≡ ((x && y) || list_any (λ q. covers b q.bucket && q.ready) qs)
    by_tests true true ih = refl
    by_tests true false ih = ih
    by_tests false y ih = ih

abbrev split_test : Bucket → (NodePiece → Bool) → NodePiece → Bool
split_test b test q = cond (covers q.bucket b) (list_any test (cut (b.bits - (q.bucket).bits) b q)) (test q)

split-any : (b : Bucket) (test : NodePiece → Bool) (qs : List NodePiece) → list_any test (split_to b qs) ≡ list_any (split_test b test) qs
split-any b test [] = refl
split-any b test (q ∷ qs) = by_test (covers q.bucket b) (split-any b test qs)
  where
    by_test : (t : Bool) → list_any test (split_to b qs) ≡ list_any (split_test b test) qs
        → list_any test (cond t (cut (b.bits - (q.bucket).bits) b q ++ split_to b qs) (q ∷ split_to b qs)) ≡ (cond t (list_any test (cut (b.bits - (q.bucket).bits) b q)) (test q) || list_any (split_test b test) qs)
    by_test true ih = list_any-append test (cut (b.bits - (q.bucket).bits) b q) (split_to b qs) ∙ ap (λ x. list_any test (cut (b.bits - (q.bucket).bits) b q) || x) ih
    by_test false ih = ap (λ x. test q || x) ih

drop-any : (b : Bucket) (test : NodePiece → Bool) (qs : List NodePiece) → list_any test (drop_inside b qs) ≡ list_any (λ q. not (covers b q.bucket) && test q) qs
drop-any b test [] = refl
drop-any b test (q ∷ qs) = by_test (covers b q.bucket) (drop-any b test qs)
  where
    by_test : (t : Bool) → list_any test (drop_inside b qs) ≡ list_any (λ q. not (covers b q.bucket) && test q) qs
        → list_any test (cond t (drop_inside b qs) (q ∷ drop_inside b qs)) ≡ ((not t && test q) || list_any (λ q. not (covers b q.bucket) && test q) qs)
    by_test true ih = ih
    by_test false ih = ap (λ x. test q || x) ih

remove-any : (b : Bucket) (test : NodePiece → Bool) (qs : List NodePiece) → list_any test (remove b qs) ≡ list_any (λ q. not (same_bucket q.bucket b) && test q) qs
remove-any b test [] = refl
remove-any b test (q ∷ qs) = by_test (same_bucket q.bucket b) (remove-any b test qs)
  where
    by_test : (t : Bool) → list_any test (remove b qs) ≡ list_any (λ q. not (same_bucket q.bucket b) && test q) qs
        → list_any test (cond t (remove b qs) (q ∷ remove b qs)) ≡ ((not t && test q) || list_any (λ q. not (same_bucket q.bucket b) && test q) qs)
    by_test true ih = ih
    by_test false ih = ap (λ x. test q || x) ih

mark-any : (b : Bucket) (test : NodePiece → Bool) (qs : List NodePiece) → list_any test (mark b qs) ≡ list_any (λ q. test (cond (same_bucket q.bucket b) (record { bucket = q.bucket; ready = true }) q)) qs
mark-any b test [] = refl
mark-any b test (q ∷ qs) = ap (λ x. test (cond (same_bucket q.bucket b) (record { bucket = q.bucket; ready = true }) q) || x) (mark-any b test qs)

-- ---- the order of pieces doesn't matter

module _ (xs ys : List NodePiece) (h : Alike xs ys) where
  split-alike : (b : Bucket) → Alike (split_to b xs) (split_to b ys)
  split-alike b test = split-any b test xs ∙ h (split_test b test) ∙ sym (split-any b test ys)

  ready-alike : (b : Bucket) → ready_inside b xs ≡ ready_inside b ys
  ready-alike b = ready-any b xs ∙ h (λ q. covers b q.bucket && q.ready) ∙ sym (ready-any b ys)

  unite-alike : (b : Bucket) → Alike (unite b xs) (unite b ys)
  unite-alike b test = ap₂ (λ r t. test (record { bucket = b; ready = r }) || t) (ready-alike b) (drop-any b test xs ∙ h (λ q. not (covers b q.bucket) && test q) ∙ sym (drop-any b test ys))

  make-alike : (b : Bucket) → Alike (make b xs) (make b ys)
  make-alike b test = ap (λ t. list_any test (cond t (split_to b xs) (unite b xs))) (covers-any b xs ∙ h (λ q. covers q.bucket b) ∙ sym (covers-any b ys)) ∙ by_test (any_covers b ys)
    where
      by_test : (t : Bool) → list_any test (cond t (split_to b xs) (unite b xs)) ≡ list_any test (cond t (split_to b ys) (unite b ys))
      by_test true = split-alike b test
      by_test false = unite-alike b test

  pub after-alike : (x : Body) → Alike (pieces_after x xs) (pieces_after x ys)
  after-alike (Apply b u) = make-alike b
  after-alike (Delete b s) = λ test. remove-any b test xs ∙ h (λ q. not (same_bucket q.bucket b) && test q) ∙ sym (remove-any b test ys)
  after-alike (Split b) = split-alike b
  after-alike (Join b) = unite-alike b
  after-alike (Ready b) = λ test. mark-any b test xs ∙ h (λ q. test (cond (same_bucket q.bucket b) (record { bucket = q.bucket; ready = true }) q)) ∙ sym (mark-any b test ys)
  after-alike Ask = h
  after-alike (Read b) = h
  after-alike (ReadDoc i) = h
  after-alike (Store i s) = h
  after-alike (Activate b) = h

-- ---- a node's pieces

pub shapes-any : (f : NodePiece → Bool) (g : Piece → Bool) → ((p : Piece) → f (shape p) ≡ g p) → (ps : List Piece) → list_any f (map shape ps) ≡ list_any g ps
shapes-any f g same [] = refl
shapes-any f g same (p ∷ ps) = ap₂ (λ x y. x || y) (same p) (shapes-any f g same ps)

shapes-append : (test : NodePiece → Bool) (xs ys : List Piece) → list_any test (map shape (xs ++ ys)) ≡ (list_any test (map shape xs) || list_any test (map shape ys))
shapes-append test [] ys = refl
shapes-append test (x ∷ xs) ys = by_test (test (shape x)) (shapes-append test xs ys)
  where
    by_test : (t : Bool) → list_any test (map shape (xs ++ ys)) ≡ (list_any test (map shape xs) || list_any test (map shape ys))
        → (t || list_any test (map shape (xs ++ ys))) ≡ ((t || list_any test (map shape xs)) || list_any test (map shape ys))
    by_test true ih = refl
    by_test false ih = ih

shapes-renewed : (f : Piece → Bool) (s : ℕ) (ps : List Piece) → map shape (renewed f s ps) ≡ map shape ps
shapes-renewed f s [] = refl
shapes-renewed f s (p ∷ ps) = ap₂ (λ (x : NodePiece) xs. x ∷ xs) (by_test (f p)) (shapes-renewed f s ps)
  where
    by_test : (t : Bool) → shape (cond t (with_serial s p) p) ≡ shape p
    by_test true = refl
    by_test false = refl

shapes-ready : (b : Bucket) (s : ℕ) (ps : List Piece) → map shape (ready_at b s ps) ≡ mark b (map shape ps)
shapes-ready b s [] = refl
shapes-ready b s (p ∷ ps) = ap₂ (λ (x : NodePiece) xs. x ∷ xs)
    (by_test (is_exactly b p) ∙ sym (ap (λ t. cond t (record { bucket = p.bucket; ready = true }) (shape p)) (same-is p.bucket b))) (shapes-ready b s ps)
  where
    by_test : (t : Bool) → shape (cond t (record { bucket = p.bucket; serial = s; ready = true }) p) ≡ cond t (record { bucket = p.bucket; ready = true }) (shape p)
    by_test true = refl
    by_test false = refl

shapes-without : (b : Bucket) (ps : List Piece) → map shape (without b ps) ≡ remove b (map shape ps)
shapes-without b [] = refl
shapes-without b (p ∷ ps) = by_test (is_exactly b p) (shapes-without b ps) ∙ sym (ap (λ t. cond t (remove b (map shape ps)) (shape p ∷ remove b (map shape ps))) (same-is p.bucket b))
  where
    by_test : (t : Bool) → map shape (without b ps) ≡ remove b (map shape ps)
        → map shape (cond (not t) (p ∷ without b ps) (without b ps)) ≡ cond t (remove b (map shape ps)) (shape p ∷ remove b (map shape ps))
    by_test true ih = ih
    by_test false ih = ap (λ xs. shape p ∷ xs) ih

shapes-outside : (b : Bucket) (ps : List Piece) → map shape (filter (λ q. not (ids.covers b q.bucket)) ps) ≡ drop_inside b (map shape ps)
shapes-outside b [] = refl
shapes-outside b (p ∷ ps) = by_test (ids.covers b p.bucket) (shapes-outside b ps) ∙ sym (ap (λ t. cond t (drop_inside b (map shape ps)) (shape p ∷ drop_inside b (map shape ps))) (covers-is b p.bucket))
  where
    by_test : (t : Bool) → map shape (filter (λ q. not (ids.covers b q.bucket)) ps) ≡ drop_inside b (map shape ps)
        → map shape (cond (not t) (p ∷ filter (λ q. not (ids.covers b q.bucket)) ps) (filter (λ q. not (ids.covers b q.bucket)) ps)) ≡ cond t (drop_inside b (map shape ps)) (shape p ∷ drop_inside b (map shape ps))
    by_test true ih = ih
    by_test false ih = ap (λ xs. shape p ∷ xs) ih

-- ---- the parts of a bucket

module _ (to : Bucket) (s : ℕ) (r : Bool) (test : NodePiece → Bool) where
  abbrev part : Bucket → Piece
  part b = record { bucket = b; serial = s; ready = r }

  abbrev step : ℕ → Bucket → Bucket → Bool → List NodePiece
  step k one two t = cond t (shape (part two) ∷ cut k to (shape (part one))) (shape (part one) ∷ cut k to (shape (part two)))

  step-is : (k : ℕ) (from : Bucket) → cut (suc k) to (shape (part from)) ≡ step k (ids.first_child from) (ids.second_child from) (ids.covers (ids.first_child from) to)
  step-is k from =
      let e : covers (first_child from) to ≡ ids.covers (ids.first_child from) to = ap (λ x. covers x to) (first-is from) ∙ covers-is (ids.first_child from) to in
      λ i. step k (first-is from i) (second-is from i) (e i)

  shapes-parts : (k : ℕ) (from : Bucket) → list_any test (map shape (parts k from to s r)) ≡ list_any test (cut k to (shape (part from)))
  shapes-parts zero from = refl
  shapes-parts (suc k) from = by_test (ids.covers (ids.first_child from) to) (shapes-parts k (ids.first_child from)) (shapes-parts k (ids.second_child from)) ∙ sym (ap (list_any test) (step-is k from))
    where
      by_test : (t : Bool) → list_any test (map shape (parts k (ids.first_child from) to s r)) ≡ list_any test (cut k to (shape (part (ids.first_child from))))
          → list_any test (map shape (parts k (ids.second_child from) to s r)) ≡ list_any test (cut k to (shape (part (ids.second_child from))))
          → list_any test (map shape (cond t (parts k (ids.first_child from) to s r ++ part (ids.second_child from) ∷ []) (part (ids.first_child from) ∷ parts k (ids.second_child from) to s r)))
          ≡ list_any test (step k (ids.first_child from) (ids.second_child from) t)
      by_test true x y =
          shapes-append test (parts k (ids.first_child from) to s r) (part (ids.second_child from) ∷ [])
          ∙ or-comm (list_any test (map shape (parts k (ids.first_child from) to s r))) (test (shape (part (ids.second_child from))) || false)
          ∙ ap₂ (λ u v. u || v) (or-comm (test (shape (part (ids.second_child from)))) false) x
      by_test false x y = ap (λ u. test (shape (part (ids.first_child from))) || u) y

-- ---- one piece covers a bucket

over_key : (a b : Bucket) → ids.covers a b ≡ true → has_key a b.low ≡ true
over_key a b h = by_test (nat_le a.bits b.bits) h
  where
    by_test : (x : Bool) → (x && has_key a b.low) ≡ true → has_key a b.low ≡ true
    by_test true h = h
    by_test false h = absurd (true≢false (sym h))

-- two buckets over a third meet
over_both : (a c b : Bucket) → ids.covers a b ≡ true → ids.covers c b ≡ true → laid.meets a c ≡ true
over_both a c b p q = sym (meets-is a c) ∙ meets-by a c b.low (contains-is a b.low ∙ over_key a b p) (contains-is c b.low ∙ over_key c b q)

none_over : (b c : Bucket) → ids.covers c b ≡ true → (ps : List Piece) → list_any (does_meet c) ps ≡ false → list_any (is_over b) ps ≡ false
none_over b c h [] none = refl
none_over b c h (q ∷ ps) none =
    let apart = or_false (laid.meets q.bucket c) _ none in
    ap₂ (λ x y. x || y) (by_test (ids.covers q.bucket b) refl apart.0) (none_over b c h ps apart.1)
  where
    by_test : (t : Bool) → ids.covers q.bucket b ≡ t → laid.meets q.bucket c ≡ false → t ≡ false
    by_test true e n = absurd (true≢false (sym (over_both q.bucket c b e h) ∙ n))
    by_test false e n = refl

split-none : (b : Bucket) (ps : List Piece) → list_any (is_over b) ps ≡ false → split_to b (map shape ps) ≡ map shape ps
split-none b [] h = refl
split-none b (p ∷ ps) h =
    let apart = or_false (ids.covers p.bucket b) _ h in
    ap (λ t. cond t (cut (b.bits - (p.bucket).bits) b (shape p) ++ split_to b (map shape ps)) (shape p ∷ split_to b (map shape ps))) (covers-is p.bucket b ∙ apart.0)
    ∙ ap (λ xs. shape p ∷ xs) (split-none b ps apart.1)

module _ (laws : AreRuns) where
  pub behind_over : (b : Bucket) (p : Piece) (ps : List Piece) → IsBucket p.bucket → IsLaid (last_path p.bucket + 1) ps → ids.covers p.bucket b ≡ true → list_any (is_over b) ps ≡ false
  behind_over b p ps valid laid over = none_over b p.bucket over ps (none_past laws p.bucket valid (last_path p.bucket + 1) (omega arith) ps laid)

  shapes-split : (b : Bucket) (s lo : ℕ) (ps : List Piece) → IsLaid lo ps → Alike (map shape (split_at b s ps)) (split_to b (map shape ps))
  shapes-split b s lo [] laid test = refl
  shapes-split b s lo (p ∷ ps) laid test =
      by_test (ids.covers p.bucket b) refl (shapes-split b s (last_path p.bucket + 1) ps laid.2 test)
      ∙ sym (ap (λ t. list_any test (cond t (cut (b.bits - (p.bucket).bits) b (shape p) ++ split_to b (map shape ps)) (shape p ∷ split_to b (map shape ps)))) (covers-is p.bucket b))
    where
      by_test : (t : Bool) → ids.covers p.bucket b ≡ t → list_any test (map shape (split_at b s ps)) ≡ list_any test (split_to b (map shape ps))
          → list_any test (map shape (cond t (parts (b.bits - (p.bucket).bits) p.bucket b s p.ready ++ ps) (p ∷ split_at b s ps)))
          ≡ list_any test (cond t (cut (b.bits - (p.bucket).bits) b (shape p) ++ split_to b (map shape ps)) (shape p ∷ split_to b (map shape ps)))
      by_test true e ih =
          shapes-append test (parts (b.bits - (p.bucket).bits) p.bucket b s p.ready) ps
          ∙ ap₂ (λ x y. x || y) (shapes-parts b s p.ready test (b.bits - (p.bucket).bits) p.bucket) (ap (list_any test) (sym (split-none b ps (behind_over b p ps laid.1 laid.2 e))))
          ∙ sym (list_any-append test (cut (b.bits - (p.bucket).bits) b (shape p)) (split_to b (map shape ps)))
      by_test false e ih = ap (λ x. test (shape p) || x) ih

-- ---- pieces that are joined, and a new one

shapes-join : (b : Bucket) (s : ℕ) (ps : List Piece) → list_any (is_inside b) ps ≡ true → Alike (map shape (join_at b s ps)) (unite b (map shape ps))
shapes-join b s [] there test = absurd (true≢false (sym there))
shapes-join b s (p ∷ ps) there test =
    by_test (ids.covers b p.bucket) p.ready there (λ h. shapes-join b s ps h test)
    ∙ sym (ap (λ t. test (record { bucket = b; ready = cond t (cond p.ready true (ready_inside b (map shape ps))) (ready_inside b (map shape ps)) }) || list_any test (cond t (drop_inside b (map shape ps)) (shape p ∷ drop_inside b (map shape ps)))) (covers-is b p.bucket))
  where
    inside : list_any (λ q. ids.covers b q.bucket && q.ready) ps ≡ ready_inside b (map shape ps)
    inside = sym (ready-any b (map shape ps) ∙ shapes-any (λ q. covers b q.bucket && q.ready) (λ q. ids.covers b q.bucket && q.ready) (λ q. ap (λ t. t && q.ready) (covers-is b q.bucket)) ps)

    by_test : (t r : Bool) → (t || list_any (is_inside b) ps) ≡ true
        → (list_any (is_inside b) ps ≡ true → list_any test (map shape (join_at b s ps)) ≡ (test (record { bucket = b; ready = ready_inside b (map shape ps) }) || list_any test (drop_inside b (map shape ps))))
        → list_any test (map shape (cond t (record { bucket = b; serial = s; ready = r || list_any (λ q. ids.covers b q.bucket && q.ready) ps } ∷ filter (λ q. not (ids.covers b q.bucket)) ps) (p ∷ join_at b s ps)))
        ≡ (test (record { bucket = b; ready = cond t (cond r true (ready_inside b (map shape ps))) (ready_inside b (map shape ps)) }) || list_any test (cond t (drop_inside b (map shape ps)) (shape p ∷ drop_inside b (map shape ps))))
    by_test true r h ih = ap₂ (λ x y. test (record { bucket = b; ready = x }) || list_any test y) (ap (λ x. r || x) inside ∙ sym (cond-or r (ready_inside b (map shape ps)))) (shapes-outside b ps)
    by_test false r h ih = ap (λ x. test (shape p) || x) (ih h) ∙ or_turn (test (shape p)) (test (record { bucket = b; ready = ready_inside b (map shape ps) })) (list_any test (drop_inside b (map shape ps)))

shapes-with_piece : (q : Piece) (ps : List Piece) (test : NodePiece → Bool) → list_any test (map shape (with_piece q ps)) ≡ (test (shape q) || list_any test (map shape ps))
shapes-with_piece q [] test = refl
shapes-with_piece q (p ∷ ps) test = by_test (nat_lt (first_path q.bucket) (first_path p.bucket)) (shapes-with_piece q ps test)
  where
    by_test : (t : Bool) → list_any test (map shape (with_piece q ps)) ≡ (test (shape q) || list_any test (map shape ps))
        → list_any test (map shape (cond t (q ∷ p ∷ ps) (p ∷ with_piece q ps))) ≡ (test (shape q) || (test (shape p) || list_any test (map shape ps)))
    by_test true ih = refl
    by_test false ih = ap (λ x. test (shape p) || x) ih ∙ or_turn (test (shape p)) (test (shape q)) (list_any test (map shape ps))

-- where no piece lies inside
unite-none : (b : Bucket) (ps : List Piece) → list_any (is_inside b) ps ≡ false → (ready_inside b (map shape ps) ≡ false) × (drop_inside b (map shape ps) ≡ map shape ps)
unite-none b [] h = (refl, refl)
unite-none b (p ∷ ps) h =
    let apart = or_false (ids.covers b p.bucket) _ h in
    let rest = unite-none b ps apart.1 in
    let out = covers-is b p.bucket ∙ apart.0 in (
      ap (λ t. cond t (cond p.ready true (ready_inside b (map shape ps))) (ready_inside b (map shape ps))) out ∙ rest.0,
      ap (λ t. cond t (drop_inside b (map shape ps)) (shape p ∷ drop_inside b (map shape ps))) out ∙ ap (λ xs. shape p ∷ xs) rest.1,
    )

module _ (laws : AreRuns) where
  shapes-apply : (b : Bucket) (s : ℕ) (ps : List Piece) → IsLaid 0 ps → Alike (map shape (apply_at b s ps)) (make b (map shape ps))
  shapes-apply b s ps laid test =
      by_tests (list_any (is_over b) ps) (list_any (is_inside b) ps) refl refl
      ∙ sym (ap (λ t. list_any test (cond t (split_to b (map shape ps)) (unite b (map shape ps)))) over)
    where
      over : any_covers b (map shape ps) ≡ list_any (is_over b) ps
      over = covers-any b (map shape ps) ∙ shapes-any (λ q. covers q.bucket b) (is_over b) (λ p. covers-is p.bucket b) ps

      by_tests : (x y : Bool) → list_any (is_over b) ps ≡ x → list_any (is_inside b) ps ≡ y
          → list_any test (map shape (cond x (split_at b s ps) (cond y (join_at b s ps) (with_piece (record { bucket = b; serial = s; ready = false }) ps))))
          ≡ list_any test (cond x (split_to b (map shape ps)) (unite b (map shape ps)))
      by_tests true y e f = shapes-split laws b s 0 ps laid test
      by_tests false true e f = shapes-join b s ps f test
      by_tests false false e f = let none = unite-none b ps f in
          shapes-with_piece (record { bucket = b; serial = s; ready = false }) ps test
          ∙ sym (ap₂ (λ r xs. test (record { bucket = b; ready = r }) || list_any test xs) none.0 none.1)

-- ---- each body

module _ (laws : AreRuns) where
  pub shapes-after : (x : Message) → NamesBucket x → (t : ℕ) (ps : List Piece) → IsLaid 0 ps → told x ps ≡ Accepted → Alike (map shape (pieces_by x t ps)) (pieces_after (meant x) (map shape ps))
  shapes-after message.Ask v t ps laid a = λ test. refl
  shapes-after (message.Read b None) v t ps laid a = λ test. refl
  shapes-after (message.Read b (Some id)) v t ps laid a = λ test. refl
  shapes-after (message.Store e) v t ps laid a = λ test. ap (list_any test) (shapes-renewed (has_key_of (key_of e.id)) t ps)
  shapes-after (message.Apply b es) v t ps laid a = shapes-apply laws b t ps laid
  shapes-after (message.Delete b s) v t ps laid a = λ test. ap (list_any test) (shapes-without b ps)
  shapes-after (message.Split b) v t ps laid a = shapes-split laws b t 0 ps laid
  shapes-after (message.Join b) v t ps laid a = shapes-join b t ps (accepted-join b ps a)
  shapes-after (message.Ready b) v t ps laid a = λ test. ap (list_any test) (shapes-ready b t ps)
  shapes-after (message.Activate b) v t ps laid a = λ test. ap (list_any test) (shapes-renewed (does_meet b) t ps)
