-- The words of journals are those of buckets and pieces.
use Rattle.std.proofs.Common.{◌≡◌, ◌==◌, ◌&&◌, ◌||◌, ℕ, Bool, true, false, cond, nat_le, List, [], ◌∷◌, refl, ap, ap₂, ◌∙◌}
use Rattle.std.specs.List.{list_any}
use Rattle.global_ids.specs.Keys as keys
use Rattle.bucket_ids.specs.Buckets as ids
use Rattle.bucket_ids.specs.Buckets.{has_key}
use Rattle.entry_maps.specs.Entries.{in_bucket}
use Rattle.pieces.specs.declared.piece.Piece.{Piece}
use Rattle.pieces.specs.Pieces as laid
use Rattle.pieces.specs.Pieces.{is_piece}
use Rattle.lane_journals.specs.Buckets.{Bucket, Id, contains, same_bucket, covers, meets, first_child, second_child, key_of}
use Rattle.lane_journals.specs.Meanings.{names}

pub cond-and : (x y : Bool) → cond x y false ≡ (x && y)
cond-and true y = refl
cond-and false y = refl

pub cond-or : (x y : Bool) → cond x true y ≡ (x || y)
cond-or true y = refl
cond-or false y = refl

pub or-comm : (x y : Bool) → (x || y) ≡ (y || x)
or-comm true true = refl
or-comm true false = refl
or-comm false true = refl
or-comm false false = refl

pub or-last : (x y : Bool) → y ≡ true → (x || y) ≡ true
or-last true y h = refl
or-last false y h = h

pub contains-is : (b : Bucket) (key : ℕ) → contains b key ≡ has_key b key
unfolding contains
contains-is b key = refl

pub key-is : (id : Id) → key_of id ≡ keys.key_of id
unfolding key_of
key-is id = refl

pub inside-is : (b : Bucket) (id : Id) → contains b (key_of id) ≡ in_bucket b id
unfolding contains key_of
inside-is b id = refl

pub same-is : (a b : Bucket) → same_bucket a b ≡ laid.same_bucket a b
unfolding same_bucket
same-is a b = cond-and (a.bits == b.bits) (a.low == b.low)

pub covers-is : (a b : Bucket) → covers a b ≡ ids.covers a b
unfolding covers contains
covers-is a b = cond-and (nat_le a.bits b.bits) (has_key a b.low)

pub meets-is : (a b : Bucket) → meets a b ≡ laid.meets a b
unfolding meets
meets-is a b = cond-or (covers a b) (covers b a) ∙ ap₂ (λ x y. x || y) (covers-is a b) (covers-is b a)

pub meets-turned : (a b : Bucket) → laid.meets a b ≡ laid.meets b a
meets-turned a b = or-comm (ids.covers a b) (ids.covers b a)

pub first-is : (b : Bucket) → first_child b ≡ ids.first_child b
unfolding first_child
first-is b = refl

pub second-is : (b : Bucket) → second_child b ≡ ids.second_child b
unfolding second_child
second-is b = refl

-- what a list of pieces names
pub names-is : (ps : List Piece) (b : Bucket) (s : ℕ) → names ps b s ≡ list_any (is_piece b s) ps
names-is [] b s = refl
names-is (p ∷ ps) b s =
    ap (λ t. cond t (cond (p.serial == s) true (names ps b s)) (names ps b s)) (same-is p.bucket b)
    ∙ by_tests (laid.same_bucket p.bucket b) (p.serial == s) (names-is ps b s)
  where
    by_tests : (x y : Bool) → names ps b s ≡ list_any (is_piece b s) ps → cond x (cond y true (names ps b s)) (names ps b s) ≡ ((x && y) || list_any (is_piece b s) ps)
    by_tests true true ih = refl
    by_tests true false ih = ih
    by_tests false y ih = ih
