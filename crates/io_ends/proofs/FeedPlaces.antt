-- Where bytes have no line feed.
use Rattle.std.proofs.Common.{◌≡◌, ℕ, zero, suc, ◌+◌, ◌<◌, ◌≤◌, ◌==◌, Bool, true, false, None, Some, List, [], ◌∷◌, ◌++◌, length, get_or, take, drop, sym, ◌∙◌, subst, arith, length-take, length-drop, get_or-take, get_or-drop, take-add, take-append-drop}
use Rattle.std.proofs.lemmas.Bool.Decides.{nat_tests}
use Rattle.std.proofs.lemmas.Bool.{false≢true}
use Rattle.memchr.specs.Find.{IsFirstByte, is_byte}
use Rattle.io_ends.specs.Lines.{NoLineFeed}
use Rattle.io_ends.specs.Reading.{IsFeedAt, IsNearEnd}

-- no line feed at any place
pub NoLineFeed-from_places : (xs : List ℕ) → ((k : ℕ) → k < length xs → get_or xs k 0 ≡ 10 → ⊥) → NoLineFeed xs
NoLineFeed-from_places [] h = tt
NoLineFeed-from_places (x ∷ xs) h = (h 0 (omega arith), NoLineFeed-from_places xs (λ k p. h (suc k) (omega arith)))

pub NoLineFeed-append : (xs ys : List ℕ) → NoLineFeed xs → NoLineFeed ys → NoLineFeed (xs ++ ys)
NoLineFeed-append [] ys p q = q
NoLineFeed-append (x ∷ xs) ys p q = (p.0, NoLineFeed-append xs ys p.1 q)

-- the front and the rest
pub NoLineFeed-whole : (xs : List ℕ) (from : ℕ) → NoLineFeed (take from xs) → NoLineFeed (drop from xs) → NoLineFeed xs
NoLineFeed-whole xs from p q = subst NoLineFeed (take-append-drop from xs) (NoLineFeed-append (take from xs) (drop from xs) p q)

-- a line feed stands behind all bytes that have none
pub feed_behind : (xs : List ℕ) (seen at : ℕ) → NoLineFeed (take seen xs) → IsFeedAt xs at → seen ≤ at
feed_behind [] seen at clear feed = absurd (omega (arith, feed.within))
feed_behind (x ∷ xs) zero at clear feed = omega arith
feed_behind (x ∷ xs) (suc seen) zero clear feed = absurd (clear.0 feed.here)
feed_behind (x ∷ xs) (suc seen) (suc at) clear feed =
    let deeper : seen ≤ at = feed_behind xs seen at clear.1 (record { within = omega (arith, feed.within); before = feed.before.1; here = feed.here }) in
    omega (arith, deeper)

-- where all but so many bytes were seen, the first line feed stands among those
pub near_end-seen : (size : ℕ) (xs : List ℕ) (seen : ℕ) → NoLineFeed (take seen xs) → length xs ≤ seen + size → IsNearEnd size xs
near_end-seen size xs seen clear few at feed = omega (arith, few, feed_behind xs seen at clear feed)

pub feed_none : (xs : List ℕ) (from : ℕ) → ((k : ℕ) → 0 ≤ k → k < length (drop from xs) → get_or (drop from xs) k 0 ≡ 10 → ⊥) → NoLineFeed (take from xs) → NoLineFeed xs
feed_none xs from h p = NoLineFeed-whole xs from p (NoLineFeed-from_places (drop from xs) (λ k q. h k (omega arith) q))

pub feed_some : (xs : List ℕ) (from at : ℕ) → from ≤ length xs → at < length (drop from xs) → ((k : ℕ) → 0 ≤ k → k < at → get_or (drop from xs) k 0 ≡ 10 → ⊥) → get_or (drop from xs) at 0 ≡ 10
    → NoLineFeed (take from xs) → IsFeedAt xs (from + at)
feed_some xs from at low high before here p =
    let rest : NoLineFeed (take at (drop from xs)) = NoLineFeed-from_places (take at (drop from xs))
    (λ k q e. let below : k < at = omega (arith, length-take at (drop from xs)) in
    before k (omega arith) below (sym (get_or-take at (drop from xs) k 0 below) ∙ e)) in
    record {
      within = omega (arith, length-drop from xs);
      before = subst NoLineFeed (sym (take-add from at xs)) (NoLineFeed-append (take from xs) (take at (drop from xs)) p rest);
      here = sym (get_or-drop from xs at 0) ∙ here;
    }

is_ten : (b : ℕ) → b ≡ 10 → (b == 10) ≡ true
is_ten b h = grind (arith, nat_tests)

ten_is : (b : ℕ) → (b == 10) ≡ true → b ≡ 10
ten_is b h = grind (arith, nat_tests)

pub feed_found : (ahead hay : List ℕ) (from at : ℕ) → from ≤ length ahead → hay ≡ drop from ahead → IsFirstByte (is_byte 10) hay (Some at) → NoLineFeed (take from ahead) → IsFeedAt ahead (from + at)
feed_found ahead hay from at low e found =
    let here = subst (λ h. IsFirstByte (is_byte 10) h (Some at)) e found in
    feed_some ahead from at low here.0.high (λ k p q f. here.0.before k p q (is_ten (get_or (drop from ahead) k 0) f)) (ten_is (get_or (drop from ahead) at 0) here.1)

pub feed_missing : (ahead hay : List ℕ) (from : ℕ) → hay ≡ drop from ahead → IsFirstByte (is_byte 10) hay None → NoLineFeed (take from ahead) → NoLineFeed ahead
feed_missing ahead hay from e found =
    let here = subst (λ h. IsFirstByte (is_byte 10) h None) e found in
    feed_none ahead from (λ k p q f. here k p q (is_ten (get_or (drop from ahead) k 0) f))

pub some_bytes : (xs : List ℕ) (r : Bool) → r ≡ (length xs == 0) → r ≡ false → 0 < length xs
some_bytes [] r e f = absurd (false≢true (sym f ∙ e))
some_bytes (x ∷ xs) r e f = omega arith

pub none_bytes : (xs : List ℕ) (r : Bool) → r ≡ (length xs == 0) → r ≡ true → length xs ≡ 0
none_bytes xs r e f = grind (arith, nat_tests)
