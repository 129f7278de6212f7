-- What a reader of lines knows of the text that it stands in.
use Rattle.std.proofs.Common.{◌≡◌, ℕ, zero, suc, ◌+◌, ◌<◌, ◌≤◌, List, [], ◌∷◌, ◌++◌, length, drop, take, slice_get, Option, None, Some, refl, sym, ap, ◌∙◌, subst, arith, add-one, append-nil, append_assoc, length-append, length-drop, drop-drop, take-append-drop, add_assoc, get_or, nat_lt, true, false, MatchBool, ltb-true, drop-cons, length-take-le, le_of_lt, subst₂, add-zero, ap₂, inl, inr}
use Rattle.std.proofs.lemmas.List.{take-append-le}
use Rattle.std.specs.Io.KnownBytes.{Keeps, IsAtEnd}
use Rattle.io_ends.specs.Ahead.{Ahead}
use Rattle.io_ends.specs.Fetching.{Fetches}
use Rattle.io_ends.specs.Filling.{HoldsIn, IsLong, Passes, after_line, Gives, GivesLast}
use Rattle.io_ends.specs.Lines.{NoLineFeed, lines_of, end_of}
use Rattle.io_ends.specs.Reading.{IsFeedAt, IsNearEnd, Reading, IsSplit, IsAt, StandsIn, Reaches, Tells, CameLast, EndsLast}
use Rattle.io_ends.specs.declared.next.Next.{Next}
use Rattle.io_ends.specs.declared.next.Next.TheVariants as next
use Rattle.io_ends.specs.declared.next.LimitKind.TheVariants as limit
use Rattle.io_ends.specs.declared.sizes.TheConstants.{LONGEST, PIECE}
use Rattle.io_ends.proofs.Seeking.{IsSought}
use Rattle.io_ends.proofs.FeedPlaces.{NoLineFeed-append, near_end-seen}
use Rattle.io_ends.proofs.LineLaws.{lines_of_first, lines_of_last, lines_of_none, end_of_first, end_of_last, end_of_past, end_of_zero, end_of_none, lines_of_some}

whole_take : (xs : List ℕ) → take (length xs) xs ≡ xs
whole_take [] = refl
whole_take (x ∷ xs) = ap (λ l. x ∷ l) (whole_take xs)

-- ---- the window

-- a read moves bytes from the source to what lies ahead
pub split_fetched : (bytes : List ℕ) (old new : Ahead) (before after : Option (List ℕ)) (n : ℕ) → Fetches old new before after n → HoldsIn bytes old before → HoldsIn bytes new after
split_fetched bytes old new None after n f h = absurd h
split_fetched bytes old new (Some left) None n f h = absurd f.taken
split_fetched bytes old new (Some left) (Some more) n f h = record {
  front = h.front;
  size = h.size ∙ sym f.passed;
  no_feed = h.no_feed;
  whole = h.whole ∙ ap (λ x. h.front ++ x) (ap (λ x. old.ahead ++ x) f.taken ∙ sym (append_assoc old.ahead f.bytes more) ∙ ap (λ x. x ++ more) (sym f.ahead));
}

pub split_kept : (bytes : List ℕ) (w : Ahead) (before after : Option (List ℕ)) → Keeps before after → HoldsIn bytes w before → HoldsIn bytes w after
split_kept bytes w None after k h = absurd h
split_kept bytes w (Some left) None k h = absurd k
split_kept bytes w (Some left) (Some more) k h = subst (λ x. IsSplit bytes w.passed w.ahead x) (sym k) h

-- what lies ahead has no line feed, and is passed over
pub split_passed : (bytes : List ℕ) (w : Ahead) (left : Option (List ℕ)) → NoLineFeed w.ahead → HoldsIn bytes w left → HoldsIn bytes (record { ahead = []; passed = w.passed + length w.ahead }) left
split_passed bytes w None clear h = absurd h
split_passed bytes w (Some left) clear h = record {
  front = h.front ++ w.ahead;
  size = length-append h.front w.ahead ∙ ap (λ x. x + length w.ahead) h.size;
  no_feed = NoLineFeed-append h.front w.ahead h.no_feed clear;
  whole = h.whole ∙ sym (append_assoc h.front w.ahead left);
}

-- what a search may rely on after it passed over a long front, or didn't
pub record IsPassed (old new : Ahead) (room seen : ℕ) : Type 0 where
  pub kept : (bytes : List ℕ) (left : Option (List ℕ)) → HoldsIn bytes old left → HoldsIn bytes new left
  pub all_seen : seen ≡ length new.ahead
  pub clear : NoLineFeed (take seen new.ahead)
  pub passed : new.passed ≤ room
  pub long : IsLong new

-- where all that lies ahead was seen, its last piece is where the first line feed stands, if there is one
pub near_passed : (size : ℕ) (old new : Ahead) (room seen : ℕ) → IsPassed old new room seen → IsNearEnd size new.ahead
near_passed size old new room seen p = near_end-seen size new.ahead seen p.clear (omega (arith, p.all_seen))

pass_over : (old new : Ahead) (room size seen : ℕ) → (new ≡ record { ahead = []; passed = old.passed + length old.ahead }) × (seen ≡ 0) → LONGEST < size → length old.ahead ≡ size
    → NoLineFeed old.ahead → old.passed + size ≤ room → IsPassed old new room seen
pass_over old new room size seen is more len clear fits = record {
  kept = λ bytes left h. subst (λ w. HoldsIn bytes w left) (sym is.0) (split_passed bytes old left clear h);
  all_seen = is.1 ∙ sym (ap (λ (w : Ahead). length w.ahead) is.0);
  clear = subst NoLineFeed (sym (ap (λ n. take n new.ahead) is.1)) tt;
  passed = omega (arith, ap (λ (w : Ahead). w.passed) is.0, len);
  long = λ _. omega (arith, ap (λ (w : Ahead). w.passed) is.0, len, more);
}

pass_none : (old new : Ahead) (room size seen : ℕ) → (new ≡ old) × (seen ≡ size) → length old.ahead ≡ size
    → NoLineFeed old.ahead → old.passed + size ≤ room → IsLong old → IsPassed old new room seen
pass_none old new room size seen is len clear fits long =
    let same : seen ≡ length old.ahead = is.1 ∙ sym len in
    subst (λ w. IsPassed old w room seen) (sym is.0) (record {
      kept = λ bytes left h. h;
      all_seen = same;
      clear = subst NoLineFeed (sym (ap (λ n. take n old.ahead) same ∙ whole_take old.ahead)) clear;
      passed = omega arith;
      long = long;
    })

pub passes : (old new : Ahead) (room size seen : ℕ) → Passes old new size seen → length old.ahead ≡ size → NoLineFeed old.ahead → old.passed + size ≤ room → IsLong old → IsPassed old new room seen
passes old new room size seen h len clear fits long =
    elim (nat_lt LONGEST size) as (λ t. nat_lt LONGEST size ≡ t → MatchBool t ((new ≡ record { ahead = []; passed = old.passed + length old.ahead }) × (seen ≡ 0)) ((new ≡ old) × (seen ≡ size)) → IsPassed old new room seen) [
      | true ↦ λ e is. pass_over old new room size seen is (ltb-true LONGEST size e) len clear fits
      | false ↦ λ e is. pass_none old new room size seen is len clear fits long
    ] refl h

-- one more turn of the search
pub sought_next : (first : Ahead) (told : Option (List ℕ)) (w mid new : Ahead) (left after : Option (List ℕ)) (room seen next n gave gives given : ℕ) → IsSought first told w left room seen gave gives
    → IsPassed w mid room next → Fetches mid new left after n → given ≡ n → IsSought first told new after room next gave given
sought_next first told w mid new left after room seen next n gave gives given s p f came =
    let grown : length new.ahead ≡ next + n = omega (arith, p.all_seen, ap length f.ahead, length-append mid.ahead f.bytes, f.size) in
    let clear = subst NoLineFeed (sym (ap (take next) f.ahead ∙ take-append-le next mid.ahead f.bytes (omega (arith, p.all_seen)))) p.clear in
    record {
      seen_lies_ahead = omega (arith, p.all_seen, ap length f.ahead, length-append mid.ahead f.bytes);
      clear = clear;
      kept = λ bytes h. split_fetched bytes mid new left after n f (p.kept bytes left (s.kept bytes h));
      passed = omega (arith, f.passed, p.passed);
      long = subst (λ x. 0 < x → LONGEST < x) (sym f.passed) p.long;
      near = near_end-seen PIECE new.ahead next clear (omega (arith, grown, f.few));
      last = λ _. near_end-seen given new.ahead next clear (omega (arith, grown, came));
    }

-- ---- the line at the front of what is to come

-- the first line of `bytes` and what comes after the bytes that it takes
pub record Begins (bytes line rest : List ℕ) (taken : ℕ) : Type 0 where
  pub lines : lines_of bytes ≡ line ∷ lines_of rest
  pub ends : (k : ℕ) → end_of (suc k) bytes ≡ taken + end_of k rest
  pub dropped : drop taken bytes ≡ rest

drop_front : (front rest : List ℕ) → drop (length front) (front ++ rest) ≡ rest
drop_front [] rest = refl
drop_front (b ∷ front) rest = drop_front front rest

pub begins_by_feed : (line rest : List ℕ) → NoLineFeed line → Begins (line ++ 10 ∷ rest) line rest (suc (length line))
begins_by_feed line rest clear = record {
  lines = lines_of_first line rest clear;
  ends = λ k. end_of_first k line rest clear;
  dropped = ap (λ n. drop n (line ++ 10 ∷ rest)) (sym (add-one (length line))) ∙ sym (drop-drop 1 (length line) (line ++ 10 ∷ rest)) ∙ ap (drop 1) (drop_front line (10 ∷ rest));
}

pub begins_by_end : (line : List ℕ) → NoLineFeed line → 0 < length line → Begins line line [] (length line)
begins_by_end line clear some = record {
  lines = lines_of_last line clear some ∙ ap (λ x. line ∷ x) (sym lines_of_none);
  ends = λ k. end_of_last k line clear ∙ omega (arith, end_of_none k);
  dropped = ap (drop (length line)) (sym (append-nil line)) ∙ drop_front line [];
}

slice_get-drop : {X : Type 0} (xs : List X) (n : ℕ) (x : X) (rest : List X) → drop n xs ≡ x ∷ rest → slice_get xs n ≡ Some x
slice_get-drop [] zero x rest e = absurd (no_head x rest e)
  where
    no_head : {X : Type 0} (x : X) (rest : List X) → ◌≡◌ {A = List X} [] (x ∷ rest) → ⊥
    no_head x rest e = cc
slice_get-drop [] (suc n) x rest e = absurd (no_head x rest e)
  where
    no_head : {X : Type 0} (x : X) (rest : List X) → ◌≡◌ {A = List X} [] (x ∷ rest) → ⊥
    no_head x rest e = cc
slice_get-drop (y ∷ xs) zero x rest e = cc
slice_get-drop (y ∷ xs) (suc n) x rest e = slice_get-drop xs n x rest e

-- the reader's next line is that of the text
pub line_here : (text : List ℕ) (r : Reading) (left : List ℕ) (at : IsAt text r left) (line rest : List ℕ) (taken : ℕ) → Begins at.rest line rest taken → slice_get (lines_of text) r.lines ≡ Some line
line_here text r left at line rest taken b = slice_get-drop (lines_of text) r.lines line (lines_of rest) (at.lines ∙ b.lines)

-- how far the next line goes
pub end_here : (text : List ℕ) (r : Reading) (left : List ℕ) (at : IsAt text r left) (line rest : List ℕ) (taken : ℕ) → Begins at.rest line rest taken → end_of (r.lines + 1) text ≡ r.given + taken
end_here text r left at line rest taken b = at.ends 1 ∙ omega (arith, b.ends 0, end_of_zero rest)

-- where an element is left, there are more than were dropped
pub further : {X : Type 0} (xs : List X) (n : ℕ) (x : X) (rest : List X) → drop n xs ≡ x ∷ rest → n + 1 ≤ length xs
further xs n x rest e = omega (arith, length-drop n xs, ap length e)

-- after the line that takes `size` bytes of what lies ahead
pub given_line : (text : List ℕ) (r : Reading) (left : List ℕ) (at : IsAt text r left) (line rest : List ℕ) (size : ℕ) → Begins at.rest line rest (r.passed + size)
    → rest ≡ drop size r.ahead ++ left → IsAt text (after_line r size) left
given_line text r left at line rest size b e = record {
  rest = rest;
  after = ap (λ n. drop n text) (add_assoc r.given r.passed size) ∙ sym (drop-drop (r.passed + size) r.given text) ∙ ap (drop (r.passed + size)) at.after ∙ b.dropped;
  split = record { front = []; size = refl; no_feed = tt; whole = e };
  few = further (lines_of text) r.lines line (lines_of rest) (at.lines ∙ b.lines);
  lines = sym (drop-drop 1 r.lines (lines_of text)) ∙ ap (drop 1) (at.lines ∙ b.lines);
  given = add_assoc r.given r.passed size ∙ sym (end_here text r left at line rest (r.passed + size) b);
  ends = λ k. ap (λ n. end_of n text) (counted r.lines k) ∙ at.ends (suc k) ∙ omega (arith, b.ends k);
}
  where
    counted : (n k : ℕ) → n + 1 + k ≡ n + suc k
    counted n k = omega arith

-- ---- the answers

-- the reader with another window
abbrev pub with_window : Reading → Ahead → Reading
with_window r w = record { ahead = w.ahead; passed = w.passed; lines = r.lines; given = r.given; max_lines = r.max_lines; max_bytes = r.max_bytes }

abbrev pub window_of : Reading → Ahead
window_of r = record { ahead = r.ahead; passed = r.passed }

pub stands_kept : (text : List ℕ) (r : Reading) (w : Ahead) (before after : Option (List ℕ)) → ((bytes : List ℕ) → HoldsIn bytes (window_of r) before → HoldsIn bytes w after) → StandsIn text r before → StandsIn text (with_window r w) after
stands_kept text r w None after kept s = absurd s
stands_kept text r w (Some left) None kept s = absurd (kept s.rest s.split)
stands_kept text r w (Some left) (Some more) kept s = record { rest = s.rest; after = s.after; split = kept s.rest s.split; few = s.few; lines = s.lines; given = s.given; ends = s.ends }

no_front : (front : List ℕ) → length front ≡ 0 → front ≡ []
no_front [] e = refl
no_front (b ∷ front) e = absurd (omega arith)

take_drop_at : (xs : List ℕ) (i : ℕ) → i < length xs → xs ≡ take i xs ++ get_or xs i 0 ∷ drop (i + 1) xs
take_drop_at xs i h = sym (take-append-drop i xs) ∙ ap (λ x. take i xs ++ x) (drop-cons xs i 0 h ∙ ap (λ n. get_or xs i 0 ∷ drop n xs) (sym (add-one i)))

-- the bytes to come, where a line feed lies ahead
pub begins_feed : (bytes : List ℕ) (w : Ahead) (left : List ℕ) (i : ℕ) (s : IsSplit bytes w.passed w.ahead left) → IsFeedAt w.ahead i
    → Begins bytes (s.front ++ take i w.ahead) (drop (i + 1) w.ahead ++ left) (w.passed + (i + 1))
begins_feed bytes w left i s feed =
    let line = s.front ++ take i w.ahead in
    let rest = drop (i + 1) w.ahead ++ left in
    let ahead : w.ahead ≡ take i w.ahead ++ 10 ∷ drop (i + 1) w.ahead = take_drop_at w.ahead i feed.within ∙ ap (λ b. take i w.ahead ++ b ∷ drop (i + 1) w.ahead) feed.here in
    let whole : bytes ≡ line ++ 10 ∷ rest =
    s.whole ∙ ap (λ x. s.front ++ (x ++ left)) ahead ∙ ap (λ x. s.front ++ x) (append_assoc (take i w.ahead) (10 ∷ drop (i + 1) w.ahead) left)
    ∙ sym (append_assoc s.front (take i w.ahead) (10 ∷ rest)) in
    let size : suc (length line) ≡ w.passed + (i + 1) = omega (arith, length-append s.front (take i w.ahead), length-take-le i w.ahead (le_of_lt feed.within), s.size) in
    subst₂ (λ x n. Begins x line rest n) (sym whole) size (begins_by_feed line rest (NoLineFeed-append s.front (take i w.ahead) s.no_feed feed.before))

-- the same where the input ends without one
pub begins_input : (bytes : List ℕ) (w : Ahead) (s : IsSplit bytes w.passed w.ahead []) → NoLineFeed w.ahead → 0 < w.passed + length w.ahead
    → Begins bytes (s.front ++ w.ahead) [] (w.passed + (length w.ahead + 0))
begins_input bytes w s clear some =
    let line = s.front ++ w.ahead in
    let whole : bytes ≡ line = s.whole ∙ ap (λ x. s.front ++ x) (append-nil w.ahead) in
    let size : length line ≡ w.passed + (length w.ahead + 0) = omega (arith, length-append s.front w.ahead, s.size) in
    subst₂ (λ x n. Begins x line [] n) (sym whole) size (begins_by_end line (NoLineFeed-append s.front w.ahead s.no_feed clear) (omega (arith, size)))

-- what `give` answers of the line that begins here
pub gives_told : (text : List ℕ) (r : Reading) (w : Ahead) (left : List ℕ) (at : IsAt text (with_window r w) left) (rest : List ℕ) (size feed : ℕ)
    → Begins at.rest (at.split.front ++ take size w.ahead) rest (w.passed + (size + feed)) → size ≤ length w.ahead → r.lines < r.max_lines
    → (result : Next) (new : Reading) (line : List ℕ) → Gives (with_window r w) new size feed result line → Tells text r result line
gives_told text r w left at rest size feed b room few (next.Line number) new line g =
    let bare : at.split.front ++ take size w.ahead ≡ line = ap (λ x. x ++ take size w.ahead) (no_front at.split.front (at.split.size ∙ g.whole)) ∙ sym g.bytes in (
      line_here text (with_window r w) left at _ rest (w.passed + (size + feed)) b ∙ ap Some bare,
      (
        omega (arith, ap length g.bytes, length-take-le size w.ahead room, g.short),
        record { lines = few; bytes = omega (arith, end_here text (with_window r w) left at _ rest (w.passed + (size + feed)) b, g.within) },
      ),
    )
gives_told text r w left at rest size feed b room few (next.TooLong number) new line g = (
  (
    at.split.front ++ take size w.ahead,
    (
      line_here text (with_window r w) left at _ rest (w.passed + (size + feed)) b,
      omega (arith, length-append at.split.front (take size w.ahead), at.split.size, length-take-le size w.ahead room, g.long),
    ),
  ),
  record { lines = few; bytes = omega (arith, end_here text (with_window r w) left at _ rest (w.passed + (size + feed)) b, g.within) },
)
gives_told text r w left at rest size feed b room few next.End new line g = absurd g
gives_told text r w left at rest size feed b room few (next.Limit limit.Lines) new line g = absurd g
gives_told text r w left at rest size feed b room few (next.Limit limit.States) new line g = absurd g
gives_told text r w left at rest size feed b room few (next.Limit limit.Maintains) new line g = absurd g
gives_told text r w left at rest size feed b room few (next.Limit limit.Bytes) new line g = (
  omega (arith, further (lines_of text) r.lines _ _ (at.lines ∙ b.lines)),
  (few, omega (arith, end_here text (with_window r w) left at _ rest (w.passed + (size + feed)) b, g.1)),
)
gives_told text r w left at rest size feed b room few next.ReadFault new line g = absurd g
gives_told text r w left at rest size feed b room few next.NoMemory new line g = tt

-- where the reader stands after that
pub gives_stands : (text : List ℕ) (r : Reading) (w : Ahead) (left : List ℕ) (at : IsAt text (with_window r w) left) (rest : List ℕ) (size feed : ℕ)
    → Begins at.rest (at.split.front ++ take size w.ahead) rest (w.passed + (size + feed)) → rest ≡ drop (size + feed) w.ahead ++ left
    → (result : Next) (new : Reading) (line : List ℕ) → Gives (with_window r w) new size feed result line → IsAt text new left
gives_stands text r w left at rest size feed b e (next.Line number) new line g =
    subst (λ x. IsAt text x left) (sym g.after) (given_line text (with_window r w) left at _ rest (size + feed) b e)
gives_stands text r w left at rest size feed b e (next.TooLong number) new line g =
    subst (λ x. IsAt text x left) (sym g.after) (given_line text (with_window r w) left at _ rest (size + feed) b e)
gives_stands text r w left at rest size feed b e next.End new line g = absurd g
gives_stands text r w left at rest size feed b e (next.Limit limit.Lines) new line g = absurd g
gives_stands text r w left at rest size feed b e (next.Limit limit.States) new line g = absurd g
gives_stands text r w left at rest size feed b e (next.Limit limit.Maintains) new line g = absurd g
gives_stands text r w left at rest size feed b e (next.Limit limit.Bytes) new line g = subst (λ x. IsAt text x left) (sym g.0) at
gives_stands text r w left at rest size feed b e next.ReadFault new line g = absurd g
gives_stands text r w left at rest size feed b e next.NoMemory new line g = subst (λ x. IsAt text x left) (sym g) at

-- ---- the four ends of a search

pub feed_told : (text : List ℕ) (r : Reading) (w : Ahead) (told : Option (List ℕ)) (i : ℕ) → StandsIn text (with_window r w) told → IsFeedAt w.ahead i → r.lines < r.max_lines
    → (result : Next) (new : Reading) (line : List ℕ) → Gives (with_window r w) new i 1 result line → Tells text r result line
feed_told text r w None i s feed few result new line g = absurd s
feed_told text r w (Some left) i s feed few result new line g =
    gives_told text r w left s (drop (i + 1) w.ahead ++ left) i 1 (begins_feed s.rest w left i s.split feed) (le_of_lt feed.within) few result new line g

pub feed_stands : (text : List ℕ) (r : Reading) (w : Ahead) (told : Option (List ℕ)) (i : ℕ) → StandsIn text (with_window r w) told → IsFeedAt w.ahead i
    → (result : Next) (new : Reading) (line : List ℕ) → Gives (with_window r w) new i 1 result line → StandsIn text new told
feed_stands text r w None i s feed result new line g = absurd s
feed_stands text r w (Some left) i s feed result new line g =
    gives_stands text r w left s (drop (i + 1) w.ahead ++ left) i 1 (begins_feed s.rest w left i s.split feed) refl result new line g

no_more : (text : List ℕ) (r : Reading) (left : List ℕ) (at : IsAt text r left) → at.rest ≡ [] → length (lines_of text) ≡ r.lines
no_more text r left at e = omega (arith, at.few, length-drop r.lines (lines_of text), ap length (at.lines ∙ ap lines_of e ∙ lines_of_none))

-- bytes to come are of a line to come
one_more : (text : List ℕ) (r : Reading) (left : List ℕ) (at : IsAt text r left) → 0 < length at.rest → r.lines < length (lines_of text)
one_more text r left at some = omega (arith, lines_of_some at.rest some, ap length at.lines, length-drop r.lines (lines_of text))

split_size : (bytes : List ℕ) (passed : ℕ) (ahead left : List ℕ) (s : IsSplit bytes passed ahead left) → length bytes ≡ passed + (length ahead + length left)
split_size bytes passed ahead left s = ap length s.whole ∙ length-append s.front (ahead ++ left) ∙ omega (arith, length-append ahead left, s.size)

empty_split : (bytes : List ℕ) (passed : ℕ) (ahead left : List ℕ) → IsSplit bytes passed ahead left → passed ≡ 0 → ahead ≡ [] → left ≡ [] → bytes ≡ []
empty_split bytes passed ahead left s none clear done = no_front bytes (omega (arith, split_size bytes passed ahead left s, ap length clear, ap length done))

whole_drop : (xs : List ℕ) → drop (length xs + 0) xs ≡ []
whole_drop xs = ap (λ n. drop n xs) (add-zero (length xs)) ∙ (ap (drop (length xs)) (sym (append-nil xs)) ∙ drop_front xs [])

last_begins : (text : List ℕ) (r : Reading) (w : Ahead) (s : IsAt text (with_window r w) []) → NoLineFeed w.ahead → 0 < w.passed + length w.ahead
    → Begins s.rest (s.split.front ++ take (length w.ahead) w.ahead) [] (w.passed + (length w.ahead + 0))
last_begins text r w s clear some =
    subst (λ x. Begins s.rest (s.split.front ++ x) [] (w.passed + (length w.ahead + 0))) (sym (whole_take w.ahead)) (begins_input s.rest w s.split clear some)

last_rest : (w : Ahead) → ◌≡◌ {A = List ℕ} [] (drop (length w.ahead + 0) w.ahead ++ [])
last_rest w = ap (λ x. x ++ []) (sym (whole_drop w.ahead))

pub input_told : (text : List ℕ) (r : Reading) (w : Ahead) (told : Option (List ℕ)) → StandsIn text (with_window r w) told → NoLineFeed w.ahead → IsAtEnd told → r.lines < r.max_lines
    → (result : Next) (new : Reading) (line : List ℕ) → GivesLast (with_window r w) new result line → Tells text r result line
input_told text r w None s clear done few result new line g = absurd s
input_told text r w (Some left) s clear done few (next.Line number) new line g =
    let at = subst (λ x. IsAt text (with_window r w) x) done s in
    gives_told text r w [] at [] (length w.ahead) 0 (last_begins text r w at clear (omega (arith, g.1))) (omega arith) few (next.Line number) new line g.0
input_told text r w (Some left) s clear done few (next.TooLong number) new line g =
    let at = subst (λ x. IsAt text (with_window r w) x) done s in
    gives_told text r w [] at [] (length w.ahead) 0 (last_begins text r w at clear (omega (arith, g.long))) (omega arith) few (next.TooLong number) new line g
input_told text r w (Some left) s clear done few next.End new line g = no_more text (with_window r w) left s (empty_split s.rest w.passed w.ahead left s.split g.1.0 g.1.1 done)
input_told text r w (Some left) s clear done few (next.Limit which) new line g =
    let at = subst (λ x. IsAt text (with_window r w) x) done s in
    gives_told text r w [] at [] (length w.ahead) 0 (last_begins text r w at clear (omega (arith, g.1))) (omega arith) few (next.Limit which) new line g.0
input_told text r w (Some left) s clear done few next.ReadFault new line g = absurd g
input_told text r w (Some left) s clear done few next.NoMemory new line g = tt

pub input_stands : (text : List ℕ) (r : Reading) (w : Ahead) (told : Option (List ℕ)) → StandsIn text (with_window r w) told → NoLineFeed w.ahead → IsAtEnd told
    → (result : Next) (new : Reading) (line : List ℕ) → GivesLast (with_window r w) new result line → StandsIn text new told
input_stands text r w None s clear done result new line g = absurd s
input_stands text r w (Some left) s clear done (next.Line number) new line g =
    let at = subst (λ x. IsAt text (with_window r w) x) done s in
    subst (λ x. IsAt text new x) (sym done) (gives_stands text r w [] at [] (length w.ahead) 0 (last_begins text r w at clear (omega (arith, g.1))) (last_rest w) (next.Line number) new line g.0)
input_stands text r w (Some left) s clear done (next.TooLong number) new line g =
    let at = subst (λ x. IsAt text (with_window r w) x) done s in
    subst (λ x. IsAt text new x) (sym done) (gives_stands text r w [] at [] (length w.ahead) 0 (last_begins text r w at clear (omega (arith, g.long))) (last_rest w) (next.TooLong number) new line g)
input_stands text r w (Some left) s clear done next.End new line g = subst (λ x. IsAt text x left) (sym g.0) s
input_stands text r w (Some left) s clear done (next.Limit which) new line g =
    let at = subst (λ x. IsAt text (with_window r w) x) done s in
    subst (λ x. IsAt text new x) (sym done) (gives_stands text r w [] at [] (length w.ahead) 0 (last_begins text r w at clear (omega (arith, g.1))) (last_rest w) (next.Limit which) new line g.0)
input_stands text r w (Some left) s clear done next.ReadFault new line g = absurd g
input_stands text r w (Some left) s clear done next.NoMemory new line g = subst (λ x. IsAt text x left) (sym g) s

-- ---- what came with the source's last call

-- so many bytes are all that lies ahead, or more
pub near_all : (size : ℕ) (ahead : List ℕ) → length ahead ≤ size → IsNearEnd size ahead
near_all size ahead few at feed = omega arith

gives_last : (text : List ℕ) (r : Reading) (w : Ahead) (size feed gave : ℕ) → CameLast gave text r.given (0 + length (drop (size + feed) w.ahead))
    → (result : Next) (new : Reading) (line : List ℕ) → Gives (with_window r w) new size feed result line → EndsLast gave text r new result
gives_last text r w size feed gave came (next.Line number) new line g = subst (λ (x : Reading). CameLast gave text r.given (x.passed + length x.ahead)) (sym g.after) came
gives_last text r w size feed gave came (next.TooLong number) new line g = subst (λ (x : Reading). CameLast gave text r.given (x.passed + length x.ahead)) (sym g.after) came
gives_last text r w size feed gave came next.End new line g = tt
gives_last text r w size feed gave came (next.Limit which) new line g = tt
gives_last text r w size feed gave came next.ReadFault new line g = tt
gives_last text r w size feed gave came next.NoMemory new line g = tt

gives_near : (r : Reading) (w : Ahead) (size feed gave : ℕ) → IsNearEnd gave w.ahead → IsNearEnd gave (drop (size + feed) w.ahead)
    → (result : Next) (new : Reading) (line : List ℕ) → Gives (with_window r w) new size feed result line → IsNearEnd gave new.ahead
gives_near r w size feed gave was now (next.Line number) new line g = subst (λ (x : Reading). IsNearEnd gave x.ahead) (sym g.after) now
gives_near r w size feed gave was now (next.TooLong number) new line g = subst (λ (x : Reading). IsNearEnd gave x.ahead) (sym g.after) now
gives_near r w size feed gave was now next.End new line g = absurd g
gives_near r w size feed gave was now (next.Limit limit.Lines) new line g = absurd g
gives_near r w size feed gave was now (next.Limit limit.Bytes) new line g = subst (λ (x : Reading). IsNearEnd gave x.ahead) (sym g.0) was
gives_near r w size feed gave was now (next.Limit limit.States) new line g = absurd g
gives_near r w size feed gave was now (next.Limit limit.Maintains) new line g = absurd g
gives_near r w size feed gave was now next.ReadFault new line g = absurd g
gives_near r w size feed gave was now next.NoMemory new line g = subst (λ (x : Reading). IsNearEnd gave x.ahead) (sym g) was

-- what is left of what came with the last call
behind_feed : (w : Ahead) (i gave : ℕ) → IsFeedAt w.ahead i → IsNearEnd gave w.ahead → length (drop (i + 1) w.ahead) < gave
behind_feed w i gave feed near = omega (arith, near i feed, feed.within, length-drop (i + 1) w.ahead)

pub feed_ends : (text : List ℕ) (r : Reading) (w : Ahead) (i gave : ℕ) → IsFeedAt w.ahead i → IsNearEnd gave w.ahead
    → (result : Next) (new : Reading) (line : List ℕ) → Gives (with_window r w) new i 1 result line → EndsLast gave text r new result
feed_ends text r w i gave feed near result new line g = gives_last text r w i 1 gave (inl (let less = behind_feed w i gave feed near in omega arith)) result new line g

pub feed_near : (r : Reading) (w : Ahead) (i gave : ℕ) → IsFeedAt w.ahead i → IsNearEnd gave w.ahead
    → (result : Next) (new : Reading) (line : List ℕ) → Gives (with_window r w) new i 1 result line → IsNearEnd gave new.ahead
feed_near r w i gave feed near result new line g =
    gives_near r w i 1 gave near (near_all gave (drop (i + 1) w.ahead) (le_of_lt (behind_feed w i gave feed near))) result new line g

-- the bytes to come have no line feed
none_left : (text : List ℕ) (r : Reading) (w : Ahead) (told : Option (List ℕ)) → StandsIn text (with_window r w) told → NoLineFeed w.ahead → IsAtEnd told → NoLineFeed (drop r.given text)
none_left text r w None s clear done = absurd s
none_left text r w (Some left) s clear done =
    subst NoLineFeed (sym (s.after ∙ s.split.whole ∙ ap (λ x. s.split.front ++ (w.ahead ++ x)) done ∙ ap (λ x. s.split.front ++ x) (append-nil w.ahead)))
    (NoLineFeed-append s.split.front w.ahead s.split.no_feed clear)

pub input_ends : (text : List ℕ) (r : Reading) (w : Ahead) (told : Option (List ℕ)) (gave : ℕ) → StandsIn text (with_window r w) told → NoLineFeed w.ahead → IsAtEnd told
    → (result : Next) (new : Reading) (line : List ℕ) → GivesLast (with_window r w) new result line → EndsLast gave text r new result
input_ends text r w told gave s clear done (next.Line number) new line g = gives_last text r w (length w.ahead) 0 gave (inr (none_left text r w told s clear done)) (next.Line number) new line g.0
input_ends text r w told gave s clear done (next.TooLong number) new line g = gives_last text r w (length w.ahead) 0 gave (inr (none_left text r w told s clear done)) (next.TooLong number) new line g
input_ends text r w told gave s clear done next.End new line g = tt
input_ends text r w told gave s clear done (next.Limit which) new line g = tt
input_ends text r w told gave s clear done next.ReadFault new line g = tt
input_ends text r w told gave s clear done next.NoMemory new line g = tt

pub input_near : (r : Reading) (w : Ahead) (gave : ℕ) → IsNearEnd gave w.ahead
    → (result : Next) (new : Reading) (line : List ℕ) → GivesLast (with_window r w) new result line → IsNearEnd gave new.ahead
input_near r w gave near result new line g = by_case result g
  where
    now : IsNearEnd gave (drop (length w.ahead + 0) w.ahead)
    now = near_all gave (drop (length w.ahead + 0) w.ahead) (omega (arith, ap length (whole_drop w.ahead)))

    by_case : (result : Next) → GivesLast (with_window r w) new result line → IsNearEnd gave new.ahead
    by_case (next.Line number) g = gives_near r w (length w.ahead) 0 gave near now (next.Line number) new line g.0
    by_case (next.TooLong number) g = gives_near r w (length w.ahead) 0 gave near now (next.TooLong number) new line g
    by_case next.End g = subst (λ (x : Reading). IsNearEnd gave x.ahead) (sym g.0) near
    by_case (next.Limit which) g = gives_near r w (length w.ahead) 0 gave near now (next.Limit which) new line g.0
    by_case next.ReadFault g = absurd g
    by_case next.NoMemory g = subst (λ (x : Reading). IsNearEnd gave x.ahead) (sym g) near

-- a line that has no end among more bytes than it may have
pub past_told : (text : List ℕ) (r : Reading) (w : Ahead) (told : Option (List ℕ)) (room : ℕ) → StandsIn text (with_window r w) told → NoLineFeed w.ahead → room < w.passed + length w.ahead
    → r.max_bytes ≤ r.given + room → r.lines < r.max_lines → Reaches text r limit.Bytes
past_told text r w None room s clear more fits few = absurd s
past_told text r w (Some left) room s clear more fits few =
    let front = s.split.front ++ w.ahead in
    let whole : s.rest ≡ front ++ left = s.split.whole ∙ sym (append_assoc s.split.front w.ahead left) in
    let size : length front ≡ w.passed + length w.ahead = length-append s.split.front w.ahead ∙ omega (arith, s.split.size) in
    let past : length front ≤ end_of 1 s.rest = subst (λ x. length front ≤ end_of 1 x) (sym whole) (end_of_past front left (NoLineFeed-append s.split.front w.ahead s.split.no_feed clear)) in
    (one_more text (with_window r w) left s (omega (arith, split_size s.rest w.passed w.ahead left s.split)), (few, omega (arith, s.ends 1)))

-- ---- past the last line

pub more_lines : (text : List ℕ) (r : Reading) (told : Option (List ℕ)) → StandsIn text r told → 0 < r.passed + length r.ahead → r.lines < length (lines_of text)
more_lines text r None s some = absurd s
more_lines text r (Some left) s some = one_more text r left s (omega (arith, split_size s.rest r.passed r.ahead left s.split))

pub fetched_lines : (text : List ℕ) (r : Reading) (new : Ahead) (before after : Option (List ℕ)) (n : ℕ) → StandsIn text r before → Fetches (window_of r) new before after n → 0 < n → r.lines < length (lines_of text)
fetched_lines text r new None after n s f some = absurd s
fetched_lines text r new (Some left) None n s f some = absurd f.taken
fetched_lines text r new (Some left) (Some more) n s f some =
    one_more text r left s (omega (arith, split_size s.rest r.passed r.ahead left s.split, ap length f.taken, length-append f.bytes more, f.size))

pub no_lines : (text : List ℕ) (r : Reading) (new : Ahead) (before after : Option (List ℕ)) → StandsIn text r before → Fetches (window_of r) new before after 0 → r.passed ≡ 0 → length r.ahead ≡ 0 → length (lines_of text) ≡ r.lines
no_lines text r new None after s f none clear = absurd s
no_lines text r new (Some left) None s f none clear = absurd f.taken
no_lines text r new (Some left) (Some more) s f none clear =
    no_more text r left s (empty_split s.rest r.passed r.ahead left s.split none (no_front r.ahead clear)
    (f.taken ∙ ap₂ (λ x y. x ++ y) (no_front f.bytes f.size) (f.ends refl)))

pub stands_fetched : (text : List ℕ) (r : Reading) (new : Ahead) (before after : Option (List ℕ)) (n : ℕ) → Fetches (window_of r) new before after n → StandsIn text r before → StandsIn text (with_window r new) after
stands_fetched text r new before after n f s = stands_kept text r new before after (λ bytes h. split_fetched bytes (window_of r) new before after n f h) s
