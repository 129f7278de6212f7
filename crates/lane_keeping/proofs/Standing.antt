-- A piece that was named with a serial is there just where nothing was accepted there since.
use Rattle.std.proofs.Common.{◌≡◌, ◌==◌, ◌&&◌, ◌||◌, not, ℕ, ◌+◌, ◌^◌, ◌<◌, ◌≤◌, Bool, true, false, cond, List, [], ◌∷◌, None, Some, refl, sym, ap, ap₂, ◌∙◌, subst, arith, eqb, eqb-true, eq-eqb}
use Rattle.std.proofs.Math.Nat.{mod-eq_of_lt}
use Rattle.std.proofs.Math.Pow.{pow_mono}
use mathlib.Core.Bool.{true≢false}
use Rattle.std.specs.List.{list_any}
use Rattle.global_ids.specs.Keys.{key_of}
use Rattle.bucket_ids.specs.Buckets as ids
use Rattle.bucket_ids.specs.Buckets.{Low, IsBucket, has_key}
use Rattle.bucket_ids.specs.Paths.{last_path}
use Rattle.pieces.specs.declared.piece.Piece.{Piece}
use Rattle.pieces.specs.Pieces as laid
use Rattle.pieces.specs.Pieces.{is_piece, is_exactly, is_over, is_inside, has_key_of, does_meet, holds, without}
use Rattle.pieces.specs.Holdings.{AreUpTo}
use Rattle.pieces.specs.Lives.{stale, stale_at}
use Rattle.pieces.specs.Runs.{IsLaid, AreRuns}
use Rattle.pieces.specs.Told.{Accepted, NoBucket, Differs, where_some, unless_met}
use Rattle.proof_basics.proofs.Tests.{or_false, both}
use Rattle.pieces.proofs.PieceLaws.{bucket-same}
use Rattle.pieces.proofs.FreshLaws.{fresh-store, fresh-apply, fresh-split, fresh-join, fresh-ready, fresh-renewed}
use Rattle.pieces.proofs.KeptLaws.{kept-renewed, kept-apply, kept-split, kept-join, kept-made_ready, kept-activate, kept-delete}
use Rattle.pieces.proofs.KeyLaws.{holds-delete}
use Rattle.messages.specs.declared.body.Body.{Body}
use Rattle.messages.specs.declared.body.Body.TheVariants as body
use Rattle.node_model.specs.Takes.{told}
use Rattle.lane_journals.specs.Buckets as words
use Rattle.lane_journals.specs.Buckets.{Bucket}
use Rattle.lane_journals.specs.Events as plain
use Rattle.lane_journals.specs.Readers.{still, untouched, is_read}
use Rattle.lane_keeping.specs.NodeKeeping.{read_by}
use Rattle.lane_keeping.specs.Flights.{meant, NamesBucket}
use Rattle.lane_keeping.proofs.Words.{or-last, contains-is, key-is, meets-is, meets-turned}
use Rattle.lane_keeping.proofs.Lists.{any-filtered}
use Rattle.lane_keeping.proofs.Bodies.{pieces_by}

-- ---- which buckets a body touches

abbrev pub touches : plain.Body → Bucket → Bool
touches (plain.Store i t) b = words.contains b (words.key_of i)
touches (plain.Apply c u) b = words.meets c b
touches (plain.Delete c t) b = words.meets c b
touches (plain.Split c) b = words.meets c b
touches (plain.Join c) b = words.meets c b
touches (plain.Ready c) b = words.meets c b
touches (plain.Activate c) b = words.meets c b
touches _ b = false

pub still-is : (x : plain.Body) (names : Bucket → ℕ → Bool) (b : Bucket) (s : ℕ) (old : Bool) → still x names b s old ≡ cond (is_read x && names b s) true (cond (touches x b) false old)
still-is (plain.Read c) names b s old = refl
still-is (plain.Store i t) names b s old = refl
still-is (plain.Apply c u) names b s old = refl
still-is (plain.Delete c t) names b s old = refl
still-is (plain.Split c) names b s old = refl
still-is (plain.Join c) names b s old = refl
still-is (plain.Ready c) names b s old = refl
still-is (plain.Activate c) names b s old = refl
still-is plain.Ask names b s old = refl
still-is (plain.ReadDoc i) names b s old = refl

pub untouched-is : (x : plain.Body) (names : Bucket → ℕ → Bool) (b : Bucket) (s : ℕ) (old : Bool) → untouched x names b s old ≡ cond (names b s) true (cond (touches x b) false old)
untouched-is x names b s old = ap (λ t. cond (names b s) true t) (still-is x names b s old) ∙ by_tests (names b s) (is_read x)
  where
    by_tests : (n r : Bool) → cond n true (cond (r && n) true (cond (touches x b) false old)) ≡ cond n true (cond (touches x b) false old)
    by_tests true r = refl
    by_tests false true = refl
    by_tests false false = refl

pub read_by-is : (x : plain.Body) (names : Bucket → ℕ → Bool) (b : Bucket) (s : ℕ) (old : Bool) → read_by x names b s old ≡ cond (is_read x && names b s) true old
read_by-is x names b s old = by_test (is_read x)
  where
    by_test : (r : Bool) → cond r (cond (names b s) true old) old ≡ cond (r && names b s) true old
    by_test true = refl
    by_test false = refl

-- ---- a piece with an old serial

none-by : (p : Piece → Bool) (t s : ℕ) (b : Bucket) → s < t → ((q : Piece) → is_piece b s q ≡ true → p q ≡ true) → (qs : List Piece) → list_any (λ q. p q && not (q.serial == t)) qs ≡ false → list_any (is_piece b s) qs ≡ false
none-by p t s b lt passes [] h = refl
none-by p t s b lt passes (q ∷ qs) h =
    let apart = or_false (p q && not (q.serial == t)) _ h in
    ap₂ (λ x y. x || y) (by_piece (is_piece b s q) refl apart.0) (none-by p t s b lt passes qs apart.1)
  where
    differs : q.serial ≡ s → (q.serial == t) ≡ false
    differs e = by_eq (eqb q.serial t) refl
      where
        by_eq : (x : Bool) → eqb q.serial t ≡ x → x ≡ false
        by_eq true f = let g = eqb-true q.serial t f in absurd (omega (arith, e, g, lt))
        by_eq false f = refl

    by_piece : (x : Bool) → is_piece b s q ≡ x → (p q && not (q.serial == t)) ≡ false → x ≡ false
    by_piece true e f =
        let serial = eqb-true q.serial s (both _ _ e).1 in
        absurd (true≢false (sym (ap₂ (λ x y. x && not y) (passes q e) (differs serial)) ∙ f))
    by_piece false e f = refl

exact_of : (b : Bucket) (s : ℕ) (q : Piece) → is_piece b s q ≡ true → q.bucket ≡ b
exact_of b s q e = bucket-same q.bucket b (both _ _ e).0

gone-met : (c b : Bucket) (t s : ℕ) → s < t → laid.meets c b ≡ true → (qs : List Piece) → list_any (stale t c) qs ≡ false → list_any (is_piece b s) qs ≡ false
gone-met c b t s lt met qs h = none-by (does_meet c) t s b lt (λ q e. ap (λ x. laid.meets x c) (exact_of b s q e) ∙ meets-turned b c ∙ met) qs h

gone-key : (key : ℕ) (b : Bucket) (t s : ℕ) → s < t → has_key b key ≡ true → (qs : List Piece) → list_any (stale_at t key) qs ≡ false → list_any (is_piece b s) qs ≡ false
gone-key key b t s lt has qs h = none-by (has_key_of key) t s b lt (λ q e. ap (λ x. has_key x key) (exact_of b s q e) ∙ has) qs h

-- ---- what is there

pub there-exact : (b : Bucket) (s : ℕ) (ps : List Piece) → list_any (is_piece b s) ps ≡ true → list_any (is_exactly b) ps ≡ true
there-exact b s [] h = absurd (true≢false (sym h))
there-exact b s (p ∷ ps) h = by_tests (is_exactly b p) (p.serial == s) h (there-exact b s ps)
  where
    by_tests : (x y : Bool) → ((x && y) || list_any (is_piece b s) ps) ≡ true → (list_any (is_piece b s) ps ≡ true → list_any (is_exactly b) ps ≡ true) → (x || list_any (is_exactly b) ps) ≡ true
    by_tests true y h ih = refl
    by_tests false y h ih = ih h

pub there-low : (b : Bucket) (s last : ℕ) (ps : List Piece) → AreUpTo last ps → list_any (is_piece b s) ps ≡ true → s ≤ last
there-low b s last [] up h = absurd (true≢false (sym h))
there-low b s last (p ∷ ps) up h = by_test (is_piece b s p) refl h (there-low b s last ps up.1)
  where
    by_test : (t : Bool) → is_piece b s p ≡ t → (t || list_any (is_piece b s) ps) ≡ true → (list_any (is_piece b s) ps ≡ true → s ≤ last) → s ≤ last
    by_test true e h ih = let same : p.serial ≡ s = eqb-true p.serial s (both (is_exactly b p) (p.serial == s) e).1 in let le = up.0 in omega (arith, same, le)
    by_test false e h ih = ih h

there-valid : (b : Bucket) (s lo : ℕ) (ps : List Piece) → IsLaid lo ps → list_any (is_piece b s) ps ≡ true → IsBucket b
there-valid b s lo [] laid h = absurd (true≢false (sym h))
there-valid b s lo (p ∷ ps) laid h = by_test (is_piece b s p) refl h (there-valid b s (last_path p.bucket + 1) ps laid.2)
  where
    by_test : (t : Bool) → is_piece b s p ≡ t → (t || list_any (is_piece b s) ps) ≡ true → (list_any (is_piece b s) ps ≡ true → IsBucket b) → IsBucket b
    by_test true e h ih = subst IsBucket (exact_of b s p e) laid.1
    by_test false e h ih = ih h

there-holds : (b : Bucket) (s key : ℕ) → has_key b key ≡ true → (ps : List Piece) → list_any (is_piece b s) ps ≡ true → holds key ps ≡ true
there-holds b s key has [] h = absurd (true≢false (sym h))
there-holds b s key has (p ∷ ps) h = by_test (is_piece b s p) refl h (there-holds b s key has ps)
  where
    by_test : (t : Bool) → is_piece b s p ≡ t → (t || list_any (is_piece b s) ps) ≡ true → (list_any (is_piece b s) ps ≡ true → holds key ps ≡ true) → (has_key p.bucket key || holds key ps) ≡ true
    by_test true e h ih = ap (λ x. has_key x key || holds key ps) (exact_of b s p e) ∙ ap (λ x. x || holds key ps) has
    by_test false e h ih = or-last (has_key p.bucket key) (holds key ps) (ih h)

-- ---- each body

pub accepted-some : (t : Bool) → where_some t ≡ Accepted → t ≡ true
accepted-some true h = refl
accepted-some false h = cc

accepted-else : (t : Bool) (c : Bucket) (ps : List Piece) → cond t Accepted (unless_met c ps) ≡ Accepted → t ≡ true
accepted-else true c ps h = refl
accepted-else false c ps h = by_test (list_any (does_meet c) ps) h
  where
    by_test : (x : Bool) → cond x Differs NoBucket ≡ Accepted → false ≡ true
    by_test true h = cc
    by_test false h = cc

pub accepted-delete : (c : Bucket) (t : ℕ) (ps : List Piece) → told (body.Delete c t) ps ≡ Accepted → list_any (is_piece c t) ps ≡ true
accepted-delete c t ps h = accepted-else (list_any (is_piece c t) ps) c ps h

pub accepted-ready : (c : Bucket) (ps : List Piece) → told (body.Ready c) ps ≡ Accepted → list_any (is_exactly c) ps ≡ true
accepted-ready c ps h = accepted-else (list_any (is_exactly c) ps) c ps h

pub accepted-split : (c : Bucket) (ps : List Piece) → told (body.Split c) ps ≡ Accepted → list_any (is_over c) ps ≡ true
accepted-split c ps h = accepted-some (list_any (is_over c) ps) h

pub accepted-join : (c : Bucket) (ps : List Piece) → told (body.Join c) ps ≡ Accepted → list_any (is_inside c) ps ≡ true
accepted-join c ps h = accepted-some (list_any (is_inside c) ps) h

met_key : (c b : Bucket) → IsBucket c → IsBucket b → laid.meets c b ≡ true → (key : ℕ) × (key < 2 ^ 58) × (has_key c key ≡ true) × (has_key b key ≡ true)
met_key c b vc vb met = by_test (ids.covers c b) refl met
  where
    small : (x : Low) → IsBucket x → x.low < 2 ^ 58
    small x v = let most = pow_mono v.most in let fits = v.fits in omega (arith, most, fits)

    own_low : (x : Low) → IsBucket x → has_key x x.low ≡ true
    own_low x v = eq-eqb _ _ (mod-eq_of_lt v.fits)

    by_test : (t : Bool) → ids.covers c b ≡ t → (t || ids.covers b c) ≡ true → (key : ℕ) × (key < 2 ^ 58) × (has_key c key ≡ true) × (has_key b key ≡ true)
    by_test true e h = (b.low, small b vb, (both _ _ e).1, own_low b vb)
    by_test false e h = (c.low, small c vc, own_low c vc, (both _ _ h).1)

module _ (laws : AreRuns) (last : ℕ) (ps : List Piece) (is_laid : IsLaid 0 ps) (b : Bucket) (s : ℕ) (old : s ≤ last) where
  newer : s < last + 1
  newer = omega (arith, old)

  gone-delete : (c : Bucket) (t : ℕ) → IsBucket c → list_any (is_piece c t) ps ≡ true → laid.meets c b ≡ true → list_any (is_piece b s) (without c ps) ≡ false
  gone-delete c t vc there met = by_test (list_any (is_piece b s) (without c ps)) refl
    where
      by_test : (x : Bool) → list_any (is_piece b s) (without c ps) ≡ x → x ≡ false
      by_test true e =
          let vb = there-valid b s 0 ps is_laid (any-filtered (is_piece b s) (λ p. not (is_exactly c p)) ps e) in
          let k = met_key c b vc vb met in
          let kept : holds k.0 (without c ps) ≡ true = there-holds b s k.0 k.3 (without c ps) e in
          let lost : holds k.0 (without c ps) ≡ false = holds-delete laws k.0 k.1 c vc 0 ps is_laid (there-exact c t ps there) ∙ ap (λ x. not x && holds k.0 ps) k.2 in
          absurd (true≢false (sym kept ∙ lost))
      by_test false e = refl

  -- what a body touches keeps no serial that was drawn before
  pub gone : (x : Body) → NamesBucket x → told x ps ≡ Accepted → touches (meant x) b ≡ true → list_any (is_piece b s) (pieces_by x (last + 1) ps) ≡ false
  gone body.Ask v t h = absurd (true≢false (sym h))
  gone (body.Read c None) v t h = absurd (true≢false (sym h))
  gone (body.Read c (Some id)) v t h = absurd (true≢false (sym h))
  gone (body.Store e) v t h = gone-key (key_of e.id) b (last + 1) s newer (sym (contains-is b (key_of e.id)) ∙ ap (words.contains b) (sym (key-is e.id)) ∙ h) _ (fresh-store (last + 1) (key_of e.id) ps)
  gone (body.Apply c es) v t h = gone-met c b (last + 1) s newer (sym (meets-is c b) ∙ h) _ (fresh-apply laws c v (last + 1) ps is_laid)
  gone (body.Delete c x) v t h = gone-delete c x v (accepted-delete c x ps t) (sym (meets-is c b) ∙ h)
  gone (body.Split c) v t h = gone-met c b (last + 1) s newer (sym (meets-is c b) ∙ h) _ (fresh-split laws c v (last + 1) 0 ps is_laid (accepted-split c ps t))
  gone (body.Join c) v t h = gone-met c b (last + 1) s newer (sym (meets-is c b) ∙ h) _ (fresh-join laws c v (last + 1) 0 ps is_laid (accepted-join c ps t))
  gone (body.Ready c) v t h = gone-met c b (last + 1) s newer (sym (meets-is c b) ∙ h) _ (fresh-ready laws c v (last + 1) 0 ps is_laid (accepted-ready c ps t))
  gone (body.Activate c) v t h = gone-met c b (last + 1) s newer (sym (meets-is c b) ∙ h) _ (fresh-renewed (last + 1) c ps)

  apart : (c : Bucket) → words.meets c b ≡ false → laid.meets b c ≡ false
  apart c h = meets-turned b c ∙ sym (meets-is c b) ∙ h

  -- and all else stays
  pub kept : (x : Body) → NamesBucket x → touches (meant x) b ≡ false → list_any (is_piece b s) (pieces_by x (last + 1) ps) ≡ list_any (is_piece b s) ps
  kept body.Ask v h = refl
  kept (body.Read c only) v h = refl
  kept (body.Store e) v h = kept-renewed b s (last + 1) newer (λ x. has_key x (key_of e.id)) (sym (contains-is b (key_of e.id)) ∙ ap (words.contains b) (sym (key-is e.id)) ∙ h) ps
  kept (body.Apply c es) v h = kept-apply b c s (last + 1) newer (apart c h) ps
  kept (body.Delete c x) v h = kept-delete b c s (last + 1) newer (apart c h) v ps
  kept (body.Split c) v h = kept-split b c s (last + 1) newer (apart c h) ps
  kept (body.Join c) v h = kept-join b c s (last + 1) newer (apart c h) ps
  kept (body.Ready c) v h = kept-made_ready b c s (last + 1) newer (apart c h) v ps
  kept (body.Activate c) v h = kept-activate b c s (last + 1) newer (apart c h) ps
