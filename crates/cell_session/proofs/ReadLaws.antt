-- One line more keeps what was said of searches.
use Rattle.std.proofs.Common.{◌≡◌, ◌≢◌, ◌<◌, ◌≤◌, ◌+◌, ℕ, zero, suc, List, [], ◌∷◌, ◌++◌, Option, None, Some, option_and_then, inl, inr, refl, sym, ap, ap₂, ◌∙◌, subst, arith, length, append_assoc, map, take, slice_get}
use Rattle.std.specs.Option.{IsSome}
use Rattle.std.proofs.lemmas.Bool.{cases_eq, false≢true}
use Rattle.std.proofs.lemmas.List.{length-map}
use Rattle.std.proofs.lemmas.Option.{slice_get_within}
use Rattle.bucket_ids.specs.Buckets.{Low}
use Rattle.carriers.specs.declared.fate.Fate.{Fate}
use Rattle.doc_types.specs.SchemaCodes.{Types}
use Rattle.journal_views.proofs.Reading.{first-changes}
use Rattle.lane_changes.specs.Changes.{changes_of}
use Rattle.lane_journals.specs.declared.event.LaneEvent.{LaneEvent}
use Rattle.lane_calls.specs.LaneValues.{LaneValue}
use Rattle.lane_lives.specs.Lives.{Deed, IsLife}
use Rattle.lane_lives.specs.Serving.{bucket_in}
use Rattle.lane_lives.specs.declared.setting.Setting.{Setting}
use Rattle.lane_promises.proofs.Before.{Grown}
use Rattle.query_text.specs.Grammar.{Said}
use Rattle.session_cluster.specs.Cells.{Cell, journals, journals_of}
use Rattle.session_cluster.specs.Keeping.{IsKept}
use Rattle.session_cluster.specs.Searches.{fronts_of, front_in, fronts_now, front_now, view_to, views_to}
use Rattle.session_cluster.specs.Steps.{IsSearched, IsAfter}
use Rattle.session_cluster.specs.declared.asked.Asked.{Asked}
use Rattle.session_cluster.specs.declared.asked.Asked.TheVariants as command
use Rattle.cell_session.specs.Operations.{deeds_before}
use Rattle.cell_session.specs.Searches.{FrontStands, HasRead, SearchesAt, OnlySearchesRead, FrontsRise, AreRead}
use Rattle.session_cluster.proofs.FrontLists.{fronts_own}
use Rattle.session_cluster.proofs.SessionSteps.{kept_more, leaves_fronts, read_after}
use Rattle.cell_session.proofs.UpkeepLaws.{some_is, none_some, pushed, still, last_there, AreAsBefore, before_stays, before_own, grew_after}
use Rattle.view_changes.specs.Opening.{opening}
use Rattle.view_changes.specs.Views.{view_after}

-- ---- a front stands on

front_on : (s : Setting) (lane : Low) (deeds : List Deed) (J K : List LaneEvent) (g : ℕ) → FrontStands s lane deeds J g → Grown K J → FrontStands s lane deeds K g
front_on s lane deeds J K g h grown = record {
  before = h.before;
  behind = h.behind;
  front = h.front;
  later = grown.0 ++ h.later;
  whole = grown.1 ∙ ap (λ L. grown.0 ++ L) h.whole ∙ sym (append_assoc grown.0 h.later h.before);
}

-- it counts the first changes of the journal
front_changes : (s : Setting) (lane : Low) (deeds : List Deed) (J : List LaneEvent) (g : ℕ) → (h : FrontStands s lane deeds J g) → take g (changes_of J) ≡ changes_of h.before
front_changes s lane deeds J g h = ap (λ n. take n (changes_of J)) h.front ∙ ap (λ K. take (length (changes_of h.before)) (changes_of K)) h.whole ∙ first-changes h.later h.before

pub few_taken : {A : Type 0} (n : ℕ) (xs : List A) → length (take n xs) ≤ length xs
few_taken zero xs = omega arith
few_taken (suc n) [] = omega arith
few_taken (suc n) (x ∷ xs) = let low = few_taken n xs in omega (arith, low)

front_within : (s : Setting) (lane : Low) (deeds : List Deed) (J : List LaneEvent) (g : ℕ) → FrontStands s lane deeds J g → g ≤ length (changes_of J)
front_within s lane deeds J g h = omega (arith, h.front, ap length (front_changes s lane deeds J g h), few_taken g (changes_of J))

-- what is seen to it stays
front_view : (s : Setting) (types : Types) (lane : Low) (deeds : List Deed) (J K : List LaneEvent) (g : ℕ) → FrontStands s lane deeds J g → Grown K J → view_to types g K ≡ view_to types g J
unfolding front_on
front_view s types lane deeds J K g h grown =
    ap (view_after (opening types)) (front_changes s lane deeds K g (front_on s lane deeds J K g h grown) ∙ sym (front_changes s lane deeds J g h))

pub views_same : (types : Types) (gs : List ℕ) (vs ws : List LaneValue) → length ws ≡ length vs
    → ((lane : ℕ) (v w : LaneValue) (g : ℕ) → slice_get vs lane ≡ Some v → slice_get ws lane ≡ Some w → slice_get gs lane ≡ Some g → view_to types g w.journal ≡ view_to types g v.journal)
    → views_to types gs (journals ws) ≡ views_to types gs (journals vs)
views_same types [] [] [] count each = refl
views_same types [] (v ∷ vs) (w ∷ ws) count each = refl
views_same types gs [] (w ∷ ws) count each = absurd (omega (arith, count))
views_same types gs (v ∷ vs) [] count each = absurd (omega (arith, count))
views_same types (g ∷ gs) [] [] count each = refl
views_same types (g ∷ gs) (v ∷ vs) (w ∷ ws) count each =
    ap₂ (λ x xs. x ∷ xs) (each zero v w g refl refl refl) (views_same types gs vs ws (omega (arith, count)) (λ lane a b h was is there. each (suc lane) a b h was is there))

-- what each of some items is
pub mapped_at : {A B : Type 0} (f : A → B) (xs : List A) (k : ℕ) (x : A) (y : B) → slice_get xs k ≡ Some x → slice_get (map f xs) k ≡ Some y → y ≡ f x
mapped_at f [] k x y at is = cc at
mapped_at f (z ∷ xs) zero x y at is = sym (some_is is) ∙ ap f (some_is at)
mapped_at f (z ∷ xs) (suc k) x y at is = mapped_at f xs k x y at is

-- a lane's front is one of its line's
pub fronts_there : (lane : ℕ) (o : Option (List ℕ)) (a : ℕ) → option_and_then (λ gs. slice_get gs lane) o ≡ Some a → (gs : List ℕ) × ((o ≡ Some gs) × (slice_get gs lane ≡ Some a))
fronts_there lane None a h = cc h
fronts_there lane (Some gs) a h = (gs, (refl, h))

-- the views to which earlier lines read
abbrev pub ViewsStay : Types → Cell → Cell → Type 0
ViewsStay types old new = (line : ℕ) (gs : List ℕ) → fronts_of line old.fronts ≡ Some gs → views_to types gs (journals_of new) ≡ views_to types gs (journals_of old)

in_list : (vs : List LaneValue) (lane : ℕ) → lane < length vs → (v : LaneValue) × (slice_get vs lane ≡ Some v)
in_list [] lane h = absurd (omega (arith, h))
in_list (v ∷ vs) zero h = (v, refl)
in_list (v ∷ vs) (suc lane) h = in_list vs lane (omega (arith, h))

-- each lane's journal grew
abbrev pub JournalsGrew : Cell → Cell → Type 0
JournalsGrew old new = (lane : ℕ) (w : LaneValue) → slice_get new.lanes lane ≡ Some w → (v : LaneValue) × ((slice_get old.lanes lane ≡ Some v) × Grown w.journal v.journal)

-- a line's fronts stand on
pub read_on : (s : Setting) (old new : Cell) → JournalsGrew old new → (line : ℕ) → fronts_of line new.fronts ≡ fronts_of line old.fronts → (b d : ℕ → List Deed) → ((lane : ℕ) → d lane ≡ b lane) → HasRead s b line old → HasRead s d line new
read_on s old new grew line same b d deeds h = record {
  fronts = h.fronts;
  are = same ∙ h.are;
  count = h.count;
  stand = λ lane w g at there.
      let grown = grew lane w at in
      subst (λ ds. FrontStands s (bucket_in s lane) ds w.journal g) (sym (deeds lane))
      (front_on s (bucket_in s lane) (b lane) (grown.0).journal w.journal g (h.stand lane grown.0 g grown.1.0 there) grown.1.1);
}

-- a lane's front of a line lies within its journal
pub low_of : (s : Setting) (b : ℕ → List Deed) (line : ℕ) (c : Cell) → HasRead s b line c → (lane a : ℕ) (v : LaneValue) → front_in lane line c.fronts ≡ Some a → slice_get c.lanes lane ≡ Some v → a ≤ front_now v
low_of s b line c h lane a v has there =
    let at = fronts_there lane (fronts_of line c.fronts) a has in
    front_within s (bucket_in s lane) (b lane) v.journal a (h.stand lane v a there (ap (λ xs. slice_get xs lane) (some_is (sym h.are ∙ at.1.0)) ∙ at.1.1))

module _ (s : Setting) (plans : ℕ → List Fate) (cs : List Asked) (c : Asked) (old new : Cell) (k : ℕ) (kept : IsKept s plans cs old) (is : k ≡ length cs + 1) (after : IsAfter s k c old new) (so : AreRead s (deeds_before s cs old) cs old) where
  abbrev b : ℕ → ℕ → List Deed
  b = deeds_before s cs old

  abbrev d : ℕ → ℕ → List Deed
  d = deeds_before s (cs ++ c ∷ []) new

  grew : JournalsGrew old new
  grew lane w at = let grown = grew_after s c old new k after lane w at in (grown.0, (grown.1.0, (grown.1.1).journal))

  abbrev cs' : List Asked
  cs' = cs ++ c ∷ []

  same_as : (line : ℕ) → k ≢ line → fronts_of line new.fronts ≡ fronts_of line old.fronts
  same_as = leaves_fronts s c old new k after

  as_many : length new.lanes ≡ length old.lanes
  as_many = (kept_more s plans cs c old new k kept is after).lanes ∙ sym kept.lanes

  -- ---- an earlier line's

  -- the line that has fronts
  found : (line : ℕ) (gs : List ℕ) → fronts_of line old.fronts ≡ Some gs → (deeds : ℕ → List Deed) × ((h : HasRead s deeds line old) × (h.fronts ≡ gs))
  found line gs has =
      let was = so.others line (subst IsSome (sym has) refl) in
      let h = so.answered was.0 was.1.0 was.1.1.1 in
      let own : HasRead s (b was.0) line old = subst (λ n. HasRead s (b was.0) n old) (sym was.1.1.0) h in
      (b was.0, (own, some_is (sym own.are ∙ has)))

  pub views_stay : (types : Types) → ViewsStay types old new
  views_stay types line gs has =
      let f = found line gs has in
      let h = f.1.0 in
      views_same types gs old.lanes new.lanes as_many (λ lane v w g was at there.
      let grown = grew_after s c old new k after lane w at in
      let same : grown.0 ≡ v = some_is (sym grown.1.0 ∙ was) in
      front_view s types (bucket_in s lane) (f.0 lane) v.journal w.journal g (h.stand lane v g was (ap (λ xs. slice_get xs lane) f.1.1 ∙ there))
      (subst (λ (x : LaneValue). Grown w.journal x.journal) same (grown.1.1).journal))

  -- ---- the line's own

  own_none : fronts_of k old.fronts ≡ None
  own_none = kept.unread k (omega (arith, is, kept.dealt))

  module _ (now : IsSearched k old new) where
    own_are : fronts_of k new.fronts ≡ Some (fronts_now old.lanes)
    own_are = ap (λ (x : Cell). fronts_of k x.fronts) now ∙ fronts_own k old.fronts (record { line = k; fronts = fronts_now old.lanes }) refl own_none

    read : HasRead s (d (length cs)) k new
    read = record {
      fronts = fronts_now old.lanes;
      are = own_are;
      count = length-map old.lanes front_now ∙ kept.lanes;
      stand = λ lane w g at there.
          let was : slice_get old.lanes lane ≡ Some w = subst (λ (x : Cell). slice_get x.lanes lane ≡ Some w) now at in
          record {
            before = w.journal;
            behind = subst (λ ds. IsLife s (bucket_in s lane) ds w.journal) (sym (before_own s cs c old new k is after lane)) (kept.serving lane w was).life;
            front = mapped_at front_now old.lanes lane w g was there;
            later = [];
            whole = refl;
          };
    }

  -- ---- all lines

  old_answered : (at : ℕ) (q : Said) → SearchesAt at q cs → HasRead s (d at) (suc at) new
  old_answered at q asks =
      let within = slice_get_within cs at (command.Search q) asks in
      read_on s old new grew (suc at) (same_as (suc at) (λ e. absurd (omega (arith, e, is, within)))) (b at) (d at) (λ lane. before_stays s cs c old new k is after at lane within) (so.answered at q asks)

  own_answered : (q : Said) → c ≡ command.Search q → HasRead s (d (length cs)) (suc (length cs)) new
  own_answered q own = subst (λ n. HasRead s (d (length cs)) n new) (number is) (read (subst (λ (x : Asked). IsAfter s k x old new) own after))
    where
      number : k ≡ length cs + 1 → k ≡ suc (length cs)
      number e = omega (arith, e)

  answered : (at : ℕ) (q : Said) → SearchesAt at q cs' → HasRead s (d at) (suc at) new
  answered at q asks = elim (pushed cs c at (command.Search q) asks) [
    | inl before ↦ old_answered at q before
    | inr here ↦ subst (λ n. HasRead s (d n) (suc n) new) (sym here.0) (own_answered q here.1)
  ]

  old_others : (line : ℕ) → IsSome (fronts_of line old.fronts) → (at : ℕ) × ((q : Said) × ((line ≡ suc at) × SearchesAt at q cs'))
  old_others line some = let was = so.others line some in (was.0, (was.1.0, (was.1.1.0, still cs c was.0 (command.Search was.1.0) was.1.1.1)))

  own_asked : IsSome (fronts_of k new.fronts) → (q : Said) × (c ≡ command.Search q)
  own_asked some = elim (read_after s c old new k after) [
    | inl own ↦ own
    | inr same ↦ absurd (false≢true (subst IsSome (ap (fronts_of k) same ∙ own_none) some))
  ]

  others : (line : ℕ) → IsSome (fronts_of line new.fronts) → (at : ℕ) × ((q : Said) × ((line ≡ suc at) × SearchesAt at q cs'))
  others line some = elim (cases_eq k line) [
    | inl here ↦
        let own = own_asked (subst (λ n. IsSome (fronts_of n new.fronts)) (sym here) some) in
        (length cs, (own.0, (omega (arith, here, is), subst (λ (x : Asked). slice_get cs' (length cs) ≡ Some x) own.1 (last_there cs c))))
    | inr other ↦ old_others line (subst IsSome (same_as line other) some)
  ]

  -- ---- their order

  same_in : (lane line : ℕ) → k ≢ line → front_in lane line new.fronts ≡ front_in lane line old.fronts
  same_in lane line other = ap (λ o. option_and_then (λ gs. slice_get gs lane) o) (same_as line other)

  -- an earlier front lies within the journal
  low_front : (lane line a : ℕ) (v : LaneValue) → front_in lane line old.fronts ≡ Some a → slice_get old.lanes lane ≡ Some v → a ≤ front_now v
  low_front lane line a v has there =
      let at = fronts_there lane (fronts_of line old.fronts) a has in
      let f = found line at.0 at.1.0 in
      low_of s f.0 line old f.1.0 lane a v has there

  none_later : (lane line b : ℕ) → k < line → front_in lane line new.fronts ≡ Some b → ⊥
  none_later lane line b later has =
      none_some (front_in lane line old.fronts) b (ap (λ o. option_and_then (λ gs. slice_get gs lane) o) (kept.unread line (omega (arith, later, is, kept.dealt))))
      (sym (same_in lane line (λ e. absurd (omega (arith, e, later)))) ∙ has)

  own_last : (lane earlier : ℕ) → earlier < k → (a b : ℕ) → front_in lane earlier new.fronts ≡ Some a → front_in lane k new.fronts ≡ Some b → a ≤ b
  own_last lane earlier early a b has there =
      let at = fronts_there lane (fronts_of k new.fronts) b there in
      let own = own_asked (subst IsSome (sym at.1.0) refl) in
      let now : IsSearched k old new = subst (λ (x : Asked). IsAfter s k x old new) own.1 after in
      let among : slice_get (fronts_now old.lanes) lane ≡ Some b = ap (λ xs. slice_get xs lane) (some_is (sym (own_are now) ∙ at.1.0)) ∙ at.1.1 in
      let small = slice_get_within (fronts_now old.lanes) lane b among in
      let v = in_list old.lanes lane (omega (arith, small, length-map old.lanes front_now)) in
      let low = low_front lane earlier a v.0 (sym (same_in lane earlier (λ e. absurd (omega (arith, e, early)))) ∙ has) v.1 in
      subst (λ n. a ≤ n) (sym (mapped_at front_now old.lanes lane v.0 b v.1 among)) low

  in_order : (lane earlier line : ℕ) → earlier < line → (a b : ℕ) → front_in lane earlier new.fronts ≡ Some a → front_in lane line new.fronts ≡ Some b → a ≤ b
  in_order lane earlier line early a b has there = elim (cases_eq k line) [
    | inl here ↦ own_last lane earlier (omega (arith, early, here)) a b has (subst (λ n. front_in lane n new.fronts ≡ Some b) (sym here) there)
    | inr other ↦ elim (cases_eq k earlier) [
      | inl first ↦ absurd (none_later lane line b (omega (arith, early, first)) there)
      | inr neither ↦ so.in_order lane earlier line early a b (sym (same_in lane earlier neither) ∙ has) (sym (same_in lane line other) ∙ there)
    ]
  ]

  pub read_more : AreRead s d cs' new
  read_more = record { answered = answered; others = others; in_order = in_order }

-- ---- where no line was dealt with

pub no_search : (at : ℕ) (q : Said) → SearchesAt at q [] → ⊥
no_search zero q h = cc h
no_search (suc at) q h = cc h

-- no line has fronts
pub none_others : (cs : List Asked) (c : Cell) → c.fronts ≡ [] → OnlySearchesRead cs c
none_others cs c none line some = absurd (false≢true (subst IsSome (ap (fronts_of line) none) some))

pub none_rise : (c : Cell) → c.fronts ≡ [] → FrontsRise c
none_rise c none lane earlier line early a b has there =
    absurd (none_some (front_in lane line c.fronts) b (ap (λ o. option_and_then (λ gs. slice_get gs lane) o) (ap (fronts_of line) none)) there)

pub none_read : (s : Setting) (b : ℕ → ℕ → List Deed) (c : Cell) → c.fronts ≡ [] → AreRead s b [] c
none_read s b c none = record {
  answered = λ at q asks. absurd (no_search at q asks);
  others = none_others [] c none;
  in_order = none_rise c none;
}

-- what was said stays where no search came, and the lanes grew
pub reads_on : (s : Setting) (old new : Cell) (cs : List Asked) → new.fronts ≡ old.fronts → JournalsGrew old new → (b d : ℕ → ℕ → List Deed) → AreAsBefore (length cs) b d → AreRead s b cs old → AreRead s d cs new
reads_on s old new cs same grew b d stays so = record {
  answered = λ at q asks.
      let within = slice_get_within cs at (command.Search q) asks in
      read_on s old new grew (suc at) (ap (fronts_of (suc at)) same) (b at) (d at) (λ lane. stays at lane within) (so.answered at q asks);
  others = λ line some. so.others line (subst (λ fs. IsSome (fronts_of line fs)) same some);
  in_order = λ lane earlier line early a c has there.
      so.in_order lane earlier line early a c (subst (λ fs. front_in lane earlier fs ≡ Some a) same has) (subst (λ fs. front_in lane line fs ≡ Some c) same there);
}
