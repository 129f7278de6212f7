-- A state may be published exactly where it isn't refused.
use Rattle.std.proofs.Common.{◌≡◌, ℕ, ◌+◌, ◌-◌, ◌<◌, ◌≤◌, Bool, true, false, not, ◌&&◌, ◌||◌, cond, List, [], ◌∷◌, ◌++◌, length, Option, Some, None, refl, sym, ap, ◌∙◌, subst, arith, inl, inr, eqb, leb, ltb, eq-eqb, zero, suc, slice_get, slice_index_or}
use Rattle.std.specs.Option.{option_or}
use Rattle.std.proofs.lemmas.Bool.{eqb-true, cases_lt}
use Rattle.std.proofs.lemmas.Bool.Decides.{nat_tests}
use Rattle.std.proofs.lemmas.List.{length-append}
use Rattle.std.proofs.lemmas.List.Folds.{list_any-append}
use Rattle.std.specs.List.{count_by}
use Rattle.cluster_states.specs.MarkTests.{is_up, counts}
use Rattle.cluster_states.specs.declared.marks.Mark.{Mark}
use Rattle.cluster_states.specs.declared.marks.Mark.TheVariants.{Up, Down, Retired}
use Rattle.cluster_states.specs.declared.cluster_state.ClusterState.{ClusterState}
use Rattle.cluster_states.specs.declared.states.PublishFault.{PublishFault}
use Rattle.cluster_states.specs.declared.states.PublishFault.TheVariants.{NotNewer, TooFewUp, TooManyOut}
use Rattle.cluster_states.specs.Publishing.{newest_of, serves, is_known, how_many, up_of, out_of, older_fault, distributor_fault, up_fault, out_fault, room_fault, publish_fault}
use Rattle.lane_journals.specs.Sets.{count_below, count, both, outside}
use Rattle.lane_journals.specs.Readers.{published, known}
use Rattle.lane_journals.specs.Events as plain
use Rattle.lane_journals.specs.Legal.{MayPublish}
use Rattle.lane_journals.specs.States.{state_of}
use Rattle.lane_journals.specs.Meanings.{history}
use Rattle.lane_journals.specs.Places.{Setting, published_states, told}
use Rattle.lane_journals.specs.KeptJournals.{IsLegalStep, IsLegal}
use Rattle.lane_journals.specs.declared.event.LaneEvent.{LaneEvent}
use Rattle.lane_journals.specs.declared.event.LaneEvent.TheVariants as event

-- ---- faults

none-first : (a b : Option PublishFault) → option_or a b ≡ None → (a ≡ None) × (b ≡ None)
none-first None b h = (refl, h)
none-first (Some f) b h = cc

-- a test that makes no fault fails
no-fault : (t : Bool) (f : PublishFault) → cond t (Some f) None ≡ None → t ≡ false
no-fault true f h = cc
no-fault false f h = refl

-- ---- lists of states

last-of : {A : Type 0} (xs : List A) (x : A) → slice_get (xs ++ x ∷ []) (length xs) ≡ Some x
last-of [] x = refl
last-of (y ∷ ys) x = last-of ys x

newest-is : (xs : List ClusterState) (s : ClusterState) → newest_of (xs ++ s ∷ []) ≡ Some s
newest-is xs s = ap (λ (k : ℕ). slice_get (xs ++ s ∷ []) k) (ap (λ (k : ℕ). k - 1) (length-append xs (s ∷ [])) ∙ (omega arith)) ∙ last-of xs s

known-more : (xs : List ClusterState) (s : ClusterState) (n : ℕ) → is_known (xs ++ s ∷ []) n ≡ (is_known xs n || serves s n)
known-more xs s n = list_any-append (λ x. serves x n) xs (s ∷ []) ∙ ap (λ (t : Bool). is_known xs n || t) (last (serves s n))
  where
    last : (t : Bool) → (t || false) ≡ t
    last true = refl
    last false = refl

past-end : (xs : List Mark) (n : ℕ) → length xs ≤ n → slice_index_or xs n Down ≡ Down
past-end [] n h = refl
past-end (x ∷ xs) zero h = absurd (omega arith)
past-end (x ∷ xs) (suc n) h = past-end xs n (omega arith)

-- a node that serves has a mark
serving-low : (s : ClusterState) (n : ℕ) → length s.nodes ≤ 32 → serves s n ≡ true → n < 32
serving-low s n few h = elim (cases_lt n 32) [
  | inl less ↦ less
  | inr more ↦ (let e = past-end s.nodes n (omega arith) in let z : counts true Down ≡ true = subst (λ (m : Mark). counts true m ≡ true) e h in absurd (let y : false ≡ true = z in cc))
]

up-serves : (m : Mark) → is_up m ≡ true → counts true m ≡ true
up-serves Up h = refl
up-serves Down h = cc
up-serves Retired h = cc

some-up : (xs : List Mark) → 1 ≤ count_by is_up xs → (n : ℕ) × (is_up (slice_index_or xs n Down) ≡ true)
some-up [] h = absurd (omega arith)
some-up (x ∷ xs) h = by_case (is_up x) refl h (some-up xs)
  where
    by_case : (t : Bool) → is_up x ≡ t → 1 ≤ count_by is_up (x ∷ xs) → (1 ≤ count_by is_up xs → (n : ℕ) × (is_up (slice_index_or xs n Down) ≡ true)) → (n : ℕ) × (is_up (slice_index_or (x ∷ xs) n Down) ≡ true)
    by_case true e h ih = (0, e)
    by_case false e h ih = let k : 1 ≤ count_by is_up xs = rw e at h in let y = ih k in (suc y.0, y.1)

-- ---- counts

same-count : (p : ℕ → Bool) (k : ℕ) → how_many p k ≡ count_below p k
unfolding count_below
same-count p zero = refl
same-count p (suc k) = step (p k) (same-count p k)
  where
    step : (t : Bool) → how_many p k ≡ count_below p k → how_many p k + cond t 1 0 ≡ cond t 1 0 + count_below p k
    step true e = omega (arith, e)
    step false e = omega (arith, e)

-- ---- what was published

module _ (S : Setting) where
  -- the newest state has the greatest version
  newest-most : (J : List LaneEvent) → IsLegal S J → (s : ClusterState) → newest_of (published_states J) ≡ Some s → (w : ℕ) → published w (history J) ≡ true → w ≤ s.version
  newest-most [] l s h w p = cc
  newest-most (event.Published t ∷ J) l s h w p = let same : t ≡ s = (let e = newest-is (published_states J) t in cc) in by_case (eqb t.version w) refl p same
    where
      by_case : (x : Bool) → eqb t.version w ≡ x → cond x true (published w (history J)) ≡ true → t ≡ s → w ≤ s.version
      by_case true e p same = let z = eqb-true t.version w e in let y = ap (λ (a : ClusterState). a.version) same in omega arith
      by_case false e p same = let z = ((l.1).permitted).newest w p in let y = ap (λ (a : ClusterState). a.version) same in omega arith
  newest-most (_ ∷ J) l s h w p = newest-most J l.0 s h w p

  none-published : (J : List LaneEvent) → newest_of (published_states J) ≡ None → (w : ℕ) → published w (history J) ≡ true → ⊥
  none-published [] h w p = cc
  none-published (event.Published t ∷ J) h w p = let e = newest-is (published_states J) t in absurd (let z : ◌≡◌ {A = Option ClusterState} (Some t) None = sym e ∙ h in cc)
  none-published (_ ∷ J) h w p = none-published J h w p

  newest-published : (J : List LaneEvent) (s : ClusterState) → newest_of (published_states J) ≡ Some s → published s.version (history J) ≡ true
  newest-published [] s h = cc
  newest-published (event.Published t ∷ J) s h = let same : t ≡ s = (let e = newest-is (published_states J) t in cc) in rw (ap (λ (a : ClusterState). a.version) same, eq-eqb s.version s.version refl) refl
  newest-published (_ ∷ J) s h = newest-published J s h

  -- a node is known at a version if it served under a state so far
  known-states : (J : List LaneEvent) (v : ℕ) → ((w : ℕ) → published w (history J) ≡ true → w ≤ v) → (n : ℕ) → is_known (published_states J) n ≡ known v n (history J)
  known-states [] v low n = refl
  known-states (event.Published t ∷ J) v low n =
      let le : leb t.version v ≡ true = (let z = low t.version (rw (eq-eqb t.version t.version refl) refl) in grind (arith, nat_tests)) in
      known-more (published_states J) t n ∙ by_case (serves t n) (leb t.version v) le (known-states J v (λ w p. low w (still w p)) n)
    where
      still : (w : ℕ) → published w (history J) ≡ true → cond (eqb t.version w) true (published w (history J)) ≡ true
      still w p = rw p (both_true (eqb t.version w))
        where
          both_true : (x : Bool) → cond x true true ≡ true
          both_true true = refl
          both_true false = refl

      by_case : (a b : Bool) → b ≡ true → is_known (published_states J) n ≡ known v n (history J) → (is_known (published_states J) n || a) ≡ cond b (cond a true (known v n (history J))) (known v n (history J))
      by_case true true e ih = right (is_known (published_states J) n)
        where
          right : (x : Bool) → (x || true) ≡ true
          right true = refl
          right false = refl
      by_case false true e ih = left (is_known (published_states J) n) ∙ ih
        where
          left : (x : Bool) → (x || false) ≡ x
          left true = refl
          left false = refl
      by_case a false e ih = cc
  known-states (_ ∷ J) v low n = known-states J v low n

  -- the nodes that a state leaves out
  same-out : (J : List LaneEvent) (s : ClusterState) → ((w : ℕ) → published w (history J) ≡ true → w ≤ s.version) → (n : ℕ) → (is_known (published_states J) n && not (serves s n)) ≡ both (λ m. known s.version m (plain.Published s.version (serves s) ∷ history J)) (outside (serves s)) n
  same-out J s low n = rw (known-states J s.version low n, leb-refl s.version) (by_test (serves s n) (known s.version n (history J)))
    where
      leb-refl : (v : ℕ) → leb v v ≡ true
      leb-refl v = grind (arith, nat_tests)

      by_test : (t k : Bool) → (k && not t) ≡ cond (cond t true k) (cond t false true) false
      by_test true true = refl
      by_test true false = refl
      by_test false true = refl
      by_test false false = refl

  counted-out : (J : List LaneEvent) (s : ClusterState) → ((w : ℕ) → published w (history J) ≡ true → w ≤ s.version) → out_of (published_states J) s ≡ count (both (λ m. known s.version m (plain.Published s.version (serves s) ∷ history J)) (outside (serves s)))
  unfolding out_of count
  counted-out J s low = same-count (λ n. is_known (published_states J) n && not (serves s n)) 32 ∙ (λ i. count_below (λ n. same-out J s low n i) 32)

  -- what isn't refused may be published
  pub may-publish : (J : List LaneEvent) → IsLegal S J → 1 ≤ S.acks → (s : ClusterState) → length s.nodes ≤ 32 → publish_fault (told S J) s ≡ None → IsLegalStep S J (event.Published s)
  may-publish J l some s few h =
      let a = none-first (older_fault (newest_of (published_states J)) s) (option_or (distributor_fault s) (option_or (up_fault S.acks s) (option_or (out_fault (told S J) s) (room_fault (published_states J))))) h in
      let b = none-first (distributor_fault s) (option_or (up_fault S.acks s) (option_or (out_fault (told S J) s) (room_fault (published_states J)))) a.1 in
      let c = none-first (up_fault S.acks s) (option_or (out_fault (told S J) s) (room_fault (published_states J))) b.1 in
      let d = none-first (out_fault (told S J) s) (room_fault (published_states J)) c.1 in
      let low = newer (newest_of (published_states J)) refl a.0 in
      let up : S.acks ≤ up_of s = (let z = no-fault (ltb (up_of s) S.acks) (TooFewUp (up_of s) S.acks) c.0 in grind (arith, nat_tests)) in
      let out : out_of (published_states J) s < S.acks = (let z = no-fault (leb S.acks (out_of (published_states J) s)) (TooManyOut (out_of (published_states J) s) S.acks) d.0 in grind (arith, nat_tests)) in
      let one = some-up s.nodes (omega arith) in
      let same = counted-out J s (λ w p. let z = low w p in omega arith) in
      record {
        noted = tt;
        permitted = record {
          newest = low;
          nodes = λ n. rw (eq-eqb s.version s.version refl) refl;
          small = λ n. serving-low s n few;
          inhabited = (one.0, up-serves (slice_index_or s.nodes one.0 Down) one.1);
          few = omega arith;
        };
        placed = (b.0, c.0);
        ended = tt;
      }
    where
      newer : (o : Option ClusterState) → newest_of (published_states J) ≡ o → older_fault o s ≡ None → (w : ℕ) → published w (history J) ≡ true → w < s.version
      newer None e h w p = absurd (none-published J e w p)
      newer (Some t) e h w p = let x = newest-most J l t e w p in let y = no-fault (leb s.version t.version) (NotNewer t.version) h in grind (arith, nat_tests)

  -- and what may be published isn't refused, but for want of room
  pub not-refused : (J : List LaneEvent) → IsLegal S J → (s : ClusterState) → IsLegalStep S J (event.Published s) → publish_fault (told S J) s ≡ room_fault (published_states J)
  not-refused J l s p = rw (older (newest_of (published_states J)) refl, (p.placed).0, (p.placed).1, out) refl
    where
      may : MayPublish S.acks (state_of (history (event.Published s ∷ J))) (history J) s.version (serves s)
      may = p.permitted

      older : (o : Option ClusterState) → newest_of (published_states J) ≡ o → older_fault o s ≡ None
      older None e = refl
      older (Some t) e = let x = may.newest t.version (newest-published J t e) in let z : leb s.version t.version ≡ false = grind (arith, nat_tests) in rw z refl

      out : out_fault (told S J) s ≡ None
      out = let same = counted-out J s (λ w q. let z = may.newest w q in omega arith) in let f = may.few in
          let z : leb S.acks (out_of (published_states J) s) ≡ false = rw same (not_le _ _ f) in rw z refl
        where
          not_le : (a b : ℕ) → b < a → leb a b ≡ false
          not_le a b h = grind (arith, nat_tests)
