-- The settings of a lane can be kept.
use Rattle.std.proofs.Common.{◌≡◌, ◌==◌, ◌&&◌, ◌+◌, ◌<◌, ◌≤◌, ℕ, Bool, true, false, cond, nat_lt, List, [], ◌∷◌, length, take, slice_index_or, Option, Some, None, inl, inr, ◌⊎◌, refl, sym, ap, ap₂, ◌∙◌, subst, arith}
use Rattle.std.proofs.lemmas.Bool.Decides.{nat_tests}
use mathlib.Core.Bool.{true≢false}
use Rattle.bucket_ids.specs.Buckets.{Low, IsBucket, has_key, first_child, second_child}
use Rattle.bucket_db.proofs.Inside.{halves}
use Rattle.cluster_states.specs.declared.cluster_state.ClusterState.{ClusterState}
use Rattle.cluster_states.specs.declared.marks.Mark.{Mark}
use Rattle.cluster_states.specs.declared.marks.Mark.TheVariants.{Up, Down, Retired}
use Rattle.cluster_states.specs.MarkTests.{is_up, counts}
use Rattle.cluster_states.specs.Publishing.{serves, up_of, up_fault}
use Rattle.documents.specs.declared.entry.Entry.{Entry}
use Rattle.ideal_nodes.specs.Placement.{IsIdeal}
use Rattle.ideal_nodes.specs.Scores.{Has, IsRanked}
use Rattle.ideal_nodes.proofs.Orders.{IsOrder, precedes_are_order}
use Rattle.lane_journals.specs.Sets.{count, count_below}
use Rattle.lane_journals.proofs.Counts.{count_below-subset}
use Rattle.lane_journals.specs.Buckets.{key_of}
use Rattle.lane_journals.specs.Events.{Content}
use Rattle.lane_journals.specs.Places.{Setting, state_in}
use Rattle.lane_journals.specs.KeptJournals.{IsLegal, IsLegalStep}
use Rattle.lane_journals.specs.declared.event.LaneEvent.{LaneEvent}
use Rattle.lane_journals.specs.declared.event.LaneEvent.TheVariants.{Published, Wrote}
use Rattle.lane_journals.proofs.Basics.{or_else-cases, only_if-some}
use Rattle.lane_journals.specs.Readers.{or_else, only_if}
use Rattle.lane_rest.specs.Rest.{counts_in, documents}
use Rattle.pass_model.specs.Rows.{Settings, is_first}
use Rattle.pass_model.specs.Resting.{AreSettings}
use Rattle.lane_rest.specs.Targets.{is_member}
use Rattle.pass_model.specs.Worlds.{AreSettingsOf}
use Rattle.pass_model.specs.Found.{settings_of}
use Rattle.pass_model.proofs.Counting.{has-member, member-has, IsDistinct, members-count, members-most, take-has, take-distinct, take-long, up-count}

-- ---- the state was published

published-at : (S : Setting) (v : ℕ) (s : ClusterState) (J : List LaneEvent) → IsLegal S J → state_in v J ≡ Some s → (K : List LaneEvent) × IsLegalStep S K (Published s)
published-at S v s [] l e = cc
published-at S v s (Published t ∷ J) l e = by_case (or_else-cases (state_in v J) _ s e) (λ old. published-at S v s J l.0 old)
  where
    by_case : (state_in v J ≡ Some s) ⊎ ((state_in v J ≡ None) × (only_if (t.version == v) t ≡ Some s)) → (state_in v J ≡ Some s → (K : List LaneEvent) × IsLegalStep S K (Published s)) → (K : List LaneEvent) × IsLegalStep S K (Published s)
    by_case (inl old) ih = ih old
    by_case (inr new) ih = (J, subst (λ (x : ClusterState). IsLegalStep S J (Published x)) (only_if-some (t.version == v) t s new.1).1 l.1)
published-at S v s (_ ∷ J) l e = published-at S v s J l.0 e

enough-up : {A : Type 0} (acks up : ℕ) (x : A) → cond (nat_lt up acks) (Some x) None ≡ None → acks ≤ up
enough-up acks up x e = by_test (nat_lt up acks) refl e
  where
    by_test : (t : Bool) → nat_lt up acks ≡ t → cond t (Some x) None ≡ None → acks ≤ up
    by_test true f g = cc
    by_test false f g = grind (arith, nat_tests)

up-serves : (m : Mark) → is_up m ≡ true → counts true m ≡ true
up-serves Up e = refl
up-serves Down e = e
up-serves Retired e = refl

-- ---- ideal orders

ranked-distinct : (before : ℕ → ℕ → Type 0) → IsOrder before → (ns : List ℕ) → IsRanked before ns → IsDistinct ns
ranked-distinct before o [] h = tt
ranked-distinct before o (n ∷ ns) h = (λ i. o.never n (h.0 n i), ranked-distinct before o ns h.1)

-- ---- documents of halves

and-true : (p : Bool) → (p && true) ≡ p
and-true true = refl
and-true false = refl

and-false : (p : Bool) → (p && false) ≡ false
and-false true = refl
and-false false = refl

both-halves : (p q r t : Bool) → cond p 1 0 + cond q 1 0 ≡ cond r 1 0 → cond (p && t) 1 0 + cond (q && t) 1 0 ≡ cond (r && t) 1 0
both-halves p q r true h = ap₂ (λ x y. cond x 1 0 + cond y 1 0) (and-true p) (and-true q) ∙ h ∙ sym (ap (λ x. cond x 1 0) (and-true r))
both-halves p q r false h = ap₂ (λ x y. cond x 1 0 + cond y 1 0) (and-false p) (and-false q) ∙ sym (ap (λ x. cond x 1 0) (and-false r))

one-half : (b : Low) → IsBucket b → (held : Content) (e : Entry) → cond (counts_in (first_child b) held e) 1 0 + cond (counts_in (second_child b) held e) 1 0 ≡ cond (counts_in b held e) 1 0
one-half b ok held e = both-halves (has_key (first_child b) (key_of e.id)) (has_key (second_child b) (key_of e.id)) (has_key b (key_of e.id)) _ (halves b ok (key_of e.id))

one-more : (x y z : Bool) (a b c : ℕ) → cond x 1 0 + cond y 1 0 ≡ cond z 1 0 → c ≡ a + b → cond z (c + 1) c ≡ cond x (a + 1) a + cond y (b + 1) b
one-more true true true a b c h e = absurd (omega (arith, h))
one-more true true false a b c h e = absurd (omega (arith, h))
one-more true false true a b c h e = omega (arith, e)
one-more true false false a b c h e = absurd (omega (arith, h))
one-more false true true a b c h e = omega (arith, e)
one-more false true false a b c h e = absurd (omega (arith, h))
one-more false false true a b c h e = absurd (omega (arith, h))
one-more false false false a b c h e = e

documents-halves : (held : Content) (b : Low) → IsBucket b → (J : List LaneEvent) → documents b held J ≡ documents (first_child b) held J + documents (second_child b) held J
documents-halves held b ok [] = omega arith
documents-halves held b ok (Wrote line e ∷ J) = one-more (counts_in (first_child b) held e) (counts_in (second_child b) held e) (counts_in b held e) _ _ _ (one-half b ok held e) (documents-halves held b ok J)
documents-halves held b ok (_ ∷ J) = documents-halves held b ok J

-- ---- the settings

head_or : List ℕ → ℕ
head_or [] = 0
head_or (n ∷ ns) = n

head-first : (ns : List ℕ) → 1 ≤ length ns → (rest : List ℕ) × (ns ≡ head_or ns ∷ rest)
unfolding head_or
head-first [] h = absurd (omega (arith, h))
head-first (n ∷ ns) h = (ns, refl)

module _ (S : Setting) (first most v : ℕ) (s : ClusterState) (J : List LaneEvent) (ideal : Low → List ℕ) (legal : IsLegal S J) (is : state_in v J ≡ Some s) (some : 1 ≤ S.acks) (enough : S.acks ≤ S.redundancy) (bits : 1 ≤ (S.lane).bits)
    (are_ideal : (b : Low) → IsIdeal b s (ideal b)) where
  step : (K : List LaneEvent) × IsLegalStep S K (Published s)
  step = published-at S v s J legal is

  few : (n : ℕ) → serves s n ≡ true → n < 32
  few n e = (step.1.permitted).small n e

  ups : S.acks ≤ up_of s
  ups = enough-up S.acks (up_of s) _ (step.1.placed).1

  up-few : (n : ℕ) → is_up (slice_index_or s.nodes n Down) ≡ true → n < 32
  up-few n e = few n (up-serves (slice_index_or s.nodes n Down) e)

  ideal-up : (b : Low) (n : ℕ) → Has n (ideal b) → is_up (slice_index_or s.nodes n Down) ≡ true
  ideal-up b n h = ((are_ideal b).members n).1 h

  long : (b : Low) → S.acks ≤ length (ideal b)
  long b =
      let a = ups in
      let u = up-count s.nodes 32 up-few in
      let m = count_below-subset (λ n. is_up (slice_index_or s.nodes n Down)) (is_member (ideal b)) 32 (λ n e. has-member (ideal b) n (((are_ideal b).members n).0 e)) in
      let l = members-most (ideal b) 32 in omega (arith, a, u, m, l)

  acks-first : (b : Low) → S.acks ≤ count (is_member (take S.redundancy (ideal b)))
  unfolding count
  acks-first b =
      let t = take-long S.acks S.redundancy (ideal b) enough (long b) in
      let c = members-count (take S.redundancy (ideal b)) 32 (take-distinct S.redundancy (ideal b) (ranked-distinct _ (precedes_are_order b s) (ideal b) (are_ideal b).ranked)) (λ n h. up-few n (ideal-up b n (take-has S.redundancy (ideal b) n h))) in
      omega (arith, t, c)

  pub sound : AreSettings (settings_of S first most s J ideal)
  sound = record {
    few = few;
    serving = λ b n e. up-serves (slice_index_or s.nodes n Down) (ideal-up b n (take-has S.redundancy (ideal b) n (member-has (take S.redundancy (ideal b)) n e)));
    best = λ b. head_or (ideal b);
    best_first = λ b. head-first (ideal b) (let l = long b in omega (arith, some, l));
    redundant = omega (arith, some, enough);
    some_bits = bits;
    enough = acks-first;
    halves = λ held b ok. documents-halves held b ok J;
  }

pub of-lane : (S : Setting) (first most : ℕ) (s : ClusterState) (J : List LaneEvent) (ideal : Low → List ℕ) → ((b : Low) → IsIdeal b s (ideal b)) → AreSettingsOf S first most s J (settings_of S first most s J ideal)
of-lane S first most s J ideal are = record {
  serving = λ n. refl;
  ideal = are;
  redundancy = refl;
  acks = refl;
  searchable = refl;
  split_at = refl;
  lane_bits = refl;
  documents = λ held b. refl;
}
