-- A round that begins, and what is known of it then.
use Rattle.std.proofs.Common.{◌≡◌, ℕ, zero, suc, ◌+◌, ◌<◌, Bool, true, false, cond, List, [], ◌∷◌, take, Option, Some, None, is_some, inl, inr, ◌↔◌, refl, sym, ap, ◌∙◌, subst, subst₂, arith, eq-eqb}
use mathlib.Core.Bool.{true≢false}
use Rattle.std.specs.FinMap.{get-empty}
use Rattle.std.specs.Prelude.{slice_index_or}
use Rattle.bucket_ids.specs.Buckets.{Low}
use Rattle.node_sets.specs.Members.{has_node}
use Rattle.node_sets.proofs.Bits.{has_none}
use Rattle.cluster_states.specs.MarkTests.{is_up, counts}
use Rattle.cluster_states.specs.declared.marks.Mark.{Mark}
use Rattle.cluster_states.specs.declared.marks.Mark.TheVariants.{Up, Down, Retired}
use Rattle.cluster_states.specs.declared.cluster_state.ClusterState.{ClusterState}
use Rattle.cluster_states.specs.Publishing.{serves}
use Rattle.ideal_nodes.specs.Scores.{Has}
use Rattle.bucket_db.specs.declared.row.Row.{Row}
use Rattle.documents.specs.EntryCodes.{id_cmp}
use Rattle.messages.specs.declared.decision.Decision.TheVariants as choice
use Rattle.node_model.specs.Nodes.{Node}
use Rattle.distributor_part.specs.declared.rules.Rules.{Rules}
use Rattle.distributor_part.specs.Parts.{Part}
use Rattle.distributor_part.specs.Targets as targets
use Rattle.merge_rounds.specs.Rounds.{RoundState, new_round}
use Rattle.lane_journals.specs.Buckets.{same_bucket}
use Rattle.lane_journals.specs.Readers.{Journal, Given, is_read, held, asked, opened, active, rounds, round_of, running, answer}
use Rattle.lane_journals.specs.RowLists.{row_with, rows}
use Rattle.lane_journals.specs.Facts.{AnsweredApply, Idle}
use Rattle.lane_journals.specs.States.{state_of}
use Rattle.lane_journals.specs.Meanings.{history}
use Rattle.lane_journals.specs.Places.{Setting, IsTarget, state_in}
use Rattle.lane_journals.specs.KeptJournals.{IsLegal, IsLegalStep}
use Rattle.lane_journals.specs.declared.event.LaneEvent.{LaneEvent}
use Rattle.lane_journals.specs.declared.event.LaneEvent.TheVariants as event
use Rattle.lane_journals.proofs.BucketLaws.{same_bucket-refl, same_bucket-true, own-low}
use Rattle.lane_journals.proofs.Basics.{sent-member}
use Rattle.proof_basics.proofs.Lists.{contains-none}
use Rattle.lane_journals.proofs.Rows.{running-row}
use Rattle.lane_journals.proofs.Meant.{meant-legal, state-serves}
use Rattle.lane_journals.proofs.Marks.{active-complete, complete-took}
use Rattle.lane_keeping.proofs.Uniting.{union-begins}
use Rattle.lane_keeping.specs.LaneKeeping.{setting_of, Holds, part_in, Keeps}
use Rattle.lane_keeping.specs.Acting.{IsKnownRow}
use Rattle.lane_keeping.specs.RoundKeeping.{is_apply, origin_in, KnowsAnswersOf, KnowsRoundOf, KnowsRound}
use Rattle.round_keeping.specs.Laws.{IsBegun}
use Rattle.round_keeping.proofs.Sent.{among-none, answered-read, applied-sent, unsent-yet}

-- ---- no round before a state is opened

pub none-unopened : (S : Setting) (J : List LaneEvent) → IsLegal S J → (v : ℕ) → opened v (history J) ≡ false → (b : Low) → running v b (history J) ≡ false
none-unopened S J l v un b = by (running v b (history J)) refl
  where
    by : (t : Bool) → running v b (history J) ≡ t → t ≡ false
    by false e = refl
    by true e = let r = running-row S.acks (state_of (history J)) (history J) (meant-legal S J l) v b e in absurd (true≢false (sym r.opened ∙ un))

-- ---- the receivers

taken-has : (k n : ℕ) (xs : List ℕ) → Has n (take k xs) → Has n xs
taken-has zero n xs h = absurd h
taken-has (suc k) n [] h = absurd h
taken-has (suc k) n (x ∷ xs) (inl e) = inl e
taken-has (suc k) n (x ∷ xs) (inr h) = inr (taken-has k n xs h)

up-serves : (m : Mark) → is_up m ≡ true → counts true m ≡ true
up-serves Up h = refl
up-serves Down h = cc
up-serves Retired h = cc

module _ (S : Setting) (J : List LaneEvent) (l : IsLegal S J) (s : ClusterState) (at : state_in s.version J ≡ Some s) where
  active-serves : (key n : ℕ) → active s.version key (history J) ≡ Some n → serves s n ≡ true
  active-serves key n h =
      let P = state_of (history J) in
      let legal = meant-legal S J l in
      let t = (complete-took S.acks P (history J) legal s.version n key (active-complete S.acks P (history J) legal s.version key n h)).took in
      sym (state-serves S J l s.version n s at) ∙ subst₂ (λ (x y : ℕ). P x y ≡ true) t.version t.receiver (sent-member S.acks P (history J) legal t.number t.message t.was_sent)

  module _ (row : Row) (known : IsKnownRow s.version (history J) row) where
    low-active : active s.version (row.bucket).low (history J) ≡ row.active
    low-active = known.active_is (row.bucket).low (own-low row.bucket (known.is_row).fits)

    -- the targets of the part are those that the journal says
    target-is : (n : ℕ) → targets.IsTarget S.redundancy s row.bucket row.active n → IsTarget S J s.version row.bucket n
    target-is n (inl a) = inl (record { state = s; published = at; ideal = a.ideal; is_ideal = a.is_ideal; among = a.among })
    target-is n (inr e) = inr (λ key h. known.active_is key h ∙ e)

    is-target : (n : ℕ) → IsTarget S J s.version row.bucket n → targets.IsTarget S.redundancy s row.bucket row.active n
    is-target n (inl a) = let same : a.state ≡ s = (let x = a.published in let both = sym x ∙ at in cc) in
        inl (subst (λ (x : ClusterState). targets.IsAmongFirst S.redundancy x row.bucket n) same (record { ideal = a.ideal; is_ideal = a.is_ideal; among = a.among }))
    is-target n (inr f) = inr (sym low-active ∙ f (row.bucket).low (own-low row.bucket (known.is_row).fits))

    target-serves : (n : ℕ) → targets.IsTarget S.redundancy s row.bucket row.active n → serves s n ≡ true
    target-serves n (inl a) = up-serves (slice_index_or s.nodes n Down) (((a.is_ideal).members n).1 (taken-has S.redundancy n a.ideal a.among))
    target-serves n (inr e) = active-serves (row.bucket).low n (low-active ∙ e)

-- ---- the round

module _ (lane : Low) (rules : Rules) (J : List LaneEvent) (newest : Option ClusterState) (last : ℕ) (nodes : List Node) (parts : List Part) (keep : Keeps lane rules J newest last nodes parts)
    (d : ℕ) (s : ClusterState) (q : Part) (at : ℕ) (bucket : Low) (receivers : ℕ) (b : IsBegun lane rules J parts d s q at bucket receivers) where
  abbrev S : Setting
  S = setting_of lane rules

  abbrev p : Part
  p = part_in lane rules parts d

  abbrev H : Journal
  H = history J

  abbrev v : ℕ
  v = s.version

  abbrev row : Row
  row = (b.begins).row

  abbrev HoldsAt : Option ClusterState → Type 0
  HoldsAt o = Holds lane d (held d H) (λ w. state_in w J) (λ w n. asked w n H) (λ w. opened w H) (λ w k. row_with k (rows w H)) o p

  same-state : (b.begins).state ≡ s
  same-state =
      let h = subst HoldsAt ((b.begins).opened).heard ((keep.parts_are d).heard) in
      let vs : ((b.begins).state).version ≡ v = (let x = h.0 in let y = (b.acting).holds in let both = sym x ∙ y in cc) in
      let one = subst (λ (w : ℕ). state_in w J ≡ Some (b.begins).state) vs h.1 in
      let two = (b.acting).published in
      let both = sym one ∙ two in cc

  targets-are : (n : ℕ) → (has_node receivers n ≡ true) ↔ targets.IsTarget rules.redundancy s row.bucket row.active n
  targets-are = subst (λ (x : ClusterState). targets.AreTargets rules.redundancy x row.bucket row.active receivers) same-state
      (subst (λ (x : Rules). targets.AreTargets x.redundancy (b.begins).state row.bucket row.active receivers) (keep.parts_are d).rules_are (b.begins).targets)

  pub legal : IsLegalStep S J (event.Decided d v (choice.RoundBegun bucket receivers))
  legal = subst (λ (c : Low). IsLegalStep S J (event.Decided d v (choice.RoundBegun c receivers))) (sym (b.begins).same_bucket) (record {
    noted = tt;
    permitted = ((b.acting).holds, record { row = (b.known).is_row; no_round = b.no_round row.bucket; idle = subst (λ (c : Low). Idle v c H) (b.begins).same_bucket b.idle });
    placed = (
      record { state = s; published = (b.acting).published; owner = (b.acting).owner },
      λ n. (λ h. target-is S J keep.legal s (b.acting).published row b.known n ((targets-are n).0 h), λ t. (targets-are n).1 (is-target S J keep.legal s (b.acting).published row b.known n t)),
    );
    ended = tt;
  })

  -- ---- what is known then

  abbrev K : List LaneEvent
  K = event.Decided d v (choice.RoundBegun bucket receivers) ∷ J

  abbrev number : ℕ
  number = rounds v H + 1

  number-is : round_of v bucket (history K) ≡ number
  number-is = rw (eq-eqb v v refl, same_bucket-refl bucket) refl

  low : rounds v H < number
  low = omega arith

  unread : (n : ℕ) → answer v number n H ≡ None
  unread n = by (answer v number n H) refl
    where
      by : (o : Option Given) → answer v number n H ≡ o → o ≡ None
      by None e = refl
      by (Some g) e = absurd (true≢false (sym (answered-read v number n H g e) ∙ unsent-yet is_read v number n H low))

  no-apply : (n : ℕ) → AnsweredApply v number n bucket (history K) → ⊥
  no-apply n a = absurd (true≢false (sym (applied-sent v number n bucket a.union H (record { number = a.number; message = a.message; was_sent = a.was_sent; receiver = a.receiver; version = a.version; round = a.round; body = a.body })) ∙ unsent-yet is_apply v number n H low))

  module _ (readers : ℕ) (are : (n : ℕ) → has_node readers n ≡ serves s n) where
    abbrev r : RoundState
    r = new_round (origin_in lane d s) bucket readers receivers

    answers : KnowsAnswersOf number K s r
    answers = record {
      readers_are = are;
      receivers_are = rw (eq-eqb v v refl, same_bucket-refl bucket) refl;
      shown_are = λ n. sym (ap is_some (unread n));
      pieces_are = λ x h. absurd (contains-none x h);
      reading = λ n h. absurd (true≢false (sym h));
      union_is = union-begins v number (history K);
      written = λ id e h. let none = get-empty id_cmp id in let both = sym none ∙ h in cc;
      lies = λ id e h. let none = get-empty id_cmp id in let both = sym none ∙ h in cc;
      holders_are = λ n. (λ h. absurd (true≢false (sym h ∙ has_none n)), λ a. absurd (no-apply n a));
    }

    only : (c : Low) → running v c (history K) ≡ true → c ≡ bucket
    only c h = by (same_bucket bucket c) refl (sym (ap (λ (t : Bool). cond t (cond (same_bucket bucket c) true (running v c H)) (running v c H)) (eq-eqb v v refl)) ∙ h)
      where
        by : (t : Bool) → same_bucket bucket c ≡ t → cond t true (running v c H) ≡ true → c ≡ bucket
        by true e h = sym (same_bucket-true bucket c e)
        by false e h = absurd (true≢false (sym h ∙ b.no_round c))

    pub knows : KnowsRound lane K d s r
    knows = subst (λ (i : ℕ). KnowsRoundOf i lane K d s r) (sym number-is) (record {
      valid = b.valid;
      origin_is = refl;
      under_way = rw (eq-eqb v v refl, same_bucket-refl bucket) refl;
      only = only;
      reads_are = λ n. unsent-yet is_read v number n H low ∙ sym (among-none readers n);
      applies_are = λ n. unsent-yet is_apply v number n H low ∙ sym (among-none receivers n);
      order = λ h. absurd (omega arith);
      reading = λ n h e. cc;
      receivers_serve = λ n h. target-serves S J keep.legal s (b.acting).published row b.known n ((targets-are n).0 h);
      answers = answers;
    })
