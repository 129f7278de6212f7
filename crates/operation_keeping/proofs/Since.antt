-- Runs that began with an earlier journal, and those of a line.
use Rattle.std.proofs.Common.{◌≡◌, ◌↔◌, ℕ, List, ◌∷◌, Option, Some, None, inl, inr, refl, sym, ap, ◌∙◌, subst}
use Rattle.bucket_ids.specs.Buckets.{Low}
use Rattle.stamps.specs.declared.stamp.Stamp.{Stamp}
use Rattle.cluster_states.specs.declared.cluster_state.ClusterState.{ClusterState}
use Rattle.documents.specs.declared.entry.Entry.{Entry}
use Rattle.messages.specs.declared.body.Body.{Body}
use Rattle.messages.specs.declared.body.Body.TheVariants as body
use Rattle.messages.specs.declared.message.Message.{Message}
use Rattle.messages.specs.declared.operation.Operation.{Operation}
use Rattle.messages.specs.declared.outcome.Outcome.{Outcome}
use Rattle.messages.specs.declared.step.Step.{Step}
use Rattle.messages.specs.declared.step.Step.TheVariants as step
use Rattle.distributor_part.specs.declared.rules.Rules.{Rules}
use Rattle.distributor_part.specs.Parts.{Part}
use Rattle.bucket_db.specs.declared.row.Row.{Row}
use Rattle.merge_rounds.specs.Rounds.{RoundState}
use Rattle.op_machine.specs.Outcomes.{Next, Asks, Finishes}
use Rattle.lane_journals.specs.Buckets.{key_of}
use Rattle.lane_journals.specs.Readers as readers
use Rattle.lane_journals.specs.Readers.{Journal, Beginning, Preparing, began, prepared, closed, before_line, sent, round_of, stamps_of}
use Rattle.lane_journals.specs.Meanings.{history, meaning}
use Rattle.lane_journals.specs.declared.event.LaneEvent.{LaneEvent}
use Rattle.lane_journals.specs.declared.event.LaneEvent.TheVariants as event
use Rattle.lane_journals.proofs.Basics.{sent-stays, prepared-stays}
use Rattle.lane_journals.proofs.Beginnings.{before-now}
use Rattle.operation_keeping.specs.OperationKeeping.{WasShortSince}
use Rattle.operation_keeping.specs.Wants.{Want, Adds, Ends, EndsUnless, WasAskedSince, OpeningGives, RoundGives, AfterRound, BodyGives, NextGives, UnpreparedWants, WantsSince, Wants, IsCarriage, IsRun, Same, More, IsEnd, IsCutRun, IsCarriageSince, IsWantedSince, IsRunSince, Still, Longer, IsEndSince, IsCutRunSince}
use Rattle.operation_keeping.proofs.Plain.{none-some}

-- ---- another start, from which nothing looks different

-- the same was sent and begun
pub record SameStart (from to : Journal) : Type 0 where
  pub sents : (k : ℕ) → sent k to ≡ sent k from
  pub rounds : (v : ℕ) (b : Low) → round_of v b to ≡ round_of v b from

pub start-back : (from to : Journal) → SameStart from to → SameStart to from
start-back from to s = record { sents = λ k. sym (s.sents k); rounds = λ v b. sym (s.rounds v b) }

asked-from : (from to H : Journal) (v n : ℕ) → SameStart from to → WasAskedSince from H v n → WasAskedSince to H v n
asked-from from to H v n s w = record { number = w.number; message = w.message; was_sent = w.was_sent; later = s.sents w.number ∙ w.later; version = w.version; receiver = w.receiver; body = w.body }

short-from : (from to H : Journal) (test : readers.Message → Type 0) → SameStart from to → WasShortSince from H test → WasShortSince to H test
short-from from to H test s w = record { number = w.number; message = w.message; was_sent = w.was_sent; later = s.sents w.number ∙ w.later; tested = w.tested; reply = w.reply; back = w.back }

unless-from : (A B : Type 0) → A ↔ B → (x : Outcome) (want : Want) → EndsUnless A x want → EndsUnless B x want
unless-from A B same x (Adds e) h = h
unless-from A B same x (Ends y) (inl h) = inl (same.0 h.0, h.1)
unless-from A B same x (Ends y) (inr h) = inr ((λ b. h.0 (same.1 b)), h.1)

module _ (lane : Low) (rules : Rules) (line : ℕ) (o : Operation) where
  module _ (from to : Journal) (s : SameStart from to) (J : List LaneEvent) where
    shorts : (test : readers.Message → Type 0) → WasShortSince from (history J) test ↔ WasShortSince to (history J) test
    shorts test = (short-from from to (history J) test s, short-from to from (history J) test (start-back from to s))

    gives-from : (d : ℕ) (c : ClusterState) (p : Part) (x : Step) (want : Want) → OpeningGives J from d c p x want → OpeningGives J to d c p x want
    gives-from d c p (step.Send m) (Adds e) g = g
    gives-from d c p (step.Send m) (Ends x) g = g
    gives-from d c p (step.Open buckets) (Adds e) g = g
    gives-from d c p (step.Open buckets) (Ends x) g = g
    gives-from d c p (step.Decide x) want g = g
    gives-from d c p (step.Finished missing) want g = unless-from _ _ (shorts _) _ want g

    after-from : (c : ClusterState) (row : Row) (r : RoundState) (want : Want) → AfterRound rules J from c row r want → AfterRound rules J to c row r want
    after-from c row r want (inl g) = inl (g.0, unless-from _ _ (shorts _) _ want g.1)
    after-from c row r want (inr g) = inr (g.0, unless-from _ _ (shorts _) _ want g.1)

    unprepared-from : (key d : ℕ) (c : ClusterState) (want : Want) → UnpreparedWants lane rules J line from key d c want → UnpreparedWants lane rules J line to key d c want
    unprepared-from key d c want (inl w) = inl (record {
      part = w.part;
      after = w.after;
      step = w.step;
      keeps = w.keeps;
      heard = w.heard;
      unopened = w.unopened;
      no_round = w.no_round;
      asked = λ n. ((λ h. asked-from from to (history J) c.version n s ((w.asked n).0 h)), λ a. (w.asked n).1 (asked-from to from (history J) c.version n (start-back from to s) a));
      is_step = w.is_step;
      gives = gives-from d c w.part w.step want w.gives;
    })
    unprepared-from key d c want (inr (inl w)) = inr (inl (record {
      row = w.row;
      has_row = w.has_row;
      none = w.none ∙ sym (s.rounds c.version (w.row).bucket);
      part = w.part;
      after = w.after;
      receivers = w.receivers;
      keeps = w.keeps;
      is_step = w.is_step;
      is = w.is;
    }))
    unprepared-from key d c want (inr (inr (inl w))) = inr (inr (inl w))
    unprepared-from key d c want (inr (inr (inr (inl w)))) = inr (inr (inr (inl w)))
    unprepared-from key d c want (inr (inr (inr (inr w)))) = inr (inr (inr (inr (record {
      row = w.row;
      has_row = w.has_row;
      few = w.few;
      round = w.round;
      same_row = w.same_row;
      since = λ none. w.since (none ∙ s.rounds c.version (w.row).bucket);
      knows = w.knows;
      gives = after-from c w.row w.round want w.gives;
    }))))

    pub wants-from : (want : Want) → WantsSince lane rules line o from J want → WantsSince lane rules line o to J want
    wants-from want w = record {
      distributor = w.distributor;
      state = w.state;
      stamp = w.stamp;
      acting = w.acting;
      under_way = w.under_way;
      wants = elim w.wants [ inl u ↦ inl (u.0, unprepared-from (key_of o.id) w.distributor w.state want u.1) | inr x ↦ inr x ];
    }

  -- ---- what a run adds

  -- no event of a state or of a node, and none that begins, refuses or closes a line
  abbrev IsOfRun : LaneEvent → Type 0
  IsOfRun (event.Published state) = ⊥
  IsOfRun (event.Heard d v) = ⊥
  IsOfRun (event.Begun l d v id stamp) = ⊥
  IsOfRun (event.Refused l d outcome) = ⊥
  IsOfRun (event.Closed l outcome) = ⊥
  IsOfRun (event.Stopped n) = ⊥
  IsOfRun (event.Started n) = ⊥
  IsOfRun _ = Unit {0}

  module _ (from : Journal) (K : List LaneEvent) (e : LaneEvent) where
    same-event : (x : LaneEvent) → Adds e ≡ Adds x → x ≡ e
    same-event x h = cc

    by_step : (d : ℕ) (s : ClusterState) (p : Part) (x : Step) → OpeningGives K from d s p x (Adds e) → IsOfRun e
    by_step d s p (step.Send m) g = subst IsOfRun (sym g.1) tt
    by_step d s p (step.Open buckets) g = subst IsOfRun (sym g) tt
    by_step d s p (step.Decide x) g = absurd g
    by_step d s p (step.Finished missing) g = absurd g

    by_round : (d : ℕ) (s : ClusterState) (r : RoundState) (x : Option Message) → RoundGives d s r x (Adds e) → IsOfRun e
    by_round d s r (Some m) g = subst IsOfRun (sym g.1) tt
    by_round d s r None g = subst IsOfRun (sym g) tt

    by_unprepared : (d : ℕ) (s : ClusterState) → UnpreparedWants lane rules K line from (key_of o.id) d s (Adds e) → IsOfRun e
    by_unprepared d s (inl x) = by_step d s x.part x.step x.gives
    by_unprepared d s (inr (inl x)) = subst IsOfRun (same-event _ x.is) tt
    by_unprepared d s (inr (inr (inl x))) = by_round d s x.round x.next x.gives
    by_unprepared d s (inr (inr (inr (inl x)))) = subst IsOfRun (same-event _ x.is) tt
    by_unprepared d s (inr (inr (inr (inr x)))) = elim x.gives [ inl a ↦ absurd a.1 | inr a ↦ absurd a.1 ]

    by_body : (w : Option Entry) (m : Message) (b : Body) → BodyGives line w m b e → IsOfRun e
    by_body (Some w) m b g = subst IsOfRun (sym g.1) tt
    by_body None m (body.Store w) g = subst IsOfRun (sym g) tt
    by_body None m body.Ask g = subst IsOfRun (sym g.1) tt
    by_body None m (body.Read b only) g = subst IsOfRun (sym g.1) tt
    by_body None m (body.Apply b u) g = subst IsOfRun (sym g.1) tt
    by_body None m (body.Delete b s) g = subst IsOfRun (sym g.1) tt
    by_body None m (body.Split b) g = subst IsOfRun (sym g.1) tt
    by_body None m (body.Join b) g = subst IsOfRun (sym g.1) tt
    by_body None m (body.Ready b) g = subst IsOfRun (sym g.1) tt
    by_body None m (body.Activate b) g = subst IsOfRun (sym g.1) tt

    by_next : (w : Option Entry) (x : Next) → NextGives line w x (Adds e) → IsOfRun e
    by_next w (Asks m) g = by_body w m m.body g
    by_next w (Finishes x) g = absurd g

    carriage-kind : IsCarriageSince from e → IsOfRun e
    carriage-kind c = by_event e c
      where
        by_event : (x : LaneEvent) → IsCarriageSince from x → IsOfRun x
        by_event (event.Delivered k r) h = tt
        by_event (event.Returned k) h = tt
        by_event _ h = absurd h

    wanted-kind : IsWantedSince lane rules line o from e K → IsOfRun e
    wanted-kind w = elim w [
      | inl c ↦ carriage-kind c
      | inr x ↦ elim x.wants [ inl u ↦ by_unprepared x.distributor x.state u.1 | inr y ↦ by_next y.written _ y.gives ]
    ]

  -- ---- what a run leaves

  began-one : (e : LaneEvent) (K : List LaneEvent) → IsOfRun e → (l : ℕ) → began l (history (e ∷ K)) ≡ began l (history K)
  began-one (event.Begun l d v id stamp) K of k = absurd of
  began-one _ K of k = refl

  closed-one : (e : LaneEvent) (K : List LaneEvent) → IsOfRun e → (l : ℕ) → closed l (history (e ∷ K)) ≡ closed l (history K)
  closed-one (event.Closed l outcome) K of k = absurd of
  closed-one _ K of k = refl

  before-one : (e : LaneEvent) (K : List LaneEvent) → IsOfRun e → (l : ℕ) → before_line l (history (e ∷ K)) ≡ before_line l (history K)
  before-one (event.Begun l d v id stamp) K of k = absurd of
  before-one _ K of k = refl

  stamps-one : (e : LaneEvent) (K : List LaneEvent) → IsOfRun e → (v : ℕ) → stamps_of v (history (e ∷ K)) ≡ stamps_of v (history K)
  stamps-one (event.Begun l d w id stamp) K of v = absurd of
  stamps-one _ K of v = refl

  module _ (from : Journal) (J : List LaneEvent) where
    pub run-begins : (K : List LaneEvent) → IsRunSince lane rules line o from J K → (l : ℕ) → began l (history K) ≡ began l (history J)
    run-begins K Still l = refl
    run-begins K (Longer e L run w) l = began-one e L (wanted-kind from L e w) l ∙ run-begins L run l

    pub run-closes : (K : List LaneEvent) → IsRunSince lane rules line o from J K → (l : ℕ) → closed l (history K) ≡ closed l (history J)
    run-closes K Still l = refl
    run-closes K (Longer e L run w) l = closed-one e L (wanted-kind from L e w) l ∙ run-closes L run l

    pub run-before : (K : List LaneEvent) → IsRunSince lane rules line o from J K → (l : ℕ) → before_line l (history K) ≡ before_line l (history J)
    run-before K Still l = refl
    run-before K (Longer e L run w) l = before-one e L (wanted-kind from L e w) l ∙ run-before L run l

    pub run-stamps : (K : List LaneEvent) → IsRunSince lane rules line o from J K → (v : ℕ) → stamps_of v (history K) ≡ stamps_of v (history J)
    run-stamps K Still v = refl
    run-stamps K (Longer e L run w) v = stamps-one e L (wanted-kind from L e w) v ∙ run-stamps L run v

    pub run-sent : (K : List LaneEvent) → IsRunSince lane rules line o from J K → (k : ℕ) (m : readers.Message) → sent k (history J) ≡ Some m → sent k (history K) ≡ Some m
    run-sent K Still k m h = h
    run-sent K (Longer e L run w) k m h = sent-stays k (history L) m (meaning L e) (run-sent L run k m h)

    pub run-prepared : (K : List LaneEvent) → IsRunSince lane rules line o from J K → (l : ℕ) (p : Preparing) → prepared l (history J) ≡ Some p → prepared l (history K) ≡ Some p
    run-prepared K Still l p h = h
    run-prepared K (Longer e L run w) l p h = prepared-stays l (history L) p (meaning L e) (run-prepared L run l p h)

    -- one that was cut off
    pub cut-begins : (K : List LaneEvent) → IsCutRunSince lane rules line o from J K → (l : ℕ) → began l (history K) ≡ began l (history J)
    cut-begins K c l = elim c.2 [
      | inl same ↦ ap (λ (M : List LaneEvent). began l (history M)) same ∙ run-begins c.0 c.1 l
      | inr cut ↦ ap (λ (M : List LaneEvent). began l (history M)) cut.ended ∙ run-begins c.0 c.1 l
    ]

    pub cut-closes : (K : List LaneEvent) → IsCutRunSince lane rules line o from J K → (l : ℕ) → closed l (history K) ≡ closed l (history J)
    cut-closes K c l = elim c.2 [
      | inl same ↦ ap (λ (M : List LaneEvent). closed l (history M)) same ∙ run-closes c.0 c.1 l
      | inr cut ↦ ap (λ (M : List LaneEvent). closed l (history M)) cut.ended ∙ run-closes c.0 c.1 l
    ]

    pub cut-stamps : (K : List LaneEvent) → IsCutRunSince lane rules line o from J K → (v : ℕ) → stamps_of v (history K) ≡ stamps_of v (history J)
    cut-stamps K c v = elim c.2 [
      | inl same ↦ ap (λ (M : List LaneEvent). stamps_of v (history M)) same ∙ run-stamps c.0 c.1 v
      | inr cut ↦ ap (λ (M : List LaneEvent). stamps_of v (history M)) cut.ended ∙ run-stamps c.0 c.1 v
    ]

  pub run-then : (from : Journal) (I J K : List LaneEvent) → IsRunSince lane rules line o from I J → IsRunSince lane rules line o from J K → IsRunSince lane rules line o from I K
  run-then from I J K a Still = a
  run-then from I J K a (Longer e L b w) = Longer e L (run-then from I J L a b) w

  -- ---- a run of the line

  module _ (J : List LaneEvent) (d v : ℕ) (stamp : Option Stamp) where
    abbrev first : List LaneEvent
    first = event.Begun line d v o.id stamp ∷ J

    -- nothing looks different from where the line began
    own-start : (K : List LaneEvent) → IsRunSince lane rules line o (history first) first K → SameStart (history first) (before_line line (history K))
    own-start K run = subst (SameStart (history first)) (sym (run-before (history first) first K run line ∙ before-now (history J) line d v o.id stamp)) (record { sents = λ k. refl; rounds = λ w b. refl })

    wants-own : (K : List LaneEvent) → IsRunSince lane rules line o (history first) first K → (want : Want) → WantsSince lane rules line o (history first) K want → Wants lane rules line o K want
    wants-own K run want w = wants-from (history first) (before_line line (history K)) (own-start K run) K want w

    carriage-own : (from : Journal) (e : LaneEvent) → IsCarriageSince from e → IsCarriage e
    carriage-own from (event.Delivered k r) c = tt
    carriage-own from (event.Returned k) c = tt
    carriage-own from _ c = absurd c

    pub run-of-search : (K : List LaneEvent) → IsRunSince lane rules line o (history first) first K → IsRun lane rules line o first K
    run-of-search K Still = Same
    run-of-search K (Longer e L run w) = More e L (run-of-search L run) (elim w [ inl c ↦ inl (carriage-own (history first) e c) | inr x ↦ inr (wants-own L run (Adds e) x) ])

    pub end-of-search : (K : List LaneEvent) (x : Outcome) → IsRunSince lane rules line o (history first) first K → IsEndSince lane rules line o (history first) K x → IsEnd lane rules line o K x
    end-of-search K x run w = wants-own K run (Ends x) w

    pub cut-of-search : (K : List LaneEvent) → IsCutRunSince lane rules line o (history first) first K → IsCutRun lane rules line o first K
    cut-of-search K c = (c.0, run-of-search c.0 c.1, c.2)

  -- ---- once the line is prepared, it doesn't matter where its search began

  module _ (from to : Journal) where
    wants-anew : (K : List LaneEvent) (p : Preparing) → prepared line (history K) ≡ Some p → (want : Want) → WantsSince lane rules line o from K want → WantsSince lane rules line o to K want
    wants-anew K p was want w = record {
      distributor = w.distributor;
      state = w.state;
      stamp = w.stamp;
      acting = w.acting;
      under_way = w.under_way;
      wants = elim w.wants [ inl u ↦ absurd (none-some p (sym u.0 ∙ was)) | inr x ↦ inr x ];
    }

    module _ (earlier : (k : ℕ) (m : readers.Message) → sent k to ≡ Some m → sent k from ≡ Some m) where
      carriage-anew : (e : LaneEvent) → IsCarriageSince from e → IsCarriageSince to e
      carriage-anew (event.Delivered k r) c = tt
      carriage-anew (event.Returned k) c = by_sent (sent k to) refl
        where
          by_sent : (x : Option readers.Message) → sent k to ≡ x → x ≡ None
          by_sent None h = refl
          by_sent (Some m) h = absurd (none-some m (sym c ∙ earlier k m h))
      carriage-anew _ c = absurd c

      module _ (J : List LaneEvent) (p : Preparing) (was : prepared line (history J) ≡ Some p) where
        pub run-anew : (K : List LaneEvent) → IsRunSince lane rules line o from J K → IsRunSince lane rules line o to J K
        run-anew K Still = Still
        run-anew K (Longer e L run w) = Longer e L (run-anew L run) (elim w [ inl c ↦ inl (carriage-anew e c) | inr x ↦ inr (wants-anew L p (run-prepared from J L run line p was) (Adds e) x) ])

        pub end-anew : (K : List LaneEvent) (x : Outcome) → IsRunSince lane rules line o from J K → IsEndSince lane rules line o from K x → IsEndSince lane rules line o to K x
        end-anew K x run w = wants-anew K p (run-prepared from J K run line p was) (Ends x) w

        pub cut-anew : (K : List LaneEvent) → IsCutRunSince lane rules line o from J K → IsCutRunSince lane rules line o to J K
        cut-anew K c = (c.0, run-anew c.0 c.1, c.2)
