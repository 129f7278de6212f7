-- What the operation of one line wants, and what carriers do with its messages, are others' events to each other line.
use Rattle.std.proofs.Common.{◌≡◌, ◌≢◌, ℕ, List, ◌∷◌, Option, Some, None, inl, inr, refl, sym, ap, ◌∙◌, subst}
use Rattle.bucket_ids.specs.Buckets.{Low}
use Rattle.cluster_states.specs.declared.cluster_state.ClusterState.{ClusterState}
use Rattle.documents.specs.declared.entry.Entry.{Entry}
use Rattle.messages.specs.Noting.{noted_body}
use Rattle.messages.specs.declared.body.Body.{Body}
use Rattle.messages.specs.declared.body.Body.TheVariants as body
use Rattle.messages.specs.declared.message.Message.{Message}
use Rattle.messages.specs.declared.operation.Operation.{Operation}
use Rattle.messages.specs.declared.step.Step.{Step}
use Rattle.messages.specs.declared.step.Step.TheVariants as step
use Rattle.distributor_part.specs.declared.rules.Rules.{Rules}
use Rattle.distributor_part.specs.Parts.{Part}
use Rattle.distributor_part.specs.Steps.{IsStep}
use Rattle.merge_rounds.specs.Rounds.{RoundState, IsNext}
use Rattle.op_machine.specs.declared.machine.Standing.{Standing}
use Rattle.op_machine.specs.declared.verdict.Verdict.TheVariants.{Writes}
use Rattle.op_machine.specs.Outcomes.{answers_of, read_body, Next, Asks, Finishes}
use Rattle.op_machine.specs.Standings.{next_at, due_entry}
use Rattle.lane_journals.specs.Buckets.{Id, key_of}
use Rattle.lane_journals.specs.Readers as readers
use Rattle.lane_journals.specs.Readers.{sent}
use Rattle.lane_journals.specs.Meanings.{history, meaning, meaning_body, entry_at, id_at, id_in}
use Rattle.lane_journals.specs.declared.event.LaneEvent.{LaneEvent}
use Rattle.lane_journals.specs.declared.event.LaneEvent.TheVariants as event
use Rattle.lane_journals.proofs.Basics.{sent-cases}
use Rattle.lane_keeping.specs.Replaying.{sending}
use Rattle.operation_keeping.specs.OperationKeeping.{KnowsEntry}
use Rattle.operation_keeping.specs.Others.{IsNotAbout, IsAnothers, AreOthers, Same, More}
use Rattle.operation_keeping.specs.Wants.{Adds, OpeningGives, RoundGives, BodyGives, NextGives, UnpreparedWants, WantsSince, IsCarriageSince, IsRunSince, Still, Longer, IsCutRunSince}
use Rattle.operation_keeping.proofs.Plain.{some-same, none-some}
use Rattle.operation_keeping.proofs.Judged.{NextMessage, ARead, AStore, next-message, due-by, verdict-writes}
use Rattle.operation_keeping.proofs.OthersReads.{none-sent}

module _ (other : ℕ) (id : Id) (lane : Low) (rules : Rules) (line : ℕ) (o : Operation) (apart : line ≢ other) (off : o.id ≢ id) where
  -- ---- one event

  module _ (K : List LaneEvent) (e : LaneEvent) where
    abbrev Is : LaneEvent → Type 0
    Is x = IsAnothers other id K x

    same-event : (x : LaneEvent) → Adds e ≡ Adds x → x ≡ e
    same-event x h = cc

    -- a message is another's whose body is
    by_sending : (m : Message) → IsNotAbout id (meaning_body K (noted_body m.body)) → (number : ℕ) × (e ≡ sending number m) → Is e
    by_sending m not-about g = subst Is (sym g.1) not-about

    by_step : (from : readers.Journal) (d key : ℕ) (s : ClusterState) (p q : Part) (x : Step) → IsStep p key x q → OpeningGives K from d s p x (Adds e) → Is e
    by_step from d key s p q (step.Send m) i g = by_sending m (subst (λ (y : Message). IsNotAbout id (meaning_body K (noted_body y.body))) (sym i.message) tt) g
    by_step from d key s p q (step.Open buckets) i g = subst Is (sym g) tt
    by_step from d key s p q (step.Decide x) i g = absurd g
    by_step from d key s p q (step.Finished missing) i g = absurd g

    by_round : (d : ℕ) (s : ClusterState) (r : RoundState) (x : Option Message) → IsNext r x → RoundGives d s r x (Adds e) → Is e
    by_round d s r (Some m) (inl read) g = by_sending m (subst (λ (y : Message). IsNotAbout id (meaning_body K (noted_body y.body))) (sym read.is) tt) g
    by_round d s r (Some m) (inr apply) g = by_sending m (subst (λ (y : Message). IsNotAbout id (meaning_body K (noted_body y.body))) (sym apply.is) tt) g
    by_round d s r None n g = subst Is (sym g) tt

    by_unprepared : (from : readers.Journal) (d : ℕ) (s : ClusterState) → UnpreparedWants lane rules K line from (key_of o.id) d s (Adds e) → Is e
    by_unprepared from d s (inl x) = by_step from d (key_of o.id) s x.part x.after x.step x.is_step x.gives
    by_unprepared from d s (inr (inl x)) = subst Is (same-event _ x.is) tt
    by_unprepared from d s (inr (inr (inl x))) = by_round d s x.round x.next x.is_next x.gives
    by_unprepared from d s (inr (inr (inr (inl x)))) = subst Is (same-event _ x.is) apart
    by_unprepared from d s (inr (inr (inr (inr x)))) = elim x.gives [ inl a ↦ absurd a.1 | inr a ↦ absurd a.1 ]

    -- a Read is of the line's own document, and a Store of the entry that it wrote
    module _ (t : Standing) (written : Option Entry) (own : t.plan.operation ≡ o) (entry : KnowsEntry K line t written) where
      own-id : t.plan.operation.id ≡ o.id
      own-id = ap (λ (x : Operation). x.id) own

      abbrev IsOff : Body → Type 0
      IsOff b = IsNotAbout id (meaning_body K (noted_body b))

      read : IsOff (read_body t.plan.operation.id)
      read = λ same. off (sym own-id ∙ same)

      stored : (y : Entry) → due_entry t.plan (answers_of t.reads) ≡ Some y → y.id ≡ t.plan.operation.id → (z : Entry) → KnowsEntry K line t (Some z) → IsOff (body.Store y)
      stored y due named z k =
          let at : entry_at y.stamp K ≡ Some y = subst (λ (x : Entry). entry_at x.stamp K ≡ Some x) (some-same z y (sym k.1 ∙ due)) k.2 in
          λ same. off (sym own-id ∙ sym named ∙ sym (ap (λ (x : Option Entry). id_at (id_in x)) at) ∙ same)

      by_body : (w : Option Entry) (m : Message) → KnowsEntry K line t w → NextMessage t m → BodyGives line w m m.body e → Is e
      by_body (Some z) m k (ARead n r is) g = by_sending m (subst IsOff (sym (ap (λ (x : Message). x.body) is)) read) g
      by_body (Some z) m k (AStore n y over v first is) g =
          by_sending m (subst IsOff (sym (ap (λ (x : Message). x.body) is)) (stored y (due-by t.plan (answers_of t.reads) (Writes y) over v) (verdict-writes t.plan (answers_of t.reads) y v).1 z k)) g
      by_body None m k (ARead n r is) g =
          by_sending m (subst IsOff (sym (ap (λ (x : Message). x.body) is)) read) (subst (λ (b : Body). BodyGives line None m b e) (ap (λ (x : Message). x.body) is) g)
      by_body None m k (AStore n y over v first is) g = subst Is (sym (subst (λ (b : Body). BodyGives line None m b e) (ap (λ (x : Message). x.body) is) g)) apart

      by_next : (x : Next) → next_at t ≡ x → NextGives line written x (Adds e) → Is e
      by_next (Asks m) is g = by_body written m entry (next-message t m is) g
      by_next (Finishes x) is g = absurd g

    pub wanted-another : (from : readers.Journal) → WantsSince lane rules line o from K (Adds e) → Is e
    wanted-another from w = elim w.wants [
      | inl u ↦ by_unprepared from w.distributor w.state u.1
      | inr x ↦ by_next x.standing x.written (x.stands).operation_is ((x.stands).knows).entry (next_at x.standing) refl x.gives
    ]

  -- ---- a run

  -- what was sent in it is about other documents
  record RunsOff (J K : List LaneEvent) : Type 0 where
    others : AreOthers other id J K
    sendings : (k : ℕ) (m : readers.Message) → sent k (history J) ≡ None → sent k (history K) ≡ Some m → IsNotAbout id m.body

  one-more : (J K : List LaneEvent) (e : LaneEvent) → IsAnothers other id K e → RunsOff J K → RunsOff J (e ∷ K)
  one-more J K e is r = record {
    others = More e K r.others is;
    sendings = λ k m none was_sent. elim (sent-cases k (history K) (meaning K e) m was_sent) [ inl old ↦ r.sendings k m none old | inr now ↦ none-sent other id K e is k m now ];
  }

  carried : (J K : List LaneEvent) (e : LaneEvent) → RunsOff J K → IsCarriageSince (history J) e → IsAnothers other id K e
  carried J K (event.Delivered k r) off c = tt
  carried J K (event.Returned k) off c = λ m was_sent. off.sendings k m c was_sent
  carried J K _ off c = absurd c

  runs-off : (J K : List LaneEvent) → IsRunSince lane rules line o (history J) J K → RunsOff J K
  runs-off J K Still = record { others = Same; sendings = λ k m none was_sent. absurd (none-some m (sym none ∙ was_sent)) }
  runs-off J K (Longer e L run w) = let r = runs-off J L run in one-more J L e (elim w [ inl c ↦ carried J L e r c | inr x ↦ wanted-another L e (history J) x ]) r

  pub run-others : (J K : List LaneEvent) → IsRunSince lane rules line o (history J) J K → AreOthers other id J K
  run-others J K run = (runs-off J K run).others

  -- one that was cut off
  pub cut-others : (J K : List LaneEvent) → IsCutRunSince lane rules line o (history J) J K → AreOthers other id J K
  cut-others J K c = elim c.2 [
    | inl same ↦ subst (λ (L : List LaneEvent). AreOthers other id J L) (sym same) (run-others J c.0 c.1)
    | inr cut ↦ subst (λ (L : List LaneEvent). AreOthers other id J L) (sym cut.ended) (More _ c.0 (run-others J c.0 c.1) tt)
  ]
