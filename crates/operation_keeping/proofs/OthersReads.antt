-- What the machine of an operation was told stays what the journal shows over others' events.
use Rattle.std.proofs.Common.{◌≡◌, ◌↔◌, ℕ, Bool, true, false, cond, List, ◌∷◌, Option, Some, None, inl, inr, refl, sym, ap, ◌∙◌, subst}
use Rattle.bucket_ids.specs.Buckets.{Low}
use Rattle.node_sets.specs.Members.{has_node}
use Rattle.stamps.specs.declared.stamp.Stamp.{Stamp}
use Rattle.cluster_states.specs.declared.cluster_state.ClusterState.{ClusterState}
use Rattle.documents.specs.declared.entry.Entry.{Entry}
use Rattle.messages.specs.declared.operation.Operation.{Operation}
use Rattle.distributor_part.specs.declared.rules.Rules.{Rules}
use Rattle.op_machine.specs.declared.plan.Plan.{Plan}
use Rattle.op_machine.specs.declared.machine.Standing.{Standing}
use Rattle.op_machine.specs.Outcomes.{answers_of}
use Rattle.lane_journals.specs.Buckets.{Id}
use Rattle.lane_journals.specs.Events.{Body, ReadDoc, Store, Returned}
use Rattle.lane_journals.specs.Readers as readers
use Rattle.lane_journals.specs.Readers.{Journal, Beginning, Preparing, sent, first_reply, before_line, answered_store, stored_by}
use Rattle.lane_journals.specs.Facts.{IsRow, IsOpen}
use Rattle.lane_journals.specs.Legal.{Legal}
use Rattle.lane_journals.specs.States.{state_of}
use Rattle.lane_journals.specs.Meanings.{history, meaning}
use Rattle.lane_journals.specs.Places.{Setting}
use Rattle.lane_journals.specs.KeptJournals.{IsLegal}
use Rattle.lane_journals.specs.declared.event.LaneEvent.{LaneEvent}
use Rattle.lane_journals.specs.declared.event.LaneEvent.TheVariants as event
use Rattle.lane_journals.proofs.Basics.{sent-cases, SentNow, began-stays, prepared-stays, opened-stays}
use Rattle.lane_journals.proofs.Kept.{stored_by-parts}
use Rattle.lane_journals.proofs.Meant.{meant-legal}
use Rattle.lane_journals.proofs.Rows.{open-row}
use Rattle.lane_keeping.specs.LaneKeeping.{setting_of}
use Rattle.operation_keeping.specs.OperationKeeping.{beginning_of, KnowsPlan, WasRead, WasStored, KnowsStanding}
use Rattle.operation_keeping.specs.Others.{IsNotAbout, IsAnothers}
use Rattle.operation_keeping.specs.Wants.{IsAtStanding}
use Rattle.operation_keeping.proofs.Waiting.{read-on, stored-on, through, reads-over, stores-over, entry-over}
use Rattle.operation_keeping.proofs.OthersLines.{prepared-passes, wrote-passes, closed-passes, before-passes, under_way-passes}
use Rattle.operation_keeping.proofs.OthersRows.{complete-falls, active-passes}

-- ---- messages about the document

pub not-read : (id : Id) (x : Body) → IsNotAbout id x → x ≡ ReadDoc id → ⊥
not-read id (ReadDoc i) off is = off (let same : i ≡ id = cc in same)
not-read id _ off is = cc

pub not-stored : (id : Id) (x : Body) (stamp : Stamp) → IsNotAbout id x → x ≡ Store id stamp → ⊥
not-stored id (Store i t) stamp off is = off (let same : i ≡ id = cc in same)
not-stored id _ stamp off is = cc

module _ (line : ℕ) (id : Id) (J : List LaneEvent) where
  -- none is sent
  pub none-sent : (e : LaneEvent) → IsAnothers line id J e → (k : ℕ) (m : readers.Message) → SentNow k (history J) (meaning J e) m → IsNotAbout id m.body
  none-sent (event.Sent n v d to body) off k m now = let is = now.is in subst (IsNotAbout id) (let same : _ ≡ m.body = cc in same) off
  none-sent _ off k m now = let is = now.is in absurd (cc)

  -- and none is returned
  pub none-back : (e : LaneEvent) → IsAnothers line id J e → (k : ℕ) (m : readers.Message) → meaning J e ≡ Returned k → sent k (history J) ≡ Some m → IsNotAbout id m.body
  none-back (event.Returned n) off k m is was_sent = off m (let same : n ≡ k = cc in subst (λ (i : ℕ). sent i (history J) ≡ Some m) (sym same) was_sent)
  none-back _ off k m is was_sent = absurd (cc)

  module _ (e : LaneEvent) (off : IsAnothers line id J e) (b : Beginning) (same : b.id ≡ id) where
    -- who was sent a Read, and who a Store
    pub read-passes : (awaited : Option ℕ) (n : ℕ) → WasRead (history J) awaited line b n ↔ WasRead (history (e ∷ J)) awaited line b n
    read-passes awaited n = (
      read-on (history J) (meaning J e) awaited line b n (before-passes line id J e off),
      λ w. record {
        number = w.number;
        other = w.other;
        message = w.message;
        was_sent = elim (sent-cases w.number (history J) (meaning J e) w.message w.was_sent) [
          | inl old ↦ old
          | inr now ↦ absurd (not-read id (w.message).body (none-sent e off w.number w.message now) (w.body ∙ ap ReadDoc same))
        ];
        later = sym (ap (λ (y : Journal). sent w.number y) (before-passes line id J e off)) ∙ w.later;
        receiver = w.receiver;
        version = w.version;
        body = w.body;
      },
    )

    pub stored-passes : (awaited : Option ℕ) (n : ℕ) → WasStored (history J) awaited b n ↔ WasStored (history (e ∷ J)) awaited b n
    stored-passes awaited n = (
      stored-on (history J) (meaning J e) awaited b n,
      λ w. record {
        stamp = w.stamp;
        stamped = w.stamped;
        number = w.number;
        other = w.other;
        message = w.message;
        was_sent = elim (sent-cases w.number (history J) (meaning J e) w.message w.was_sent) [
          | inl old ↦ old
          | inr now ↦ absurd (not-stored id (w.message).body w.stamp (none-sent e off w.number w.message now) (w.body ∙ ap (λ (i : Id). Store i w.stamp) same))
        ];
        receiver = w.receiver;
        version = w.version;
        body = w.body;
      },
    )

    -- who answered its Store
    pub answered-passes : (v n : ℕ) (stamp : Stamp) → answered_store v b.id stamp n (history (e ∷ J)) ≡ answered_store v b.id stamp n (history J)
    answered-passes v n stamp = by_event e off
      where
        by_event : (x : LaneEvent) → IsAnothers line id J x → answered_store v b.id stamp n (history (x ∷ J)) ≡ answered_store v b.id stamp n (history J)
        by_event (event.Returned k) o = by_test (stored_by v b.id stamp n (sent k (history J)) (first_reply k (history J))) refl
          where
            stored : (z : Option readers.Message) → sent k (history J) ≡ z → stored_by v b.id stamp n z (first_reply k (history J)) ≡ true → ⊥
            stored None was_sent h = cc
            stored (Some m) was_sent h = let y = stored_by-parts v b.id stamp n m (first_reply k (history J)) h in not-stored id m.body stamp (o m was_sent) (y.2 ∙ ap (λ (i : Id). Store i stamp) same)

            by_test : (t : Bool) → stored_by v b.id stamp n (sent k (history J)) (first_reply k (history J)) ≡ t → cond t true (answered_store v b.id stamp n (history J)) ≡ answered_store v b.id stamp n (history J)
            by_test true h = absurd (stored (sent k (history J)) refl h)
            by_test false h = refl
        by_event _ o = refl

-- ---- the operation that is prepared

module _ (lane : Low) (rules : Rules) (J : List LaneEvent) (e : LaneEvent) (legal : IsLegal (setting_of lane rules) (e ∷ J)) (d : ℕ) (s : ClusterState) (line : ℕ) where
  abbrev S : Setting
  S = setting_of lane rules

  abbrev P : ℕ → ℕ → Bool
  P = state_of (history (e ∷ J))

  lawful : Legal rules.acks P (history (e ∷ J))
  lawful = meant-legal S (e ∷ J) legal

  pub plan-passes : (row : Low) (p : Plan) → IsAnothers line p.operation.id J e → KnowsPlan lane rules (history J) d s line row p → KnowsPlan lane rules (history (e ∷ J)) d s line row p
  plan-passes row p off k = record {
    origin_is = k.origin_is;
    acks_are = k.acks_are;
    is_plan = k.is_plan;
    plain = k.plain;
    is_under_way = under_way-passes line p.operation.id J e off lane d s p.operation p.stamp k.is_under_way;
    prepared_as = prepared-passes line p.operation.id J e off ∙ k.prepared_as;
    fits = k.fits;
    opened_is = opened-stays s.version (history J) (meaning J e) k.opened_is;
    row_is = row_now.row;
    inside = k.inside;
    members = λ n key here c. k.members n key here (complete-falls rules.acks P (history J) (meaning J e) lawful s.version line b preparing was_open key here n c);
    active_is = λ key here. active-passes rules.acks P (history J) (meaning J e) lawful s.version line b preparing was_open key here ∙ k.active_is key here;
    serving = k.serving;
  }
    where
      b : Beginning
      b = beginning_of d s p.operation p.stamp

      preparing : Preparing
      preparing = record { row = row; recipients = λ n. has_node p.recipients n }

      was_open : IsOpen s.version line b preparing (history J)
      was_open = record { began = (k.is_under_way).begun_as; version = refl; prepared = k.prepared_as; unclosed = (k.is_under_way).unclosed }

      is_open : IsOpen s.version line b preparing (history (e ∷ J))
      is_open = record {
        began = began-stays line (history J) b (meaning J e) (k.is_under_way).begun_as;
        version = refl;
        prepared = prepared-stays line (history J) preparing (meaning J e) k.prepared_as;
        unclosed = closed-passes line p.operation.id J e off ∙ (k.is_under_way).unclosed;
      }

      row_now : IsRow s.version row (history (e ∷ J))
      row_now = open-row rules.acks P (history (e ∷ J)) lawful s.version line b preparing is_open

  -- what it was told, one message that is awaited aside
  pub standing-passes : (row : Low) (written : Option Entry) (awaited : Option ℕ) (t : Standing) → IsAnothers line t.plan.operation.id J e → KnowsStanding lane rules J d s line row written awaited t → KnowsStanding lane rules (e ∷ J) d s line row written awaited t
  standing-passes row written awaited t off k = record {
    plan = plan-passes row t.plan off k.plan;
    entry = entry-over J e line t written (wrote-passes line t.plan.operation.id J e off) k.entry;
    looking = k.looking;
    reads = reads-over rules.acks P J e lawful.0 line b same (λ i m is was_sent. not-read b.id m.body (none-back line b.id J e off i m is was_sent)) awaited awaited (answers_of t.reads)
        (λ n. through ((k.reads).told n) (read-passes line b.id J e off b refl awaited n)) k.reads;
    stores = stores-over rules.acks P (history J) (meaning J e) lawful.0 line b same (λ i m z is was_sent. not-stored b.id m.body z (none-back line b.id J e off i m is was_sent)) awaited awaited (answers_of t.stores)
        (λ n. through ((k.stores).told n) (stored-passes line b.id J e off b refl awaited n)) (λ n z. answered-passes line b.id J e off b refl b.version n z) k.stores;
  }
    where
      b : Beginning
      b = beginning_of d s t.plan.operation t.plan.stamp

      same : before_line line (history (e ∷ J)) ≡ before_line line (history J)
      same = before-passes line b.id J e off

  pub at-standing-passes : (o : Operation) (row : Low) (written : Option Entry) (t : Standing) → IsAnothers line o.id J e → IsAtStanding lane rules J line o d s row written t → IsAtStanding lane rules (e ∷ J) line o d s row written t
  at-standing-passes o row written t off k = record {
    knows = standing-passes row written None t (subst (λ (x : Operation). IsAnothers line x.id J e) (sym k.operation_is) off) k.knows;
    operation_is = k.operation_is;
  }
