-- What comes next is written or sent.
use Rattle.std.proofs.Common.{◌≡◌, ℕ, ◌+◌, ◌<◌, ◌≤◌, Bool, true, false, cond, List, ◌∷◌, Option, Some, None, inr, refl, sym, ap, ◌∙◌, subst, arith, eq-eqb}
use Rattle.bucket_ids.specs.Buckets.{Low}
use Rattle.node_sets.specs.Members.{has_node}
use Rattle.cluster_states.specs.declared.cluster_state.ClusterState.{ClusterState}
use Rattle.documents.specs.declared.entry.Entry.{Entry}
use Rattle.messages.specs.Noting.{message_of, noted_body}
use Rattle.messages.specs.declared.body.Body.{Body}
use Rattle.messages.specs.declared.body.Body.TheVariants as body
use Rattle.messages.specs.declared.message.Message.{Message}
use Rattle.messages.specs.declared.message.Origin.{Origin}
use Rattle.distributor_part.specs.declared.rules.Rules.{Rules}
use Rattle.op_machine.specs.declared.plan.Plan.{Plan}
use Rattle.op_machine.specs.declared.machine.Standing.{Standing}
use Rattle.op_machine.specs.declared.verdict.Verdict.TheVariants.{Ends, Writes}
use Rattle.op_machine.specs.Nodes.{first_node}
use Rattle.op_machine.specs.Judging.{looks, judged}
use Rattle.op_machine.specs.Outcomes.{Answers, answers_of, waits, has_enough, too_few, read_verdict, verdict, reader, read_body, Asks}
use Rattle.op_machine.specs.Standings.{next_at, due_entry}
use Rattle.op_machine.proofs.NodeLaws.{first_node-least}
use Rattle.lane_journals.specs.Buckets.{Id}
use Rattle.lane_journals.specs.Readers as readers
use Rattle.lane_journals.specs.Readers.{Journal, Beginning, Preparing, sent, before_line, wrote}
use Rattle.lane_journals.specs.Facts.{WasAsked}
use Rattle.lane_journals.specs.Legal.{Belongs, MayCarry, MaySend, Legal}
use Rattle.lane_journals.specs.States.{state_of}
use Rattle.lane_journals.specs.Meanings.{history, meaning_body, entry_at}
use Rattle.lane_journals.specs.Places.{Setting, Owns, PlacedBody}
use Rattle.lane_journals.specs.KeptJournals.{IsLegal, IsLegalStep}
use Rattle.lane_journals.specs.declared.event.LaneEvent.{LaneEvent}
use Rattle.lane_journals.specs.declared.event.LaneEvent.TheVariants as event
use Rattle.lane_journals.proofs.Basics.{sent-stays}
use Rattle.lane_journals.proofs.Beginnings.{lasting}
use Rattle.lane_journals.proofs.Meant.{meant-legal, state-serves}
use Rattle.lane_keeping.specs.Flights.{meant, Brings, IsExact, IsWhole, IsInFlight}
use Rattle.lane_keeping.specs.Replaying.{sending}
use Rattle.lane_keeping.proofs.Words.{key-is}
use Rattle.lane_keeping.specs.LaneKeeping.{setting_of}
use Rattle.lane_keeping.specs.Acting.{IsActing}
use Rattle.operation_keeping.specs.OperationKeeping.{beginning_of, KnowsEntry, KnowsOperation, KnowsStanding, HasWritten}
use Rattle.operation_keeping.specs.Laws.{MayWriteNext, MayAskNext}
use Rattle.operation_keeping.proofs.Counting.{waits-parts}
use Rattle.operation_keeping.proofs.Judged.{NextMessage, ARead, AStore, next-message, due-written, verdict-writes}
use Rattle.operation_keeping.proofs.Ending.{enough-read}
use Rattle.operation_keeping.proofs.Waiting.{read-on, read-off, stored-on, stored-off, read-sent, stored-sent, through, reads-over, stores-over, entry-over}

-- the recipient that is to be read next, of an operation that looks
pub reader-parts : (p : Plan) (a : Answers) (n : ℕ) → reader p a ≡ Some n → (looks p.operation ≡ true) × (has_node p.recipients n ≡ true)
reader-parts p a n h = by_looks (looks p.operation) refl h
  where
    by_looks : (x : Bool) → looks p.operation ≡ x → cond x (first_node (waits p a)) None ≡ Some n → (x ≡ true) × (has_node p.recipients n ≡ true)
    by_looks true e h = (refl, (waits-parts p a n (first_node-least (waits p a) n h).here).0)
    by_looks false e h = absurd (cc)

module _ (lane : Low) (rules : Rules) (J : List LaneEvent) (d : ℕ) (s : ClusterState) (line : ℕ) (row : Low) (written : Option Entry) (t : Standing)
    (legal : IsLegal (setting_of lane rules) J) (know : KnowsOperation lane rules J d s line row written t) where
  abbrev S : Setting
  S = setting_of lane rules

  abbrev p : Plan
  p = t.plan

  abbrev a : Answers
  a = answers_of t.reads

  abbrev b : Beginning
  b = beginning_of d s p.operation p.stamp

  lawful : Legal rules.acks (state_of (history J)) (history J)
  lawful = meant-legal S J legal

  -- ---- the entry

  -- where it read enough answered
  asked-enough : (e : Entry) → verdict p a ≡ Writes e → looks p.operation ≡ true → has_enough p a ≡ true
  asked-enough e v look = by_enough (has_enough p a) refl (sym (ap (λ (x : Bool). cond x (read_verdict p a) (judged p.operation p.stamp None)) look) ∙ v)
    where
      by_enough : (x : Bool) → has_enough p a ≡ x → cond x (judged p.operation p.stamp a.seen) (Ends (too_few p a)) ≡ Writes e → x ≡ true
      by_enough true f h = refl
      by_enough false f h = absurd (cc)

  writes-step : (e : Entry) → wrote line (history J) ≡ false → verdict p a ≡ Writes e → IsLegalStep S J (event.Wrote line e)
  writes-step e unwritten v = let own = verdict-writes p a e v in let under_way = (know.plan).is_under_way in record {
    noted = record { begin = b; begun = under_way.begun_as; stamped = own.0; same_id = sym own.1 };
    permitted = record {
      begin = b;
      begun = under_way.begun_as;
      stamp = e.stamp;
      stamped = own.0;
      preparing = record { row = row; recipients = λ n. has_node p.recipients n };
      was_prepared = (know.plan).prepared_as;
      unwritten = unwritten;
      unclosed = under_way.unclosed;
      seen = λ w. enough-read lane rules J d s line row written t legal know (asked-enough e v (looked w));
    };
    placed = tt;
    ended = tt;
  }
    where
      looked : WasAsked line b (history J) → looks p.operation ≡ true
      looked w = know.looking (w.message).receiver (((know.reads).told (w.message).receiver).1 (record { number = w.number; other = tt; message = w.message; was_sent = w.was_sent; later = w.later; receiver = refl; version = w.version; body = w.body }))

  pub writes-next : ((k : ℕ) (e : Entry) → IsLegalStep S J (event.Wrote k e) → entry_at e.stamp (event.Wrote k e ∷ J) ≡ Some e) → (e : Entry) → written ≡ None → due_entry p a ≡ Some e → MayWriteNext lane rules J d s line row t e
  writes-next law e none due = record {
    legal = step;
    known = record {
      plan = know.plan;
      entry = (ap (λ (x : Bool). cond x true (wrote line (history J))) (eq-eqb line line refl), due, law line e step);
      looking = know.looking;
      reads = reads-over rules.acks (state_of (history J)) J (event.Wrote line e) lawful line b refl (λ i x is. cc) None None a
          (λ n. through ((know.reads).told n) (read-on (history J) _ None line b n refl, read-off (history J) _ None line b n refl (λ i. refl))) know.reads;
      stores = stores-over rules.acks (state_of (history J)) (history J) _ lawful line b refl (λ i x z is. cc) None None (answers_of t.stores)
          (λ n. through ((know.stores).told n) (stored-on (history J) _ None b n, stored-off (history J) _ None b n (λ i. refl))) (λ n z. refl) know.stores;
    };
  }
    where
      step : IsLegalStep S J (event.Wrote line e)
      step = writes-step e (subst (λ (w : Option Entry). KnowsEntry J line t w) none know.entry) (due-written p a e due).1

  -- ---- a message

  module _ (last : ℕ) (numbered : (k : ℕ) (m : readers.Message) → sent k (history J) ≡ Some m → k ≤ last) (acts : IsActing lane J d s)
      (may_go : (m : Message) → Brings (λ x. entry_at x J) m.body → IsExact m.body → MaySend (state_of (history J)) (history J) (last + 1) m.version m.sender m.receiver (meant m.body)
      → Owns S J m.sender m.version → PlacedBody S J m.version m.receiver (noted_body m.body) → IsLegalStep S J (sending (last + 1) m))
      (flies : (m : Message) → IsLegalStep S J (sending (last + 1) m) → Brings (λ x. entry_at x J) m.body → IsWhole m.body → IsInFlight (sending (last + 1) m ∷ J) (last + 1) m) where
    greater : (k : ℕ) (m : readers.Message) → sent k (history J) ≡ Some m → k < last + 1
    greater k m h = let le = numbered k m h in omega (arith, le)

    abbrev origin : Origin
    origin = record { version = s.version; lane = lane.low; sender = d }

    belongs : (n : ℕ) (id : Id) → has_node p.recipients n ≡ true → p.operation.id ≡ id → Belongs (history J) s.version n id
    belongs n id recipient same = record {
      line = line;
      begin = b;
      preparing = record { row = row; recipients = λ i. has_node p.recipients i };
      is_open = record { began = ((know.plan).is_under_way).begun_as; version = refl; prepared = (know.plan).prepared_as; unclosed = ((know.plan).is_under_way).unclosed };
      same_id = same;
      recipient = recipient;
    }

    may-send : (n : ℕ) (x : Body) → has_node p.recipients n ≡ true → MayCarry (state_of (history J)) (history J) s.version n (meant x) → MaySend (state_of (history J)) (history J) (last + 1) s.version d n (meant x)
    may-send n x recipient carries = record {
      greater = greater;
      holder = acts.holds;
      member = state-serves S J legal s.version n s acts.published ∙ (know.plan).serving n recipient;
      timing = inr (know.plan).opened_is;
      carries = carries;
    }

    -- the message may be sent
    record GoesNext (m : Message) : Type 0 where
      step : IsLegalStep S J (sending (last + 1) m)
      brings : Brings (λ x. entry_at x J) m.body
      whole : IsWhole m.body

    read-goes : (n : ℕ) → has_node p.recipients n ≡ true → GoesNext (message_of origin n (read_body p.operation.id))
    read-goes n recipient = record {
      step = may_go (message_of origin n (read_body p.operation.id)) tt (ap (λ (k : ℕ). record { bits = 58; low = k }) (sym (key-is p.operation.id)))
          (may-send n (read_body p.operation.id) recipient (belongs n p.operation.id recipient refl)) (record { state = s; published = acts.published; owner = acts.owner }) tt;
      brings = tt;
      whole = record { bucket = tt; inside = tt };
    }

    store-goes : (n : ℕ) (e : Entry) → has_node p.recipients n ≡ true → (p.stamp ≡ Some e.stamp) × (e.id ≡ p.operation.id) → KnowsEntry J line t (Some e) → GoesNext (message_of origin n (body.Store e))
    unfolding belongs
    store-goes n e recipient own entry = record {
      step = may_go (message_of origin n (body.Store e)) entry.2 tt
          (may-send n (body.Store e) recipient (record { belongs = belongs n e.id recipient (sym own.1); stamped = own.0; written = entry.0 })) (record { state = s; published = acts.published; owner = acts.owner }) tt;
      brings = entry.2;
      whole = record { bucket = tt; inside = tt };
    }

    goes : (m : Message) → HasWritten written m.body → NextMessage t m → GoesNext m
    goes m has (ARead n r is) = subst GoesNext (sym (is ∙ ap (λ (o : Origin). message_of o n (read_body p.operation.id)) (know.plan).origin_is)) (read-goes n (reader-parts p a n r).1)
    goes m has (AStore n e over v first is) = subst GoesNext (sym (is ∙ ap (λ (o : Origin). message_of o n (body.Store e)) (know.plan).origin_is))
        (store-goes n e (waits-parts p (answers_of t.stores) n (first_node-least (waits p (answers_of t.stores)) n first).here).0 (verdict-writes p a e v)
        (subst (λ (w : Option Entry). KnowsEntry J line t w) (subst (λ (x : Body). HasWritten written x) (ap (λ (x : Message). x.body) is) has) know.entry))

    -- the number wasn't there as the line began
    number-later : sent (last + 1) (before_line line (history J)) ≡ None
    number-later = by_sent (sent (last + 1) (before_line line (history J))) refl
      where
        by_sent : (o : Option readers.Message) → sent (last + 1) (before_line line (history J)) ≡ o → o ≡ None
        by_sent None h = refl
        by_sent (Some m) h =
            let now = lasting rules.acks (state_of (history J)) (λ y. sent (last + 1) y ≡ Some m) (λ e y q. sent-stays (last + 1) y m e q) (history J) lawful line b ((know.plan).is_under_way).begun_as h in
            let less = greater (last + 1) m now in
            absurd (omega (arith, less))

    standing-sent : (m : Message) → KnowsStanding lane rules (sending (last + 1) m ∷ J) d s line row written (Some (last + 1)) t
    standing-sent m = record {
      plan = know.plan;
      entry = entry-over J (sending (last + 1) m) line t written refl know.entry;
      looking = know.looking;
      reads = reads-over rules.acks (state_of (history J)) J (sending (last + 1) m) lawful line b refl (λ i x is. cc) None (Some (last + 1)) a
          (λ n. through ((know.reads).told n) (read-sent (history J) (last + 1) m.version m.sender m.receiver (meaning_body J (noted_body m.body)) greater line b n)) know.reads;
      stores = stores-over rules.acks (state_of (history J)) (history J) _ lawful line b refl (λ i x z is. cc) None (Some (last + 1)) (answers_of t.stores)
          (λ n. through ((know.stores).told n) (stored-sent (history J) (last + 1) m.version m.sender m.receiver (meaning_body J (noted_body m.body)) greater b n)) (λ n z. refl) know.stores;
    }

    pub asks-next : (m : Message) → next_at t ≡ Asks m → HasWritten written m.body → MayAskNext lane rules J last d s line row written t m
    asks-next m next has = let go = goes m has (next-message t m next) in record {
      legal = go.step;
      brings = go.brings;
      whole = go.whole;
      asked = record { known = standing-sent m; next = next; flight = flies m go.step go.brings go.whole; later = number-later };
    }
