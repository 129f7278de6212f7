-- The answer that is awaited is told to the machine, or that none came.
use Rattle.std.proofs.Common.{◌≡◌, ℕ, Bool, true, List, ◌∷◌, Option, Some, None, refl, sym, ap, ◌∙◌, subst, eqb, eq-eqb, ◌↔◌}
use mathlib.Core.Bool.{true≢false}
use Rattle.std.specs.FinMap as fin
use Rattle.bucket_ids.specs.Buckets.{Low}
use Rattle.node_sets.specs.Members.{has_node}
use Rattle.stamps.specs.declared.stamp.Stamp.{Stamp}
use Rattle.cluster_states.specs.declared.cluster_state.ClusterState.{ClusterState}
use Rattle.documents.specs.declared.entry.Entry.{Entry}
use Rattle.entry_maps.specs.EntryCodes.{Entries}
use Rattle.entry_maps.specs.Stamps.{stamps_of}
use Rattle.messages.specs.Noting.{message_of, noted_reply}
use Rattle.messages.specs.declared.body.Body.{Body}
use Rattle.messages.specs.declared.body.Body.TheVariants as body
use Rattle.messages.specs.declared.message.Message.{Message}
use Rattle.messages.specs.declared.message.Origin.{Origin}
use Rattle.messages.specs.declared.reply.Reply.{Reply}
use Rattle.messages.specs.declared.reply.Reply.TheVariants as reply
use Rattle.distributor_part.specs.declared.rules.Rules.{Rules}
use Rattle.op_machine.specs.declared.plan.Plan.{Plan}
use Rattle.op_machine.specs.declared.machine.Standing.{Standing}
use Rattle.op_machine.specs.Judging.{looks}
use Rattle.op_machine.specs.Outcomes.{answers_of, reader, read_body}
use Rattle.op_machine.specs.Standings.{due_entry, IsAnswered, IsAnsweredBy}
use Rattle.op_machine.specs.Telling as telling
use Rattle.op_machine.specs.Telling.{entry_shown, IsCounted, IsTold}
use Rattle.lane_journals.specs.Buckets.{Id}
use Rattle.lane_journals.specs.Events as plain
use Rattle.lane_journals.specs.Events.{Content, Store}
use Rattle.lane_journals.specs.Readers as readers
use Rattle.lane_journals.specs.Readers.{Beginning, or_else, only_if, first_reply, wrote}
use Rattle.lane_journals.specs.States.{state_of}
use Rattle.lane_journals.specs.Meanings.{history, content, meaning_reply, entry_at, names}
use Rattle.lane_journals.specs.Places.{Setting}
use Rattle.lane_journals.specs.KeptJournals.{IsLegal, IsLegalStep}
use Rattle.lane_journals.specs.declared.event.LaneEvent.{LaneEvent}
use Rattle.lane_journals.specs.declared.event.LaneEvent.TheVariants as event
use Rattle.lane_journals.proofs.Meant.{meant-legal}
use Rattle.lane_keeping.specs.NodeKeeping.{stamp_of, AreWritten}
use Rattle.lane_keeping.specs.Flights.{meant, BringsBack}
use Rattle.lane_keeping.specs.Replaying.{delivered}
use Rattle.lane_keeping.specs.LaneKeeping.{setting_of}
use Rattle.lane_keeping.specs.Asking.{IsJustSent}
use Rattle.operation_keeping.specs.OperationKeeping.{beginning_of, KnowsPlan, KnowsReads, KnowsStores, KnowsEntry, KnowsStanding, KnowsOperation, KnowsAsked}
use Rattle.operation_keeping.proofs.Plain.{none-some}
use Rattle.operation_keeping.proofs.Judged.{NextMessage, ARead, AStore, next-message, due-written, verdict-writes}
use Rattle.operation_keeping.proofs.Sending.{reader-parts}
use Rattle.operation_keeping.proofs.Waiting.{through, asked-waits}
use Rattle.operation_keeping.proofs.Hearing.{IsAwaited, read-told, store-told, store-no-read, read-no-stored, reads-silent, stores-silent, Shows, reads-heard, stores-heard, stores-pass, reads-pass}

-- ---- what a reply shows of a document

shows-of : (J : List LaneEvent) (id : Id) (y : Reply) → ((ps : _) (m : Entries) → y ≡ reply.Answer ps m → AreWritten (λ x. entry_at x J) m)
    → ((m : Entries) (i : Id) → AreWritten (λ x. entry_at x J) m → content J (stamps_of m) i ≡ stamp_of (fin.get m i)) → Shows J id (meaning_reply J (noted_reply y)) (telling.is_answer (Some y)) (entry_shown id (Some y))
shows-of J id (reply.Answer ps m) written named = let w = written ps m refl in record {
  is = λ h. (content J (stamps_of m), names ps, refl);
  only = λ c ns e. (refl, sym (ap (λ (f : Content). f id) (contents e)) ∙ named m id w);
  entry = λ e q. (let x = w id e q in (refl, x.0, x.1));
}
  where
    contents : {c k : Content} {ns ms : _} → plain.Answer c ns ≡ plain.Answer k ms → c ≡ k
    contents q = cc
shows-of J id (reply.Newer v) written named = record { is = λ h. absurd (true≢false (sym h)); only = λ c ns e. absurd (cc); entry = λ e q. absurd (cc) }
shows-of J id reply.NoBucket written named = record { is = λ h. absurd (true≢false (sym h)); only = λ c ns e. absurd (cc); entry = λ e q. absurd (cc) }
shows-of J id reply.Differs written named = record { is = λ h. absurd (true≢false (sym h)); only = λ c ns e. absurd (cc); entry = λ e q. absurd (cc) }
shows-of J id reply.NoMemory written named = record { is = λ h. absurd (true≢false (sym h)); only = λ c ns e. absurd (cc); entry = λ e q. absurd (cc) }

same-answers : (J : List LaneEvent) (y : Reply) → readers.is_answer (meaning_reply J (noted_reply y)) ≡ telling.is_answer (Some y)
same-answers J (reply.Answer ps m) = refl
same-answers J (reply.Newer v) = refl
same-answers J reply.NoBucket = refl
same-answers J reply.Differs = refl
same-answers J reply.NoMemory = refl

wants-memory : (J : List LaneEvent) (y : Reply) → (telling.is_short (Some y) ≡ true) ↔ (meaning_reply J (noted_reply y) ≡ plain.NoMemory)
wants-memory J (reply.Answer ps m) = (λ h. absurd (true≢false (sym h)), λ e. absurd (cc))
wants-memory J (reply.Newer v) = (λ h. absurd (true≢false (sym h)), λ e. absurd (cc))
wants-memory J reply.NoBucket = (λ h. absurd (true≢false (sym h)), λ e. absurd (cc))
wants-memory J reply.Differs = (λ h. absurd (true≢false (sym h)), λ e. absurd (cc))
wants-memory J reply.NoMemory = (λ h. refl, λ e. refl)

-- ---- the message that is awaited

module _ (lane : Low) (rules : Rules) (J : List LaneEvent) (d : ℕ) (s : ClusterState) (line : ℕ) (row : Low) (written : Option Entry) (t : Standing) (number : ℕ) (m : Message)
    (legal : IsLegal (setting_of lane rules) J) (asked : KnowsAsked lane rules J d s line row written t number m) where
  abbrev S : Setting
  S = setting_of lane rules

  abbrev p : Plan
  p = t.plan

  abbrev b : Beginning
  b = beginning_of d s p.operation p.stamp

  abbrev know : KnowsStanding lane rules J d s line row written (Some number) t
  know = asked.known

  awaited : (n : ℕ) (x : Body) → m ≡ message_of p.origin n x → IsAwaited (history J) number m.receiver s.version (meant x)
  awaited n x is = let f = asked.flight in record {
    message = f.sending;
    was_sent = f.was_sent;
    receiver = f.receiver_is;
    version = f.version_is ∙ ap (λ (y : Message). y.version) is ∙ ap (λ (o : Origin). o.version) (know.plan).origin_is;
    body = f.body_is ∙ ap (λ (y : Message). meant y.body) is;
  }

  awaited-store : (n : ℕ) (e : Entry) → m ≡ message_of p.origin n (body.Store e) → e.id ≡ p.operation.id → IsAwaited (history J) number m.receiver s.version (Store p.operation.id e.stamp)
  awaited-store n e is same = subst (λ (i : Id). IsAwaited (history J) number m.receiver s.version (Store i e.stamp)) same (awaited n (body.Store e) is)

  -- ---- what is known of the machine after that

  assemble : (K : List LaneEvent) (x : Standing) → x.plan ≡ p → KnowsPlan lane rules (history K) d s line row p → KnowsEntry K line (record { plan = p; reads = x.reads; stores = x.stores }) written
      → ((n : ℕ) → has_node x.reads.told n ≡ true → looks p.operation ≡ true) → KnowsReads K None line b (answers_of x.reads) → KnowsStores (history K) None line b (answers_of x.stores)
      → KnowsOperation lane rules K d s line row written x
  assemble K x e plan entry looking reads stores = subst (λ (q : Plan). KnowsOperation lane rules K d s line row written (record { plan = q; reads = x.reads; stores = x.stores })) (sym e)
      (record { plan = plan; entry = entry; looking = looking; reads = reads; stores = stores })

  -- nothing is written while the Reads go on
  entry-reading : (K : List LaneEvent) (x : Standing) (n : ℕ) → reader p (answers_of t.reads) ≡ Some n → wrote line (history K) ≡ wrote line (history J) → (w : Option Entry) → KnowsEntry J line t w
      → KnowsEntry K line (record { plan = p; reads = x.reads; stores = x.stores }) w
  entry-reading K x n r same None k = same ∙ k
  entry-reading K x n r same (Some e) k = absurd (none-some n (sym (due-written p (answers_of t.reads) e k.1).0 ∙ r))

  entry-storing : (K : List LaneEvent) (x : Standing) → x.reads ≡ t.reads → wrote line (history K) ≡ wrote line (history J) → ((z : Stamp) → entry_at z K ≡ entry_at z J) → (w : Option Entry) → KnowsEntry J line t w
      → KnowsEntry K line (record { plan = p; reads = x.reads; stores = x.stores }) w
  entry-storing K x e same entries None k = same ∙ k
  entry-storing K x e same entries (Some y) k = (same ∙ k.0, ap (λ z. due_entry p (answers_of z)) e ∙ k.1, entries y.stamp ∙ k.2)

  looking-reading : (x : Standing) (n : ℕ) → reader p (answers_of t.reads) ≡ Some n → (i : ℕ) → has_node x.reads.told i ≡ true → looks p.operation ≡ true
  looking-reading x n r i h = (reader-parts p (answers_of t.reads) n r).0

  looking-storing : (x : Standing) → x.reads ≡ t.reads → (i : ℕ) → has_node x.reads.told i ≡ true → looks p.operation ≡ true
  looking-storing x e i h = know.looking i (sym (ap (λ z. has_node z.told i) e) ∙ h)

  -- ---- none came

  pub silent : (x : Standing) → IsAnswered m.receiver None t x → KnowsOperation lane rules J d s line row written x
  silent x a = by_next (next-message t m asked.next)
    where
      by_next : NextMessage t m → KnowsOperation lane rules J d s line row written x
      by_next (ARead n r is) =
          let told : IsTold p.operation.id m.receiver None t.reads x.reads × (x.stores ≡ t.stores) = subst (λ (o : Option ℕ). IsAnsweredBy o m.receiver None t x) r a.told in
          let msg = awaited n (read_body p.operation.id) is in
          assemble J x a.plan know.plan (entry-reading J x n r refl written know.entry) (looking-reading x n r)
          (reads-silent J (Some number) None line b m.receiver t.reads x.reads (read-told (history J) number m.receiver b line msg asked.later t.reads.told x.reads.told ((told.0).counted).told (know.reads).told) ((told.0).counted).answered ((told.0).counted).short (told.0).seen know.reads)
          (subst (λ z. KnowsStores (history J) None line b (answers_of z)) (sym told.1) (record { told = λ i. through ((know.stores).told i) (read-no-stored (history J) number m.receiver b p.operation.id msg i); answered = (know.stores).answered; unstamped = (know.stores).unstamped; short = (know.stores).short }))
      by_next (AStore n e over v first is) =
          let told : (x.reads ≡ t.reads) × IsCounted m.receiver None t.stores x.stores = subst (λ (o : Option ℕ). IsAnsweredBy o m.receiver None t x) over a.told in
          let own = verdict-writes p (answers_of t.reads) e v in
          let msg = awaited-store n e is own.1 in
          assemble J x a.plan know.plan (entry-storing J x told.0 refl (λ z. refl) written know.entry) (looking-storing x told.0)
          (subst (λ z. KnowsReads J None line b (answers_of z)) (sym told.0) (record {
            told = λ i. through ((know.reads).told i) (store-no-read (history J) number m.receiver b line e.stamp p.operation.id msg i);
            answered = (know.reads).answered;
            short = (know.reads).short;
            newest = (know.reads).newest;
            shown = (know.reads).shown;
            written = (know.reads).written;
          }))
          (stores-silent (history J) (Some number) None line b m.receiver t.stores x.stores (store-told (history J) number m.receiver b e.stamp own.0 msg t.stores.told x.stores.told (told.1).told (know.stores).told) (told.1).answered (told.1).short know.stores)

  -- ---- it came back

  -- what the answer to a Read shows
  pub shows-read : (y : Reply) → BringsBack (λ z. entry_at z J) m.body y → ((w : Entries) (i : Id) → AreWritten (λ z. entry_at z J) w → content J (stamps_of w) i ≡ stamp_of (fin.get w i))
      → (n : ℕ) → m ≡ message_of p.origin n (read_body p.operation.id) → Shows J p.operation.id (meaning_reply J (noted_reply y)) (telling.is_answer (Some y)) (entry_shown p.operation.id (Some y))
  shows-read y brings named n is = shows-of J p.operation.id y (λ ps w e. read-written ps w e (subst (λ (z : Body). BringsBack (λ w. entry_at w J) z y) (ap (λ (z : Message). z.body) is) brings)) named
    where
      read-written : (ps : _) (w : Entries) → y ≡ reply.Answer ps w → BringsBack (λ z. entry_at z J) (read_body p.operation.id) y → AreWritten (λ z. entry_at z J) w
      read-written ps w e h = subst (λ (z : Reply). BringsBack (λ z. entry_at z J) (read_body p.operation.id) z) e h

  pub heard : (y : Reply) (said : plain.Reply) (x : Standing) → first_reply number (history J) ≡ Some said → readers.is_answer said ≡ telling.is_answer (Some y) → (telling.is_short (Some y) ≡ true) ↔ (said ≡ plain.NoMemory)
      → ((n : ℕ) → m ≡ message_of p.origin n (read_body p.operation.id) → Shows J p.operation.id said (telling.is_answer (Some y)) (entry_shown p.operation.id (Some y)))
      → IsAnswered m.receiver (Some y) t x → KnowsOperation lane rules (event.Returned number ∷ J) d s line row written x
  heard y said x replied same wants shows a = by_next (next-message t m asked.next)
    where
      by_next : NextMessage t m → KnowsOperation lane rules (event.Returned number ∷ J) d s line row written x
      by_next (ARead n r is) =
          let told : IsTold p.operation.id m.receiver (Some y) t.reads x.reads × (x.stores ≡ t.stores) = subst (λ (o : Option ℕ). IsAnsweredBy o m.receiver (Some y) t x) r a.told in
          let msg = awaited n (read_body p.operation.id) is in
          assemble (event.Returned number ∷ J) x a.plan know.plan (entry-reading (event.Returned number ∷ J) x n r refl written know.entry) (looking-reading x n r)
          (reads-heard rules.acks (state_of (history J)) J (meant-legal S J legal) line number m.receiver b asked.later msg said replied (telling.is_answer (Some y)) (entry_shown p.operation.id (Some y))
          (shows n is) (telling.is_short (Some y)) wants t.reads x.reads ((told.0).counted).told ((told.0).counted).answered ((told.0).counted).short (told.0).seen know.reads)
          (subst (λ z. KnowsStores (history (event.Returned number ∷ J)) None line b (answers_of z)) (sym told.1) (stores-pass rules.acks (state_of (history J)) (history J) (meant-legal S J legal) line number m.receiver b p.operation.id msg (answers_of t.stores) know.stores))
      by_next (AStore n e over v first is) =
          let told : (x.reads ≡ t.reads) × IsCounted m.receiver (Some y) t.stores x.stores = subst (λ (o : Option ℕ). IsAnsweredBy o m.receiver (Some y) t x) over a.told in
          let own = verdict-writes p (answers_of t.reads) e v in
          let msg = awaited-store n e is own.1 in
          assemble (event.Returned number ∷ J) x a.plan know.plan (entry-storing (event.Returned number ∷ J) x told.0 refl (λ z. refl) written know.entry) (looking-storing x told.0)
          (subst (λ z. KnowsReads (event.Returned number ∷ J) None line b (answers_of z)) (sym told.0) (reads-pass rules.acks (state_of (history J)) J (meant-legal S J legal) line number m.receiver b p.operation.id e.stamp msg (answers_of t.reads) know.reads))
          (stores-heard rules.acks (state_of (history J)) (history J) (meant-legal S J legal) line number m.receiver b said replied asked.later e.stamp own.0 msg (telling.is_answer (Some y)) same (telling.is_short (Some y)) wants
          t.stores x.stores (told.1).told (told.1).answered (told.1).short know.stores)

-- ---- it was delivered, and came back

module _ (lane : Low) (rules : Rules) (J : List LaneEvent) (d : ℕ) (s : ClusterState) (line : ℕ) (row : Low) (written : Option Entry) (t : Standing) (number : ℕ) (m : Message)
    (legal : IsLegal (setting_of lane rules) J) (asked : KnowsAsked lane rules J d s line row written t number m) where
  pub told-back : (y : Reply) (x : Standing) → IsJustSent J number m → IsLegalStep (setting_of lane rules) J (delivered number y) → BringsBack (λ z. entry_at z J) m.body y
      → ((w : Entries) (i : Id) → AreWritten (λ z. entry_at z J) w → content J (stamps_of w) i ≡ stamp_of (fin.get w i))
      → IsAnswered m.receiver (Some y) t x → KnowsOperation lane rules (event.Returned number ∷ delivered number y ∷ J) d s line row written x
  told-back y x just step brings named a =
      heard lane rules (delivered number y ∷ J) d s line row written t number m (legal, step) (asked-waits lane rules J d s line row written t legal number m number (noted_reply y) asked)
      y (meaning_reply J (noted_reply y)) x replied (same-answers J y) (wants-memory J y) shows a
    where
      replied : first_reply number (history (delivered number y ∷ J)) ≡ Some (meaning_reply J (noted_reply y))
      replied = ap (λ (o : Option plain.Reply). or_else o (only_if (eqb number number) (meaning_reply J (noted_reply y)))) just.unreplied ∙ ap (λ (z : Bool). only_if z (meaning_reply J (noted_reply y))) (eq-eqb number number refl)

      shows : (n : ℕ) → m ≡ message_of t.plan.origin n (read_body t.plan.operation.id) → Shows (delivered number y ∷ J) t.plan.operation.id (meaning_reply J (noted_reply y)) (telling.is_answer (Some y)) (entry_shown t.plan.operation.id (Some y))
      shows n is = let z = shows-read lane rules J d s line row written t number m legal asked y brings named n is in record { is = z.is; only = z.only; entry = z.entry }
