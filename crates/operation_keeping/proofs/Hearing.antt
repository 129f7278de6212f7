-- What the machine was told, once it hears the answer that it awaited, or that none came.
use Rattle.std.proofs.Common.{◌≡◌, ◌≢◌, ◌↔◌, ◌==◌, ◌⊎◌, ℕ, Bool, true, false, cond, ◌&&◌, ◌||◌, List, ◌∷◌, Option, Some, None, inl, inr, refl, sym, ap, ◌∙◌, subst, eqb, eq-eqb}
use Rattle.std.proofs.lemmas.Bool.{eqb-true, cases_eq, and_parts, and_from, or_cases, or_left, or_right}
use Rattle.node_sets.specs.Members.{has_node}
use Rattle.stamps.specs.declared.stamp.Stamp.{Stamp}
use Rattle.documents.specs.declared.entry.Entry.{Entry}
use Rattle.entry_maps.specs.Entries.{is_newer, newer_of}
use Rattle.op_machine.specs.declared.tally.Tally.{Tally}
use Rattle.op_machine.specs.Outcomes.{Answers, answers_of}
use Rattle.op_machine.specs.Telling.{IsWith}
use Rattle.lane_journals.specs.Stamps.{Le, newer, same_stamp}
use Rattle.lane_journals.specs.Buckets.{Id}
use Rattle.lane_journals.specs.Events.{Content, Body, ReadDoc, Store, Reply, Answer, Returned, NoMemory}
use Rattle.lane_journals.specs.Readers as readers
use Rattle.lane_journals.specs.Readers.{Journal, Beginning, sent, before_line, first_reply, is_answer, is_store, answers, stored_by, answered_store}
use Rattle.lane_journals.specs.Facts.{ReadBack}
use Rattle.lane_journals.specs.Legal.{Legal}
use Rattle.lane_journals.specs.Meanings.{history, entry_at}
use Rattle.lane_journals.specs.declared.event.LaneEvent.{LaneEvent}
use Rattle.lane_journals.specs.declared.event.LaneEvent.TheVariants as event
use Rattle.lane_journals.proofs.Ids.{same_id-refl}
use Rattle.lane_journals.proofs.Order.{Le_trans, newer-left, newer-right, newer-either, Le-same, Le-at}
use Rattle.lane_keeping.specs.NodeKeeping.{stamp_of}
use Rattle.lane_keeping.proofs.Stamping.{newer-picks, newer-none, stamp-cond}
use Rattle.proof_basics.proofs.Numbers.{apart}
use Rattle.operation_keeping.specs.OperationKeeping.{WasRead, WasStored, WasShort, IsReadOf, IsStoreOf, KnowsReads, KnowsStores}
use Rattle.operation_keeping.proofs.Plain.{some-same, none-some, returned-same}
use Rattle.operation_keeping.proofs.Messages.{short-on, short-cases, back-stays, BackNow, back-cases}
use Rattle.operation_keeping.proofs.Waiting.{read-on, read-off, stored-on, stored-off, through, reads-over, stores-over}

-- ---- the newer entry

stamp-newer : (there shown : Option Entry) → stamp_of (newer_of there shown) ≡ newer (stamp_of shown) (stamp_of there)
stamp-newer there None = sym (newer-none (stamp_of there))
stamp-newer there (Some e) = stamp-cond (is_newer e there) e there ∙ sym (newer-picks e there (is_newer e there) refl)

newer-one : (there shown : Option Entry) → (newer_of there shown ≡ there) ⊎ (newer_of there shown ≡ shown)
newer-one there None = inl refl
newer-one there (Some e) = by_test (is_newer e there)
  where
    by_test : (t : Bool) → (cond t (Some e) there ≡ there) ⊎ (cond t (Some e) there ≡ Some e)
    by_test true = inr refl
    by_test false = inl refl

-- ---- the message that is awaited

read-no-store : {i j : Id} {s : Stamp} → ReadDoc i ≡ Store j s → ⊥
read-no-store q = cc

pub record IsAwaited (H : Journal) (number node v : ℕ) (x : Body) : Type 0 where
  pub message : readers.Message
  pub was_sent : sent number H ≡ Some message
  pub receiver : message.receiver ≡ node
  pub version : message.version ≡ v
  pub body : message.body ≡ x

same-message : (o : Option readers.Message) (m x : readers.Message) → o ≡ Some m → o ≡ Some x → m ≡ x
same-message o m x p q = some-same m x (sym p ∙ q)

module _ (H : Journal) (number node : ℕ) (b : Beginning) where
  -- a Read: the node counts as told
  module _ (line : ℕ) (m : IsAwaited H number node b.version (ReadDoc b.id)) (later : sent number (before_line line H) ≡ None) (old new : ℕ) (with_node : IsWith node true old new) where
    pub read-told : ((n : ℕ) → (has_node old n ≡ true) ↔ WasRead H (Some number) line b n) → (n : ℕ) → (has_node new n ≡ true) ↔ WasRead H None line b n
    read-told told n = (λ h. to (or_cases (has_node old n) (n == node) (sym (with_node n) ∙ h)), λ w. with_node n ∙ from w (cases_eq w.number number))
      where
        to : (has_node old n ≡ true) ⊎ ((n == node) ≡ true) → WasRead H None line b n
        to (inl h) = let w = (told n).0 h in record { number = w.number; other = tt; message = w.message; was_sent = w.was_sent; later = w.later; receiver = w.receiver; version = w.version; body = w.body }
        to (inr h) = record { number = number; other = tt; message = m.message; was_sent = m.was_sent; later = later; receiver = m.receiver ∙ sym (eqb-true n node h); version = m.version; body = m.body }

        from : (w : WasRead H None line b n) → (w.number ≡ number) ⊎ (w.number ≢ number) → (has_node old n || n == node) ≡ true
        from w (inl same) = or_right (has_node old n) (n == node) (eq-eqb n node (sym w.receiver ∙ ap (λ (x : readers.Message). x.receiver) (same-message (sent number H) w.message m.message (subst (λ (k : ℕ). sent k H ≡ Some w.message) same w.was_sent) m.was_sent) ∙ m.receiver))
        from w (inr off) = or_left (has_node old n) (n == node) ((told n).1 (record { number = w.number; other = off; message = w.message; was_sent = w.was_sent; later = w.later; receiver = w.receiver; version = w.version; body = w.body }))

  -- a Store: it does
  module _ (stamp : Stamp) (stamped : b.stamp ≡ Some stamp) (m : IsAwaited H number node b.version (Store b.id stamp)) (old new : ℕ) (with_node : IsWith node true old new) where
    pub store-told : ((n : ℕ) → (has_node old n ≡ true) ↔ WasStored H (Some number) b n) → (n : ℕ) → (has_node new n ≡ true) ↔ WasStored H None b n
    store-told told n = (λ h. to (or_cases (has_node old n) (n == node) (sym (with_node n) ∙ h)), λ w. with_node n ∙ from w (cases_eq w.number number))
      where
        to : (has_node old n ≡ true) ⊎ ((n == node) ≡ true) → WasStored H None b n
        to (inl h) = let w = (told n).0 h in record { stamp = w.stamp; stamped = w.stamped; number = w.number; other = tt; message = w.message; was_sent = w.was_sent; receiver = w.receiver; version = w.version; body = w.body }
        to (inr h) = record { stamp = stamp; stamped = stamped; number = number; other = tt; message = m.message; was_sent = m.was_sent; receiver = m.receiver ∙ sym (eqb-true n node h); version = m.version; body = m.body }

        from : (w : WasStored H None b n) → (w.number ≡ number) ⊎ (w.number ≢ number) → (has_node old n || n == node) ≡ true
        from w (inl same) = or_right (has_node old n) (n == node) (eq-eqb n node (sym w.receiver ∙ ap (λ (x : readers.Message). x.receiver) (same-message (sent number H) w.message m.message (subst (λ (k : ℕ). sent k H ≡ Some w.message) same w.was_sent) m.was_sent) ∙ m.receiver))
        from w (inr off) = or_left (has_node old n) (n == node) ((told n).1 (record { stamp = w.stamp; stamped = w.stamped; number = w.number; other = off; message = w.message; was_sent = w.was_sent; receiver = w.receiver; version = w.version; body = w.body }))

  -- a Store is no Read, and a Read no Store
  pub store-no-read : (line : ℕ) (stamp : Stamp) (id : Id) → IsAwaited H number node b.version (Store id stamp) → (n : ℕ) → WasRead H (Some number) line b n ↔ WasRead H None line b n
  store-no-read line stamp id m n = (
    λ w. record { number = w.number; other = tt; message = w.message; was_sent = w.was_sent; later = w.later; receiver = w.receiver; version = w.version; body = w.body },
    λ w. record { number = w.number; other = other w; message = w.message; was_sent = w.was_sent; later = w.later; receiver = w.receiver; version = w.version; body = w.body },
  )
    where
      other : (w : WasRead H None line b n) → w.number ≢ number
      other w same = read-no-store (sym w.body ∙ ap (λ (x : readers.Message). x.body) (same-message (sent number H) w.message m.message (subst (λ (k : ℕ). sent k H ≡ Some w.message) same w.was_sent) m.was_sent) ∙ m.body)

  pub read-no-stored : (id : Id) → IsAwaited H number node b.version (ReadDoc id) → (n : ℕ) → WasStored H (Some number) b n ↔ WasStored H None b n
  read-no-stored id m n = (
    λ w. record { stamp = w.stamp; stamped = w.stamped; number = w.number; other = tt; message = w.message; was_sent = w.was_sent; receiver = w.receiver; version = w.version; body = w.body },
    λ w. record { stamp = w.stamp; stamped = w.stamped; number = w.number; other = other w; message = w.message; was_sent = w.was_sent; receiver = w.receiver; version = w.version; body = w.body },
  )
    where
      other : (w : WasStored H None b n) → w.number ≢ number
      other w same = read-no-store (sym m.body ∙ ap (λ (x : readers.Message). x.body) (same-message (sent number H) m.message w.message m.was_sent (subst (λ (k : ℕ). sent k H ≡ Some w.message) same w.was_sent)) ∙ w.body)

-- ---- no answer is told

or_false : (x : Bool) → (x || false) ≡ x
or_false true = refl
or_false false = refl

pub reads-silent : (J : List LaneEvent) (awaited next : Option ℕ) (line : ℕ) (b : Beginning) (node : ℕ) (old new : Tally) → ((n : ℕ) → (has_node new.told n ≡ true) ↔ WasRead (history J) next line b n) → IsWith node false old.answered new.answered
    → new.short ≡ (old.short || false) → new.seen ≡ old.seen → KnowsReads J awaited line b (answers_of old) → KnowsReads J next line b (answers_of new)
reads-silent J awaited next line b node old new told answered short seen k = record {
  told = told;
  short = (λ h. (k.short).0 (sym (short ∙ or_false old.short) ∙ h), λ w. short ∙ or_false old.short ∙ (k.short).1 w);
  answered = λ n. (λ h. (k.answered n).0 (sym (answered n ∙ or_false (has_node old.answered n)) ∙ h), λ r. answered n ∙ or_false (has_node old.answered n) ∙ (k.answered n).1 r);
  newest = λ n c r. subst (λ (x : Option Entry). Le (c b.id) (stamp_of x)) (sym seen) (k.newest n c r);
  shown = λ z h. k.shown z (sym (ap stamp_of seen) ∙ h);
  written = λ e q. k.written e (sym seen ∙ q);
}

pub stores-silent : (H : Journal) (awaited next : Option ℕ) (line : ℕ) (b : Beginning) (node : ℕ) (old new : Tally) → ((n : ℕ) → (has_node new.told n ≡ true) ↔ WasStored H next b n) → IsWith node false old.answered new.answered
    → new.short ≡ (old.short || false) → KnowsStores H awaited line b (answers_of old) → KnowsStores H next line b (answers_of new)
stores-silent H awaited next line b node old new told answered short k = record {
  told = told;
  answered = λ n z e. answered n ∙ or_false (has_node old.answered n) ∙ k.answered n z e;
  unstamped = λ n e. answered n ∙ or_false (has_node old.answered n) ∙ k.unstamped n e;
  short = (λ h. (k.short).0 (sym (short ∙ or_false old.short) ∙ h), λ w. short ∙ or_false old.short ∙ (k.short).1 w);
}

-- ---- an answer is told

-- a reply that comes back tells whether its node wanted memory
short-heard : (acks : ℕ) (P : ℕ → ℕ → Bool) (H : Journal) → Legal acks P H → (line number : ℕ) (test : readers.Message → Type 0) → sent number (before_line line H) ≡ None
    → (m : readers.Message) → sent number H ≡ Some m → test m → (reply : Reply) → first_reply number H ≡ Some reply → (wanting : Bool) → (wanting ≡ true) ↔ (reply ≡ NoMemory)
    → (old new : Bool) → new ≡ (old || wanting) → (old ≡ true) ↔ WasShort H line test → (new ≡ true) ↔ WasShort (Returned number ∷ H) line test
short-heard acks P H legal line number test later m was_sent tested reply replied wanting wants old new is k = (
  λ h. from (or_cases old wanting (sym is ∙ h)),
  λ w. is ∙ elim (short-cases acks P H legal (Returned number) line test refl w) [ inl before ↦ or_left old wanting (k.1 before) | inr now ↦ or_right old wanting (wants.1 (this now.number now.reply (returned-same number now.number now.is))) ],
)
  where
    this : (k : ℕ) → first_reply k H ≡ Some NoMemory → number ≡ k → reply ≡ NoMemory
    this k f same = some-same reply NoMemory (sym replied ∙ ap (λ (i : ℕ). first_reply i H) same ∙ f)

    from : (old ≡ true) ⊎ (wanting ≡ true) → WasShort (Returned number ∷ H) line test
    from (inl h) = short-on acks P H (Returned number) line test refl (k.0 h)
    from (inr h) = record {
      number = number;
      message = m;
      was_sent = was_sent;
      later = later;
      tested = tested;
      reply = replied ∙ ap (λ (y : Reply). Some y) (wants.0 h);
      back = ap (λ (x : Bool). cond x true (readers.returned number H)) (eq-eqb number number refl);
    }

-- what a reply shows: an answer the entry, any other nothing
pub record Shows (J : List LaneEvent) (id : Id) (reply : Reply) (taken : Bool) (shown : Option Entry) : Type 0 where
  pub is : taken ≡ true → (c : Content) × (names : _) × (reply ≡ Answer c names)
  pub only : (c : Content) (names : _) → reply ≡ Answer c names → (taken ≡ true) × (c id ≡ stamp_of shown)
  pub entry : (e : Entry) → shown ≡ Some e → (taken ≡ true) × (e.id ≡ id) × (entry_at e.stamp J ≡ Some e)

module _ (acks : ℕ) (P : ℕ → ℕ → Bool) (J : List LaneEvent) (legal : Legal acks P (history J)) (line number node : ℕ) (b : Beginning) (later : sent number (before_line line (history J)) ≡ None)
    (m : IsAwaited (history J) number node b.version (ReadDoc b.id)) (reply : Reply) (replied : first_reply number (history J) ≡ Some reply) (taken : Bool) (seen : Option Entry) (shows : Shows J b.id reply taken seen)
    (wanting : Bool) (wants : (wanting ≡ true) ↔ (reply ≡ NoMemory)) (old new : Tally) (told : IsWith node true old.told new.told) (answered : IsWith node taken old.answered new.answered) (short_is : new.short ≡ (old.short || wanting)) (seen_is : new.seen ≡ newer_of old.seen seen) (k : KnowsReads J (Some number) line b (answers_of old)) where
  abbrev H : Journal
  H = history J

  abbrev K : List LaneEvent
  K = event.Returned number ∷ J

  stays : (n : ℕ) (c : Content) → ReadBack n line b c H → ReadBack n line b c (history K)
  stays n c r = back-stays acks P H (Returned number) n line b c refl r

  -- the answer that comes back
  now : (c : Content) (names : _) → reply ≡ Answer c names → ReadBack node line b c (history K)
  now c names e = record {
    read = record { number = number; message = m.message; names = names; was_sent = m.was_sent; later = later; receiver = m.receiver; version = m.version; body = m.body; reply = replied ∙ ap (λ (y : Reply). Some y) e };
    back = ap (λ (x : Bool). cond x true (readers.returned number H)) (eq-eqb number number refl);
  }

  -- each that came back did so before, or is this one
  data Came (n : ℕ) (c : Content) : Type 0 where
    Before : ReadBack n line b c H → Came n c
    Now : (names : _) → n ≡ node → reply ≡ Answer c names → Came n c

  came : (n : ℕ) (c : Content) → ReadBack n line b c (history K) → Came n c
  came n c r = elim (back-cases acks P H legal (Returned number) n line b c refl r) [ inl before ↦ Before before | inr back ↦ this back ]
    where
      this : BackNow acks P H (Returned number) n line b c → Came n c
      this back =
          let x = back.read in
          let same = returned-same number x.number back.is in
          let message = same-message (sent number H) x.message m.message (subst (λ (i : ℕ). sent i H ≡ Some x.message) (sym same) x.was_sent) m.was_sent in
          Now x.names (sym x.receiver ∙ ap (λ (y : readers.Message). y.receiver) message ∙ m.receiver)
          (some-same reply (Answer c x.names) (sym replied ∙ ap (λ (i : ℕ). first_reply i H) same ∙ x.reply))

  stamps : stamp_of new.seen ≡ newer (stamp_of seen) (stamp_of old.seen)
  stamps = ap stamp_of seen_is ∙ stamp-newer old.seen seen

  pub reads-heard : KnowsReads K None line b (answers_of new)
  reads-heard = record {
    told = λ n. through (read-told H number node b line m later old.told new.told told k.told n) (read-on H (Returned number) None line b n refl, read-off H (Returned number) None line b n refl (λ i. refl));
    answered = λ n. (λ h. back n (or_cases (has_node old.answered n) (taken && n == node) (sym (answered n) ∙ h)), λ r. answered n ∙ counts n r.0 (came n r.0 r.1));
    short = short-heard acks P H legal line number (IsReadOf b) later m.message m.was_sent (m.version, m.body) reply replied wanting wants old.short new.short short_is k.short;
    newest = λ n c r. newest n c (came n c r);
    shown = λ z h. shown z (sym stamps ∙ h);
    written = λ e q. written e (newer-one old.seen seen) (sym seen_is ∙ q);
  }
    where
      back : (n : ℕ) → (has_node old.answered n ≡ true) ⊎ ((taken && n == node) ≡ true) → (c : Content) × ReadBack n line b c (history K)
      back n (inl h) = let r = (k.answered n).0 h in (r.0, stays n r.0 r.1)
      back n (inr h) = let x = and_parts taken (n == node) h in let a = shows.is x.0 in (a.0, subst (λ (i : ℕ). ReadBack i line b a.0 (history K)) (sym (eqb-true n node x.1)) (now a.0 a.1 a.2))

      counts : (n : ℕ) (c : Content) → Came n c → (has_node old.answered n || (taken && n == node)) ≡ true
      counts n c (Before r) = or_left (has_node old.answered n) (taken && n == node) ((k.answered n).1 (c, r))
      counts n c (Now names e f) = or_right (has_node old.answered n) (taken && n == node) (and_from taken (n == node) (shows.only c names f).0 (eq-eqb n node e))

      newest : (n : ℕ) (c : Content) → Came n c → Le (c b.id) (stamp_of new.seen)
      newest n c (Before r) = Le-at _ _ _ stamps (Le_trans _ _ _ (k.newest n c r) (newer-right (stamp_of seen) (stamp_of old.seen)))
      newest n c (Now names e f) = Le-at _ _ _ stamps (Le_trans _ _ _ (Le-same _ _ (shows.only c names f).1) (newer-left (stamp_of seen) (stamp_of old.seen)))

      from_seen : (o : Option Entry) → o ≡ seen → (z : Stamp) → stamp_of o ≡ Some z → (n : ℕ) × (c : Content) × ReadBack n line b c (history K) × (c b.id ≡ Some z)
      from_seen None e z h = absurd (none-some z h)
      from_seen (Some x) e z h = let w = shows.entry x (sym e) in let a = shows.is w.0 in (node, a.0, now a.0 a.1 a.2, (shows.only a.0 a.1 a.2).1 ∙ ap stamp_of (sym e) ∙ h)

      shown : (z : Stamp) → newer (stamp_of seen) (stamp_of old.seen) ≡ Some z → (n : ℕ) × (c : Content) × ReadBack n line b c (history K) × (c b.id ≡ Some z)
      shown z h = elim (newer-either (stamp_of seen) (stamp_of old.seen)) [
        | inl e ↦ from_seen seen refl z (sym e ∙ h)
        | inr e ↦ (let r = k.shown z (sym e ∙ h) in (r.0, r.1, stays r.0 r.1 r.2, r.3))
      ]

      written : (e : Entry) → (newer_of old.seen seen ≡ old.seen) ⊎ (newer_of old.seen seen ≡ seen) → newer_of old.seen seen ≡ Some e → (e.id ≡ b.id) × (entry_at e.stamp J ≡ Some e)
      written e (inl x) q = k.written e (sym x ∙ q)
      written e (inr x) q = let w = shows.entry e (sym x ∙ q) in (w.1, w.2)

-- ---- the Stores hear it

same-self : (id : Id) (z : Stamp) → is_store id z (Store id z) ≡ true
unfolding same_stamp
same-self id z = ap (λ x. cond x (same_stamp z z) false) (same_id-refl id) ∙ ap (λ x. cond x (z.count == z.count) false) (eq-eqb z.version z.version refl) ∙ eq-eqb z.count z.count refl

both-nodes : (taken : Bool) (node n : ℕ) → cond (eqb node n) taken false ≡ (taken && n == node)
both-nodes taken node n = elim (cases_eq n node) [
  | inl same ↦ ap (λ x. cond x taken false) (eq-eqb node n (sym same)) ∙ sym (ap (λ x. taken && x) (eq-eqb n node same) ∙ and_true taken)
  | inr off ↦ ap (λ x. cond x taken false) (apart node n (λ q. off (sym q))) ∙ sym (ap (λ x. taken && x) (apart n node off) ∙ and_false taken)
]
  where
    and_true : (x : Bool) → (x && true) ≡ x
    and_true true = refl
    and_true false = refl

    and_false : (x : Bool) → (x && false) ≡ false
    and_false true = refl
    and_false false = refl

stored-now : (v : ℕ) (id : Id) (z : Stamp) (node n : ℕ) (m : readers.Message) (reply : Reply) → m.version ≡ v → m.receiver ≡ node → m.body ≡ Store id z → stored_by v id z n (Some m) (Some reply) ≡ (is_answer reply && n == node)
stored-now v id z node n m reply version receiver body =
    ap (λ x. cond (eqb x v) (cond (eqb m.receiver n) (cond (is_store id z m.body) (is_answer reply) false) false) false) version
    ∙ ap (λ x. cond x (cond (eqb m.receiver n) (cond (is_store id z m.body) (is_answer reply) false) false) false) (eq-eqb v v refl)
    ∙ ap (λ x. cond (eqb x n) (cond (is_store id z m.body) (is_answer reply) false) false) receiver
    ∙ ap (λ x. cond (eqb node n) (cond (is_store id z x) (is_answer reply) false) false) body
    ∙ ap (λ x. cond (eqb node n) (cond x (is_answer reply) false) false) (same-self id z)
    ∙ both-nodes (is_answer reply) node n

-- a Read stores nothing
stored-not : (v : ℕ) (id i : Id) (z : Stamp) (n : ℕ) (m : readers.Message) (y : Option Reply) → m.body ≡ ReadDoc i → stored_by v id z n (Some m) y ≡ false
stored-not v id i z n m y body = ap (λ x. cond (eqb m.version v) (cond (eqb m.receiver n) (cond (is_store id z x) (answers y) false) false) false) body ∙ two (eqb m.version v) (eqb m.receiver n)
  where
    two : (x y : Bool) → cond x (cond y false false) false ≡ false
    two true true = refl
    two true false = refl
    two false y = refl

cond-last : (x y : Bool) → cond x true y ≡ (y || x)
cond-last true true = refl
cond-last true false = refl
cond-last false true = refl
cond-last false false = refl

module _ (acks : ℕ) (P : ℕ → ℕ → Bool) (H : Journal) (legal : Legal acks P H) (line number node : ℕ) (b : Beginning) where
  pub stores-heard : (reply : Reply) → first_reply number H ≡ Some reply → sent number (before_line line H) ≡ None → (stamp : Stamp) → b.stamp ≡ Some stamp → IsAwaited H number node b.version (Store b.id stamp)
      → (taken : Bool) → is_answer reply ≡ taken → (wanting : Bool) → (wanting ≡ true) ↔ (reply ≡ NoMemory) → (old new : Tally)
      → IsWith node true old.told new.told → IsWith node taken old.answered new.answered → new.short ≡ (old.short || wanting) → KnowsStores H (Some number) line b (answers_of old)
      → KnowsStores (Returned number ∷ H) None line b (answers_of new)
  stores-heard reply replied later stamp stamped m taken is wanting wants old new told answered short k = record {
    told = λ n. through (store-told H number node b stamp stamped m old.told new.told told k.told n) (stored-on H (Returned number) None b n, stored-off H (Returned number) None b n (λ i. refl));
    answered = λ n z e. answered n ∙ ap (λ x. x || (taken && n == node)) (k.answered n z e) ∙ sym (
        ap (λ x. cond (stored_by b.version b.id z n x (first_reply number H)) true (answered_store b.version b.id z n H)) m.was_sent
        ∙ ap (λ x. cond (stored_by b.version b.id z n (Some m.message) x) true (answered_store b.version b.id z n H)) replied
        ∙ ap (λ x. cond x true (answered_store b.version b.id z n H)) (stored-now b.version b.id z node n m.message reply m.version m.receiver (m.body ∙ ap (λ (w : Stamp). Store b.id w) (some-same stamp z (sym stamped ∙ e))) ∙ ap (λ x. x && n == node) is)
        ∙ cond-last (taken && n == node) (answered_store b.version b.id z n H)
        );
    unstamped = λ n e. absurd (none-some stamp (sym e ∙ stamped));
    short = short-heard acks P H legal line number (IsStoreOf b) later m.message m.was_sent (m.version, (stamp, stamped, m.body)) reply replied wanting wants old.short new.short short k.short;
  }

  -- the reply to a Read leaves them
  pub stores-pass : (id : Id) → IsAwaited H number node b.version (ReadDoc id) → (a : Answers) → KnowsStores H (Some number) line b a → KnowsStores (Returned number ∷ H) None line b a
  stores-pass id m a k = stores-over acks P H (Returned number) legal line b refl none (Some number) None a
      (λ n. through (through (k.told n) (read-no-stored H number node b id m n)) (stored-on H (Returned number) None b n, stored-off H (Returned number) None b n (λ i. refl)))
      (λ n z. ap (λ x. cond (stored_by b.version b.id z n x (first_reply number H)) true (answered_store b.version b.id z n H)) m.was_sent
      ∙ ap (λ x. cond x true (answered_store b.version b.id z n H)) (stored-not b.version b.id id z n m.message (first_reply number H) m.body)) k
    where
      none : (i : ℕ) (x : readers.Message) (z : Stamp) → Returned number ≡ Returned i → sent i H ≡ Some x → x.body ≡ Store b.id z → ⊥
      none i x z is was_sent body = read-no-store (sym m.body ∙ ap (λ (y : readers.Message). y.body) (same-message (sent number H) m.message x m.was_sent (subst (λ (j : ℕ). sent j H ≡ Some x) (sym (returned-same number i is)) was_sent)) ∙ body)

-- and the reply to a Store leaves the Reads
pub reads-pass : (acks : ℕ) (P : ℕ → ℕ → Bool) (J : List LaneEvent) → Legal acks P (history J) → (line number node : ℕ) (b : Beginning) (id : Id) (stamp : Stamp) → IsAwaited (history J) number node b.version (Store id stamp)
    → (a : Answers) → KnowsReads J (Some number) line b a → KnowsReads (event.Returned number ∷ J) None line b a
reads-pass acks P J legal line number node b id stamp m a k =
    reads-over acks P J (event.Returned number) legal line b refl none (Some number) None a
    (λ n. through (through (k.told n) (store-no-read (history J) number node b line stamp id m n)) (read-on (history J) (Returned number) None line b n refl, read-off (history J) (Returned number) None line b n refl (λ i. refl))) k
  where
    none : (i : ℕ) (x : readers.Message) → Returned number ≡ Returned i → sent i (history J) ≡ Some x → x.body ≡ ReadDoc b.id → ⊥
    none i x is was_sent body = read-no-store (sym body ∙ ap (λ (y : readers.Message). y.body) (same-message (sent number (history J)) x m.message (subst (λ (j : ℕ). sent j (history J) ≡ Some x) (sym (returned-same number i is)) was_sent) m.was_sent) ∙ m.body)
