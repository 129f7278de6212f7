-- What a legal journal says of the messages of a line.
use Rattle.std.proofs.Common.{◌≡◌, ℕ, ◌≤◌, Bool, true, false, [], ◌∷◌, Option, Some, None, inl, inr, ◌⊎◌, refl, sym, ap, ◌∙◌, subst, arith}
use Rattle.std.proofs.lemmas.Bool.Decides.{nat_tests}
use Rattle.lane_journals.specs.Stamps.{Stamp}
use Rattle.lane_journals.specs.Buckets.{Id}
use Rattle.lane_journals.specs.Events.{Body, ReadDoc, Store, Content, Reply, Answer, NoMemory, Event, Begun, Sent, Returned}
use Rattle.lane_journals.specs.Readers.{Journal, Beginning, began, Preparing, prepared, wrote, closed, before_line, Message, sent, first_reply, returned, complete}
use Rattle.lane_journals.specs.Facts.{ReadAt, ReadBack}
use Rattle.lane_journals.specs.Legal.{Belongs, Carries, MayCarry, MaySend, Legal}
use Rattle.lane_journals.proofs.Basics.{sent-stays, sent-cases, sent_before, sent-member, first_reply-stays, replied-sent, returned-stays, returned-cases, returned-replied, began-cases, began-stays, prepared-stays, closed-before}
use Rattle.lane_journals.proofs.Beginnings.{before-same, before-now}
use Rattle.lane_journals.proofs.Marks.{complete-took}
use Rattle.lane_journals.proofs.Kept.{stamp-line, one-open}
use Rattle.operation_keeping.specs.OperationKeeping.{CameBack, WasShort, CameSince, WasShortSince}
use Rattle.operation_keeping.proofs.Plain.{none-some}

wrote-stays : (line : ℕ) (H : Journal) (e : Event) → wrote line H ≡ true → wrote line (e ∷ H) ≡ true
wrote-stays line H e h = grind (arith, nat_tests)

prepared-before : (line : ℕ) (H : Journal) (e : Event) → prepared line (e ∷ H) ≡ None → prepared line H ≡ None
prepared-before line H e h = by_prepared (prepared line H) refl
  where
    by_prepared : (o : Option Preparing) → prepared line H ≡ o → prepared line H ≡ None
    by_prepared None f = f
    by_prepared (Some p) f = let z = prepared-stays line H p e f in absurd (none-some p (sym h ∙ z))

-- what a line that wrote an entry began with
pub record IsWriter (H : Journal) (s : Stamp) : Type 0 where
  pub line : ℕ
  pub begin : Beginning
  pub begun : began line H ≡ Some begin
  pub stamped : begin.stamp ≡ Some s
  pub written : wrote line H ≡ true

module _ (acks : ℕ) (P : ℕ → ℕ → Bool) where
  -- an entry that a Store carries was written
  store-wrote : (H : Journal) → Legal acks P H → (k : ℕ) (m : Message) (id : Id) (s : Stamp) → sent k H ≡ Some m → m.body ≡ Store id s → IsWriter H s
  store-wrote [] l k m id s h is = cc
  store-wrote (e ∷ H) l k m id s h is = later (elim (sent-cases k H e m h) [
    | inl old ↦ store-wrote H l.0 k m id s old is
    | inr new ↦ (let p : MaySend P H k m.version new.sender m.receiver m.body = rw new.is at l.1 in now (subst (λ (y : Body). MayCarry P H m.version m.receiver y) is p.carries))
  ])
    where
      now : Carries H m.version m.receiver id s → IsWriter H s
      now c = let b = c.belongs in record { line = b.line; begin = b.begin; begun = (b.is_open).began; stamped = c.stamped; written = c.written }

      later : IsWriter H s → IsWriter (e ∷ H) s
      later x = record { line = x.line; begin = x.begin; begun = began-stays x.line H x.begin e x.begun; stamped = x.stamped; written = wrote-stays x.line H e x.written }

  -- so a line whose stamp a Store has wrote
  pub own-wrote : (H : Journal) → Legal acks P H → (line : ℕ) (b : Beginning) (s : Stamp) → began line H ≡ Some b → b.stamp ≡ Some s → (k : ℕ) (m : Message) (id : Id) → sent k H ≡ Some m → m.body ≡ Store id s → wrote line H ≡ true
  own-wrote H l line b s f st k m id h is = let x = store-wrote H l k m id s h is in subst (λ (i : ℕ). wrote i H ≡ true) (stamp-line acks P H l x.line line x.begin b s x.begun f x.stamped st) x.written

  -- complete members serve
  pub complete-serves : (H : Journal) → Legal acks P H → (v n key : ℕ) → complete v n key H ≡ true → P v n ≡ true
  complete-serves H l v n key c =
      let t = (complete-took acks P H l v n key c).took in
      subst (λ (i : ℕ). P v i ≡ true) t.receiver (subst (λ (w : ℕ). P w (t.message).receiver ≡ true) t.version (sent-member acks P H l t.number t.message t.was_sent))

  -- ---- replies that came back

  module _ (from : Journal) (test : Message → Type 0) (y : Reply) where
    came-stays-since : (H : Journal) (e : Event) → CameSince from H test y → CameSince from (e ∷ H) test y
    came-stays-since H e r = record {
      number = r.number;
      message = r.message;
      was_sent = sent-stays r.number H r.message e r.was_sent;
      later = r.later;
      tested = r.tested;
      reply = first_reply-stays r.number H y e r.reply;
      back = returned-stays r.number H e r.back;
    }

    -- the reply comes back just now
    pub record CameNowSince (H : Journal) (e : Event) : Type 0 where
      pub number : ℕ
      pub message : Message
      pub was_sent : sent number H ≡ Some message
      pub later : sent number from ≡ None
      pub tested : test message
      pub reply : first_reply number H ≡ Some y
      pub is : e ≡ Returned number

    came-cases-since : (H : Journal) → Legal acks P H → (e : Event) → CameSince from (e ∷ H) test y → CameSince from H test y ⊎ CameNowSince H e
    came-cases-since H l e r = elim (returned-cases r.number H e r.back) [
      | inl old ↦ inl (let z = returned-replied acks P H l r.number old in before old z.0 z.1)
      | inr now ↦ inr (record {
        number = r.number;
        message = r.message;
        was_sent = subst (λ (z : Event). sent r.number (z ∷ H) ≡ Some r.message) now r.was_sent;
        later = r.later;
        tested = r.tested;
        reply = subst (λ (z : Event). first_reply r.number (z ∷ H) ≡ Some y) now r.reply;
        is = now;
      })
    ]
      where
        before : returned r.number H ≡ true → (z : Reply) → first_reply r.number H ≡ Some z → CameSince from H test y
        before old z f = record {
          number = r.number;
          message = r.message;
          was_sent = sent_before acks P H r.number e r.message (replied-sent acks P H l r.number z f) r.was_sent;
          later = r.later;
          tested = r.tested;
          reply = f ∙ sym (first_reply-stays r.number H z e f) ∙ r.reply;
          back = old;
        }

  came-stays : (H : Journal) (e : Event) (line : ℕ) (test : Message → Type 0) (y : Reply) → before_line line (e ∷ H) ≡ before_line line H → CameBack H line test y → CameBack (e ∷ H) line test y
  came-stays H e line test y same r = subst (λ (z : Journal). CameSince z (e ∷ H) test y) (sym same) (came-stays-since (before_line line H) test y H e r)

  abbrev pub CameNow : Journal → Event → ℕ → (Message → Type 0) → Reply → Type 0
  CameNow H e line test y = CameNowSince (before_line line H) test y H e

  came-cases : (H : Journal) → Legal acks P H → (e : Event) (line : ℕ) (test : Message → Type 0) (y : Reply) → before_line line (e ∷ H) ≡ before_line line H → CameBack (e ∷ H) line test y → CameBack H line test y ⊎ CameNow H e line test y
  came-cases H l e line test y same r = came-cases-since (before_line line H) test y H l e (subst (λ (z : Journal). CameSince z (e ∷ H) test y) same r)

  -- ---- whether one wanted memory

  pub since-on : (H : Journal) (e : Event) (from : Journal) (test : Message → Type 0) → WasShortSince from H test → WasShortSince from (e ∷ H) test
  since-on H e from test w = came-stays-since from test NoMemory H e w

  pub since-cases : (H : Journal) → Legal acks P H → (e : Event) (from : Journal) (test : Message → Type 0) → WasShortSince from (e ∷ H) test → WasShortSince from H test ⊎ CameNowSince from test NoMemory H e
  since-cases H l e from test w = came-cases-since from test NoMemory H l e w

  pub short-on : (H : Journal) (e : Event) (line : ℕ) (test : Message → Type 0) → before_line line (e ∷ H) ≡ before_line line H → WasShort H line test → WasShort (e ∷ H) line test
  short-on H e line test same w = came-stays H e line test NoMemory same w

  pub short-off : (H : Journal) → Legal acks P H → (e : Event) (line : ℕ) (test : Message → Type 0) → before_line line (e ∷ H) ≡ before_line line H → (CameNow H e line test NoMemory → ⊥) → WasShort (e ∷ H) line test → WasShort H line test
  short-off H l e line test same none w = elim (came-cases H l e line test NoMemory same w) [ inl old ↦ old | inr now ↦ absurd (none now) ]

  pub short-cases : (H : Journal) → Legal acks P H → (e : Event) (line : ℕ) (test : Message → Type 0) → before_line line (e ∷ H) ≡ before_line line H → WasShort (e ∷ H) line test → WasShort H line test ⊎ CameNow H e line test NoMemory
  short-cases H l e line test same w = came-cases H l e line test NoMemory same w

  -- ---- answers to Reads

  abbrev IsReadTo : ℕ → Beginning → Message → Type 0
  IsReadTo n b m = (m.receiver ≡ n) × (m.version ≡ b.version) × (m.body ≡ ReadDoc b.id)

  came-of : (H : Journal) (n line : ℕ) (b : Beginning) (c : Content) → (r : ReadBack n line b c H) → CameBack H line (IsReadTo n b) (Answer c (r.read).names)
  came-of H n line b c r = let x = r.read in record { number = x.number; message = x.message; was_sent = x.was_sent; later = x.later; tested = (x.receiver, x.version, x.body); reply = x.reply; back = r.back }

  back-of : (H : Journal) (n line : ℕ) (b : Beginning) (c : Content) (names : _) → CameBack H line (IsReadTo n b) (Answer c names) → ReadBack n line b c H
  back-of H n line b c names x = record {
    read = record { number = x.number; message = x.message; names = names; was_sent = x.was_sent; later = x.later; receiver = (x.tested).0; version = (x.tested).1; body = (x.tested).2; reply = x.reply };
    back = x.back;
  }

  -- an event that leaves the journal as the line began leaves what came back
  pub back-stays : (H : Journal) (e : Event) (n line : ℕ) (b : Beginning) (c : Content) → before_line line (e ∷ H) ≡ before_line line H → ReadBack n line b c H → ReadBack n line b c (e ∷ H)
  back-stays H e n line b c same r = back-of (e ∷ H) n line b c (r.read).names (came-stays H e line (IsReadTo n b) (Answer c (r.read).names) same (came-of H n line b c r))

  -- the answer to a Read comes back just now
  pub record BackNow (H : Journal) (e : Event) (n line : ℕ) (b : Beginning) (c : Content) : Type 0 where
    pub read : ReadAt n line b c H
    pub is : e ≡ Returned read.number

  pub back-cases : (H : Journal) → Legal acks P H → (e : Event) (n line : ℕ) (b : Beginning) (c : Content) → before_line line (e ∷ H) ≡ before_line line H → ReadBack n line b c (e ∷ H) → ReadBack n line b c H ⊎ BackNow H e n line b c
  back-cases H l e n line b c same r = elim (came-cases H l e line (IsReadTo n b) (Answer c (r.read).names) same (came-of (e ∷ H) n line b c r)) [
    | inl old ↦ inl (back-of H n line b c (r.read).names old)
    | inr x ↦ inr (record {
      read = record { number = x.number; message = x.message; names = (r.read).names; was_sent = x.was_sent; later = x.later; receiver = (x.tested).0; version = (x.tested).1; body = (x.tested).2; reply = x.reply };
      is = x.is;
    })
  ]

module _ (acks : ℕ) (P : ℕ → ℕ → Bool) (some : 1 ≤ acks) where
  -- no Read of an open line's document was sent since it began, before it was prepared
  pub unread : (H : Journal) → Legal acks P H → (line k : ℕ) (b : Beginning) (m : Message) → began line H ≡ Some b → closed line H ≡ false → prepared line H ≡ None → sent k H ≡ Some m → sent k (before_line line H) ≡ None → m.body ≡ ReadDoc b.id → ⊥
  unread [] l line k b m f c none s late is = cc
  unread (e ∷ H) l line k b m f c none s late is = elim (began-cases line H e b f) [
    | inl old ↦ elim (sent-cases k H e m s) [
      | inl before ↦ unread H l.0 line k b m old (closed-before line H e c) (prepared-before line H e none) before (subst (λ (y : Journal). sent k y ≡ None) (before-same acks P H e l line b old) late) is
      | inr new ↦ (let p : MaySend P H k m.version new.sender m.receiver m.body = rw new.is at l.1 in
          own old (closed-before line H e c) (prepared-before line H e none) (subst (λ (y : Body). MayCarry P H m.version m.receiver y) is p.carries))
    ]
    | inr begins ↦ elim (sent-cases k H e m s) [
      | inl before ↦ (let at : before_line line (e ∷ H) ≡ H = ap (λ (z : Event). before_line line (z ∷ H)) begins.1 ∙ before-now H line begins.0 b.version b.id b.stamp in
          absurd (none-some m (sym (subst (λ (z : Journal). sent k z ≡ None) at late) ∙ before)))
      | inr new ↦ apart new.is begins.1
    ]
  ]
    where
      own : began line H ≡ Some b → closed line H ≡ false → prepared line H ≡ None → Belongs H m.version m.receiver b.id → ⊥
      own old c none x =
          let same = one-open acks P some H l.0 x.line line x.begin b (x.is_open).began old x.same_id (x.is_open).unclosed c in
          none-some x.preparing (sym none ∙ subst (λ (i : ℕ). prepared i H ≡ Some x.preparing) same (x.is_open).prepared)

      apart : {v d n w y : ℕ} {i : Id} {c : Body} {t : Option Stamp} → e ≡ Sent k v d n c → e ≡ Begun line w y i t → ⊥
      apart p q = cc
